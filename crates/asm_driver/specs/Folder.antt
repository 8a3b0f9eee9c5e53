-- The audit of the segments in a run's folder.
use Rattle.std.specs.Prelude.{◌≡◌, ◌≢◌, ◌⊎◌, ◌+◌, ℕ, Bool, false, List, [], ◌∷◌, ◌++◌, length, map, min, cond, nat_eq, nat_lt}
use Rattle.std.specs.Prelude.{Option, Some, None, Result, Ok, Err, codes, String, string_bytes, string_cmp}
use Rattle.std.specs.List.{ends_with, filter}
use Rattle.std.specs.Prelude.{IsPermutation, IsSorted}
use Rattle.std.specs.Fmt.{decimal}
use Rattle.std.specs.Io.KnownBytes.{Consumes, IsAtEnd, Appends}
use Rattle.std.specs.declared.alloc.Global.{Global}
use Rattle.asm_aggregate.specs.Standard.{standard_part}
use Rattle.asm_audit.specs.Fault.{IsFaulty}
use Rattle.asm_audit.specs.declared.error.AuditError.{AuditError}
use Rattle.asm_audit.specs.declared.error.AuditError.TheVariants.{Journal, Apart, Illegal, LongLine, Memory}
use Rattle.asm_run.specs.Chain.{IsNext}
use Rattle.asm_run.specs.Name.{IsName}
use Rattle.asm_run.specs.Protocol.{Segment}
use Rattle.asm_run.specs.Reader.{texts_of, WasRead, IsRefusedName, IsRefusedText}
use Rattle.asm_run.specs.declared.error.ReadError.{ReadError}
use Rattle.asm_run.specs.declared.error.ReadError.TheVariants as read_error
use Rattle.asm_run.specs.declared.name.SegmentName.{SegmentName}
use Rattle.asm_run.specs.declared.trail.Trail.{Trail}
use Rattle.asm_driver.specs.Audit.{is_failed_read, legal_line}
use Rattle.asm_driver.specs.Parts.{IsOneLine}
use Rattle.asm_driver.specs.Ports.{Known, AppendsSome}
use Rattle.asm_driver.specs.Refusal.{refusal_line, refusal_status}
use Rattle.asm_driver.specs.Report.{line as with_feed}
use Rattle.asm_driver.specs.Run.{Output, output_of, Writes, Refuses, IsShown, IsCut}
use Rattle.asm_driver.specs.Watch.{IsReportOf}
use Rattle.asm_driver.specs.Words.{Words, AsksFor, IsRefusal}
use Rattle.asm_driver.specs.declared.program.refusal.Refusal.{Refusal}
use Rattle.asm_driver.specs.declared.program.refusal.Refusal.TheVariants as refusal
use Rattle.asm_driver.specs.declared.program.refusal.SegmentFault.TheVariants as fault
use Rattle.asm_driver.specs.declared.program.segments.Audited.{Audited}
use Rattle.asm_driver.specs.declared.program.watching.Stop.{Stop}
use Rattle.asm_driver.specs.declared.program.watching.Stop.TheVariants.{Refused, Unwritten}
use Rattle.asm_driver.specs.declared.program.words.Request.{Request}
use Rattle.asm_driver.specs.declared.program.words.Request.TheVariants.{Audit}
use Rattle.asm_driver.specs.declared.program.words.WordsError.{WordsError}
use Rattle.asm_driver.specs.declared.program.words.WordsError.TheVariants as words_error

-- ---- files

-- what the file of each name holds, if that is known
abbrev pub Files : Type 0
Files = List ℕ → Known

-- a file that holds this, if that is known, has so many bytes
abbrev pub IsSizeOf : Known → ℕ → Type 0
IsSizeOf None size = Unit {0}
IsSizeOf (Some text) size = size ≡ length text

-- these are all bytes of a file that holds this
abbrev pub IsTextOf : Known → List ℕ → Type 0
IsTextOf file text = (left : Known) × Consumes file left text × IsAtEnd left

-- these are the first bytes of it
abbrev pub IsBeginningOf : Known → List ℕ → Type 0
IsBeginningOf file text = (left : Known) × Consumes file left text

-- each of these segments is a file with its name, and has all its bytes
abbrev pub AreFiles : Files → List Segment → Type 0
AreFiles files [] = Unit {0}
AreFiles files (s ∷ segments) = IsTextOf (files s.0) s.1 × AreFiles files segments

-- the names of the segments
abbrev pub titles_of : List Segment → List (List ℕ)
titles_of segments = map (λ (s : Segment). s.0) segments

-- whether a name ends in .journal
abbrev pub has_segment_name : List ℕ → Bool
has_segment_name title = ends_with nat_eq title (codes ".journal")

-- the second names are the first ones that end in .journal, in some order
abbrev pub AreSegmentFiles : List (List ℕ) → List (List ℕ) → Type 0
AreSegmentFiles names files = IsPermutation (filter has_segment_name names) files

-- ---- the text that is written meanwhile

-- these bytes come behind those whose lines are reported: none without a fault; or they begin with a line, or a part of
-- one, that has this fault, whatever follows
abbrev pub IsUnreported : List ℕ → List ℕ → Option AuditError → Type 0
IsUnreported taken behind None = behind ≡ []
IsUnreported taken behind (Some e) =
    (l more : List ℕ) × (l ++ more ≡ behind) × IsOneLine l
    × ((rest : List ℕ) → IsFaulty standard_part ((taken ++ l) ++ rest) e)

-- the text that is due for the lines of a run, up to the first line with a fault
pub record IsReportedTo (every : ℕ) (text reported : List ℕ) (f : Option AuditError) : Type 0 where
  pub taken : List ℕ
  pub behind : List ℕ
  pub all : taken ++ behind ≡ text
  pub watched : IsReportOf every taken reported
  pub unreported : IsUnreported taken behind f

-- ---- why a segment is refused

-- the refusal for a name with another number than the next one: that is there twice, or the next one is missing
abbrev pub misnumbered : ℕ → ℕ → Refusal
misnumbered number found =
    cond (nat_lt found number) (refusal.BadSegment found fault.Twice) (refusal.BadSegment number fault.Missing)

-- the number of a part, counted from the first segment that was read
abbrev pub number_from : ℕ → ℕ → ℕ
number_from first part = min (first + part) 18446744073709551615

-- the refusal for a fault of the journals, of which the first is the segment with this number
abbrev pub refusal_behind : ℕ → AuditError → Refusal
refusal_behind first (Journal part f) = refusal.BadPart (number_from first part) f
refusal_behind first (Apart part) = refusal.Apart (number_from first part)
refusal_behind first (Illegal part call) = refusal.Illegal (number_from first part) call
refusal_behind first LongLine = refusal.TooLarge
refusal_behind first Memory = refusal.Memory

-- the refusal for what a reader reports of the segment with this number, in whose name this one was found; the first that
-- it has read has another number
abbrev pub refusal_of_read : ℕ → ℕ → ℕ → ReadError → Refusal
refusal_of_read first number found read_error.Memory = refusal.Memory
refusal_of_read first number found (read_error.Audit e) = refusal_behind first e
refusal_of_read first number found read_error.Number = misnumbered number found
refusal_of_read first number found read_error.Damaged = refusal.BadSegment number fault.Damaged
refusal_of_read first number found read_error.Previous = refusal.BadSegment number fault.Misplaced
refusal_of_read first number found read_error.Counts = refusal.BadSegment number fault.Miscounted
refusal_of_read first number found read_error.Name = refusal.BadSegment number fault.Misnamed
refusal_of_read first number found read_error.Opening = refusal.BadSegment number fault.Misnamed
refusal_of_read first number found read_error.Many = refusal.BadSegment number fault.Misnamed
refusal_of_read first number found read_error.Busy = refusal.BadSegment number fault.Misnamed

-- the number in a name, if it has the form of one
abbrev pub IsNumberIn : List ℕ → ℕ → ReadError → Type 0
IsNumberIn title found read_error.Name = Unit {0}
IsNumberIn title found e = (name : SegmentName) × IsName title name × (found ≡ name.number)

-- the number of the next segment; 0, if none was read
abbrev pub next_number : Trail → ℕ
next_number t = cond (nat_eq t.from.segments t.end.segments) 0 t.end.segments

-- after these segments, the file of this name isn't the next one, by its name
abbrev pub IsBadName : Files → List Segment → List ℕ → Refusal → Type 0
IsBadName files read title r =
    (t : Trail) × (size found : ℕ) × (e : ReadError) × WasRead standard_part t [] read × IsSizeOf (files title) size
    × (e ≢ read_error.Busy) × IsRefusedName t title size e × IsNumberIn title found e
    × (r ≡ refusal_of_read t.since.segments (next_number t) found e)

-- it is by its name, and isn't by its text
abbrev pub IsBadText : Files → List Segment → List ℕ → List ℕ → Refusal → Type 0
IsBadText files read title text r =
    (t : Trail) × (e : ReadError) × WasRead standard_part t [] read × IsName title t.segment.name
    × IsNext t.end t.segment.name t.segment.next × IsSizeOf (files title) t.segment.length
    × IsTextOf (files title) text × IsRefusedText standard_part t read text e
    × (r ≡ refusal_of_read t.since.segments t.end.segments t.end.segments e)

-- why the file of this name is refused, of which these bytes were read; nothing is claimed of a failed read and an
-- allocation failure
abbrev pub IsBadFile : Files → List Segment → List ℕ → List ℕ → Refusal → Type 0
IsBadFile files read title text refusal.InputFault = Unit {0}
IsBadFile files read title text refusal.Memory = Unit {0}
IsBadFile files read title text r = IsBadName files read title r ⊎ IsBadText files read title text r

-- ---- how the audit ends

-- all files of these names are a legal run after this end, with these counts, and this text is due for it
pub record IsLegalFolder (every : ℕ) (files : Files) (names : List (List ℕ)) (a : Audited) (reported : List ℕ) : Type 0
  where
    pub read : List Segment
    pub all : titles_of read ≡ names
    pub some : names ≢ []
    pub found : AreFiles files read
    pub trail : Trail
    pub legal : WasRead standard_part trail [] read
    pub after : a.from ≡ trail.since
    pub counts : a.counts ≡ trail.counts
    pub watched : IsReportOf every (texts_of read) reported

-- after these segments, this is refused at the first of these names, of whose file these bytes were read; or there is
-- no name at all
abbrev pub IsBadNext : Files → List Segment → List (List ℕ) → List ℕ → Refusal → Type 0
IsBadNext files read [] text r =
    (r ≡ refusal.Memory) ⊎ ((read ≡ []) × (r ≡ refusal.BadSegment 0 fault.Missing))
IsBadNext files read (title ∷ later) text r = IsBeginningOf (files title) text × IsBadFile files read title text r

-- the files of these names are a legal run up to these segments, the others come later, and this text is due for these
-- segments and the next bytes
pub record IsReached (every : ℕ) (files : Files) (names : List (List ℕ)) (read : List Segment) (later : List (List ℕ))
    (text reported : List ℕ) : Type 0 where
  pub all : titles_of read ++ later ≡ names
  pub found : AreFiles files read
  pub trail : Trail
  pub legal : WasRead standard_part trail [] read
  pub open_fault : Option AuditError
  pub watched : IsReportedTo every (texts_of read ++ text) reported open_fault

-- how the audit of these files ends, with the text that is written meanwhile
abbrev pub IsFolderReported : ℕ → Files → List (List ℕ) → Bool → Result Audited Refusal → List ℕ → Type 0
IsFolderReported every files names failed (Ok a) reported =
    IsLegalFolder every files names a reported × (failed ≡ false)
IsFolderReported every files names failed (Err r) reported =
    (text : List ℕ) × (read : List Segment) × (later : List (List ℕ)) × IsReached every files names read later text reported
    × IsBadNext files read later text r × (failed ≡ is_failed_read (Err r))

-- an audit of these files that ends early, with the text that was due up to there
abbrev pub IsFolderCut : ℕ → Files → List (List ℕ) → List ℕ → Type 0
IsFolderCut every files names reported =
    (text : List ℕ) × (read : List Segment) × (later : List (List ℕ)) × IsReached every files names read later text reported

-- how it ends, with what went out meanwhile
abbrev pub IsFolderEnd : ℕ → Files → List (List ℕ) → Bool → Known → Known → Result Audited Stop → Type 0
IsFolderEnd every files names failed held holds (Ok a) =
    (reported : List ℕ) × Appends held holds reported × IsFolderReported every files names failed (Ok a) reported
IsFolderEnd every files names failed held holds (Err (Refused r)) =
    (reported : List ℕ) × Appends held holds reported × IsFolderReported every files names failed (Err r) reported
IsFolderEnd every files names failed held holds (Err Unwritten) =
    (reported : List ℕ) × AppendsSome held holds reported × IsFolderCut every files names reported × (failed ≡ false)

-- ---- what is written

-- legal CALLS MOVES PARTS from segment N move M
abbrev pub later_line : Audited → List ℕ
later_line a = with_feed (codes "legal " ++ decimal a.counts.calls ++ codes " " ++ decimal a.counts.moves ++ codes " " ++
    decimal a.counts.parts ++ codes " from segment " ++ decimal a.from.segments ++ codes " move " ++ decimal a.from.moves)

-- the line of a legal run; it says where the run begins, if its first segments were dropped
abbrev pub audited_line : Audited → List ℕ
audited_line a = cond (nat_eq a.from.segments 0) (legal_line a.counts) (later_line a)

-- the line with which an audit of a folder ends, and its status
abbrev pub EndsFolderAs : Result Audited Refusal → ℕ → List ℕ → Type 0
EndsFolderAs (Ok a) status text = (status ≡ 0) × (text ≡ audited_line a)
EndsFolderAs (Err r) status text =
    (shown : Refusal) × IsShown r shown × (status ≡ refusal_status shown) × (text ≡ refusal_line shown)

-- an audit of these files, which writes its progress after each so many calls, and then how it ends
abbrev pub AuditsFolder : ℕ → Files → List (List ℕ) → Bool → Output → ℕ → Type 0
AuditsFolder every files names failed o result =
    ((r : Result Audited Refusal) × (reported text : List ℕ) × (status : ℕ)
    × IsFolderReported every files names failed r reported × EndsFolderAs r status text
    × Writes o status (reported ++ text) result)
    ⊎ ((reported : List ℕ) × IsFolderCut every files names reported × (failed ≡ false) × (result ≡ 4) × IsCut o reported)

-- the line of a legal run goes out with its status, or that of an allocation failure
abbrev pub WritesAudited : Audited → Output → ℕ → Type 0
WritesAudited a o result =
    Writes o 0 (audited_line a) result
    ⊎ Writes o (refusal_status refusal.Memory) (refusal_line refusal.Memory) result

-- ---- the program

-- the words ask for an audit, with the progress after so many calls
abbrev pub AsksForAudit : Words → ℕ → Type 0
AsksForAudit words every = AsksFor words (Audit every)

-- why they don't: they are refused, or ask for help, the version or another command; nothing is claimed of an
-- allocation failure
abbrev pub IsNoAudit : Words → Refusal → Type 0
IsNoAudit words refusal.Words =
    ((e : WordsError) × IsRefusal words e) ⊎ ((q : Request) × AsksFor words q × ((every : ℕ) → q ≢ Audit every))
IsNoAudit words refusal.Memory = Unit {0}
IsNoAudit words r = ⊥

-- the refusal of words that were refused, or ask for help or the version
abbrev pub IsRefusalOfWords : WordsError → Refusal → Type 0
IsRefusalOfWords words_error.Memory r = r ≡ refusal.Memory
IsRefusalOfWords e r = r ≡ refusal.Words

-- the program over a folder with files of these names: the audit of those that end in .journal, in ascending order; or
-- the words are refused
abbrev pub RunsFolder : Words → List (String Global) → Files → Bool → Output → ℕ → Type 0
RunsFolder words names files failed o result =
    ((every : ℕ) × (ordered : List (String Global)) × AsksForAudit words every
    × AreSegmentFiles (map string_bytes names) (map string_bytes ordered) × IsSorted string_cmp ordered
    × AuditsFolder every files (map string_bytes ordered) failed o result)
    ⊎ ((r : Refusal) × IsNoAudit words r × (failed ≡ false) × Refuses o r result)

-- the same by what the writer held and holds, whatever of it failed
abbrev pub RunsFolderOver : Words → List (String Global) → Files → Bool → Known → Known → ℕ → Type 0
RunsFolderOver words names files failed held holds result =
    (write flushed : Bool) × RunsFolder words names files failed (output_of held holds write flushed) result
