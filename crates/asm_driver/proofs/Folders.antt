-- All files of a run's folder, and what is written of them.
use Rattle.std.proofs.Common.{◌≡◌, ◌≢◌, ◌⊎◌, ℕ, Bool, true, false, List, [], ◌∷◌, ◌++◌, map, Option, Some, None}
use Rattle.std.proofs.Common.{Result, Ok, Err, refl, sym, ap, ap₂, subst, ◌∙◌, inl, inr, append-nil, append_assoc}
use Rattle.std.proofs.Common.{◌<◌, ◌≤◌, ◌+◌, String, string_bytes, get_or, filter, take, drop, length}
use Rattle.std.proofs.lemmas.List.{map-append, take_more, drop_more, drop_all}
use Rattle.std.proofs.lemmas.List.Elements.{filter-append}
use Rattle.std.proofs.KnownBytes.{Appends-nil, Appends-trans}
use Rattle.std.proofs.lemmas.List.Elements.{All-nil}
use Rattle.std.specs.Io.KnownBytes.{Appends}
use Rattle.std.specs.declared.alloc.Global.{Global}
use Rattle.asm_aggregate.specs.Standard.{standard_part}
use Rattle.asm_update.specs.declared.aggregator.Aggregator.{Ghosts}
use Rattle.asm_audit.specs.declared.error.AuditError.{AuditError}
use Rattle.asm_journal.specs.Reading.{HasNoLineFeed}
use Rattle.asm_run.specs.Protocol.{Segment}
use Rattle.asm_run.specs.Reader.{HasReadParts, texts_of}
use Rattle.asm_run.specs.declared.reader.RunReader.{RunReader}
use Rattle.asm_driver.specs.Audit.{is_failed_read}
use Rattle.asm_driver.specs.Folder.{Files, IsTextOf, AreFiles, titles_of, IsReached, IsFolderEnd, IsReportedTo}
use Rattle.asm_driver.specs.Folder.{IsFolderReported, AuditsFolder, WritesAudited, has_segment_name, RunsFolder}
use Rattle.asm_driver.specs.Folder.{RunsFolderOver}
use Rattle.asm_driver.specs.Segments.{IsBetween, IsSegmentTaken}
use Rattle.asm_driver.specs.Ports.{Known, AppendsSome}
use Rattle.asm_driver.specs.Refusal.{refusal_line, refusal_status}
use Rattle.asm_driver.specs.Run.{output_of, Refuses}
use Rattle.asm_driver.specs.Watch.{IsReportOf}
use Rattle.asm_driver.specs.Words.{Words}
use Rattle.asm_driver.specs.declared.program.refusal.Refusal.{Refusal}
use Rattle.asm_driver.specs.declared.program.refusal.Refusal.TheVariants as refusal
use Rattle.asm_driver.specs.declared.program.refusal.SegmentFault.TheVariants as segment_fault
use Rattle.asm_driver.specs.declared.program.segments.Audited.{Audited}
use Rattle.asm_driver.specs.declared.program.watching.Stop.{Stop}
use Rattle.asm_driver.specs.declared.program.watching.Stop.TheVariants.{Refused, Unwritten}
use Rattle.asm_driver.proofs.Ending.{writes_behind}
use Rattle.asm_driver.proofs.Foldering.{reported_all}
use Rattle.asm_driver.proofs.Watching.{some_behind}

pub none_due : (every : ℕ) → IsReportOf every [] []
none_due every = record {
  lines = [];
  line = [];
  all = refl;
  ended = All-nil HasNoLineFeed;
  open_line = All-nil (λ b. b ≢ 10);
  of_lines = refl;
}

titles_push : (read : List Segment) (title text : List ℕ) (later : List (List ℕ)) →
    titles_of (read ++ (title, text) ∷ []) ++ later ≡ titles_of read ++ title ∷ later
titles_push [] title text later = refl
titles_push (s ∷ read) title text later = ap (λ l. s.0 ∷ l) (titles_push read title text later)

files_push : (files : Files) (read : List Segment) (title text : List ℕ) → AreFiles files read →
    IsTextOf (files title) text → AreFiles files (read ++ (title, text) ∷ [])
files_push files [] title text are is = (is, tt)
files_push files (s ∷ read) title text are is = (are.0, files_push files read title text are.1 is)

-- the first of these names were read, and these come later
pub record IsFolderTo {A : Type 0} {g : Ghosts A} (every : ℕ) (files : Files) (names later : List (List ℕ))
    (held holds : Known) (r : RunReader A g) : Type 0 where
  pub read : List Segment
  pub reported : List ℕ
  pub all : titles_of read ++ later ≡ names
  pub found : AreFiles files read
  pub appended : Appends held holds reported
  pub between : IsBetween r every read reported

pub folder_none : {A : Type 0} {g : Ghosts A} (every : ℕ) (files : Files) (names : List (List ℕ)) (held : Known)
    (r : RunReader A g) →
    HasReadParts standard_part r.trail r.judge.auditor.auditor.progress r.judge.auditor.line.items r.judge.fault [] [] →
    IsFolderTo every files names names held held r
folder_none every files names held r has = record {
  read = [];
  reported = [];
  all = refl;
  found = tt;
  appended = Appends-nil held;
  between = record { has = has; watched = none_due every };
}

-- there is no name
pub folder_empty : {A : Type 0} {g : Ghosts A} (every : ℕ) (files : Files) (names : List (List ℕ)) (failed : Bool)
    (held : Known) (r : RunReader A g) → names ≡ [] → failed ≡ false →
    HasReadParts standard_part r.trail r.judge.auditor.auditor.progress r.judge.auditor.line.items r.judge.fault [] [] →
    IsFolderEnd every files names failed held held (Err (Refused (refusal.BadSegment 0 segment_fault.Missing)))
folder_empty every files names failed held r none noted has = (
  [],
  Appends-nil held,
  (
    [],
    [],
    [],
    (record {
      all = sym none;
      found = tt;
      trail = r.trail;
      legal = has.before;
      open_fault = None;
      watched = reported_all every [] [] (none_due every);
    }),
    inr (refl, refl),
    noted,
  ),
)

module _ {A : Type 0} {g : Ghosts A} (every : ℕ) (files : Files) (names : List (List ℕ)) (held wrote : Known)
    (x : RunReader A g) where
  -- all names were read
  pub folder_all : (a : Audited) (failed : Bool) → names ≢ [] → failed ≡ false → a.from ≡ x.trail.since →
      a.counts ≡ x.trail.counts → IsFolderTo every files names [] held wrote x →
      IsFolderEnd every files names failed held wrote (Ok a)
  folder_all a failed some noted after counts w = (
    w.reported,
    w.appended,
    (
      record {
        read = w.read;
        all = sym (append-nil (titles_of w.read)) ∙ w.all;
        some = some;
        found = w.found;
        trail = x.trail;
        legal = w.between.has.before;
        after = after;
        counts = counts;
        watched = w.between.watched;
      },
      noted,
    ),
  )

  module _ (title : List ℕ) (later : List (List ℕ)) (w : IsFolderTo every files names (title ∷ later) held wrote x)
      (y : RunReader A g) (failed : Bool) (holds : Known) where
    -- the next one was read
    pub folder_on : IsSegmentTaken every files title x y failed wrote holds (Ok tt) →
        IsFolderTo every files names later held holds y
    folder_on (text, more, is, appended, noted, on) = record {
      read = w.read ++ (title, text) ∷ [];
      reported = w.reported ++ more;
      all = titles_push w.read title text later ∙ w.all;
      found = files_push files w.read title text w.found is;
      appended = Appends-trans held wrote holds w.reported more w.appended appended;
      between = on w.read w.reported w.between;
    }

    -- it is refused, or the output failed
    pub folder_stopped : (stop : Stop) → IsSegmentTaken every files title x y failed wrote holds (Err stop) →
        IsFolderEnd every files names failed held holds (Err stop)
    folder_stopped (Refused r) (text, more, begins, appended, noted, bad) =
        let (watched, is) = bad w.read w.reported w.between in (
          w.reported ++ more,
          Appends-trans held wrote holds w.reported more w.appended appended,
          (
            text,
            w.read,
            title ∷ later,
            (record {
              all = w.all;
              found = w.found;
              trail = x.trail;
              legal = w.between.has.before;
              open_fault = watched.0;
              watched = watched.1;
            }),
            (begins, is),
            noted,
          ),
        )
    folder_stopped Unwritten (text, more, begins, some, noted, due) =
        let watched = due w.read w.reported w.between in (
          w.reported ++ more,
          some_behind held wrote holds w.reported more w.appended some,
          (
            text,
            w.read,
            title ∷ later,
            (record {
              all = w.all;
              found = w.found;
              trail = x.trail;
              legal = w.between.has.before;
              open_fault = watched.0;
              watched = watched.1;
            }),
          ),
          noted,
        )

-- ---- what is written

-- there is no memory for the line of a legal run
memory_folder : (every : ℕ) (files : Files) (names : List (List ℕ)) (failed : Bool) (a : Audited) (reported : List ℕ) →
    IsFolderReported every files names failed (Ok a) reported →
    IsFolderReported every files names failed (Err refusal.Memory) reported
memory_folder every files names failed a reported (is, noted) = (
  [],
  is.read,
  [],
  (record {
    all = append-nil (titles_of is.read) ∙ is.all;
    found = is.found;
    trail = is.trail;
    legal = is.legal;
    open_fault = None;
    watched = subst (λ (t : List ℕ). IsReportedTo every t reported None) (sym (append-nil (texts_of is.read)))
        (reported_all every (texts_of is.read) reported is.watched);
  }),
  inl refl,
  noted,
)

module _ (every : ℕ) (files : Files) (names : List (List ℕ)) (held mid holds : Known) (read failed flushed : Bool)
    (result : ℕ) where
  pub audited_legal : (a : Audited) → IsFolderEnd every files names read held mid (Ok a) →
      WritesAudited a (output_of mid holds failed flushed) result →
      AuditsFolder every files names read (output_of held holds failed flushed) result
  audited_legal a (reported, before, is) (inl writes) = inl (
    Ok a,
    reported,
    _,
    _,
    is,
    (refl, refl),
    writes_behind held mid holds failed flushed reported _ _ result before writes,
  )
  audited_legal a (reported, before, is) (inr writes) = inl (
    Err refusal.Memory,
    reported,
    _,
    _,
    memory_folder every files names read a reported is,
    (refusal.Memory, inl refl, refl, refl),
    writes_behind held mid holds failed flushed reported _ _ result before writes,
  )

  pub audited_refusal : (r : Refusal) → IsFolderEnd every files names read held mid (Err (Refused r)) →
      Refuses (output_of mid holds failed flushed) r result →
      AuditsFolder every files names read (output_of held holds failed flushed) result
  audited_refusal r (reported, before, is) (shown, same, writes) = inl (
    Err r,
    reported,
    refusal_line shown,
    refusal_status shown,
    is,
    (shown, same, refl, refl),
    writes_behind held mid holds failed flushed reported (refusal_line shown) (refusal_status shown) result before writes,
  )

pub audited_cut : (every : ℕ) (files : Files) (names : List (List ℕ)) (held holds : Known) (read failed flushed : Bool)
    (result : ℕ) → IsFolderEnd every files names read held holds (Err Unwritten) → failed ≡ true → result ≡ 4 →
    AuditsFolder every files names read (output_of held holds failed flushed) result
audited_cut every files names held holds read failed flushed result (reported, some, cut, reads) noted four =
    inr (reported, cut, reads, four, record { some = some; failed = noted })

-- ---- names

-- one name more
pub name_more : {Z : Type 0} (names : List (String Z)) (i : ℕ) (name : String Z) (old new : List (List ℕ)) →
    i < length names →
    name ≡ get_or names i name → old ≡ filter has_segment_name (map string_bytes (take i names)) →
    new ≡ old ++ filter has_segment_name (string_bytes name ∷ []) →
    new ≡ filter has_segment_name (map string_bytes (take (i + 1) names))
name_more names i name old new within here before added =
    added ∙ ap (λ t. t ++ filter has_segment_name (string_bytes name ∷ [])) before
    ∙ sym (filter-append has_segment_name (map string_bytes (take i names)) (string_bytes name ∷ []))
    ∙ ap (filter has_segment_name) (sym (map-append string_bytes (take i names) (name ∷ [])))
    ∙ ap (λ t. filter has_segment_name (map string_bytes t))
    (ap (λ y. take i names ++ y ∷ []) here ∙ sym (take_more names i name within))

-- the names from this one on
pub first_name : {Z : Type 0} (names : List (String Z)) (i : ℕ) (name : String Z) → i < length names →
    name ≡ get_or names i name →
    map string_bytes (drop i names) ≡ string_bytes name ∷ map string_bytes (drop (i + 1) names)
first_name names i name within here =
    ap (map string_bytes) (drop_more names i name within ∙ ap (λ y. y ∷ drop (i + 1) names) (sym here))

-- no name is left
pub none_later : {Z : Type 0} (names : List (String Z)) (i : ℕ) → length names ≤ i → map string_bytes (drop i names) ≡ []
none_later names i all = ap (map string_bytes) (drop_all i names all)

-- ---- the program

-- over a writer that doesn't record whether a call failed
pub folder_over : (words : Words) (names : List (String Global)) (files : Files) (failed : Bool)
    (held holds held' holds' : Known) (write flushed : Bool) (result : ℕ) → held ≡ held' → holds ≡ holds' →
    RunsFolder words names files failed (output_of held holds write flushed) result →
    RunsFolderOver words names files failed held' holds' result
folder_over words names files failed held holds held' holds' write flushed result a b runs = (
  write,
  flushed,
  subst (λ o. RunsFolder words names files failed o result) (ap₂ (λ x y. output_of x y write flushed) a b) runs,
)
