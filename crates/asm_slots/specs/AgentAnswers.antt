-- The effects of reading, firing and polling.
use Rattle.std.specs.Prelude.{◌≡◌, ◌⊎◌, ◌↔◌, ◌<◌, ◌+◌, ◌-◌, ◌||◌, nat_lt, ℕ, List, Bool, true, false, length, Option, All, IsTrue, string_bytes}
use Rattle.std.specs.Prelude.{Result, Err, IfOk, IsErrOf}
use Rattle.std.specs.List.{list_any}
use Rattle.serde_json.specs.Data.{Data, string}
use Rattle.asm_element.specs.Place.{Place}
use Rattle.asm_update.specs.Move.{Move}
use Rattle.asm_update.specs.State.{val}
use Rattle.asm_state.specs.Scans.{has_name}
use Rattle.asm_state.specs.declared.named.Named.{Named}
use Rattle.asm_state.specs.declared.scanned.Scanned.{Scanned}
use Rattle.asm_storage.specs.Calls.{IsCoherentReply, IsReplied}
use Rattle.asm_storage.specs.Limits.{reads_limit}
use Rattle.asm_storage.specs.Storage.{AgentAt, IsSameAgent}
use Rattle.asm_storage.specs.declared.call.Reply.{Reply}
use Rattle.asm_storage.specs.declared.call.Reply.TheVariants.{Fired}
use Rattle.asm_storage.specs.declared.error.FireError.{FireError}
use Rattle.asm_storage.specs.declared.error.FireError.TheVariants.{ManyReads}
use Rattle.asm_journal.specs.Shape.{pair_of, IsListForm, IsNumberForm}
use Rattle.asm_explain.specs.Bytes.{ReadAsFire, AreLocations, IsFireForm, ReadAs}
use Rattle.asm_slots.specs.Answers.{EmptyOr, IsUnreadAs}
use Rattle.asm_slots.specs.AgentCalls.{HasAnswered, HasPolled, HasRead, IsRepliedOver, MayHavePolled, ReportsFire, SeesOn, no_numbers}
use Rattle.asm_slots.specs.Bytes.{AreMisread, AreReads, ReadAsLocations, ReadAsManyLocations, ReadAsMoreReads, ReadAsReads}
use Rattle.asm_slots.specs.LongLines.{IsLongFire, IsLongRead}
use Rattle.asm_slots.specs.OwnState.{state_at, NoneIsStale, HasPolledOn, IsStaleOf}
use Rattle.asm_slots.specs.Slots.{Changes, Lacks, an_agent}
use Rattle.asm_slots.specs.Standard.{Standard, meaning}
use Rattle.asm_slots.specs.WrittenText.{HasNoText, HasText}
use Rattle.asm_slots.specs.declared.codes.Code.{Code}
use Rattle.asm_slots.specs.declared.codes.Code.TheVariants as refusal
use Rattle.asm_slots.specs.declared.content.Content.{Content}
use Rattle.asm_slots.specs.declared.read_and_fire.Numbers.{Numbers}

-- whether one of the reads has a number above this one
abbrev pub is_any_above : List Named → ℕ → Bool
is_any_above reads seen = list_any (λ r. nat_lt seen r.number) reads

-- the bytes are JSON of a move, and one of its declared reads has a number above what the agent has seen
abbrev pub FiresAhead : List ℕ → AgentAt Standard → Type 0
FiresAhead bytes a =
    (reads : List Named) × (M : Move) × ReadAsFire bytes reads M
    × (is_any_above reads (length a.account.seen) ≡ true)

-- the bytes are JSON of declared reads, and one of them has a number above what the agent has seen
abbrev pub ReadsAhead : List ℕ → AgentAt Standard → Type 0
ReadsAhead bytes a =
    (reads : List Named) × ReadAsReads bytes reads × (is_any_above reads (length a.account.seen) ≡ true)

-- the bytes are JSON of declared reads, and none of them has such a number
abbrev pub ReadsWithin : List ℕ → AgentAt Standard → Type 0
ReadsWithin bytes a =
    (reads : List Named) × ReadAsReads bytes reads × (is_any_above reads (length a.account.seen) ≡ false)

-- the line of a read of these locations is too long, with the values in the agent's own state
abbrev pub IsLongOwnRead : List Place → AgentAt Standard → Type 0
IsLongOwnRead locations a = IsLongRead (val (state_at a a.number)) locations

-- the bytes are no locations, or those of a read that is too long
abbrev pub IsNoRead : List ℕ → AgentAt Standard → Code → Type 0
IsNoRead bytes a refusal.LongLine = (locations : List Place) × ReadAsLocations bytes locations × IsLongOwnRead locations a
IsNoRead bytes a c = IsUnreadAs AreLocations bytes c

-- the bytes are the locations of a read that isn't too long
abbrev pub IsShortRead : List ℕ → AgentAt Standard → Type 0
IsShortRead bytes a = (locations : List Place) × ReadAsLocations bytes locations × ¬ IsLongOwnRead locations a

-- the locations of these bytes are read
abbrev pub Reads : List ℕ → Option Content → Option Content → Type 0
Reads locations agent after =
    Changes an_agent agent after (λ a b. HasRead locations a b × IsShortRead locations a × IsSameAgent a b × SeesOn a b)

-- there is no agent, memory was refused, there are too many locations, the bytes are none, or the line would be too long
abbrev pub IsNotRead : List ℕ → Option Content → Option Content → Code → Type 0
IsNotRead locations agent after refusal.Empty = Lacks an_agent agent × (after ≡ agent)
IsNotRead locations agent after refusal.Memory =
    Changes an_agent agent after (λ a b. HasPolled a b × MayHavePolled a b × IsSameAgent a b × SeesOn a b)
IsNotRead locations agent after refusal.Many = Changes an_agent agent after (λ a b. b ≡ a) × ReadAsManyLocations locations
IsNotRead locations agent after c = Changes an_agent agent after (λ a b. (b ≡ a) × IsNoRead locations a c)

-- the bytes are JSON of a move without such a read, and the fire of it has this answer: that the declared reads are too
-- many exactly if they are more than 256
pub record HasTriedFire (call : List ℕ) (answer : Result Reply FireError) (old new : AgentAt Standard) : Type 0 where
  pub reads : List Named
  pub move : Move
  pub read : ReadAsFire call reads move
  pub within : is_any_above reads (length old.account.seen) ≡ false
  pub short : ¬ IsLongFire reads move
  pub many : IsErrOf answer ManyReads ↔ (reads_limit < length reads)
  pub replied : IfOk answer (IsReplied meaning old new reads move)
  pub coherent : IfOk answer (IsCoherentReply meaning new reads move)
  pub answered : HasAnswered answer old new

-- the bytes are JSON of a move whose line could be too long
abbrev pub FiresLong : List ℕ → Type 0
FiresLong bytes = (reads : List Named) × (M : Move) × ReadAsFire bytes reads M × IsLongFire reads M

-- the bytes are no move, one of its declared reads has such a number, or its line could be too long
abbrev pub IsNotTried : List ℕ → AgentAt Standard → Code → Type 0
IsNotTried call a c =
    IsUnreadAs IsFireForm call c ⊎ ((c ≡ refusal.Ahead) × FiresAhead call a) ⊎ ((c ≡ refusal.LongLine) × FiresLong call)

-- a fire is tried, and the call reports its answer; or it isn't, and nothing changes
abbrev pub Tries : (Result Reply FireError → AgentAt Standard → AgentAt Standard → Type 0) → (AgentAt Standard → Code → Type 0) →
    AgentAt Standard → AgentAt Standard → Numbers → Result (Unit {0}) Code → Type 0
Tries HasTried IsRefused old new n r =
    ((answer : Result Reply FireError) × HasTried answer old new × ReportsFire answer n r)
    ⊎ ((new ≡ old) × (n ≡ no_numbers) × ((c : Code) × (r ≡ Err c) × IsRefused old c))

-- the slot's agent tries a fire, or the slot holds none, and nothing changes
abbrev pub TriesIn : (AgentAt Standard → AgentAt Standard → Numbers → Result (Unit {0}) Code → Type 0) →
    Option Content → Option Content → Numbers → Result (Unit {0}) Code → Type 0
TriesIn Try agent after n r =
    Changes an_agent agent after (λ a b. Try a b n r)
    ⊎ (Lacks an_agent agent × (after ≡ agent) × (n ≡ no_numbers) × (r ≡ Err refusal.Empty))

-- the fire of these bytes
abbrev pub Fires : List ℕ → AgentAt Standard → AgentAt Standard → Numbers → Result (Unit {0}) Code → Type 0
Fires call = Tries (HasTriedFire call) (IsNotTried call)

-- a function's name and a number, [NAME,NUMBER]
abbrev pub IsScanForm : Scanned → Data → Type 0
IsScanForm s d =
    (name number : Data) × (d ≡ pair_of name number) × (name ≡ string (string_bytes s.name)) × IsNumberForm s.number number

-- scans, [[NAME,NUMBER], ..]
abbrev pub AreScans : List Scanned → Data → Type 0
AreScans = IsListForm IsScanForm

-- the bytes are JSON of these scans, [[NAME,NUMBER], ..]
abbrev pub ReadAsScans : List ℕ → List Scanned → Type 0
ReadAsScans bytes scans = ReadAs AreScans bytes scans

-- the first bytes are JSON of a move with these declared reads, and the second ones of these scans
abbrev pub ReadAsFireOver : List ℕ → List ℕ → List Named → List Scanned → Move → Type 0
ReadAsFireOver call scans reads over M = ReadAsFire call reads M × ReadAsScans scans over

-- whether one of the reads or of the scans has a number above this one
abbrev pub is_any_over : List Named → List Scanned → ℕ → Bool
is_any_over reads over seen = is_any_above reads seen || list_any (λ s. nat_lt seen s.number) over

-- they are JSON of a move and of scans, and a declared read or a scan has a number above what the agent has seen
abbrev pub FiresOverAhead : List ℕ → List ℕ → AgentAt Standard → Type 0
FiresOverAhead call scans a =
    (reads : List Named) × (over : List Scanned) × (M : Move) × ReadAsFireOver call scans reads over M
    × (is_any_over reads over (length a.account.seen) ≡ true)

-- if the move fired with this number, each scanned function is unchanged before it: each of its locations, whether it
-- has a value or none, has what it had at the number of the scan
abbrev pub AreWholeOver : AgentAt Standard → List Scanned → Reply → AgentAt Standard → Type 0
AreWholeOver a over r new = (k : ℕ) → r ≡ Fired k →
    All (λ s. (l : Place) → IsTrue (has_name (string_bytes s.name) l) → val (state_at new (k - 1)) l ≡ val (state_at a s.number) l) over

-- they are JSON of a move and of scans without such a number, and the fire over the scans has this answer: that reads
-- and scans are too many exactly if they are more than 256 together
pub record HasTriedFireOver (call scans : List ℕ) (answer : Result Reply FireError) (old new : AgentAt Standard) : Type 0 where
  pub reads : List Named
  pub over : List Scanned
  pub move : Move
  pub read : ReadAsFireOver call scans reads over move
  pub within : is_any_over reads over (length old.account.seen) ≡ false
  pub short : ¬ IsLongFire reads move
  pub many : IsErrOf answer ManyReads ↔ (reads_limit < length reads + length over)
  pub replied : IfOk answer (IsRepliedOver old new reads over move)
  pub whole : IfOk answer (λ r. AreWholeOver old over r new)
  pub answered : HasAnswered answer old new

-- the first bytes are no move, or else the second ones no scans; or a declared read or a scan has such a number, or the
-- line of the move could be too long
abbrev pub IsNotTriedOver : List ℕ → List ℕ → AgentAt Standard → Code → Type 0
IsNotTriedOver call scans a c =
    AreMisread IsFireForm AreScans call scans c ⊎ ((c ≡ refusal.Ahead) × FiresOverAhead call scans a)
    ⊎ ((c ≡ refusal.LongLine) × FiresLong call)

-- the fire of these bytes over the scans of those
abbrev pub FiresOver : List ℕ → List ℕ → AgentAt Standard → AgentAt Standard → Numbers → Result (Unit {0}) Code → Type 0
FiresOver call scans = Tries (HasTriedFireOver call scans) (IsNotTriedOver call scans)

-- the agent has polled to the end; the declared reads of these bytes, none of which has a number above what it had
-- seen, have this property after what it has then seen
abbrev pub Judges : List ℕ → Option Content → Option Content → (AgentAt Standard → Type 0) → Type 0
Judges reads agent after P =
    Changes an_agent agent after (λ a b. ReadsWithin reads a × HasPolledOn a b × IsSameAgent a b × SeesOn a b × P b)

-- they are valid
abbrev pub Validates : List ℕ → Option Content → Option Content → Type 0
Validates reads agent after = Judges reads agent after (NoneIsStale reads)

-- the text has the smallest location of those that are stale
abbrev pub FindsStale : List ℕ → Option Content → Option Content → List ℕ → Type 0
FindsStale reads agent after text = Judges reads agent after (λ b. IsStaleOf reads b text)

-- why they aren't judged; a number above what the agent has seen is reported before the agent polls, and before more
-- than 256 reads are
abbrev pub IsNotJudged : List ℕ → AgentAt Standard → AgentAt Standard → Code → Type 0
IsNotJudged reads a b refusal.Memory = HasPolled a b × MayHavePolled a b × IsSameAgent a b × SeesOn a b
IsNotJudged reads a b refusal.Ahead = (b ≡ a) × ReadsAhead reads a
IsNotJudged reads a b refusal.Many = (b ≡ a) × ReadsWithin reads a × ReadAsMoreReads reads
IsNotJudged reads a b c = (b ≡ a) × IsUnreadAs AreReads reads c

-- a stale one is reported, or they aren't judged
abbrev pub DoesNotValidate : List ℕ → Option Content → Option Content → List ℕ → List ℕ → ℕ → Code → Type 0
DoesNotValidate reads agent after out out_after written c =
    ((c ≡ refusal.Stale) × HasText (FindsStale reads agent after) out out_after written)
    ⊎ HasNoText (FindsStale reads agent after) (EmptyOr (Lacks an_agent agent × (after ≡ agent))
    (λ k. Changes an_agent agent after (λ a b. IsNotJudged reads a b k))) out out_after written c
