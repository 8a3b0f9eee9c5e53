-- What a commit does that first records what the transaction has read.
use Rattle.std.specs.Prelude.{◌≡◌, ◌≢◌, ◌<◌, ◌≤◌, ◌+◌, ◌⊎◌, ℕ, List, [], length, map, unwrap_or, Ok, Err, Option, None, Some, Result}
use mathlib.Core.List.{IsPrefix}
use Rattle.asm_state.specs.declared.named.Named.{Named}
use Rattle.asm_update.specs.Aggregator.{Meaning}
use Rattle.asm_update.specs.Move.{Move}
use Rattle.asm_update.specs.State.{val}
use Rattle.asm_storage.specs.Limits.{reads_limit}
use Rattle.asm_storage.specs.NamedRead.{IsNamedRead}
use Rattle.asm_storage.specs.Storage.{AgentAt, Missed, has_polled, last_poll}
use Rattle.asm_storage.specs.declared.call.Reply.{Reply}
use Rattle.asm_storage.specs.declared.call.Reply.TheVariants.{Fired}
use Rattle.asm_storage.specs.declared.error.FireError.{FireError}
use Rattle.asm_storage.specs.declared.error.FireError.TheVariants as fire_error
use Rattle.asm_storage.specs.declared.error.ReadError.{ReadError}
use Rattle.asm_storage.specs.declared.error.ReadError.TheVariants as read_error
use Rattle.asm_storage.specs.declared.reading.NamedReading.{NamedReading}
use Rattle.asm_storage.specs.declared.reading.NamedReading.TheVariants.{Read, Stale}
use Rattle.asm_step.specs.Layers.{one_move}
use Rattle.asm_transaction.specs.Commit.{Commits, FiresOnce, IsMoveOf, NamesAll}
use Rattle.asm_transaction.specs.Reading.{IsOf, state_at}
use Rattle.asm_transaction.specs.View.{TransactionView, places_of}

-- the agent has polled, its own state may have followed more, and nothing else of it has changed
pub record HasPolled {A : Type 0} (old new : AgentAt A) : Type 0 where
  pub agent : new ≡ has_polled old new.account.seen new.misses new.number
  pub seen : IsPrefix old.account.seen new.account.seen

-- the error of a fire that a read's error is
abbrev pub fire_error_of : ReadError → FireError
fire_error_of read_error.ManyLocations = fire_error.ManyReads
fire_error_of read_error.Memory = fire_error.Memory

-- nothing is declared, and nothing was done; or the declared reads were validated, and read if none of them was stale
abbrev pub IsReading : {A : Type 0} → (A → Meaning) → AgentAt A → AgentAt A → List Named → Option NamedReading → Type 0
IsReading meaning old new reads None = (reads ≡ []) × (new ≡ old)
IsReading meaning old new reads (Some r) =
    (reads ≢ []) × IsNamedRead meaning old new reads r × Missed old (last_poll new) new

-- what was read has the values at the transaction's version, whatever the commit answers; if a read was stale, nothing
-- is fired
abbrev pub GivesReads : {A : Type 0} → (A → Meaning) → AgentAt A → TransactionView → List Named → Option NamedReading →
    Result Reply FireError → Type 0
GivesReads meaning old t reads None answer = Unit {0}
GivesReads meaning old t reads (Some (Read r)) answer =
    IsOf meaning old t → r.values ≡ map (val (state_at meaning old t.number)) (places_of reads)
GivesReads meaning old t reads (Some (Stale l)) answer = (k : ℕ) → answer ≢ Ok (Fired k)

-- the agent has validated all that the commit declares, which is with the scans at most 256, has read it with a receipt if
-- none of it was stale, and has then fired the one move of the pushed moves once, which is the commit
pub record RecordsReads {A : Type 0} (meaning : A → Meaning) (old new : AgentAt A) (t : TransactionView)
    (r : Result Reply FireError) : Type 0 where
  pub mid : AgentAt A
  pub reads : List Named
  pub reading : Option NamedReading
  pub move : Move
  pub names : NamesAll t reads
  pub few : length reads + length t.scanned ≤ reads_limit
  pub read : IsReading meaning old mid reads reading
  pub gives : GivesReads meaning old t reads reading r
  pub one : move ≡ unwrap_or (one_move t.layers) []
  pub stands : IsMoveOf t.layers move
  pub once : FiresOnce meaning mid new t reads move r
  pub commits : IsOf meaning old t → Commits meaning mid new t r

-- its commit declares reads that are, with the scans, more than 256
abbrev pub NamesMany : TransactionView → Type 0
NamesMany t = (reads : List Named) × NamesAll t reads × (reads_limit < length reads + length t.scanned)

-- why there is nothing to record and to fire
abbrev pub IsUnprepared : TransactionView → FireError → Type 0
IsUnprepared t fire_error.ManyReads = NamesMany t
IsUnprepared t fire_error.Memory = Unit {0}
IsUnprepared t (fire_error.Busy from to) = ⊥

-- why the declared reads aren't validated, and what the agent has done
abbrev pub IsUnvalidated : {A : Type 0} → AgentAt A → AgentAt A → List Named → FireError → Type 0
IsUnvalidated old new reads fire_error.ManyReads = (reads_limit < length reads) × (new ≡ old)
IsUnvalidated old new reads fire_error.Memory = HasPolled old new
IsUnvalidated old new reads (fire_error.Busy from to) = ⊥

-- why nothing was recorded and fired: with too many reads nothing has changed, without memory the agent has polled at most
abbrev pub IsUnrecorded : {A : Type 0} → AgentAt A → AgentAt A → TransactionView → FireError → Type 0
IsUnrecorded old new t fire_error.ManyReads = NamesMany t × (new ≡ old)
IsUnrecorded old new t fire_error.Memory = HasPolled old new
IsUnrecorded old new t (fire_error.Busy from to) = ⊥

-- what was read is recorded, and the commit has this answer; or nothing is recorded and fired
abbrev pub Records : {A : Type 0} → (A → Meaning) → AgentAt A → AgentAt A → TransactionView → Result Reply FireError → Type 0
Records meaning old new t r =
    RecordsReads meaning old new t r ⊎ ((e : FireError) × (r ≡ Err e) × IsUnrecorded old new t e)
