-- What the calls do with the agents and the storages in slots.
use Rattle.std.specs.Prelude.{◌≡◌, ◌⊎◌, ◌≤◌, ◌+◌, ◌-◌, ◌^◌, min, max, ℕ, List, [], ◌∷◌, ◌++◌, length, Option, None, Some}
use Rattle.std.specs.Prelude.{Result, Ok, Err, IfErr, OnErr}
use Rattle.serde_json.specs.Written.{compact_text}
use mathlib.Core.List.{IsPrefix}
use Rattle.asm_element.specs.Place as element
use Rattle.asm_update.specs.Move.{Move}
use Rattle.asm_state.specs.declared.named.Named.{Named}
use Rattle.asm_state.specs.declared.scanned.Scanned.{Scanned}
use Rattle.asm_storage.specs.Agents.{moves_seen}
use Rattle.asm_storage.specs.Limits.{offers_limit}
use Rattle.asm_storage.specs.declared.call.Reply.{Reply}
use Rattle.asm_storage.specs.declared.call.Reply.TheVariants as reply
use Rattle.asm_storage.specs.declared.error.FireError.{FireError}
use Rattle.asm_storage.specs.declared.error.FireError.TheVariants.{Busy, ManyReads, Memory}
use Rattle.asm_storage.specs.declared.receipt.Receipt.{Receipt}
use Rattle.asm_storage.specs.declared.entry.Entry.{Entry}
use Rattle.asm_storage.specs.Storage.{AgentAt, IsSameAgent, has_polled, has_seen, last_poll, machine_of, Missed}
use Rattle.asm_storage.specs.Calls.{ReadingView, IsRead, IsReplied, IsBusy, IsCoherentReply, MadeOffers, judged_on}
use Rattle.asm_storage.specs.Scans.{with_found, DependsOn}
use Rattle.asm_journal.specs.Event.{answer_json_of}
pub use Rattle.asm_row.specs.Limits.{IsNoCapacity}
use Rattle.asm_slots.specs.Standard.{Standard, meaning}
use Rattle.asm_slots.specs.Bytes.{ReadAsLocations, ReadAsState}
use Rattle.asm_slots.specs.ClosedStore.{IsJournalOf}
use Rattle.asm_slots.specs.Slots.{Changes, Holds, a_store, an_agent}
use Rattle.asm_slots.specs.Store.{StoreView, IsPutIn, IsUnused}
use Rattle.asm_slots.specs.declared.codes.Code.{Code}
use Rattle.asm_slots.specs.declared.codes.Code.TheVariants as code
use Rattle.asm_slots.specs.declared.content.Content.{Content}
use Rattle.asm_slots.specs.declared.read_and_fire.Numbers.{Numbers}

-- a storage with this opening state and this capacity, of which no agent was made
abbrev pub IsOpened : List ℕ → ℕ → StoreView → Type 0
IsOpened bytes capacity s = ReadAsState bytes s.storage.init × (length s.storage.row ≡ capacity) × IsUnused s

-- the storage with these further numbers of agents that were made
abbrev pub HasMade : List ℕ → StoreView → StoreView → Type 0
HasMade numbers old new = new ≡ record old { numbers = old.numbers ++ numbers }

-- the bytes are JSON of locations, and these were read, after a poll that found nothing more
abbrev pub HasRead : List ℕ → AgentAt Standard → AgentAt Standard → Type 0
HasRead bytes old new =
    (locations : List element.Place) × (r : ReadingView) × ReadAsLocations bytes locations
    × IsRead meaning old new locations r × Missed old (last_poll new) new

-- what a call answers for a fire's answer: it is done if the move fired
abbrev pub answer_to : Result Reply FireError → Result (Unit {0}) Code
answer_to (Ok (reply.Fired k)) = Ok tt
answer_to (Ok (reply.Stale l)) = Err code.Stale
answer_to (Ok (reply.Clash c)) = Err code.Clash
answer_to (Ok reply.Full) = Err code.Full
answer_to (Err ManyReads) = Err code.Many
answer_to (Err (Busy from to)) = Err code.Busy
answer_to (Err Memory) = Err code.Memory

-- the numbers of a call that sets none
abbrev pub no_numbers : Numbers
no_numbers = record { fired = 0; from = 0; to = 0 }

-- the number of the fired move, or how many moves had been seen at the start and at the end of a busy call
abbrev pub numbers_to : Result Reply FireError → Numbers
numbers_to (Ok (reply.Fired k)) = record { fired = k; from = 0; to = 0 }
numbers_to (Err (Busy f t)) = record { fired = 0; from = f; to = t }
numbers_to _ = no_numbers

-- the call reports the fire's answer
abbrev pub ReportsFire : Result Reply FireError → Numbers → Result (Unit {0}) Code → Type 0
ReportsFire answer n r = (r ≡ answer_to answer) × (n ≡ numbers_to answer)

-- a fire that depends on scans too was answered by this reply: the one to the fire that also declares, behind the
-- reads, what was found of the scans
pub record IsRepliedOver (old new : AgentAt Standard) (reads : List Named) (scans : List Scanned) (M : Move) (r : Reply) : Type 0 where
  pub found : Option Named
  pub replied : IsReplied meaning old new (with_found reads found) M r
  pub coherent : IsCoherentReply meaning new (with_found reads found) M r
  pub depends : DependsOn (machine_of meaning new.storage) (moves_seen (judged_on r new.account.seen)) scans found r

-- it has polled, and nothing else has changed
abbrev pub HasPolled : AgentAt Standard → AgentAt Standard → Type 0
HasPolled old new = new ≡ has_polled old new.account.seen new.misses new.number

-- it has seen what it had seen before, and maybe more
abbrev pub SeesOn : AgentAt Standard → AgentAt Standard → Type 0
SeesOn old new = IsPrefix old.account.seen new.account.seen

-- it is unchanged, or has polled to the end for a read that was refused memory
abbrev pub MayHavePolled : AgentAt Standard → AgentAt Standard → Type 0
MayHavePolled old new = (new ≡ old) ⊎ Missed old (last_poll new) new

-- at most 64 more polls found nothing
abbrev pub MissedFew : AgentAt Standard → AgentAt Standard → Type 0
MissedFew old new = new.misses ≤ old.misses + offers_limit

-- at least one more poll found nothing (saturating counter)
abbrev pub MissedOne : AgentAt Standard → AgentAt Standard → Type 0
MissedOne old new = min (old.misses + 1) (2 ^ 64 - 1) ≤ new.misses

-- what becomes of an agent by a fire with this answer, however the fire depends
pub record HasAnswered (answer : Result Reply FireError) (old new : AgentAt Standard) : Type 0 where
  pub same : IsSameAgent old new
  pub seen : SeesOn old new
  pub refused : OnErr answer (HasPolled old new)
  pub busy : IfErr answer (IsBusy old new)
  pub offers : (n : ℕ) × MadeOffers old new answer n
  pub few : MissedFew old new
  pub missed : (k : ℕ) → answer ≡ Ok (reply.Fired k) → MissedOne old new
  pub lost : (from to : ℕ) → answer ≡ Err (Busy from to) → from + offers_limit ≤ to

-- the text of the answer to the last of these calls
abbrev pub IsLastAnswer : List Receipt → List ℕ → Type 0
IsLastAnswer receipts text = (rs : List Receipt) × (r : Receipt) × (receipts ≡ rs ++ r ∷ [])
    × (text ≡ compact_text (answer_json_of r.answer))

-- the text of the answer to the last call, if there was one
abbrev pub IsLastText : AgentAt Standard → Option (List ℕ) → Type 0
IsLastText a None = a.account.receipts ≡ []
IsLastText a (Some s) = IsLastAnswer a.account.receipts s

-- it has learnt what was seen there, and has then seen as much as the longer of the two
abbrev pub HasLearnt : List Entry → AgentAt Standard → AgentAt Standard → Type 0
HasLearnt theirs old new =
    (new ≡ has_seen old new.account.seen) × IsPrefix old.account.seen new.account.seen
    × IsPrefix theirs new.account.seen
    × (length new.account.seen ≡ max (length old.account.seen) (length theirs))

-- the agent has learnt what the other has seen
abbrev pub Learns : Option Content → Option Content → Option Content → Type 0
Learns other old new = Holds an_agent other (λ b. Changes an_agent old new (HasLearnt b.account.seen))

-- the storage with this agent among the returned ones, and without a journal
abbrev pub HasTaken : AgentAt Standard → StoreView → StoreView → Type 0
HasTaken a old new = (new ≡ record old { agents = new.agents; journal = None }) × IsPutIn a old.agents new.agents

-- the agent was returned to the storage
abbrev pub Gives : Option Content → Option Content → Option Content → Type 0
Gives store agent new = Holds an_agent agent (λ a. Changes a_store store new (HasTaken a))

-- the storage without this agent, which was among the returned ones, and without a journal
abbrev pub HasLost : AgentAt Standard → StoreView → StoreView → Type 0
HasLost a old new = (new ≡ record old { agents = new.agents; journal = None }) × IsPutIn a new.agents old.agents

-- a returned agent of the storage has this number
abbrev pub HasNumber : StoreView → ℕ → Type 0
HasNumber s id =
    (before after : List (AgentAt Standard)) × (b : AgentAt Standard) × (s.agents ≡ before ++ b ∷ after)
    × (b.account.id ≡ id)

-- the storage retains this journal of its returned agents
abbrev pub KeepsJournal : StoreView → Option (List ℕ) → Type 0
KeepsJournal s None = ⊥
KeepsJournal s (Some text) = IsJournalOf s.storage s.agents text

-- the storage retains the journal of its returned agents, and all else is unchanged
abbrev pub HasClosed : StoreView → StoreView → Type 0
HasClosed old new = (new ≡ record old { journal = new.journal }) × KeepsJournal old new.journal
