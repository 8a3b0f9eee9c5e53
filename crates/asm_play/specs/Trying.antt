-- Trying a step: what it reads, what becomes of a try, and how many tries there are.
use Rattle.std.specs.Prelude.{◌≡◌, ◌≢◌, ◌⊎◌, ◌+◌, ◌≤◌, ◌<◌, ℕ, zero, suc, List, [], ◌∷◌, ◌++◌, length, map, All}
use Rattle.std.specs.Prelude.{Option, Some, None, if◌then◌else◌}
use Rattle.std.specs.Ordering.{eq_by_cmp}
use mathlib.Core.List.{IsPrefix}
use Rattle.asm_element.specs.Place.{Place, location_cmp}
use Rattle.asm_element.specs.Value.{undef}
use Rattle.asm_element.specs.declared.value.Value.{Value}
use Rattle.asm_update.specs.Aggregator.{Meaning}
use Rattle.asm_update.specs.Fire.{Old}
use Rattle.asm_update.specs.Move.{Move}
use Rattle.asm_state.specs.declared.named.Named.{Named}
use Rattle.asm_storage.specs.Agents.{event_of, moves_seen}
use Rattle.asm_storage.specs.Calls.{ReadingView, IsRead, IsReplied}
use Rattle.asm_storage.specs.Limits.{offers_limit, reads_limit}
use Rattle.asm_storage.specs.Storage.{AgentAt, IsSameAgent, machine_of, has_polled}
use Rattle.asm_storage.specs.declared.call.Answer.TheVariants as answer
use Rattle.asm_storage.specs.declared.call.Reply.{Reply}
use Rattle.asm_storage.specs.declared.call.Reply.TheVariants as reply
use Rattle.asm_storage.specs.declared.receipt.Receipt.{Receipt}
use Rattle.asm_play.specs.AgentPlay.{AreProper}
use Rattle.asm_script.specs.StepReads.{AreReads}
use Rattle.asm_play.specs.Limits.{tries_limit}
use Rattle.asm_play.specs.StepEvents.{name_at, stale_fires, IsIdle, IsTryOf, IsVainTry, AreStepEvents}
use Rattle.asm_script.specs.declared.step.Step.{Step}
use Rattle.asm_script.specs.declared.fault.StepFault.{StepFault}
use Rattle.asm_script.specs.declared.fault.StepFault.TheVariants as fault
use Rattle.asm_play.specs.declared.step_end.StepEnd.{StepEnd}
use Rattle.asm_play.specs.declared.step_end.StepEnd.TheVariants as step_end

-- the value at the place of the location; undef where it isn't among them
abbrev pub value_among : List Place → List Value → Place → Value
value_among [] vs l = undef
value_among (p ∷ ps) [] l = undef
value_among (p ∷ ps) (v ∷ vs) l = if eq_by_cmp location_cmp p l then v else value_among ps vs l

-- the value that was read of a location; undef where it wasn't read
abbrev pub read_value : Option ReadingView → Old
read_value None l = undef
read_value (Some r) l = value_among r.places r.values l

-- all that was read, each location with the number of the reading
abbrev pub names_of : Option ReadingView → List Named
names_of None = []
names_of (Some r) = map (name_at r.number) r.places

-- the read of a step: there is none where, and only where, it reads no location
abbrev pub HasRead : {A : Type 0} → (A → Meaning) → AgentAt A → AgentAt A → List Place → Option ReadingView → Type 0
HasRead meaning old new places None = (places ≡ []) × (new ≡ old)
HasRead meaning old new places (Some r) = (places ≢ []) × IsRead meaning old new places r

-- 64 attempts were lost: as many entries more were seen at least
pub record WasBusy {A : Type 0} (old new : AgentAt A) : Type 0 where
  pub begins : IsPrefix old.account.seen new.account.seen
  pub longer : length old.account.seen + offers_limit ≤ length new.account.seen
  pub agent : new ≡ has_polled old new.account.seen new.misses new.number

-- the fire of a step was answered by this reply; by none where it was busy
abbrev pub HasTried : {A : Type 0} → (A → Meaning) → AgentAt A → AgentAt A → List Named → Move → Option Reply → Type 0
HasTried meaning old new reads M None = WasBusy old new
HasTried meaning old new reads M (Some r) = IsReplied meaning old new reads M r

-- how a step ended whose fire has this reply; none where the step must be retried
abbrev pub end_of : Option Reply → Option StepEnd
end_of (Some (reply.Fired k)) = Some (step_end.Fired k)
end_of (Some (reply.Clash clash)) = Some (step_end.Clash clash)
end_of (Some reply.Full) = Some step_end.Full
end_of (Some (reply.Stale l)) = None
end_of None = None

-- how a step ended that has no move for this fault
abbrev pub IsEndOf : StepFault → StepEnd → Type 0
IsEndOf (fault.Term term) o = o ≡ step_end.Term term
IsEndOf (fault.Clash clash) o = o ≡ step_end.Clash clash
IsEndOf (fault.Large l) o = o ≡ step_end.Large l
IsEndOf fault.Many o = o ≡ step_end.Many
IsEndOf fault.Memory o = ⊥

-- it is the same agent, which has seen what it had seen, and has these receipts more
pub record Adds {A : Type 0} (old new : AgentAt A) (more : List Receipt) : Type 0 where
  pub same : IsSameAgent old new
  pub begins : IsPrefix old.account.seen new.account.seen
  pub added : new.account.receipts ≡ old.account.receipts ++ more

-- the last of the receipts is that of a stale fire
abbrev pub EndsStale : List Receipt → Type 0
EndsStale more = (first : List Receipt) × (r : Receipt) × (l : Place) × (more ≡ first ++ r ∷ [])
    × (r.answer ≡ answer.Fire (reply.Stale l))

-- why a try ended in nothing: it left one stale fire, which is its last receipt; or it left none and so, being in
-- vain, no fire at all, as 64 attempts were lost
abbrev pub IsVain : {A : Type 0} → AgentAt A → AgentAt A → List Receipt → Type 0
IsVain old new more =
    (EndsStale more × (stale_fires (map (event_of old.account.id) more) ≡ 1))
    ⊎ ((stale_fires (map (event_of old.account.id) more) ≡ 0)
    × (length old.account.seen + offers_limit ≤ length new.account.seen))

-- a try, of a step that reads these locations, that ended in nothing: its fire was stale or busy
pub record IsAgain {A : Type 0} (meaning : A → Meaning) (own : Meaning) (step : Step) (places : List Place)
    (old new : AgentAt A) : Type 0 where
  pub more : List Receipt
  pub adds : Adds old new more
  pub idle : All IsIdle (map (event_of old.account.id) more)
  pub once : AreProper old.storage.init (moves_seen new.account.seen) →
      IsVainTry own (machine_of meaning old.storage) (moves_seen new.account.seen) step places
      (map (event_of old.account.id) more)
  pub cause : IsVain old new more

-- the receipts that the agent has more are those of one try of the step, which reads these locations, according to
-- how it ended
pub record IsEnded {A : Type 0} (meaning : A → Meaning) (own : Meaning) (old new : AgentAt A) (step : Step)
    (places : List Place) (o : StepEnd) : Type 0 where
  pub more : List Receipt
  pub adds : Adds old new more
  pub fresh : stale_fires (map (event_of old.account.id) more) ≡ 0
  pub once : AreProper old.storage.init (moves_seen new.account.seen) →
      IsTryOf own (machine_of meaning old.storage) (moves_seen new.account.seen) step places
      (map (event_of old.account.id) more)
  pub reported : (meaning old.storage.agg).part ≡ own.part → AreProper old.storage.init (moves_seen new.account.seen) →
      AreStepEvents own (machine_of meaning old.storage) (moves_seen new.account.seen) step o
      (map (event_of old.account.id) more)

-- one try of a step: the step ended, not by being given up, or must be retried
abbrev pub IsTry : {A : Type 0} → (A → Meaning) → Meaning → AgentAt A → AgentAt A → Step → List Place →
    Option StepEnd → Type 0
IsTry meaning own old new step places None = IsAgain meaning own step places old new
IsTry meaning own old new step places (Some o) = IsEnded meaning own old new step places o × (o ≢ step_end.GaveUp)

-- so many tries in a row, of a step that reads these locations, ended in nothing
abbrev pub Tried : {A : Type 0} → (A → Meaning) → Meaning → Step → List Place → ℕ → AgentAt A → AgentAt A → Type 0
Tried meaning own step places zero old new = old ≡ new
Tried {A} meaning own step places (suc n) old new =
    (mid : AgentAt A) × Tried meaning own step places n old mid × IsAgain meaning own step places mid new

-- a step that reads these locations was given up after 1,001 tries, or ended after at most 1,000 in nothing
abbrev pub IsTriedBy : {A : Type 0} → (A → Meaning) → Meaning → AgentAt A → AgentAt A → Step → StepEnd →
    List Place → Type 0
IsTriedBy {A} meaning own old new step o places =
    ((o ≡ step_end.GaveUp) × (n : ℕ) × (n ≡ tries_limit) × Tried meaning own step places n old new)
    ⊎ ((n : ℕ) × (n < tries_limit) × (mid : AgentAt A) × Tried meaning own step places n old mid
    × IsTry meaning own mid new step places (Some o))

-- it wasn't tried, as it reads more than 256 locations, or it was
abbrev pub IsPlayedBy : {A : Type 0} → (A → Meaning) → Meaning → AgentAt A → AgentAt A → Step → StepEnd →
    List Place → Type 0
IsPlayedBy meaning own old new step o places =
    ((reads_limit < length places) × (o ≡ step_end.Many) × (old ≡ new))
    ⊎ ((length places ≤ reads_limit) × IsTriedBy meaning own old new step o places)

-- A step was played: it reads too many locations, or was given up after 1,001 tries that ended in nothing, or ended after
-- at most 1,000 of them.
abbrev pub IsStepPlayed : {A : Type 0} → (A → Meaning) → Meaning → AgentAt A → AgentAt A → Step → StepEnd → Type 0
IsStepPlayed meaning own old new step o =
    (places : List Place) × AreReads step places × IsPlayedBy meaning own old new step o places
