-- What an agent's own state has, which is at one version of what the agent has seen.
use Rattle.std.specs.Prelude.{◌≡◌, ◌≤◌, if◌then◌else◌, nat_eq, ℕ, ℤ, List, length, map, take, Option, Some, None}
use Rattle.std.specs.Cmp.Lexicographic.{pointwise}
use Rattle.serde_json.specs.Written.{compact_text}
use Rattle.asm_element.specs.Place.{Place}
use Rattle.asm_element.specs.Value.{undef}
use Rattle.asm_update.specs.Fire.{Old, state_of}
use Rattle.asm_update.specs.State.{State, IsProper, val}
use Rattle.asm_state.specs.declared.named.Named.{Named}
use Rattle.asm_storage.specs.Agents.{moves_seen}
use Rattle.asm_storage.specs.Calls.{IsStaleRead}
use Rattle.asm_storage.specs.Storage.{AgentAt, IsSameAgent, last_poll, Missed}
use Rattle.asm_storage.specs.Taken.{HasTaken}
use Rattle.asm_storage.specs.declared.call.Answer.TheVariants as answer
use Rattle.asm_storage.specs.declared.call.Reply.TheVariants as reply
use Rattle.asm_journal.specs.Event.{answer_json_of, reply_json_of}
use Rattle.asm_journal.specs.Text.{state_json_of}
use Rattle.asm_transaction.specs.Reading.{IsOf}
use Rattle.asm_transaction.specs.View.{new_transaction}
use Rattle.asm_slots.specs.Bytes.{ReadAsLocations, ReadAsReads}
use Rattle.asm_slots.specs.AgentCalls.{HasPolled, SeesOn}
use Rattle.asm_slots.specs.Kinds.{IsValueBy, bytes_of}
use Rattle.asm_slots.specs.Slots.{Changes, HasRoomFor, HoldBoth, Lacks, a_step, an_agent}
use Rattle.asm_slots.specs.Standard.{Standard, meaning, part}
use Rattle.asm_slots.specs.declared.codes.Code.{Code}
use Rattle.asm_slots.specs.declared.codes.Code.TheVariants as code
use Rattle.asm_slots.specs.declared.content.Content.{Content}

-- the state at this version: what so many first moves leave of those that the agent has seen
abbrev pub state_at : AgentAt Standard → ℕ → State
state_at a n = state_of part a.storage.init (take n (moves_seen a.account.seen))

-- the agent's own state is at this version, which is at most the number of moves that the agent has seen
abbrev pub IsAtVersion : AgentAt Standard → ℕ → Type 0
IsAtVersion a n = (n ≡ a.number) × (n ≤ length a.account.seen)

-- {"number":N,"values":[VALUE, ..]}: what is seen at the locations at this version
abbrev pub values_text : ℕ → Old → List Place → List ℕ
values_text n seen locations = compact_text (answer_json_of (answer.Read n (map seen locations)))

-- the text has the values of the locations in the agent's own state, with its version
abbrev pub IsPeek : List Place → AgentAt Standard → List ℕ → Type 0
IsPeek locations a text = (n : ℕ) × IsAtVersion a n × (text ≡ values_text n (val (state_at a n)) locations)

-- the same, of the locations of these bytes
abbrev pub IsPeekOf : List ℕ → AgentAt Standard → List ℕ → Type 0
IsPeekOf bytes a text = (locations : List Place) × ReadAsLocations bytes locations × IsPeek locations a text

-- kind, number and bytes are those of the value at the location in the agent's own state, which is at this version
abbrev pub IsValueAt : Place → AgentAt Standard → ℕ → ℤ → ℤ → List ℕ → Type 0
IsValueAt l a n kind number bytes = IsAtVersion a n × IsValueBy (val (state_at a n) l) kind number bytes

-- the bytes are those of the value at the location in the agent's own state
abbrev pub HasBytesAt : Place → AgentAt Standard → List ℕ → Type 0
HasBytesAt l a bytes = (n : ℕ) × IsAtVersion a n × (bytes ≡ bytes_of (val (state_at a n) l))

-- the text is the JSON of a state without undef, which has these values
abbrev pub IsTextOfState : Old → List ℕ → Type 0
IsTextOfState values text =
    (S : State) × IsProper S × ((l : Place) → val S l ≡ values l) × (text ≡ compact_text (state_json_of S))

-- what is there at the locations with this function name; elsewhere undef
abbrev pub of_name : List ℕ → Old → Old
of_name name old l = if pointwise nat_eq l.name name then old l else undef

-- the text is the JSON of the agent's own state, which is at this version
abbrev pub IsOwnState : AgentAt Standard → ℕ → List ℕ → Type 0
IsOwnState a n text = IsAtVersion a n × IsTextOfState (val (state_at a n)) text

-- the same, with only the locations of this function name
abbrev pub IsOwnOfName : List ℕ → AgentAt Standard → ℕ → List ℕ → Type 0
IsOwnOfName name a n text = IsAtVersion a n × IsTextOfState (of_name name (val (state_at a n))) text

-- it has polled until it found nothing more, and nothing else has changed
abbrev pub HasPolledOn : AgentAt Standard → AgentAt Standard → Type 0
HasPolledOn old new = HasPolled old new × Missed old (last_poll new) new

-- it has polled until it found nothing more; its own state is at this version, and it has seen as many moves
abbrev pub HasFollowed : ℕ → AgentAt Standard → AgentAt Standard → Type 0
HasFollowed n old new = HasPolledOn old new × (n ≡ length new.account.seen) × (n ≡ new.number)

-- the agent has polled until it found nothing more, and its own state is at this version
abbrev pub Follows : ℕ → Option Content → Option Content → Type 0
Follows number agent after = Changes an_agent agent after (λ a b. HasFollowed number a b × IsSameAgent a b × SeesOn a b)

-- there is no agent, or memory was refused while it polled
abbrev pub DoesNotFollow : Option Content → Option Content → Code → Type 0
DoesNotFollow agent after code.Empty = Lacks an_agent agent × (after ≡ agent)
DoesNotFollow agent after code.Memory = Changes an_agent agent after (λ a b. HasPolledOn a b × IsSameAgent a b × SeesOn a b)
DoesNotFollow agent after _ = ⊥

-- it has followed, and the other slot, which was empty or held a step, holds a new one of the agent at this version
abbrev pub Begins : ℕ → Option Content → Option Content → Option Content → Option Content → Type 0
Begins number agent after step step_after =
    HasRoomFor a_step step × Follows number agent after × HoldBoth after step_after (λ a t. (t ≡ new_transaction number) × IsOf meaning a t)

-- the other slot holds something else; or the agent doesn't follow, or memory was refused once it had
abbrev pub DoesNotBegin : Option Content → Option Content → Option Content → Code → Type 0
DoesNotBegin agent after step code.Taken = ¬ HasRoomFor a_step step × (after ≡ agent)
DoesNotBegin agent after step c = HasRoomFor a_step step × DoesNotFollow agent after c

-- the bytes are JSON of declared reads, and none of them is stale after what the agent has then seen
abbrev pub NoneIsStale : List ℕ → AgentAt Standard → Type 0
NoneIsStale bytes a = (reads : List Named) × ReadAsReads bytes reads × IsStaleRead meaning a reads None

-- {"stale":LOC}
abbrev pub IsStaleText : Place → List ℕ → Type 0
IsStaleText l text = text ≡ compact_text (reply_json_of (reply.Stale l))

-- the bytes are JSON of declared reads, and the text {"stale":LOC} has the smallest location of those that are stale
abbrev pub IsStaleOf : List ℕ → AgentAt Standard → List ℕ → Type 0
IsStaleOf bytes a text =
    (reads : List Named) × (l : Place) × ReadAsReads bytes reads × IsStaleRead meaning a reads (Some l)
    × IsStaleText l text

-- the one agent has learnt what the other has seen, and the two have exchanged their states if that of the other was
-- ahead
abbrev pub TakesState : Option Content → Option Content → Option Content → Option Content → Type 0
TakesState one other new left =
    Changes an_agent one new (λ a c. Changes an_agent other left (λ b. HasTaken a b c))
