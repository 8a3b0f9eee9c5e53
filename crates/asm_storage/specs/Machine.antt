-- The storage of one thread: what it answers to a call after a list of moves.
use Rattle.std.specs.Prelude.{ℕ, ◌+◌, nat_lt, List, length, map, Option, Some, None, Result, Ok, Err, if◌then◌else◌}
use Rattle.asm_element.specs.Place.{Place}
use Rattle.asm_update.specs.Move.{Move}
use Rattle.asm_update.specs.State.{State, val}
use Rattle.asm_update.specs.Fire as firing
use Rattle.asm_update.specs.Fire.{Part, fire}
use Rattle.asm_update.specs.declared.clash.Clash.{Clash}
use Rattle.asm_state.specs.Verdict.{least_stale}
use Rattle.asm_storage.specs.declared.call.Call.{Call}
use Rattle.asm_storage.specs.declared.call.Call.TheVariants as call
use Rattle.asm_storage.specs.declared.call.Reply.{Reply}
use Rattle.asm_storage.specs.declared.call.Reply.TheVariants as reply
use Rattle.asm_storage.specs.declared.call.Answer.{Answer}
use Rattle.asm_storage.specs.declared.call.Answer.TheVariants as answer

-- what a storage is opened with: what partial updates mean, the opening state, and how many moves it takes
pub record Machine : Type 0 where
  pub part : Part
  pub init : State
  pub capacity : ℕ

-- the state that these moves leave, each fired in its turn
abbrev pub machine_state : Machine → List Move → State
machine_state m q = firing.state_of m.part m.init q

-- the reply to a move that fires: `Fired` while there is room
abbrev pub fired_or_full : ℕ → ℕ → Reply
fired_or_full capacity number = if nat_lt number capacity then reply.Fired (number + 1) else reply.Full

-- the reply to a move that isn't stale: that of a firing move if it has a state, and else its clash
abbrev pub firing_reply : Machine → List Move → Result State Clash → Reply
firing_reply m q (Ok B) = fired_or_full m.capacity (length q)
firing_reply m q (Err clash) = reply.Clash clash

-- the reply to a move, where this is its least stale location: stale before a clash, and a clash before full
abbrev pub fire_reply : Machine → List Move → Move → Option Place → Reply
fire_reply m q M (Some l) = reply.Stale l
fire_reply m q M None = firing_reply m q (fire m.part (machine_state m q) M)

-- what the storage of one thread answers to a call after these moves
abbrev pub reply_to : Machine → List Move → Call → Answer
reply_to m q (call.Read places) = answer.Read (length q) (map (val (machine_state m q)) places)
reply_to m q (call.Fire reads instrs) = answer.Fire (fire_reply m q instrs (least_stale m.part m.init q reads))
