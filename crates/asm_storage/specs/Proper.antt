-- The histories that a program can hold.
use Rattle.std.specs.Prelude.{◌<◌, ◌≤◌, ◌^◌, length, All}
use Rattle.asm_element.specs.Place as place
use Rattle.asm_element.specs.Value as value
use Rattle.asm_update.specs.Action.{IsProperInstruction}
use Rattle.asm_update.specs.Limits.{instructions_limit}
use Rattle.asm_update.specs.Move.{Move}
use Rattle.asm_update.specs.State as state
use Rattle.asm_state.specs.declared.named.Named.{Named}
use Rattle.asm_storage.specs.declared.call.Call.{Call}
use Rattle.asm_storage.specs.declared.call.Call.TheVariants as call
use Rattle.asm_storage.specs.declared.call.Reply.{Reply}
use Rattle.asm_storage.specs.declared.call.Reply.TheVariants as reply
use Rattle.asm_storage.specs.declared.call.Answer.{Answer}
use Rattle.asm_storage.specs.declared.call.Answer.TheVariants as answer
use Rattle.asm_storage.specs.declared.history.Event.{Event}
use Rattle.asm_storage.specs.declared.history.History.{History}

-- a well-formed location, and a number below 2^32
abbrev pub IsProperNamed : Named → Type 0
IsProperNamed r = place.IsProper r.at × (r.number < 2 ^ 32)

-- at most 4,096 instructions, each of them well-formed
abbrev pub IsProperMove : Move → Type 0
IsProperMove M = All IsProperInstruction M × (length M ≤ instructions_limit)

-- what it asks for is well-formed
abbrev pub IsProperCall : Call → Type 0
IsProperCall (call.Read places) = All place.IsProper places
IsProperCall (call.Fire reads instrs) = All IsProperNamed reads × IsProperMove instrs

-- a number below 2^32, or a well-formed location
abbrev pub IsProperReply : Reply → Type 0
IsProperReply (reply.Fired k) = k < 2 ^ 32
IsProperReply (reply.Stale l) = place.IsProper l
IsProperReply (reply.Clash c) = place.IsProper c.at
IsProperReply reply.Full = Unit {0}

-- a number below 2^32 and well-formed values, or a well-formed reply
abbrev pub IsProperAnswer : Answer → Type 0
IsProperAnswer (answer.Read number values) = (number < 2 ^ 32) × All value.IsProper values
IsProperAnswer (answer.Fire r) = IsProperReply r

-- its call and its answer are well-formed
abbrev pub IsProperEvent : Event → Type 0
IsProperEvent e = IsProperCall e.call × IsProperAnswer e.answer

-- one that a program can hold: its opening state and its events are well-formed
abbrev pub IsProper : History → Type 0
IsProper h = state.IsProper h.init × All IsProperEvent h.events
