-- Ready instructions: those whose term is written out, so that they are the same in each state.
use Rattle.std.specs.Prelude.{Bool, true, false, List, map, Option, Some, None}
use Rattle.std.specs.Option.{option_map, is_some}
use Rattle.asm_element.specs.declared.value.Value.{Value}
use Rattle.asm_element.specs.declared.value.Value.TheVariants.{Plain}
use Rattle.asm_update.specs.declared.action.Action.{Action}
use Rattle.asm_update.specs.declared.action.Action.TheVariants as action
use Rattle.asm_update.specs.declared.action.Instruction.{Instruction}
use Rattle.asm_script.specs.Terms.{given_element}
use Rattle.asm_script.specs.declared.term.Term.{Term}
use Rattle.asm_script.specs.declared.term.Term.TheVariants as term
use Rattle.asm_script.specs.declared.block.Form.{Form}
use Rattle.asm_script.specs.declared.block.Form.TheVariants.{Terms, Ready}
use Rattle.asm_script.specs.declared.block.TermAction.{TermAction}
use Rattle.asm_script.specs.declared.block.TermAction.TheVariants.{Put, Add, Remove, BagAdd, BagRemove, Increment}
use Rattle.asm_script.specs.declared.block.TermInstruction.{TermInstruction}

-- the value that is written out; a term that is no value has none
abbrev pub written_value : Term → Option Value
written_value (term.Value v) = Some v
written_value _ = None

-- what the action is in each state, if its term is written out and is of a kind that the action takes
abbrev pub ready_action : TermAction → Option Action
ready_action (Put t) = option_map action.Regular (written_value t)
ready_action (Add t) = option_map action.SetAdd (given_element (written_value t))
ready_action (Remove t) = option_map action.SetRemove (given_element (written_value t))
ready_action (BagAdd t n) = option_map (λ e. action.BagAdd e n) (given_element (written_value t))
ready_action (BagRemove t n) = option_map (λ e. action.BagRemove e n) (given_element (written_value t))
ready_action (Increment n) = Some (action.Increment n)

-- what the instruction is in each state, if its action is ready
abbrev pub ready_instruction : TermInstruction → Option Instruction
ready_instruction i = option_map (λ a. record { at = i.at; action = a }) (ready_action i.action)

-- whether the instruction is ready
abbrev pub is_ready : TermInstruction → Bool
is_ready i = is_some (ready_action i.action)

-- the action with its value, or its element, written out as a term
abbrev pub as_written : Action → TermAction
as_written (action.Regular v) = Put (term.Value v)
as_written (action.SetAdd e) = Add (term.Value (Plain e))
as_written (action.SetRemove e) = Remove (term.Value (Plain e))
as_written (action.BagAdd e n) = BagAdd (term.Value (Plain e)) n
as_written (action.BagRemove e n) = BagRemove (term.Value (Plain e)) n
as_written (action.Increment n) = Increment n

-- the instruction with its action's term written out
abbrev pub written : Instruction → TermInstruction
written i = record { at = i.at; action = as_written i.action }

-- the instructions with terms that a block is written as, in whichever form it is stored
abbrev pub written_form : Form → List TermInstruction
written_form (Terms terms) = terms.items
written_form (Ready M) = map written M

-- whether a block is stored as the instructions that it always gives
abbrev pub is_ready_form : Form → Bool
is_ready_form (Terms terms) = false
is_ready_form (Ready M) = true
