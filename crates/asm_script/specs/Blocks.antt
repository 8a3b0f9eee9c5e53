-- Blocks: lists of instructions with terms, and the move that a block is in a state.
use Rattle.std.specs.Prelude.{◌≡◌, ◌+◌, ℕ, [], ◌∷◌, Result, Ok, Err}
use Rattle.asm_update.specs.Fire.{Old}
use Rattle.asm_update.specs.Move.{Move}
use Rattle.asm_update.specs.declared.action.Action.{Action}
use Rattle.asm_update.specs.declared.action.Action.TheVariants as action
use Rattle.asm_update.specs.declared.action.Instruction.{Instruction}
use Rattle.asm_script.specs.Terms.{term_value, element_value, made_of}
use Rattle.asm_script.specs.declared.block.Form.{Form}
use Rattle.asm_script.specs.declared.block.Form.TheVariants.{Terms, Ready}
use Rattle.asm_script.specs.declared.block.TermAction.{TermAction}
use Rattle.asm_script.specs.declared.block.TermAction.TheVariants.{Put, Add, Remove, BagAdd, BagRemove, Increment}
use Rattle.asm_script.specs.declared.block.TermInstruction.{TermInstruction}
use Rattle.asm_script.specs.declared.block.Block.{Block}
use Rattle.asm_script.specs.declared.fault.StepFault.{StepFault}
use Rattle.asm_script.specs.declared.fault.StepFault.TheVariants.{Term, Memory}
use Rattle.asm_script.specs.declared.term.NoValue.{NoValue}

-- the action with the term's value in its place: any value for `put`, a plain one for an element; an increment has no
-- term
abbrev pub action_in : Old → TermAction → Result Action NoValue
action_in old (Put t) = made_of action.Regular (term_value old t)
action_in old (Add t) = made_of action.SetAdd (element_value old t)
action_in old (Remove t) = made_of action.SetRemove (element_value old t)
action_in old (BagAdd t n) = made_of (λ e. action.BagAdd e n) (element_value old t)
action_in old (BagRemove t n) = made_of (λ e. action.BagRemove e n) (element_value old t)
action_in old (Increment n) = Ok (action.Increment n)

-- the instruction with the term's value in its place
abbrev pub instruction_in : Old → TermInstruction → Result Instruction NoValue
instruction_in old i = made_of (λ a. record { at = i.at; action = a }) (action_in old i.action)

-- an instruction with this number in front of the others; where it has no value, its number and why
abbrev pub in_front : ℕ → Result Instruction NoValue → Result Move (ℕ × NoValue) → Result Move (ℕ × NoValue)
in_front n (Ok j) others = made_of (λ M. j ∷ M) others
in_front n (Err why) others = Err (n, why)

-- the instructions, counted from this number on, each with its term's value; or the number of the first whose term has
-- none, and why
abbrev pub move_from : Old → ℕ → Block → Result Move (ℕ × NoValue)
move_from old n [] = Ok []
move_from old n (i ∷ b) = in_front n (instruction_in old i) (move_from old (n + 1) b)

-- the block's instructions, each with its term's value; or the number of the first whose term has none, and why
abbrev pub move_in : Old → Block → Result Move (ℕ × NoValue)
move_in old b = move_from old 0 b

-- where a block is stored as instructions, they are its move in each state
abbrev pub IsReady : Form → Block → Type 0
IsReady (Terms terms) b = Unit {0}
IsReady (Ready M) b = (old : Old) → move_in old b ≡ Ok M

-- the answer is the move of the block with this number, or the first of its instructions whose term has no value, and why
abbrev pub IsNext : ℕ → Result Move (ℕ × NoValue) → Result Move StepFault → Type 0
IsNext number there (Ok M) = there ≡ Ok M
IsNext number there (Err (Term faulty)) = (faulty.block ≡ number) × (there ≡ Err (faulty.instruction, faulty.why))
IsNext number there (Err Memory) = Unit {0}
IsNext number there (Err _) = ⊥
