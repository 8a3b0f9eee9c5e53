-- The JSON of terms, and of instructions with a term in place of the value or the element; an increment has none.
use Rattle.std.specs.Prelude.{◌≡◌, ℕ, List, [], ◌∷◌, codes}
use Rattle.serde_json.specs.Data.{Data, Items}
use Rattle.serde_json.specs.View.{items_of}
use Rattle.asm_journal.specs.Shape.{IsOnly, pair_of, one_of}
use Rattle.asm_journal.specs.Element.{IsIntegerForm, IsLocationForm}
use Rattle.asm_journal.specs.Set.{IsAmountForm}
use Rattle.asm_journal.specs.Value.{IsValueForm}
use Rattle.asm_journal.specs.Instruction.{instruction_of}
use Rattle.asm_script.specs.declared.term.Term.{Term}
use Rattle.asm_script.specs.declared.term.Term.TheVariants as term
use Rattle.asm_script.specs.declared.term.Term.TheVariants.{Val, Sum'}
use Rattle.asm_script.specs.declared.block.TermAction.{TermAction}
use Rattle.asm_script.specs.declared.block.TermAction.TheVariants.{Put, Add, Remove, BagAdd, BagRemove, Increment}
use Rattle.asm_script.specs.declared.block.TermInstruction.{TermInstruction}

-- {"val":LOC}
abbrev pub val_json_of : Data → Data
val_json_of at = one_of (codes "val") at

-- {"sum":[TERM,TERM]}
abbrev pub sum_json_of : Data → Data → Data
sum_json_of a b = one_of (codes "sum") (pair_of a b)

-- the form of a value, {"val":LOC} or {"sum":[TERM,TERM]}
abbrev pub IsTermForm : Term → Data → Type 0
IsTermForm (term.Value v) d = IsValueForm v d
IsTermForm (Val l) d = (at : Data) × (d ≡ val_json_of at) × IsLocationForm l at
IsTermForm (Sum' p x q y) d = (a b : Data) × (d ≡ sum_json_of a b) × IsTermForm x a × IsTermForm y b

-- TERM,AMOUNT
abbrev pub IsCounted : Term → ℕ → Items → Type 0
IsCounted t n ds = (a m : Data) × (ds ≡ items_of (a ∷ m ∷ [])) × IsTermForm t a × IsAmountForm n m

-- the word of an action
abbrev pub word_of : TermAction → List ℕ
word_of (Put t) = codes "put"
word_of (Add t) = codes "add"
word_of (Remove t) = codes "remove"
word_of (BagAdd t n) = codes "bagadd"
word_of (BagRemove t n) = codes "bagremove"
word_of (Increment n) = codes "inc"

-- the forms of the action's operands
abbrev pub AreOperands : TermAction → Items → Type 0
AreOperands (Put t) ds = IsOnly IsTermForm t ds
AreOperands (Add t) ds = IsOnly IsTermForm t ds
AreOperands (Remove t) ds = IsOnly IsTermForm t ds
AreOperands (BagAdd t n) ds = IsCounted t n ds
AreOperands (BagRemove t n) ds = IsCounted t n ds
AreOperands (Increment n) ds = IsOnly IsIntegerForm n ds

-- the word names the action, and the items are its operands
abbrev pub IsActionForm : List ℕ → TermAction → Items → Type 0
IsActionForm word a ds = (word ≡ word_of a) × AreOperands a ds

-- [WORD,LOC,OPERAND, ..]
abbrev pub IsInstructionForm : TermInstruction → Data → Type 0
IsInstructionForm i d =
    (word : List ℕ) × (at : Data) × (operands : Items) × (d ≡ instruction_of word at operands)
    × IsLocationForm i.at at × IsActionForm word i.action operands
