-- The JSON of instructions: [WORD,LOC,OPERAND, ..].
use Rattle.std.specs.Prelude.{◌≡◌, ℕ, List, [], ◌∷◌, codes}
use Rattle.serde_json.specs.Data.{Data, string, array, Items, item}
use Rattle.serde_json.specs.View.{items_of}
use Rattle.asm_update.specs.declared.action.Action.{Action}
use Rattle.asm_update.specs.declared.action.Action.TheVariants.{Regular, SetAdd, SetRemove, BagAdd, BagRemove, Increment}
use Rattle.asm_update.specs.declared.action.Instruction.{Instruction}
use Rattle.asm_journal.specs.Shape.{IsOnly, number_json_of}
use Rattle.asm_journal.specs.Element.{integer_json_of, element_json_of, location_json_of, IsIntegerForm, IsElementForm, IsLocationForm}
use Rattle.asm_journal.specs.Set.{IsCounted}
use Rattle.asm_journal.specs.Value.{value_json_of, IsValueForm}

-- the word of an action
abbrev pub word_of : Action → List ℕ
word_of (Regular v) = codes "put"
word_of (SetAdd e) = codes "add"
word_of (SetRemove e) = codes "remove"
word_of (BagAdd e n) = codes "bagadd"
word_of (BagRemove e n) = codes "bagremove"
word_of (Increment n) = codes "inc"

-- VALUE; ELEMENT; ELEMENT,AMOUNT; a whole number
abbrev pub operands_of : Action → List Data
operands_of (Regular v) = value_json_of v ∷ []
operands_of (SetAdd e) = element_json_of e ∷ []
operands_of (SetRemove e) = element_json_of e ∷ []
operands_of (BagAdd e n) = element_json_of e ∷ number_json_of n ∷ []
operands_of (BagRemove e n) = element_json_of e ∷ number_json_of n ∷ []
operands_of (Increment n) = integer_json_of n ∷ []

-- an array that begins with this word and this location
abbrev pub instruction_of : List ℕ → Data → Items → Data
instruction_of word at operands = array (item (string word) (item at operands))

-- the JSON of an instruction: the action's word, the location, the action's operands
abbrev pub instruction_json_of : Instruction → Data
instruction_json_of i = instruction_of (word_of i.action) (location_json_of i.at) (items_of (operands_of i.action))

-- the forms of the action's operands
abbrev pub AreOperands : Action → Items → Type 0
AreOperands (Regular v) ds = IsOnly IsValueForm v ds
AreOperands (SetAdd e) ds = IsOnly IsElementForm e ds
AreOperands (SetRemove e) ds = IsOnly IsElementForm e ds
AreOperands (BagAdd e n) ds = IsCounted (e, n) ds
AreOperands (BagRemove e n) ds = IsCounted (e, n) ds
AreOperands (Increment n) ds = IsOnly IsIntegerForm n ds

-- the word names the action, and the items are its operands
abbrev pub IsActionForm : List ℕ → Action → Items → Type 0
IsActionForm word a ds = (word ≡ word_of a) × AreOperands a ds

-- a word, a location, and the operands of the word's action
abbrev pub IsInstructionForm : Instruction → Data → Type 0
IsInstructionForm i d =
    (word : List ℕ) × (at : Data) × (operands : Items) × (d ≡ instruction_of word at operands)
    × IsLocationForm i.at at × IsActionForm word i.action operands
