-- Why calls are refused, by their codes.
use Rattle.std.specs.Prelude.{◌≡◌, ◌⊎◌, ◌<◌, ◌≤◌, ◌+◌, ℤ, ◌≢◌, ℕ, List, length, IsUtf8, Option, None}
use Rattle.asm_explain.specs.declared.reading.TextError.{TextError}
use Rattle.asm_explain.specs.declared.reading.TextError.TheVariants as text_error
use Rattle.asm_update.specs.declared.instructions.InstructionsError.{InstructionsError}
use Rattle.asm_update.specs.declared.instructions.InstructionsError.TheVariants as instructions_error
use Rattle.asm_aggregate.specs.declared.composition.ComposeError.{ComposeError}
use Rattle.asm_aggregate.specs.declared.composition.ComposeError.TheVariants as compose_error
use Rattle.asm_storage.specs.declared.error.StorageError.{StorageError}
use Rattle.asm_storage.specs.declared.error.StorageError.TheVariants as storage_error
use Rattle.asm_transaction.specs.declared.error.PopError.{PopError}
use Rattle.asm_transaction.specs.declared.error.PopError.TheVariants as pop_error
use Rattle.asm_transaction.specs.declared.error.TransactionError.{TransactionError}
use Rattle.asm_transaction.specs.declared.error.TransactionError.TheVariants as transaction_error
use Rattle.asm_slots.specs.declared.codes.Code.{Code}
use Rattle.asm_slots.specs.declared.codes.Code.TheVariants as code
use Rattle.serde_json.specs.Data.{Data}
use Rattle.asm_element.specs.declared.element.Element.{Element}
use Rattle.asm_element.specs.declared.value.Value.{Value}
use Rattle.asm_update.specs.Limits.{instructions_limit}
use Rattle.asm_update.specs.Move.{Move}
use Rattle.asm_explain.specs.Bytes.{IsNoJson, IsOtherJson}
use Rattle.asm_journal.specs.Element.{IsLocationForm}
use Rattle.asm_slots.specs.Kinds.{ASM_KIND_TEXT, IsByJson, IsMisshapen, IsNoAction, IsOperand, IsTextOrPlain}
use Rattle.asm_slots.specs.Slots.{HasRoomFor, Lacks, a_location, a_move, an_agent, move_of}
use Rattle.asm_slots.specs.declared.content.Content.{Content}

-- the code of bytes that aren't read
abbrev pub code_of_text : TextError → Code
code_of_text text_error.NotJson = code.NotJson
code_of_text text_error.Shape = code.Shape
code_of_text text_error.Memory = code.Memory

-- the code of a storage that isn't made
abbrev pub code_of_storage : StorageError → Code
code_of_storage storage_error.BadCapacity = code.Capacity
code_of_storage storage_error.Memory = code.Memory

-- the code of an instruction that isn't appended
abbrev pub code_of_instructions : InstructionsError → Code
code_of_instructions instructions_error.ManyInstructions = code.LongMove
code_of_instructions instructions_error.Memory = code.Memory

-- the code of moves that don't compose
abbrev pub code_of_compose : ComposeError → Code
code_of_compose (compose_error.Clash c) = code.Clash
code_of_compose (compose_error.Large l) = code.Large
code_of_compose compose_error.ManyInstructions = code.LongMove
code_of_compose compose_error.Memory = code.Memory

-- the code of an error of a transaction
abbrev pub code_of_transaction : TransactionError → Code
code_of_transaction transaction_error.Moved = code.Moved
code_of_transaction transaction_error.ManyReads = code.Many
code_of_transaction transaction_error.Memory = code.Memory

-- the code of moves that aren't popped as one
abbrev pub code_of_pop : PopError → Code
code_of_pop (pop_error.Composition e) = code_of_compose e
code_of_pop pop_error.ManyReads = code.Many
code_of_pop pop_error.Memory = code.Memory

-- memory was refused
abbrev pub IsMemory : Code → Type 0
IsMemory c = c ≡ code.Memory

-- a slot lacks what the call needs; or the call is refused for another reason
abbrev pub EmptyOr : Type 0 → (Code → Type 0) → Code → Type 0
EmptyOr Missing Refused c = ((c ≡ code.Empty) × Missing) ⊎ Refused c

-- the name isn't UTF-8
abbrev pub IsNoName : List ℕ → Code → Type 0
IsNoName name code.Memory = Unit {0}
IsNoName name code.Shape = ¬ IsUtf8 name
IsNoName name _ = ⊥

-- no value of this form has the bytes as its JSON
abbrev pub IsUnreadAs : {X : Type 0} → (X → Data → Type 0) → List ℕ → Code → Type 0
IsUnreadAs IsForm bytes code.Memory = Unit {0}
IsUnreadAs IsForm bytes code.NotJson = IsNoJson bytes
IsUnreadAs IsForm bytes code.Shape = IsOtherJson IsForm bytes
IsUnreadAs IsForm bytes _ = ⊥

-- kind, number and bytes mean no element except a list
abbrev pub IsNoElementFor : ℤ → ℤ → List ℕ → Code → Type 0
IsNoElementFor kind number bytes code.Memory = Unit {0}
IsNoElementFor kind number bytes code.Operand = (e : Element) → ¬ IsTextOrPlain kind number bytes e
IsNoElementFor kind number bytes code.Shape = (kind ≡ ASM_KIND_TEXT) × ¬ IsUtf8 bytes
IsNoElementFor kind number bytes _ = ⊥

-- they mean no value
abbrev pub IsNoOperandFor : ℤ → ℤ → List ℕ → Code → Type 0
IsNoOperandFor kind number bytes code.Memory = Unit {0}
IsNoOperandFor kind number bytes code.Operand = (v : Value) → ¬ IsOperand kind number bytes v
IsNoOperandFor kind number bytes code.NotJson = IsByJson kind × IsNoJson bytes
IsNoOperandFor kind number bytes code.Shape = IsMisshapen kind bytes
IsNoOperandFor kind number bytes _ = ⊥

-- they mean no action
abbrev pub IsNoActionFor : ℤ → ℤ → ℤ → List ℕ → ℕ → Code → Type 0
IsNoActionFor verb kind number bytes amount code.Memory = Unit {0}
IsNoActionFor verb kind number bytes amount code.Operand = IsNoAction verb kind number bytes amount
IsNoActionFor verb kind number bytes amount code.NotJson = IsByJson kind × IsNoJson bytes
IsNoActionFor verb kind number bytes amount code.Shape = IsMisshapen kind bytes
IsNoActionFor verb kind number bytes amount _ = ⊥

-- one more instruction has no room in the move
abbrev pub IsNoRoomFor : Move → Code → Type 0
IsNoRoomFor old code.Memory = Unit {0}
IsNoRoomFor old code.LongMove = length old ≡ instructions_limit
IsNoRoomFor old _ = ⊥

-- there is no such action, or no room for it
abbrev pub IsNotGathered : Move → ℤ → ℤ → ℤ → List ℕ → ℕ → Code → Type 0
IsNotGathered old verb kind number bytes amount code.LongMove = length old ≡ instructions_limit
IsNotGathered old verb kind number bytes amount c = IsNoActionFor verb kind number bytes amount c

-- or there is no location, or no room for a move in the slot; that comes before all others
abbrev pub IsNotInstructed : Option Content → Option Content → ℤ → ℤ → ℤ → List ℕ → ℕ → Code → Type 0
IsNotInstructed at old verb kind number bytes amount code.Taken = ¬ HasRoomFor a_move old
IsNotInstructed at old verb kind number bytes amount code.Empty = HasRoomFor a_move old × Lacks a_location at
IsNotInstructed at old verb kind number bytes amount c =
    HasRoomFor a_move old × IsNotGathered (move_of old) verb kind number bytes amount c

-- the slot is full, or the bytes are no location
abbrev pub IsNotPrepared : Option Content → List ℕ → Code → Type 0
IsNotPrepared at bytes code.Taken = at ≢ None
IsNotPrepared at bytes c = (at ≡ None) × IsUnreadAs IsLocationForm bytes c

-- there is no other move to append, or no room for it
abbrev pub IsNotAppended : Move → Option Content → Code → Type 0
IsNotAppended old other code.Empty = ¬ HasRoomFor a_move other
IsNotAppended old other code.LongMove = HasRoomFor a_move other × (instructions_limit < length old + length (move_of other))
IsNotAppended old other code.Memory = HasRoomFor a_move other × (length old + length (move_of other) ≤ instructions_limit)
IsNotAppended old other _ = ⊥

-- or the first slot holds something else; that comes before all others
abbrev pub IsNotUnited : Option Content → Option Content → Code → Type 0
IsNotUnited old other code.Taken = ¬ HasRoomFor a_move old
IsNotUnited old other c = HasRoomFor a_move old × IsNotAppended (move_of old) other c

-- the agents are not two of one storage
abbrev pub AreNotTwo : Option Content → Option Content → Code → Type 0
AreNotTwo agent other code.Empty = Lacks an_agent agent ⊎ Lacks an_agent other
AreNotTwo agent other code.Other = Unit {0}
AreNotTwo agent other _ = ⊥
