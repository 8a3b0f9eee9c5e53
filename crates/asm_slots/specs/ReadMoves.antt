-- The instruction at a place of a move, as a call returns it.
use Rattle.std.specs.Prelude.{◌≡◌, ◌≤◌, ◌++◌, ℕ, List, length, slice_get, IsSomeAnd, Option, pos}
use Rattle.serde_json.specs.Written.{compact_text}
use Rattle.asm_element.specs.Place.{Place}
use Rattle.asm_update.specs.Action.{content_of}
use Rattle.asm_update.specs.Move.{Move}
use Rattle.asm_update.specs.declared.action.Instruction.{Instruction}
use Rattle.asm_journal.specs.Element.{location_json_of}
use Rattle.asm_slots.specs.Answers.{EmptyOr}
use Rattle.asm_slots.specs.Kinds.{IsAmount, bytes_of, kind_of, number_of, verb_of}
use Rattle.asm_slots.specs.Slots.{Holds, Lacks, a_move}
use Rattle.asm_slots.specs.WrittenText.{HasNoText, HasText}
use Rattle.asm_slots.specs.declared.codes.Code.{Code}
use Rattle.asm_slots.specs.declared.codes.Code.TheVariants as code
use Rattle.asm_slots.specs.declared.content.Content.{Content}
use Rattle.asm_slots.specs.declared.reading_moves.InstructionHead.{InstructionHead}

-- LOC
abbrev pub place_text : Place → List ℕ
place_text l = compact_text (location_json_of l)

-- LOC, and behind it the bytes of the operand
abbrev pub instruction_text : Instruction → List ℕ
instruction_text i = place_text i.at ++ bytes_of (content_of i.action)

-- verb, amount, kind and number are those of the instruction, and its text begins with a location of so many bytes
abbrev pub IsHeadOf : Instruction → InstructionHead → Type 0
IsHeadOf i head =
    (head.verb ≡ verb_of i.action) × IsAmount i.action head.amount × (head.kind ≡ kind_of (content_of i.action))
    × (head.number ≡ number_of (content_of i.action)) × (head.place ≡ length (place_text i.at))

-- head and text are those of the instruction
abbrev pub IsInstructionBy : Instruction → InstructionHead → List ℕ → Type 0
IsInstructionBy i head text = IsHeadOf i head × (text ≡ instruction_text i)

-- everything in it is 0
abbrev pub IsNoHead : InstructionHead → Type 0
IsNoHead head = (head.verb ≡ pos 0) × (head.amount ≡ 0) × (head.kind ≡ pos 0) × (head.number ≡ pos 0) × (head.place ≡ 0)

-- the move has an instruction at this place, counted from 0, with this property
abbrev pub HasAt : ℕ → Move → (Instruction → Type 0) → Type 0
HasAt number M P = IsSomeAnd (slice_get M number) P

-- it has none there, or memory was refused
abbrev pub IsNoneAt : ℕ → Move → Code → Type 0
IsNoneAt number M code.Memory = Unit {0}
IsNoneAt number M code.NoInstruction = length M ≤ number
IsNoneAt number M _ = ⊥

-- the instruction at this place of the move is reported
abbrev pub ReadsAt : ℕ → Option Content → InstructionHead → List ℕ → List ℕ → ℕ → Type 0
ReadsAt number move head = HasText (λ text. Holds a_move move (λ M. HasAt number M (λ i. IsInstructionBy i head text)))

-- the slot holds no move, or none is there, or its text is too long
abbrev pub DoesNotReadAt : ℕ → Option Content → List ℕ → List ℕ → ℕ → Code → Type 0
DoesNotReadAt number move =
    HasNoText (λ text. Holds a_move move (λ M. HasAt number M (λ i. text ≡ instruction_text i)))
    (EmptyOr (Lacks a_move move) (λ c. Holds a_move move (λ M. IsNoneAt number M c)))
