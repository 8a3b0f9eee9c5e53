-- The effects of the call that pushes one instruction onto the step of a slot: those of an instruction that is put into
-- an empty slot, and of a push of that slot.
use Rattle.std.specs.Prelude.{◌≡◌, ◌⊎◌, ℕ, ℤ, List, [], Option, None, Some}
use Rattle.asm_update.specs.Move.{Move}
use Rattle.asm_slots.specs.Answers.{IsNotInstructed}
use Rattle.asm_slots.specs.Kinds.{IsInstructed}
use Rattle.asm_slots.specs.Slots.{Holds, a_location}
use Rattle.asm_slots.specs.StepAnswers.{DoesNotGrowBy, GrowsBy}
use Rattle.asm_slots.specs.WrittenText.{WritesNothing}
use Rattle.asm_slots.specs.declared.codes.Code.{Code}
use Rattle.asm_slots.specs.declared.content.Content.{Content}
use Rattle.asm_slots.specs.declared.content.Content.TheVariants as content
use Rattle.asm_slots.specs.declared.pushing.PushMode.TheVariants as ways

-- the slot holds a location, and the move has the one instruction that these mean there
abbrev pub IsMoveAt : Option Content → ℤ → ℤ → ℤ → List ℕ → ℕ → Move → Type 0
IsMoveAt at verb kind number bytes amount M = Holds a_location at (λ l. IsInstructed l verb kind number bytes amount [] M)

-- this move is pushed, as from a slot; only the step changes
abbrev pub PushesAt : Option Content → ℤ → ℤ → ℤ → List ℕ → ℕ → Option Content → Option Content → Option Content →
    List ℕ → List ℕ → ℕ → Type 0
PushesAt at verb kind number bytes amount agent step after out out_after written =
    (M : Move) × IsMoveAt at verb kind number bytes amount M
    × GrowsBy ways.Push (Some (content.Move M)) agent step after out out_after written

-- an empty slot would get no such move, and nothing changes; or the move isn't pushed, as from a slot
abbrev pub DoesNotPushAt : Option Content → ℤ → ℤ → ℤ → List ℕ → ℕ → Option Content → Option Content → Option Content →
    List ℕ → List ℕ → ℕ → Code → Type 0
DoesNotPushAt at verb kind number bytes amount agent step after out out_after written c =
    ((after ≡ step) × WritesNothing out out_after written × IsNotInstructed at None verb kind number bytes amount c)
    ⊎ ((M : Move) × IsMoveAt at verb kind number bytes amount M
    × DoesNotGrowBy ways.Push (Some (content.Move M)) agent step after out out_after written c)
