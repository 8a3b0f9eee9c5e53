-- How many bytes the spelled parts of a fire have, where each of its operands is short.
use Rattle.std.proofs.Common.{◌≡◌, ◌≤◌, ◌+◌, ◌*◌, ◌∷◌, [], ℕ, suc, List, map, length, ap, arith}
use Rattle.std.specs.Prelude.{All, nat_le, true}
use Rattle.std.proofs.lemmas.Bool.{leb-true}
use Rattle.std.proofs.lemmas.List.Elements.{All-head, All-tail}
use Rattle.serde_json.specs.Data.{Data}
use Rattle.asm_element.specs.Place.{Place, is_name}
use Rattle.asm_element.specs.Tests.{both}
use Rattle.asm_element.specs.declared.element.Element.{Element}
use Rattle.asm_state.specs.declared.named.Named.{Named}
use Rattle.asm_update.specs.Move.{Move}
use Rattle.asm_update.specs.declared.action.Action.{Action}
use Rattle.asm_update.specs.declared.action.Instruction.{Instruction}
use Rattle.asm_journal.specs.Element.{element_json_of, location_json_of}
use Rattle.asm_journal.specs.Event.{named_json_of}
use Rattle.asm_journal.specs.Instruction.{instruction_json_of, operands_of}
use Rattle.asm_slots.specs.LongLines.{IsLongFire, spelled, spelled_list}
use Rattle.asm_slots.specs.LongLines.{short_element, short_instruction, short_operands, short_place, short_read}
use Rattle.asm_slots.proofs.LineRooms.{fire_short, place_is, quoted_short}

-- a list of short items
pub list_of_short : {X : Type 0} (f : X → Data) (most : ℕ) (xs : List X) → All (λ (x : X). spelled (f x) ≤ most) xs →
    spelled_list (map f xs) ≤ length xs * (most + 1)
list_of_short f most [] all = omega arith
list_of_short {X = X} f most (x ∷ xs) all =
    let short = λ (x : X). spelled (f x) ≤ most in
    counted (spelled (f x)) (spelled_list (map f xs)) (length xs) most (All-head short x xs all)
    (list_of_short f most xs (All-tail short x xs all)) where
      counted : (a b n most : ℕ) → a ≤ most → b ≤ n * (most + 1) → a + 1 + b ≤ suc n * (most + 1)
      counted a b n most first rest = omega (arith, first, rest)

-- a name has at most 64 bytes
name_of_short : (name : List ℕ) → is_name name ≡ true → length name ≤ 64
name_of_short [] h = omega arith
name_of_short (b ∷ bs) h = leb-true (length (b ∷ bs)) 64 (both (nat_le (length (b ∷ bs)) 64) _ h).0

pub place_of_short : (p : Place) → is_name p.name ≡ true → length p.args ≤ 8 → All (λ (e : Element). spelled (element_json_of e) ≤ short_element) p.args →
    spelled (location_json_of p) ≤ short_place
place_of_short p name few all =
    omega (arith, place_is p, quoted_short p.name, name_of_short p.name name, list_of_short element_json_of short_element p.args all, few)

pub one_short_operand : (a : Action) (d : Data) → operands_of a ≡ d ∷ [] → spelled d ≤ short_element → spelled_list (operands_of a) ≤ short_operands
one_short_operand a d is short =
    let all : spelled_list (operands_of a) ≡ spelled d + 1 + 0 = ap spelled_list is in omega (arith, all, short)

pub two_short_operands : (a : Action) (d e : Data) → operands_of a ≡ d ∷ e ∷ [] → spelled d + spelled e ≤ short_element + 10 →
    spelled_list (operands_of a) ≤ short_operands
two_short_operands a d e is short =
    let all : spelled_list (operands_of a) ≡ spelled d + 1 + (spelled e + 1 + 0) = ap spelled_list is in omega (arith, all, short)

pub fire_of_short : (reads : List Named) (M : Move) → length reads ≤ 256 → length M ≤ 4096 →
    All (λ (r : Named). spelled (named_json_of r) ≤ short_read) reads → All (λ (i : Instruction). spelled (instruction_json_of i) ≤ short_instruction) M → ¬ IsLongFire reads M
fire_of_short reads M few small all_reads all_instrs =
    let x = list_of_short instruction_json_of short_instruction M all_instrs in
    let y = list_of_short named_json_of short_read reads all_reads in
    fire_short reads M 536870852 0 (omega arith) (omega (arith, x, y, few, small))
