-- A shared list, of which an owner of its own is written, and one instruction alone.
use Rattle.std.proofs.Common.{◌≡◌, ◌<◌, ◌≤◌, ◌++◌, ◌∙◌, ◌∷◌, [], ⊎_elim, ◌⊎◌, List, All, length, length-append, sym, subst, arith}
use Rattle.std.proofs.lemmas.List.Elements.{All-cons, All-head, All-push}
use Rattle.std.specs.Arc.{arc_value}
use Rattle.std.specs.List.{AllZip, each_same}
use Rattle.std.specs.Vec.{vec_len}
use Rattle.std.specs.declared.vec.Vec.{Vec}
use Rattle.std.specs.declared.alloc.Global.{Global}
use Rattle.std.specs.declared.sync.Arc.{Arc}
use Rattle.asm_update.specs.Action.{IsProperInstruction}
use Rattle.asm_update.specs.Limits.{instructions_limit}
use Rattle.asm_update.specs.Shared.{held_items}
use Rattle.asm_update.specs.declared.action.Instruction.{Instruction}
use Rattle.asm_update.specs.declared.instructions.Held.{Held}
use Rattle.asm_update.specs.declared.instructions.Held.TheVariants.{One, Many}

-- a list, or its clone, has the same items
pub same_items : (v w : Vec Instruction Global) →
    (w ≡ v) ⊎ (AllZip (λ (x y : Instruction). y ≡ x) v.items w.items × (vec_len w ≡ vec_len v)) → w.items ≡ v.items
same_items v w = ⊎_elim (λ same i. (same i).items) (λ clone. each_same v.items w.items clone.0)

-- what was shared, is written back as it was
pub kept : (shared own left back : Vec Instruction Global) → back ≡ left → left.items ≡ own.items →
    own.items ≡ shared.items → back.items ≡ shared.items
kept shared own left back wrote same copied = (λ i. (wrote i).items) ∙ same ∙ copied

-- or with more behind it
pub grown : (shared own left back : Vec Instruction Global) (more : List Instruction) → back ≡ left →
    left.items ≡ own.items ++ more → own.items ≡ shared.items → back.items ≡ shared.items ++ more
grown shared own left back more wrote pushed copied = (λ i. (wrote i).items) ∙ pushed ∙ (λ i. copied i ++ more)

-- one instruction alone is the move of the list that has it and no other
pub alone_or_listed : (one : Arc Instruction Global) (list : Arc (Vec Instruction Global) Global) →
    (arc_value list).items ≡ arc_value one ∷ [] → held_items (One one) ≡ held_items (Many list)
alone_or_listed one list same = sym same

-- what is held is a move's: not too many instructions, each well-formed
abbrev pub Fits : Held → Type 0
Fits held = (length (held_items held) ≤ instructions_limit) × All IsProperInstruction (held_items held)

-- one instruction and more behind it are, if there is room
pub more_fit : (one : Arc Instruction Global) (more : List Instruction) (held : Held) → Fits (One one) →
    length more < instructions_limit → All IsProperInstruction more → held_items held ≡ arc_value one ∷ more → Fits held
more_fit one more held fits few proper is =
    let first = All-head IsProperInstruction (arc_value one) [] fits.1 in
    subst (λ (m : List Instruction). (length m ≤ instructions_limit) × All IsProperInstruction m) (sym is)
    (omega (arith, few), All-cons IsProperInstruction (arc_value one) more first proper)

-- so is a list with one instruction more
pub longer_fits : (old new : List Instruction) (x : Instruction) → length old < instructions_limit →
    All IsProperInstruction old → IsProperInstruction x → new ≡ old ++ x ∷ [] →
    (length new ≤ instructions_limit) × All IsProperInstruction new
longer_fits old new x few proper here is =
    subst (λ (m : List Instruction). (length m ≤ instructions_limit) × All IsProperInstruction m) (sym is)
    (omega (arith, few, length-append old (x ∷ [])), All-push IsProperInstruction old x proper here)
