-- The locations that a step names, gathered block by block, sorted and told apart.
use Rattle.std.proofs.Common.{◌≡◌, List, [], ◌∷◌, ◌++◌, Contains, refl, sym, ap, ◌∙◌, subst}
use Rattle.std.proofs.lemmas.List.{append_assoc}
use Rattle.std.proofs.lemmas.List.Kept.{IsStrictlySortedBy-dedup, Contains-dedup, Contains-from_dedup}
use Rattle.std.proofs.lemmas.List.Filters.{dedup_is}
use Rattle.std.proofs.lemmas.List.Sorted.{Contains-permutation, IsPermutation-sym}
use Rattle.std.specs.List.{flat_map, dedup}
use Rattle.std.specs.List.Retain.{IsFiltered, DiffersFromLast}
use Rattle.std.specs.List.Sorted.{IsPermutation, IsSorted, IsStrictlySortedBy}
use Rattle.std.specs.Cmp.{eq_by_cmp_equiv}
use Rattle.std.specs.Ordering.{eq_by_cmp}
use Rattle.asm_element.specs.Place.{Place, location_cmp, location_cmp_total, same_location}
use Rattle.asm_script.specs.StepReads.{taken, changed, named, AreReads}
use Rattle.asm_script.specs.declared.block.Block.{Block}
use Rattle.asm_script.specs.declared.step.Step.{Step}

-- what blocks name that others follow
abbrev pub gathered : List Block → List Place
gathered bs = flat_map (λ b. taken b ++ changed b) bs

-- a step names what its earlier blocks name, and what the last one's terms take
pub named-gathered : (earlier : List Block) (last : Block) →
    named (earlier ++ last ∷ []) ≡ gathered earlier ++ taken last
named-gathered [] last = refl
named-gathered (b ∷ []) last = sym (append_assoc (taken b) (changed b) (taken last))
    ∙ ap (λ (ls : List Place). ls ++ taken last) (sym (append_nil_there (taken b ++ changed b))) where
      append_nil_there : (ls : List Place) → ls ++ [] ≡ ls
      append_nil_there [] = refl
      append_nil_there (l ∷ ls) = ap (λ xs. l ∷ xs) (append_nil_there ls)
named-gathered (b ∷ c ∷ earlier) last =
    ap (λ ls. taken b ++ (changed b ++ ls)) (named-gathered (c ∷ earlier) last)
    ∙ sym (append_assoc (taken b) (changed b) (gathered (c ∷ earlier) ++ taken last))
    ∙ sym (append_assoc (taken b ++ changed b) (gathered (c ∷ earlier)) (taken last))

-- what is named, sorted and then told apart, is what is read
pub reads_from : (step : Step) (all ordered places : List Place) → all ≡ named step → IsPermutation all ordered →
    IsSorted location_cmp ordered → IsFiltered (DiffersFromLast (eq_by_cmp location_cmp)) [] ordered places →
    AreReads step places
reads_from step all ordered places is moved sorted kept = record {
  ascending =
      subst (IsStrictlySortedBy location_cmp) (sym left)
      (IsStrictlySortedBy-dedup location_cmp_total (λ x y. refl) ordered sorted);
  named = λ l. (
    λ there.
        let before = Contains-from_dedup (eq_by_cmp location_cmp) ordered l
        (subst (λ (ls : List Place). Contains ls l) left there) in
        subst (λ (ls : List Place). Contains ls l) is
        (Contains-permutation ordered all l (IsPermutation-sym all ordered moved) before),
    λ there.
        let before = Contains-permutation all ordered l moved
        (subst (λ (ls : List Place). Contains ls l) (sym is) there) in
        subst (λ (ls : List Place). Contains ls l) (sym left)
        (Contains-dedup (eq_by_cmp_equiv location_cmp_total) same_location ordered l before),
  );
} where
  left : places ≡ dedup (eq_by_cmp location_cmp) ordered
  left = dedup_is (eq_by_cmp location_cmp) ordered places kept
