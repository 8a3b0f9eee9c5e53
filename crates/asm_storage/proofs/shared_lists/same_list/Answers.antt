use Rattle.std.proofs.Common.{◌≡◌, List, ⊎_elim, ◌⊎◌}
use Rattle.std.specs.Prelude.{Result, Ok, Err}
use Rattle.std.specs.List.{AllZip}
use Rattle.std.specs.Result.{IfOk, MatchResult}
use Rattle.std.proofs.lemmas.List.Elements.{same_from_all_zip}
use Rattle.asm_storage.proofs.shared_lists.same_list.Goals as goal

-- clones that are the same make the same list
same_answer : {X E : Type 0} (R : X → X → Type 0) (Q : E → Type 0) (xs : List X) (answer : Result (List X) E) →
    ((x y : X) → R x y → y ≡ x) → MatchResult answer (λ ys. (ys ≡ xs) ⊎ AllZip R xs ys) Q →
    IfOk answer (λ ys. ys ≡ xs)
same_answer R Q xs (Ok ys) same h = ⊎_elim (λ e. e) (λ each. same_from_all_zip R xs ys each same) h
same_answer R Q xs (Err e) same h = tt

pub returns : goal.returns
returns g c = λ same. same_answer g.T.Clone.is_clone _ c.args.items.now c.clone.result same c.clone.ensures.cases
