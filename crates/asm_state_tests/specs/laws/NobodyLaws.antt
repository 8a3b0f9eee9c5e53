-- The aggregator that owns no family keeps the laws.
use Rattle.std.proofs.Common.{◌≡◌, ◌≢◌, ◌++◌, [], ◌∷◌, List, refl}
use Rattle.std.specs.Prelude.{Ok, Err}
use Rattle.asm_element.specs.Value as value
use Rattle.asm_element.specs.declared.value.Value.{Value}
use Rattle.asm_update.specs.Action.{AllProper}
use Rattle.asm_update.specs.Aggregator.{AggregatorLaws, NoJoin, after}
use Rattle.asm_update.specs.declared.action.Action.{Action}
use Rattle.asm_state_tests.specs.Nobody.{nobody_meaning}
use Rattle.asm_aggregate.specs.laws.PairLaws.{err_not_ok}

no_results : (v w x : Value) (first second : List Action) (refusal : NoJoin) → value.IsProper v → AllProper first →
    AllProper second → first ++ second ≢ [] → nobody_meaning.joins first second ≡ Err refusal →
    after nobody_meaning v first ≡ Ok w → after nobody_meaning w second ≢ Ok x
no_results v w x [] [] refusal pv p1 p2 ne join h k = ne refl
no_results v w x [] (y ∷ ys) refusal pv p1 p2 ne join h k = err_not_ok _ _ k
no_results v w x (z ∷ zs) second refusal pv p1 p2 ne join h k = err_not_ok _ _ h

pub nobody_laws : AggregatorLaws nobody_meaning
nobody_laws = record {
  any_order = λ _ _ _ _ _. refl;
  mixed = λ _ _ _ _. refl;
  join_is_sequence = λ _ _ _ _ _ _ _ _ _ join _. absurd (err_not_ok _ _ join);
  refused_join = no_results;
  regular_result = λ _ _ _ _ h. absurd (err_not_ok _ _ h);
  regular_decides = λ _ _ _ _. refl;
  kind_kept = λ _ _ _ _ _ _ _ h. absurd (err_not_ok _ _ h);
  proper_kept = λ _ _ _ _ _ h. absurd (err_not_ok _ _ h);
  join_is_partial = λ _ _ _ h. absurd (err_not_ok _ _ h);
  join_family = λ _ _ _ _ h _. absurd (err_not_ok _ _ h);
}
