-- What moves in turn give at one location, and that those that give the same at each leave the same.
use Rattle.std.proofs.Common.{◌≡◌, ◌∙◌, List, [], ◌∷◌, ◌++◌, All, Result, Ok, Err, IsOk, refl, ap, subst, sym}
use Rattle.std.proofs.lemmas.List.Elements.{All-head, All-tail}
use Rattle.asm_aggregate.specs.Compose.{gives}
use Rattle.asm_aggregate.proofs.Sequence.{HoldsStored, fired_stored, proper_actions}
use Rattle.asm_element.specs.Place.{Place}
use Rattle.asm_element.specs.Tests.{ok_is}
use Rattle.asm_element.specs.Value as value
use Rattle.asm_element.specs.declared.value.Value.{Value}
use Rattle.asm_step.proofs.ProperResults.{proper_given}
use Rattle.asm_step.proofs.Standing.{all_fire_if, column_fired, err_stays}
use Rattle.asm_step.specs.Dependencies.{left_by}
use Rattle.asm_step.specs.InTurn.{fire_all, in_column, then_gives}
use Rattle.asm_update.proofs.FireLemmas.{same_state, stored}
use Rattle.asm_update.specs.Action.{IsProperInstruction}
use Rattle.asm_update.specs.Aggregator.{AggregatorLaws, Meaning}
use Rattle.asm_update.specs.Fire.{GroupResult, Part, fire}
use Rattle.asm_update.specs.Move.{Move, actions_at}
use Rattle.asm_update.specs.State.{State, val}
use Rattle.asm_update.specs.declared.clash.Cause.{Cause}
use Rattle.asm_update.specs.declared.clash.Clash.{Clash}

pub column_both : (part : Part) (r : GroupResult) (Ms Ns : List Move) (l : Place) →
    in_column part r (Ms ++ Ns) l ≡ in_column part (in_column part r Ms l) Ns l
column_both part r [] Ns l = refl
column_both part r (M ∷ Ms) Ns l = column_both part (then_gives part r (actions_at M l)) Ms Ns l

-- a cause stays
pub column_err : (part : Part) (cause : Cause) (Ms : List Move) (l : Place) → in_column part (Err cause) Ms l ≡ Err cause
column_err part cause [] l = refl
column_err part cause (M ∷ Ms) l = column_err part cause Ms l

-- ---- well-formed values

module _ {a : Meaning} (laws : AggregatorLaws a) where
  -- what well-formed moves give on a well-formed value is well-formed
  pub proper_column : (v w : Value) (Ms : List Move) (l : Place) → value.IsProper v → All (All IsProperInstruction) Ms →
      in_column a.part (Ok v) Ms l ≡ Ok w → value.IsProper w
  proper_column v w [] l pv pm is = subst value.IsProper (ok_is v w is) pv
  proper_column v w (M ∷ Ms) l pv pm is =
      by_answer (gives a.part v (actions_at M l)) refl is
      (λ u pu rest. proper_column u w Ms l pu (All-tail (All IsProperInstruction) M Ms pm) rest) where
        by_answer : (r : GroupResult) → gives a.part v (actions_at M l) ≡ r → in_column a.part r Ms l ≡ Ok w →
            ((u : Value) → value.IsProper u → in_column a.part (Ok u) Ms l ≡ Ok w → value.IsProper w) → value.IsProper w
        by_answer (Ok u) gave rest later =
            later u (proper_given laws v u (actions_at M l) pv (proper_actions M l (All-head (All IsProperInstruction) M Ms pm)) gave) rest
        by_answer (Err cause) gave rest later =
            let no : Err cause ≡ Ok w = sym (column_err a.part cause Ms l) ∙ rest in absurd cc

-- ---- states

module _ (part : Part) where
  -- what is left of a state that holds no undef holds none
  all_stored : (A B : State) (Ms : List Move) → HoldsStored A → fire_all part (Ok A) Ms ≡ Ok B → HoldsStored B
  all_stored A B [] holds is = subst HoldsStored (ok_is A B is) holds
  all_stored A B (M ∷ Ms) holds is = by_answer (fire part A M) refl is (λ C held rest. all_stored C B Ms held rest) where
    by_answer : (r : Result State Clash) → fire part A M ≡ r → fire_all part r Ms ≡ Ok B →
        ((C : State) → HoldsStored C → fire_all part (Ok C) Ms ≡ Ok B → HoldsStored B) → HoldsStored B
    by_answer (Ok C) fired rest later = later C (fired_stored part A C M holds fired) rest
    by_answer (Err c) fired rest later = let no : Err c ≡ Ok B = sym (err_stays part c Ms) ∙ rest in absurd cc

  module _ (A : State) (Ms Ns : List Move) (holds : HoldsStored A)
      (same : (l : Place) → in_column part (Ok (val A l)) Ms l ≡ in_column part (Ok (val A l)) Ns l) where
    -- they fire in turn where the others do
    also_fires : (B : State) → fire_all part (Ok A) Ms ≡ Ok B → (C : State) × (fire_all part (Ok A) Ns ≡ Ok C)
    also_fires B fired =
        all_fire_if part A Ns (λ l. subst IsOk (sym (column_fired part A B Ms l fired) ∙ same l) refl)

    one_left : (B C : State) → fire_all part (Ok A) Ms ≡ Ok B → fire_all part (Ok A) Ns ≡ Ok C → B ≡ C
    one_left B C there here = same_state B C (λ l.
        all_stored A B Ms holds there l
        ∙ ap stored (ok_is (val B l) (val C l) (sym (column_fired part A B Ms l there) ∙ same l ∙ column_fired part A C Ns l here))
        ∙ sym (all_stored A C Ns holds here l))

-- moves that give the same at each location leave the same
pub same_left : (part : Part) (A : State) (Ms Ns : List Move) → HoldsStored A →
    ((l : Place) → in_column part (Ok (val A l)) Ms l ≡ in_column part (Ok (val A l)) Ns l) →
    left_by (fire_all part (Ok A) Ms) ≡ left_by (fire_all part (Ok A) Ns)
same_left part A Ms Ns holds same = by_answers (fire_all part (Ok A) Ms) (fire_all part (Ok A) Ns) refl refl where
  by_answers : (r s : Result State Clash) → fire_all part (Ok A) Ms ≡ r → fire_all part (Ok A) Ns ≡ s → left_by r ≡ left_by s
  by_answers (Ok B) (Ok C) there here = ap (λ (S : State). left_by (Ok S)) (one_left part A Ms Ns holds same B C there here)
  by_answers (Ok B) (Err c) there here =
      let also = also_fires part A Ms Ns holds same B there in
      let no : Err c ≡ Ok also.0 = sym here ∙ also.1 in absurd cc
  by_answers (Err c) (Ok C) there here =
      let also = also_fires part A Ns Ms holds (λ l. sym (same l)) C here in
      let no : Err c ≡ Ok also.0 = sym there ∙ also.1 in absurd cc
  by_answers (Err c) (Err d) there here = refl
