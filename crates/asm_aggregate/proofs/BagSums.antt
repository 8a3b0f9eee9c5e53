-- What a list of actions adds and removes of each element, one action at a time.
use Rattle.std.proofs.Common.{◌≡◌, ℕ, ◌+◌, ◌*◌, ◌<◌, ◌^◌, Bool, true, false, cond, List, [], take}
use Rattle.std.proofs.Common.{refl, sym, ap, subst, ◌∙◌, arith, unwrap_or}
use Rattle.std.specs.Prelude.{Option, None, Some}
use Rattle.std.specs.Borrow.{Bor}
use Rattle.std.specs.Ordering.{eq_by_cmp}
use Rattle.std.specs.Cmp.{eq_by_cmp_equiv}
use Rattle.std.specs.BTreeMap as tree
use Rattle.std.specs.BTreeMap.{BTreeMap, is_at}
use Rattle.asm_element.specs.Element.{element_cmp, element_cmp_total}
use Rattle.asm_element.specs.declared.element.Element.{Element}
use Rattle.asm_update.specs.declared.action.Action.{Action}
use Rattle.asm_aggregate.specs.BagMeaning.{amount, element_of}
use Rattle.asm_aggregate.specs.Sets.{is_the}
use Rattle.asm_aggregate.specs.Sums.{ref_cmp, to, nothing, sums_at, AreSmall, IsMoreAt, AreSums}
use Rattle.asm_aggregate.specs.declared.bag_sums.Amounts.{Amounts}
use Rattle.asm_aggregate.specs.declared.side.Side.TheVariants.{Added, Removed}
use Rattle.asm_aggregate.specs.laws.BagAlgebra.{no_amount}
use Rattle.asm_aggregate.specs.laws.SetAlgebra.{same_element}
use Rattle.asm_aggregate.proofs.BagSteps.{sum_more}
use Rattle.asm_aggregate.proofs.SetSteps.{IsItem}

-- an action that isn't of the element adds and removes nothing of it
untouched : (x : Action) (e : Element) (o : Option Element) (a : Amounts) → element_of x ≡ o → is_the e o ≡ false →
    IsMoreAt x e a a
untouched x e o a of other =
    let add = no_amount Added x e (ap (is_the e) of ∙ other) in
    let remove = no_amount Removed x e (ap (is_the e) of ∙ other) in
    record {
      added = omega (arith, add);
      removed = omega (arith, remove);
      added_most = omega arith;
      removed_most = omega arith;
    }

pub none_added : (t : BTreeMap (Bor Element) Amounts) (x : Action) → element_of x ≡ None → (e : Element) →
    IsMoreAt x e (sums_at t e) (sums_at t e)
none_added t x none e = untouched x e None (sums_at t e) none refl

pub one_added : (t u : BTreeMap (Bor Element) Amounts) (x : Action) (k : Bor Element) (old new : Amounts) →
    element_of x ≡ Some k.now → old ≡ sums_at t k.now → IsMoreAt x k.now old new →
    ((q : Bor Element) → tree.get ref_cmp u q ≡ cond (is_at (ref_cmp k) q) (Some new) (tree.get ref_cmp t q)) →
    (e : Element) → IsMoreAt x e (sums_at t e) (sums_at u e)
one_added t u x k old new of was more updates e =
    subst (λ (a : Amounts). IsMoreAt x e (sums_at t e) a)
    (sym (ap (λ o. unwrap_or o nothing) (updates (to e)))) (at (eq_by_cmp element_cmp k.now e) refl) where
      at : (c : Bool) → eq_by_cmp element_cmp k.now e ≡ c →
          IsMoreAt x e (sums_at t e)
          (unwrap_or (cond (eq_by_cmp element_cmp k.now e) (Some new) (tree.get ref_cmp t (to e))) nothing)
      at true h =
          let same : k.now ≡ e = same_element k.now e h in
          subst (λ (c : Bool). IsMoreAt x e (sums_at t e) (unwrap_or (cond c (Some new) (tree.get ref_cmp t (to e))) nothing))
          (sym h)
          (subst (λ (f : Element). IsMoreAt x f (sums_at t f) new) same
          (subst (λ (a : Amounts). IsMoreAt x k.now a new) was more))
      at false h =
          subst (λ (c : Bool). IsMoreAt x e (sums_at t e) (unwrap_or (cond c (Some new) (tree.get ref_cmp t (to e))) nothing))
          (sym h)
          (untouched x e (Some k.now) (sums_at t e) of ((eq_by_cmp_equiv element_cmp_total).symm e k.now ∙ h))

-- no action
pub no_sums : (t : BTreeMap (Bor Element) Amounts) → ((q : Bor Element) → tree.get ref_cmp t q ≡ None) →
    AreSums [] 0 t
no_sums t none =
    let none_at : (e : Element) → sums_at t e ≡ nothing = λ e. ap (λ o. unwrap_or o nothing) (none (to e)) in
    record {
      added = λ e. ap (λ (a : Amounts). a.added) (none_at e);
      removed = λ e. ap (λ (a : Amounts). a.removed) (none_at e);
      added_fits = λ e. let is = ap (λ (a : Amounts). a.added) (none_at e) in omega (arith, is);
      removed_fits = λ e. let is = ap (λ (a : Amounts). a.removed) (none_at e) in omega (arith, is);
    }

-- one action more
pub sums_more : (t u : BTreeMap (Bor Element) Amounts) (xs : List Action) (i : ℕ) (x : Action) → IsItem xs i x →
    ((e : Element) → IsMoreAt x e (sums_at t e) (sums_at u e)) →
    AreSums (take i xs) (i * 4294967295) t → AreSums (take (i + 1) xs) ((i + 1) * 4294967295) u
sums_more t u xs i x item more had = record {
  added = λ e. (more e).added ∙ ap (λ n. n + amount Added e x) (had.added e)
      ∙ sym (sum_more (amount Added e) xs i x item);
  removed = λ e. (more e).removed ∙ ap (λ n. n + amount Removed e x) (had.removed e)
      ∙ sym (sum_more (amount Removed e) xs i x item);
  added_fits = λ e.
      let most = (more e).added_most in
      let before = had.added_fits e in
      omega (arith, most, before);
  removed_fits = λ e.
      let most = (more e).removed_most in
      let before = had.removed_fits e in
      omega (arith, most, before);
}

pub small_sums : (t : BTreeMap (Bor Element) Amounts) (xs : List Action) (i : ℕ) → i < 2 ^ 64 →
    AreSums xs (i * 4294967295) t → (e : Element) → AreSmall (sums_at t e)
small_sums t xs i few had e =
    let add = had.added_fits e in
    let remove = had.removed_fits e in
    record { added = omega (arith, few, add); removed = omega (arith, few, remove) }
