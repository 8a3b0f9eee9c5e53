-- The tables of bags, from what the calls on the way to them tell.
use Rattle.std.proofs.Common.{◌≡◌, ◌+◌, Bool, true, false, cond, not, List, ◌++◌, refl, sym, ap, ◌∙◌}
use Rattle.std.specs.Prelude.{Result, Ok, Err, Option, None, Some, unwrap_or, is_some}
use Rattle.std.specs.Borrow.{Bor}
use Rattle.std.specs.Option.{option_copied}
use Rattle.std.specs.List.{list_any, list_all}
use Rattle.std.specs.declared.alloc.Global.{Global}
use Rattle.std.specs.declared.vec.Vec.{Vec}
use Rattle.asm_element.specs.declared.element.Element.{Element}
use Rattle.asm_element.specs.declared.value.Value.{Value}
use Rattle.asm_element.specs.declared.value.Value.TheVariants as values
use Rattle.asm_element.specs.Bag.{ElementBag, count}
use Rattle.asm_element.specs.Bag as bag
use Rattle.asm_update.specs.Aggregator.{Joined, Refused, TooLarge, IsOutcome, IsJoined}
use Rattle.asm_update.specs.Action.{is_of}
use Rattle.asm_update.specs.Fire.{GroupResult}
use Rattle.asm_update.specs.declared.action.Action.{Action}
use Rattle.asm_update.specs.declared.action.Family.TheVariants.{Bag}
use Rattle.asm_update.specs.declared.clash.Cause.TheVariants.{Mixed, Kind, Against, Short, Large}
use Rattle.asm_update.specs.declared.error.JoinError.{JoinError}
use Rattle.asm_update.specs.declared.error.ResultError.{ResultError}
use Rattle.asm_aggregate.specs.Families.{is_kind}
use Rattle.asm_aggregate.specs.Steps.{IsMoreBy, IsShort, IsAbove, AreActions}
use Rattle.asm_aggregate.specs.BagMeaning.{counts, amount_in, named, joined_amount, is_either_large, bag_actions}
use Rattle.asm_aggregate.specs.BagMeaning.{renewed, large, tabled}
use Rattle.asm_aggregate.specs.BagMeaning.{bag_result, bag_joins}
use Rattle.asm_aggregate.specs.declared.side.Side.TheVariants.{Added, Removed}
use Rattle.asm_aggregate.specs.laws.BagAlgebra.{small_bag}
use Rattle.asm_aggregate.proofs.BagSteps.{is_short, not_short, is_above, result_is}
use Rattle.asm_aggregate.proofs.Exits.{short_outcome, above_outcome, large_join}

abbrev result_by : Bool → Value → Bool → List Action → GroupResult
result_by all base alone partials =
    cond (not all) (Err Mixed) (cond (not (is_kind Bag base)) (Err Kind) (cond alone (Err Against)
    (tabled (counts base) partials)))

-- a group without a regular value, on a bag; the group's partials are also known by another name
pub record IsOnBag (old : Value) (regular : Option Value) (partials ps : List Action) (b : ElementBag) : Type 0 where
  pub same : ps ≡ partials
  pub all : list_all (is_of Bag) ps ≡ true
  pub base : unwrap_or regular old ≡ values.Bag b
  pub alone : is_some regular ≡ false
  pub proper : bag.IsProper b

module _ (old : Value) (regular : Option Value) (partials ps : List Action) (b : ElementBag)
    (on : IsOnBag old regular partials ps b) where
  on_bag : bag_result old regular partials ≡ tabled b ps
  on_bag = ap (bag_result old regular) (sym on.same) ∙ (λ i. result_by (on.all i) (on.base i) (on.alone i) ps)

  pub short_result : (error : ResultError) → IsShort (count b) (amount_in Removed ps) error →
      IsOutcome (Err error) (bag_result old regular partials)
  short_result error h =
      short_outcome (count b) (amount_in Removed ps) error (bag_result old regular partials)
      (λ less. on_bag ∙ ap (λ s. cond s (Err Short) (cond (large b ps) (Err Large) (Ok (values.Bag (renewed b ps)))))
      (is_short b ps less)) h

  module _ (rest : ElementBag) (taken : IsMoreBy (count rest) (count b) (amount_in Removed ps)) where
    pub large_result : (error : ResultError) → IsAbove (λ e. count rest e + amount_in Added ps e) error →
        IsOutcome (Err error) (bag_result old regular partials)
    large_result error h =
        above_outcome (λ e. count rest e + amount_in Added ps e) error (bag_result old regular partials)
        (λ above. on_bag
        ∙ (λ i. cond (not_short b rest ps taken i) (Err Short)
        (cond (is_above b rest ps (small_bag b on.proper.1) taken above i) (Err Large)
        (Ok (values.Bag (renewed b ps)))))) h

    pub bag_answer : (last : ElementBag) → bag.IsProper last →
        IsMoreBy (count rest) (count last) (amount_in Added ps) →
        bag_result old regular partials ≡ Ok (values.Bag last)
    bag_answer last proper put =
        on_bag ∙ result_is b rest last ps (small_bag b on.proper.1) (small_bag last proper.1) taken put

pub copied_some : (r : Option (Bor Value)) → is_some (option_copied r) ≡ is_some r
copied_some None = refl
copied_some (Some v) = refl

-- joins
abbrev joined_by : Bool → Bool → Bool → List Action → Joined
joined_by one other large actions =
    cond (not one) (Err (Refused Mixed)) (cond (not other) (Err (Refused Mixed)) (cond large (Err TooLarge)
    (Ok actions)))

pub record AreOfBags (first second : List Action) : Type 0 where
  pub one : list_all (is_of Bag) first ≡ true
  pub other : list_all (is_of Bag) second ≡ true

joined_is : (first second : List Action) (large : Bool) → AreOfBags first second →
    list_any (is_either_large (joined_amount first second)) (named (first ++ second)) ≡ large →
    bag_joins first second
    ≡ joined_by true true large (bag_actions (joined_amount first second) (named (first ++ second)))
joined_is first second large bags h =
    λ i. joined_by (bags.one i) (bags.other i) (h i)
    (bag_actions (joined_amount first second) (named (first ++ second)))

-- what the actions of the elements that both name are answered for
pub joined_answer : (first second : List Action) (es : List Element) (answer : Result (Vec Action Global) JoinError) →
    AreOfBags first second → es ≡ named (first ++ second) → AreActions (joined_amount first second) es answer →
    IsJoined answer (bag_joins first second)
joined_answer first second es (Ok list) bags is h =
    joined_is first second false bags (ap (list_any (is_either_large (joined_amount first second))) (sym is) ∙ h.0)
    ∙ ap Ok (ap (bag_actions (joined_amount first second)) (sym is) ∙ sym h.1)
joined_answer first second es (Err error) bags is h =
    large_join (list_any (is_either_large (joined_amount first second)) es) error (bag_joins first second)
    (λ k. joined_is first second true bags
    (ap (list_any (is_either_large (joined_amount first second))) (sym is) ∙ k)) h
