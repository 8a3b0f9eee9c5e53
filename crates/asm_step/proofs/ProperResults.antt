-- What well-formed updates leave of a well-formed value is well-formed.
use Rattle.std.proofs.Common.{◌≡◌, Bool, true, false, cond, List, [], ◌∷◌, refl, sym, subst, Option, Some, None, Ok, Err}
use Rattle.std.specs.List.{filter, filter_map}
use Rattle.std.proofs.lemmas.Option.{same_Some}
use Rattle.std.proofs.lemmas.List.Elements.{All-nil, All-cons, All-head, All-tail}
use Rattle.asm_element.specs.Tests.{ok_is}
use Rattle.asm_element.specs.Value as value
use Rattle.asm_element.specs.declared.value.Value.{Value}
use Rattle.asm_update.specs.Action.{AllProper, IsProper, is_partial, regular_value}
use Rattle.asm_update.specs.Aggregator.{Meaning, AggregatorLaws}
use Rattle.asm_update.specs.Fire.{res, group_result, first}
use Rattle.asm_update.specs.Move.{are_different}
use Rattle.asm_update.specs.declared.action.Action.{Action}
use Rattle.asm_update.specs.declared.clash.Cause.TheVariants.{Two}
use Rattle.asm_update.proofs.ActionLemmas.{IsRegular, IsPartial, kinds}
use Rattle.asm_aggregate.specs.Compose.{gives}

first_proper : (G : List Action) → AllProper G → (v : Value) → first (filter_map regular_value G) ≡ Some v →
    value.IsProper v
first_proper [] h v is = absurd cc
first_proper (a ∷ G) h v is = elim (kinds a) [
  | IsRegular u e ↦
      let found = rw e at is in
      subst value.IsProper (same_Some u v found) (subst IsProper e (All-head IsProper a G h))
  | IsPartial p n ↦ let found = rw n at is in first_proper G (All-tail IsProper a G h) v found
]

partials_proper : (G : List Action) → AllProper G → AllProper (filter is_partial G)
partials_proper [] h = All-nil IsProper
partials_proper (x ∷ G) h = by_test (is_partial x) (partials_proper G (All-tail IsProper x G h)) where
  by_test : (b : Bool) → AllProper (filter is_partial G) →
      AllProper (cond b (x ∷ filter is_partial G) (filter is_partial G))
  by_test true later = All-cons IsProper x (filter is_partial G) (All-head IsProper x G h) later
  by_test false later = later

module _ {a : Meaning} (laws : AggregatorLaws a) where
  group_proper : (old w : Value) (r : Option Value) (ps : List Action) → value.IsProper old →
      ((v : Value) → r ≡ Some v → value.IsProper v) → AllProper ps → group_result a.part old r ps ≡ Ok w →
      value.IsProper w
  group_proper old w (Some v) [] po pr pp is = subst value.IsProper (ok_is v w is) (pr v refl)
  group_proper old w (Some v) (p ∷ ps) po pr pp is =
      subst value.IsProper (sym (laws.regular_result old v w (p ∷ ps) is)) (pr v refl)
  group_proper old w None ps po pr pp is = laws.proper_kept old w ps po pp is

  result_proper : (old w : Value) (G : List Action) → value.IsProper old → AllProper G → res a.part old G ≡ Ok w →
      value.IsProper w
  result_proper old w G po pg is = by_test (are_different (filter_map regular_value G)) is where
    by_test : (b : Bool) →
        cond b (Err Two) (group_result a.part old (first (filter_map regular_value G)) (filter is_partial G)) ≡ Ok w →
        value.IsProper w
    by_test true is = absurd cc
    by_test false is =
        group_proper old w (first (filter_map regular_value G)) (filter is_partial G) po (first_proper G pg)
        (partials_proper G pg) is

  -- so is what no updates leave
  pub proper_given : (v w : Value) (G : List Action) → value.IsProper v → AllProper G → gives a.part v G ≡ Ok w →
      value.IsProper w
  proper_given v w [] pv pg is = subst value.IsProper (ok_is v w is) pv
  proper_given v w (x ∷ xs) pv pg is = result_proper v w (x ∷ xs) pv pg is
