use Rattle.std.proofs.Common.{◌≡◌, ◌↔◌, false, List, All, Option, Some, None, IsNone, IfSome, Bor, unwrap_or, refl, sym, ap, subst, ◌∙◌}
use Rattle.std.specs.FinMap as map
use Rattle.std.specs.List.{IsAmong}
use Rattle.std.specs.Map.{values_of}
use Rattle.std.specs.Option.{option_copied}
use Rattle.std.proofs.lemmas.Bool.{false≢true}
use Rattle.asm_element.specs.Place.{location_cmp_total}
use Rattle.asm_element.specs.Value as held
use Rattle.asm_element.specs.declared.value.Value.{Value}
use Rattle.asm_element.proofs.Ordered.{get-from_tree}
use Rattle.asm_update.proofs.plain_state.PlainState.get.Goals as goal

-- where a state holds no undef, a location without an entry is one that is undef
none_from_undef : (r : Option (Bor Value)) (x : Option Value) (vs : List Value) → option_copied r ≡ x → All (λ v. held.is_undef v ≡ false) vs → IfSome r (λ b. IsAmong vs b.now) → IsNone r ↔ (unwrap_or x held.undef ≡ held.undef)
none_from_undef None x vs e all among = (λ _. ap (λ o. unwrap_or o held.undef) (sym e), λ _. refl)
none_from_undef (Some b) x vs e all among =
    let known = subst (λ v. held.is_undef v ≡ false) (sym among.1.1) (all among.0 b.now among.1.0) in
    (λ none. cc, λ undef. absurd (false≢true (sym known ∙ ap held.is_undef (ap (λ o. unwrap_or o held.undef) e ∙ undef))))

pub returns-clause-value : goal.returns-clause-value
returns-clause-value c =
    c.get.ensures.value ∙ sym (get-from_tree location_cmp_total c.self.inside.values.entries c.args.at.now)
    ∙ ap (λ s. map.get s c.args.at.now) c.self.view_is

pub returns-clause-none : goal.returns-clause-none
returns-clause-none c =
    none_from_undef c.get.result _ (values_of c.self.inside.values.entries) (returns-clause-value c) c.self.invariant.no_undef c.get.ensures.member
