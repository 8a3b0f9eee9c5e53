-- Values, and pairs of a location and its value: what reading finds, and that JSON is the form of at most one.
use Rattle.std.proofs.Common.{codes, ◌≡◌, List, map, Option, Some, None, refl, sym, ap, ap₂, subst, ◌∙◌, arith}
use Rattle.std.specs.Prelude.{option_map, MatchOption, IsSomeAnd}
use Rattle.serde_json.specs.Data.{Data}
use Rattle.asm_element.specs.Place.{Place}
use Rattle.asm_element.specs.Set as set
use Rattle.asm_element.specs.Bag as bag
use Rattle.asm_element.specs.declared.element.Element.{Element}
use Rattle.asm_element.specs.declared.element.Element.TheVariants as elements
use Rattle.asm_element.specs.declared.value.Value.{Value}
use Rattle.asm_element.specs.declared.value.Value.TheVariants as values
use Rattle.asm_journal.specs.declared.form.state.StatePair.{StatePair}
use Rattle.asm_journal.specs.Shape.{IsParsed, IsListForm, one_of}
use Rattle.asm_journal.specs.Element.{element_json_of, IsLocationForm}
use Rattle.asm_journal.specs.Set.{IsSetForm, IsBagForm}
use Rattle.asm_journal.specs.Value.{IsValueForm, IsPairForm}
use Rattle.asm_journal.proofs.Words.{measure}
use Rattle.asm_journal.proofs.Arrays.{IsOnce, same_one, same_key, same_pair}
use Rattle.asm_journal.proofs.Elements.{element_once, location_once, set_once, bag_once, no_list_seen}

no_element : (x : Element) (key : List _) (a : Data) → (codes "list" ≡ key → ⊥) → element_json_of x ≡ one_of key a → ⊥
no_element elements.Undef key a other e = absurd cc
no_element (elements.Bool b) key a other e = absurd cc
no_element (elements.Num z) key a other e = absurd cc
no_element (elements.Text s) key a other e = absurd cc
no_element (elements.List ds) key a other e = other (same_key _ _ _ _ e)

not_list_set : codes "list" ≡ codes "set" → ⊥
unfolding measure
not_list_set e = absurd (omega (arith, ap measure e))

not_list_bag : codes "list" ≡ codes "bag" → ⊥
unfolding measure
not_list_bag e = absurd (omega (arith, ap measure e))

not_both : (a b : Data) → one_of (codes "set") a ≡ one_of (codes "bag") b → ⊥
unfolding measure
not_both a b e = absurd (omega (arith, ap measure (same_key _ _ _ _ e)))

pub value_once : IsOnce IsValueForm
value_once (values.Plain x) (values.Plain y) d h k = ap values.Plain (element_once x y d h k)
value_once (values.Plain x) (values.Set t) d h k = absurd (no_element x _ _ not_list_set (sym h.1 ∙ k.1))
value_once (values.Plain x) (values.Bag c) d h k = absurd (no_element x _ _ not_list_bag (sym h.1 ∙ k.1))
value_once (values.Set s) (values.Plain y) d h k = absurd (no_element y _ _ not_list_set (sym k.1 ∙ h.1))
value_once (values.Set s) (values.Set t) d h k =
    ap values.Set (set_once s t k.0 (subst (IsSetForm s) (same_one _ _ _ (sym h.1 ∙ k.1)) h.2) k.2)
value_once (values.Set s) (values.Bag c) d h k = absurd (not_both _ _ (sym h.1 ∙ k.1))
value_once (values.Bag b) (values.Plain y) d h k = absurd (no_element y _ _ not_list_bag (sym k.1 ∙ h.1))
value_once (values.Bag b) (values.Set t) d h k = absurd (not_both _ _ (sym k.1 ∙ h.1))
value_once (values.Bag b) (values.Bag c) d h k =
    ap values.Bag (bag_once b c k.0 (subst (IsBagForm b) (same_one _ _ _ (sym h.1 ∙ k.1)) h.2) k.2)

pub pair_once : IsOnce IsPairForm
pair_once p q d h k =
    let parts = same_pair _ _ _ _ (sym h.2 ∙ k.2) in
    let at = location_once p.0 q.0 k.0 (subst (IsLocationForm p.0) parts.0 h.3) k.3 in
    let value = value_once p.1 q.1 k.1 (subst (IsValueForm p.1) parts.1 h.4) k.4 in
    ap₂ (λ l v. (l, v)) at value

-- ---- reading

-- what `map` leaves of an option
pub mapped : {X Y : Type 0} (f : X → Y) (o : Option X) (r : Option Y) → MatchOption o (r ≡ None) (λ x. IsSomeAnd r (λ y. y ≡ f x)) → option_map f o ≡ r
mapped f None r h = sym h
mapped f (Some x) None h = absurd h
mapped f (Some x) (Some y) h = ap Some (sym h)

pub value_of_set : (d items : Data) (o : Option set.ElementSet) → d ≡ one_of (codes "set") items → IsParsed IsSetForm items o → IsParsed IsValueForm d (option_map values.Set o)
value_of_set d items (Some s) is h = (items, is, h)
value_of_set d items None is h = none where
  none : (v : _) → IsValueForm v d → ⊥
  none (values.Plain x) k = no_element x _ _ not_list_set (sym k.1 ∙ is)
  none (values.Set s) k = h s (subst (IsSetForm s) (same_one _ _ _ (sym k.1 ∙ is)) k.2)
  none (values.Bag b) k = not_both _ _ (sym is ∙ k.1)

pub value_of_bag : (d items : Data) (o : Option bag.ElementBag) → d ≡ one_of (codes "bag") items → IsParsed IsBagForm items o → IsParsed IsValueForm d (option_map values.Bag o)
value_of_bag d items (Some b) is h = (items, is, h)
value_of_bag d items None is h = none where
  none : (v : _) → IsValueForm v d → ⊥
  none (values.Plain x) k = no_element x _ _ not_list_bag (sym k.1 ∙ is)
  none (values.Set s) k = not_both _ _ (sym k.1 ∙ is)
  none (values.Bag b) k = h b (subst (IsBagForm b) (same_one _ _ _ (sym k.1 ∙ is)) k.2)

-- ---- locations with their values that are read, as pairs

abbrev pub pair_seen : StatePair → Place × Value
pair_seen = λ p. (p.0, p.1)

abbrev pub pairs_seen : List StatePair → List (Place × Value)
pairs_seen = map pair_seen

abbrev pub IsReadPair : StatePair → Data → Type 0
IsReadPair = λ p. IsPairForm (p.0, p.1)

pub no_pairs : (d : Data) → ((ps : List StatePair) → IsListForm IsReadPair ps d → ⊥) → (qs : List (Place × Value)) → IsListForm IsPairForm qs d → ⊥
no_pairs = no_list_seen pair_seen (λ p. record { 0 = p.0; 1 = p.1 }) IsPairForm (λ p. refl)
