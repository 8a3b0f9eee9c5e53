-- Sets of elements that are made of two sets, or of what actions name.
use Rattle.std.specs.Borrow.{Bor}
use Rattle.std.specs.Prelude.{◌≡◌, Bool, false, not, ◌&&◌, List, [], ◌∷◌, Option, None, Some}
use Rattle.std.specs.List.{list_any, list_all}
use Rattle.std.specs.Ordering.{eq_by_cmp}
use Rattle.std.specs.FinMap as map
use Rattle.asm_element.specs.Element.{element_cmp}
use Rattle.asm_element.specs.declared.element.Element.{Element}
use Rattle.asm_element.specs.Set.{ElementSet, empty, contains, elements, insert}
use Rattle.asm_update.specs.declared.action.Action.{Action}

-- the set with the elements of the list
abbrev pub with_elements : ElementSet → List Element → ElementSet
with_elements s [] = s
with_elements s (e ∷ es) = insert (with_elements s es) e

-- the elements of either set
abbrev pub union : ElementSet → ElementSet → ElementSet
union s t = with_elements s (elements t)

-- the elements of the first set that the second doesn't have
abbrev pub difference : ElementSet → ElementSet → ElementSet
difference s t = map.retain_keys s (λ e. not (contains t e))

-- whether the sets have an element in common
abbrev pub meets : ElementSet → ElementSet → Bool
meets s t = list_any (contains t) (elements s)

-- whether the second set has each element of the first
abbrev pub is_subset : ElementSet → ElementSet → Bool
is_subset s t = list_all (contains t) (elements s)

-- whether there is an element, and it is this one
abbrev pub is_the : Element → Option Element → Bool
is_the e None = false
is_the e (Some x) = eq_by_cmp element_cmp e x

-- the set with the element, if there is one
abbrev pub with_element : ElementSet → Option Element → ElementSet
with_element s None = s
with_element s (Some e) = insert s e

-- whether one of the elements that are referred to is this one
abbrev pub is_among : List (Bor Element) → Element → Bool
is_among refs e = list_any (λ r. eq_by_cmp element_cmp e r.now) refs

-- besides the elements that are recorded of each, two sets have the same
pub record IsSameBesides (s : ElementSet) (of_s : List (Bor Element)) (t : ElementSet) (of_t : List (Bor Element)) : Type 0 where
  pub same : (e : Element) → (contains s e && not (is_among of_s e)) ≡ (contains t e && not (is_among of_t e))

-- the set of the elements that actions have, where the function says which element an action has
abbrev pub elements_by : (Action → Option Element) → List Action → ElementSet
elements_by element [] = empty
elements_by element (x ∷ xs) = with_element (elements_by element xs) (element x)
