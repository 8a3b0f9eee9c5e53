-- Families of actions, of lists and of values.
use Rattle.std.proofs.Common.{◌≡◌, ◌≢◌, Bool, true, false, cond, not, ◌&&◌, ◌||◌, List, [], ◌∷◌, ◌++◌, refl, sym, ap}
use Rattle.std.proofs.Common.{subst, ◌∙◌}
use Rattle.std.specs.Prelude.{ℤ, Option, None, Some, is_some, IsPermutation}
use Rattle.asm_element.specs.Element.{number_in}
use Rattle.std.specs.Option.{option_map, option_map_or, option_and_then}
use Rattle.std.specs.List.{list_any, list_all}
use Rattle.std.proofs.lemmas.List.Folds.{list_all-append}
use Rattle.std.proofs.lemmas.List.Sorted.{list_any-IsPermutation}
use Rattle.std.proofs.lemmas.Option.{same_Some}
use Rattle.asm_element.specs.Tests.{or_true}
pub use Rattle.asm_element.specs.Tests.{both as both_true, neither as none_true}
use Rattle.asm_element.specs.declared.value.Value.{Value}
use Rattle.asm_element.specs.declared.value.Value.TheVariants as values
use Rattle.asm_update.specs.Action.{family_of, family_eq, is_of, is_partial, kind_of}
use Rattle.asm_update.specs.declared.action.Action.{Action}
use Rattle.asm_update.specs.declared.action.Family.{Family}
use Rattle.asm_update.specs.declared.action.Family.TheVariants.{Set, Bag, Count}
use Rattle.asm_aggregate.specs.Families.{is_kind, common_family}

pub same_family : (f g : Family) → family_eq f g ≡ true → f ≡ g
same_family Set Set h = refl
same_family Bag Bag h = refl
same_family Count Count h = refl
same_family Set Bag h = cc
same_family Set Count h = cc
same_family Bag Set h = cc
same_family Bag Count h = cc
same_family Count Set h = cc
same_family Count Bag h = cc

pub family_itself : (f : Family) → family_eq f f ≡ true
family_itself Set = refl
family_itself Bag = refl
family_itself Count = refl

-- the test of a family finds it
pub family_is : (f : Family) (o : Option Family) → option_map_or (family_eq f) o false ≡ true → o ≡ Some f
family_is f None h = cc
family_is f (Some g) h = ap Some (sym (same_family f g h))

pub is_family : (f : Family) (o : Option Family) → o ≡ Some f → option_map_or (family_eq f) o false ≡ true
is_family f o h = ap (λ o. option_map_or (family_eq f) o false) h ∙ family_itself f

-- the test of a kind finds the family
pub kind_is : (f : Family) (v : Value) → is_kind f v ≡ true → kind_of v ≡ Some f
kind_is Set (values.Set s) h = refl
kind_is Set (values.Plain e) h = cc
kind_is Set (values.Bag b) h = cc
kind_is Bag (values.Bag b) h = refl
kind_is Bag (values.Plain e) h = cc
kind_is Bag (values.Set s) h = cc
kind_is Count (values.Plain e) h = by_number (number_in e) h where
  by_number : (o : Option ℤ) → is_some o ≡ true → option_map (λ _. Count) o ≡ Some Count
  by_number (Some n) h = refl
  by_number None h = cc
kind_is Count (values.Set s) h = cc
kind_is Count (values.Bag b) h = cc

-- an action, and so a value, is of one family
pub one_family : (f g : Family) (o : Option Family) → o ≡ Some f → o ≡ Some g → f ≡ g
one_family f g o h k = same_Some f g (sym h ∙ k)

pub first_of_all : (p : Action → Bool) (x : Action) (xs : List Action) → list_all p (x ∷ xs) ≡ true → p x ≡ true
first_of_all p x xs h = (both_true (p x) (list_all p xs) h).0

pub rest_of_all : (p : Action → Bool) (x : Action) (xs : List Action) → list_all p (x ∷ xs) ≡ true →
    list_all p xs ≡ true
rest_of_all p x xs h = (both_true (p x) (list_all p xs) h).1

-- actions that are all of two families are of one
pub all_of_one : (f g : Family) (xs : List Action) → xs ≢ [] → list_all (is_of f) xs ≡ true →
    list_all (is_of g) xs ≡ true → f ≡ g
all_of_one f g [] ne h k = absurd (ne refl)
all_of_one f g (x ∷ xs) ne h k =
    one_family f g (family_of x) (family_is f (family_of x) (first_of_all (is_of f) x xs h))
    (family_is g (family_of x) (first_of_all (is_of g) x xs k))

all_by_any : (p : Action → Bool) (xs : List Action) → list_all p xs ≡ not (list_any (λ x. not (p x)) xs)
all_by_any p [] = refl
all_by_any p (x ∷ xs) =
    elim (p x) as
    (λ b. (b && list_all p xs) ≡ not (not b || list_any (λ x. not (p x)) xs)) [ true ↦ all_by_any p xs | false ↦ refl ]

pub all-IsPermutation : (p : Action → Bool) (xs ys : List Action) → IsPermutation xs ys → list_all p ys ≡ list_all p xs
all-IsPermutation p xs ys is =
    all_by_any p ys ∙ ap not (sym (list_any-IsPermutation (λ x. not (p x)) xs ys is)) ∙ sym (all_by_any p xs)

abbrev has_family : Option Family → Bool
has_family None = false
has_family (Some g) = true

-- what is of a family is partial
pub family_partial : (f : Family) (x : Action) → is_of f x ≡ true → is_partial x ≡ true
family_partial f x h = ap has_family (family_is f (family_of x) h)

pub all_partial : (f : Family) (xs : List Action) → list_all (is_of f) xs ≡ true → list_all is_partial xs ≡ true
all_partial f [] h = refl
all_partial f (x ∷ xs) h =
    (λ i. family_partial f x (first_of_all (is_of f) x xs h) i && list_all is_partial xs)
    ∙ all_partial f xs (rest_of_all (is_of f) x xs h)

-- among actions of one family is one of another only where they are the same
pub among_all : (f g : Family) (xs : List Action) → list_all (is_of f) xs ≡ true → list_any (is_of g) xs ≡ true → f ≡ g
among_all f g [] h k = cc
among_all f g (x ∷ xs) h k = by_test (is_of g x) refl k (among_all f g xs (rest_of_all (is_of f) x xs h)) where
  by_test : (b : Bool) → is_of g x ≡ b → (b || list_any (is_of g) xs) ≡ true → (list_any (is_of g) xs ≡ true → f ≡ g) →
      f ≡ g
  by_test true e k later =
      one_family f g (family_of x) (family_is f (family_of x) (first_of_all (is_of f) x xs h))
      (family_is g (family_of x) e)
  by_test false e k later = later k

-- where partial updates have none of another family, they are all of this one
pub all_of_rest : (f : Family) (xs : List Action) → list_all is_partial xs ≡ true →
    ((g : Family) → list_any (is_of g) xs ≡ true → f ≡ g) → list_all (is_of f) xs ≡ true
all_of_rest f [] h only = refl
all_of_rest f (x ∷ xs) h only =
    (λ i. here (family_of x) refl (first_of_all is_partial x xs h) i && list_all (is_of f) xs)
    ∙ all_of_rest f xs (rest_of_all is_partial x xs h)
    (λ g k. only g (ap (λ b. is_of g x || b) k ∙ or_true (is_of g x))) where
      here : (o : Option Family) → family_of x ≡ o → is_partial x ≡ true → is_of f x ≡ true
      here None e h = let none : is_partial x ≡ false = ap is_some e in cc
      here (Some g) e h =
          let at_head : is_of g x ≡ true = is_family g (family_of x) e in
          is_family f (family_of x) (e ∙ ap Some (sym (only g (ap (λ b. b || list_any (is_of g) xs) at_head))))

-- the common family of a list, and what follows from it
pub common_is : (f : Family) (xs : List Action) → xs ≢ [] → list_all (is_of f) xs ≡ true → common_family xs ≡ Some f
common_is f [] ne h = absurd (ne refl)
common_is f (x ∷ xs) ne h =
    let e = family_is f (family_of x) (first_of_all (is_of f) x xs h) in let k = rest_of_all (is_of f) x xs h in
    rw (e, k) refl

abbrev chosen : Bool → Family → Option Family
chosen b g = cond b (Some g) None

abbrev common_by : Option Family → List Action → Option Family
common_by o xs = option_and_then (λ g. chosen (list_all (is_of g) xs) g) o

pub common_all : (f : Family) (xs : List Action) → common_family xs ≡ Some f → list_all (is_of f) xs ≡ true
common_all f [] h = cc
common_all f (x ∷ xs) h = by_family (family_of x) refl h where
  by_rest : (g : Family) (b : Bool) → family_of x ≡ Some g → list_all (is_of g) xs ≡ b → chosen b g ≡ Some f →
      (is_of f x && list_all (is_of f) xs) ≡ true
  by_rest g true e k h =
      let same : g ≡ f = same_Some g f h in
      (λ i. is_family f (family_of x) (e ∙ ap Some same) i && list_all (is_of f) xs)
      ∙ subst (λ (f : Family). list_all (is_of f) xs ≡ true) same k
  by_rest g false e k h = cc

  by_family : (o : Option Family) → family_of x ≡ o → common_by o xs ≡ Some f →
      (is_of f x && list_all (is_of f) xs) ≡ true
  by_family None e h = cc
  by_family (Some g) e h = by_rest g (list_all (is_of g) xs) e refl h

pub cons_some : (x : Action) (xs : List Action) → x ∷ xs ≢ []
cons_some x xs h = cc

pub common_some : (f : Family) (xs : List Action) → common_family xs ≡ Some f → xs ≢ []
common_some f [] h e = cc
common_some f (x ∷ xs) h e = cc

pub nil_parts : (xs ys : List Action) → xs ++ ys ≡ [] → (xs ≡ []) × (ys ≡ [])
nil_parts [] ys h = (refl, h)
nil_parts (x ∷ xs) ys h = cc

pub all_of_both : (p : Action → Bool) (xs ys : List Action) → list_all p xs ≡ true → list_all p ys ≡ true →
    list_all p (xs ++ ys) ≡ true
all_of_both p xs ys h k = list_all-append p xs ys ∙ ap (λ b. b && list_all p ys) h ∙ k

pub some_among : (p : Action → Bool) (xs : List Action) → xs ≢ [] → list_all p xs ≡ true → list_any p xs ≡ true
some_among p [] ne h = absurd (ne refl)
some_among p (x ∷ xs) ne h = ap (λ b. b || list_any p xs) (first_of_all p x xs h)

-- two lists and their join, all three of a family
pub record AreJoined (f : Family) (first second joined : List Action) : Type 0 where
  pub one : list_all (is_of f) first ≡ true
  pub two : list_all (is_of f) second ≡ true
  pub both : list_all (is_of f) joined ≡ true

-- what two lists of a family join to is of no other family than they
pub joined_family : (f g : Family) (first second joined : List Action) → AreJoined f first second joined →
    (first ++ second ≡ [] → joined ≡ []) → list_any (is_of g) joined ≡ true →
    list_any (is_of g) (first ++ second) ≡ true
joined_family f g first second joined are nothing some =
    let same : f ≡ g = among_all f g joined are.both some in
    let ne : first ++ second ≢ [] = λ none. (let empty = ap (list_any (is_of g)) (sym (nothing none)) ∙ some in cc) in
    subst (λ (g : Family). list_any (is_of g) (first ++ second) ≡ true) same
    (some_among (is_of f) (first ++ second) ne (all_of_both (is_of f) first second are.one are.two))
