-- What an ascending move does at the location with which it starts, and at the others.
use Rattle.std.proofs.Common.{◌≡◌, append-nil, Bool, true, false, ◌||◌, List, [], ◌∷◌, ◌++◌, length, map, refl, sym, ap, ◌∙◌, subst}
use Rattle.std.proofs.Common.{arith, suc, ◌<◌}
use Rattle.std.specs.List.{AllByRecursion}
use Rattle.std.specs.declared.cmp.Ordering.TheVariants.{Less, Equal, Greater}
use Rattle.std.specs.declared.cmp.Ordering.{Ordering}
use Rattle.std.specs.Ordering.{eq_by_cmp, is_eq, is_lt, ordering_reverse}
use Rattle.std.specs.Cmp.{Equal-is, eq_by_cmp_equiv}
use Rattle.std.proofs.lemmas.Bool.{false≢true}
use Rattle.std.proofs.lemmas.List.{length-append}
use Rattle.asm_element.specs.Place.{Place, location_cmp, location_cmp_total, same_location}
use Rattle.asm_update.specs.Move.{Move, actions_at, writes}
use Rattle.asm_update.specs.declared.action.Instruction.{Instruction}
use Rattle.asm_aggregate.specs.Stretch.{IsAscending, IsParted, starts_at}
use Rattle.asm_aggregate.proofs.Bundles.{no_actions}
use Rattle.asm_aggregate.proofs.Grouped.{actions_at-append, unwritten}

-- what moves do at a location tells whether they write it
pub same_writes : (M N : Move) (l : Place) → actions_at M l ≡ actions_at N l → writes M l ≡ writes N l
same_writes M N l same = by_tests (writes M l) (writes N l) refl refl where
  by_tests : (b c : Bool) → writes M l ≡ b → writes N l ≡ c → writes M l ≡ writes N l
  by_tests true true e f = e ∙ sym f
  by_tests false false e f = e ∙ sym f
  by_tests true false e f = absurd (false≢true (sym (no_actions M l (same ∙ unwritten N l f)) ∙ e))
  by_tests false true e f = absurd (false≢true (sym (no_actions N l (sym same ∙ unwritten M l e)) ∙ f))

-- no location is below this one
abbrev pub IsFloor : Place → Move → Type 0
IsFloor k xs = AllByRecursion (λ (y : Instruction). is_lt (location_cmp y.at k) ≡ false) xs

not_below : (o : Ordering) → o ≡ Less → is_lt o ≡ false → ⊥
not_below o less h = false≢true (sym h ∙ ap is_lt less)

-- what is below the floor isn't written
pub none_lower : (l k : Place) (xs : Move) → location_cmp l k ≡ Less → IsFloor k xs → writes xs l ≡ false
none_lower l k [] lt floor = refl
none_lower l k (x ∷ xs) lt floor = by_test (eq_by_cmp location_cmp x.at l) refl (none_lower l k xs lt floor.1) where
  by_test : (b : Bool) → eq_by_cmp location_cmp x.at l ≡ b → writes xs l ≡ false → (b || writes xs l) ≡ false
  by_test true e later =
      absurd (not_below (location_cmp l k) lt (ap (λ p. is_lt (location_cmp p k)) (sym (same_location x.at l e)) ∙ floor.0))
  by_test false e later = later

-- the location with which an ascending move starts is its floor
floor_of : (M : Move) (k : Place) → IsAscending M → starts_at k M ≡ true → IsFloor k M
floor_of [] k up starts = tt
floor_of (x ∷ xs) k up starts = (
  ap is_lt ((Equal-is (location_cmp x.at k)).0 starts),
  subst (λ (p : Place). IsFloor p xs) (same_location x.at k starts) up.0,
)

above : (o : Ordering) → is_eq o ≡ false → is_lt o ≡ false → ordering_reverse o ≡ Less
above Less eq lt = cc
above Equal eq lt = cc
above Greater eq lt = refl

-- an ascending move that starts with another location above its floor doesn't write the floor
apart : (k : Place) (xs : Move) → IsFloor k xs → IsAscending xs → starts_at k xs ≡ false → writes xs k ≡ false
apart k [] floor up ends = refl
apart k (x ∷ xs) floor up ends =
    ap (λ b. b || writes xs k) ends
    ∙ none_lower k x.at xs
    (location_cmp_total.antisymm k x.at ∙ above (location_cmp x.at k) ends floor.0) up.0

all_later : {X : Type 0} (P : X → Type 0) (xs ys : List X) → AllByRecursion P (xs ++ ys) → AllByRecursion P ys
all_later P [] ys h = h
all_later P (x ∷ xs) ys h = all_later P xs ys h.1

ascending_later : (xs ys : Move) → IsAscending (xs ++ ys) → IsAscending ys
ascending_later [] ys up = up
ascending_later (x ∷ xs) ys up = ascending_later xs ys up.1

abbrev AreAt : Place → Move → Type 0
AreAt k xs = AllByRecursion (λ (i : Instruction). eq_by_cmp location_cmp i.at k ≡ true) xs

actions_here : (k : Place) (xs : Move) → AreAt k xs → actions_at xs k ≡ map (λ (i : Instruction). i.action) xs
actions_here k [] here = refl
actions_here k (x ∷ xs) here = rw here.0 (ap (λ ys. x.action ∷ ys) (actions_here k xs here.1))

writes_elsewhere : (k l : Place) (xs : Move) → AreAt k xs → eq_by_cmp location_cmp l k ≡ false → writes xs l ≡ false
writes_elsewhere k l [] here other = refl
writes_elsewhere k l (x ∷ xs) here other =
    ap (λ b. b || writes xs l)
    (ap (λ p. eq_by_cmp location_cmp p l) (same_location x.at k here.0)
    ∙ (eq_by_cmp_equiv location_cmp_total).symm k l ∙ other)
    ∙ writes_elsewhere k l xs here.1 other

module _ (left stretch later : Move) (k : Place) (up : IsAscending left) (parted : IsParted left stretch later k) where
  pub floor : IsFloor k left
  floor = floor_of left k up parted.starts

  pub later_up : IsAscending later
  later_up = ascending_later stretch later (subst IsAscending parted.whole up)

  pub later_apart : writes later k ≡ false
  later_apart =
      apart k later
      (all_later (λ (y : Instruction). is_lt (location_cmp y.at k) ≡ false) stretch later (subst (IsFloor k) parted.whole floor))
      later_up parted.ends

  pub starts_written : writes left k ≡ true
  starts_written = first left parted.starts where
    first : (xs : Move) → starts_at k xs ≡ true → writes xs k ≡ true
    first [] h = absurd (false≢true h)
    first (x ∷ xs) h = ap (λ b. b || writes xs k) h

  -- at the location the move does what its first instructions do
  pub stretch_actions : actions_at left k ≡ map (λ (i : Instruction). i.action) stretch
  stretch_actions =
      ap (λ (xs : Move). actions_at xs k) parted.whole ∙ actions_at-append stretch later k
      ∙ ap (λ ys. actions_at stretch k ++ ys) (unwritten later k later_apart) ∙ append-nil (actions_at stretch k)
      ∙ actions_here k stretch parted.here

  -- and elsewhere what the later ones do
  pub later_actions : (l : Place) → eq_by_cmp location_cmp l k ≡ false → actions_at later l ≡ actions_at left l
  later_actions l other =
      sym (ap (λ (xs : Move). actions_at xs l) parted.whole ∙ actions_at-append stretch later l
      ∙ ap (λ ys. ys ++ actions_at later l) (unwritten stretch l (writes_elsewhere k l stretch parted.here other)))

-- what is left is less
pub fewer : (left stretch later : Move) (k : Place) → IsParted left stretch later k → length later < length left
fewer left stretch later k parted = by_stretch stretch parted.whole where
  by_stretch : (stretch : Move) → left ≡ stretch ++ later → length later < length left
  by_stretch [] whole =
      absurd (false≢true (sym parted.ends ∙ ap (starts_at k) (sym whole) ∙ parted.starts))
  by_stretch (x ∷ xs) whole =
      let long : length left ≡ suc (length (xs ++ later)) = ap length whole in
      omega (arith, long, length-append xs later)
