-- What puts come to, one after the other, and where they are at different locations.
use Rattle.std.proofs.Common.{◌≡◌, ◌≢◌, ℕ, suc, ◌+◌, Bool, true, false, cond, not, ◌&&◌, ◌||◌, [], ◌∷◌, ◌++◌, length, map, filter, Option, Some, None, refl, sym, ap, ◌∙◌, arith}
use Rattle.std.proofs.lemmas.Bool.{false≢true}
use Rattle.std.specs.Bool.{OnTrue}
use Rattle.std.specs.FinMap as finite
use Rattle.std.specs.Option.{option_map, option_map_or, option_or}
use Rattle.std.specs.Ordering.{eq_by_cmp}
use Rattle.asm_element.specs.Place.{Place, location_cmp, location_cmp_total, same_location}
use Rattle.asm_element.specs.Tests.{both, false_from_not, flipped, itself, neither}
use Rattle.asm_element.specs.declared.value.Value.{Value}
use Rattle.asm_update.specs.Action.{is_regular, regular_value}
use Rattle.asm_update.specs.Move.{Move, actions_at, all_regular, writes}
use Rattle.asm_update.specs.declared.action.Action.{Action}
use Rattle.asm_update.specs.declared.action.Action.TheVariants.{Regular, SetAdd, SetRemove, BagAdd, BagRemove, Increment}
use Rattle.asm_update.specs.declared.action.Instruction.{Instruction}
use Rattle.asm_aggregate.proofs.Grouped.{unwritten}
use Rattle.asm_step.specs.Outcomes.{ArePuts, Outcome, Outcomes, actions_in, are_apart, dependencies_in, depends_at, held_by, listed, put_on, put_outcome, puts_on}
use Rattle.asm_step.proofs.Depending.{depends_nowhere}
use Rattle.asm_step.proofs.Prefixes.{none_of_empty}
use Rattle.asm_step.proofs.Stacked.{insert_many}

abbrev nothing : Outcomes
nothing = finite.empty

-- one put more
pub get-put : (os : Outcomes) (i : Instruction) (q : Place) → finite.get (put_on os i) q ≡ option_or (held_by i q) (finite.get os q)
get-put os i q = by_value (regular_value i.action) where
  by_test : (v : Value) (b : Bool) → cond b (Some (put_outcome v)) (finite.get os q)
      ≡ option_or (cond b (Some (put_outcome v)) None) (finite.get os q)
  by_test v true = refl
  by_test v false = refl

  none_by : (b : Bool) → finite.get os q ≡ option_or (cond b (option_map put_outcome None) None) (finite.get os q)
  none_by true = refl
  none_by false = refl

  by_value : (o : Option Value) → finite.get (option_map_or (λ v. finite.insert os i.at (put_outcome v)) o os) q
      ≡ option_or (cond (eq_by_cmp location_cmp i.at q) (option_map put_outcome o) None) (finite.get os q)
  by_value (Some v) =
      finite.get-insert location_cmp_total os i.at (put_outcome v) q
      ∙ ap (λ b. cond b (Some (put_outcome v)) (finite.get os q)) (flipped location_cmp_total q i.at)
      ∙ by_test v (eq_by_cmp location_cmp i.at q)
  by_value None = none_by (eq_by_cmp location_cmp i.at q)

puts-append : (os : Outcomes) (M N : Move) → puts_on os (M ++ N) ≡ puts_on (puts_on os M) N
puts-append os [] N = refl
puts-append os (i ∷ M) N = puts-append (put_on os i) M N

-- the last put at a location is what is held there
pub put_last : (M : Move) (i : Instruction) (q : Place) →
    finite.get (puts_on nothing (M ++ i ∷ [])) q ≡ option_or (held_by i q) (finite.get (puts_on nothing M) q)
put_last M i q = ap (λ (os : Outcomes). finite.get os q) (puts-append nothing M (i ∷ [])) ∙ get-put (puts_on nothing M) i q

pub none_put : (q : Place) → None ≡ finite.get (puts_on nothing []) q
none_put q = sym (finite.get-empty location_cmp q)

-- puts come in above others
pub puts_over : (os : Outcomes) (M : Move) (q : Place) →
    finite.get (puts_on os M) q ≡ option_or (finite.get (puts_on nothing M) q) (finite.get os q)
puts_over os [] q = ap (λ (x : Option Outcome). option_or x (finite.get os q)) (none_put q)
puts_over os (i ∷ M) q =
    puts_over (put_on os i) M q
    ∙ ap (option_or (finite.get (puts_on nothing M) q)) (get-put os i q)
    ∙ in_turn (finite.get (puts_on nothing M) q)
    ∙ ap (λ (x : Option Outcome). option_or x (finite.get os q))
    (sym (puts_over (put_on nothing i) M q
    ∙ ap (option_or (finite.get (puts_on nothing M) q)) (get-put nothing i q
    ∙ ap (option_or (held_by i q)) (finite.get-empty location_cmp q) ∙ alone (held_by i q)))) where
      in_turn : (x : Option Outcome) →
          option_or x (option_or (held_by i q) (finite.get os q)) ≡ option_or (option_or x (held_by i q)) (finite.get os q)
      in_turn (Some o) = refl
      in_turn None = refl

      alone : (x : Option Outcome) → option_or x None ≡ x
      alone (Some o) = refl
      alone None = refl

-- they depend on nothing
never_depend : (os : Outcomes) (M : Move) (l : Place) → depends_at os l ≡ false → depends_at (puts_on os M) l ≡ false
never_depend os [] l h = h
never_depend os (i ∷ M) l h =
    never_depend (put_on os i) M l
    (ap (λ (x : Option Outcome). option_map_or (λ (o : Outcome). o.depends) x false) (get-put os i l)
    ∙ by_put (eq_by_cmp location_cmp i.at l) (regular_value i.action)) where
      by_put : (b : Bool) (v : Option Value) →
          option_map_or (λ (o : Outcome). o.depends) (option_or (cond b (option_map put_outcome v) None) (finite.get os l)) false ≡ false
      by_put true (Some v) = refl
      by_put true None = h
      by_put false v = h

pub puts_depend : (M : Move) → dependencies_in (puts_on nothing M) ≡ []
puts_depend M = depends_nowhere (puts_on nothing M) (λ l.
    never_depend nothing M l
    (ap (λ (x : Option Outcome). option_map_or (λ (o : Outcome). o.depends) x false) (finite.get-empty location_cmp l)))

-- where they don't put, nothing comes in
pub unwritten_puts : (os : Outcomes) (M : Move) (l : Place) → writes M l ≡ false → finite.get (puts_on os M) l ≡ finite.get os l
unwritten_puts os [] l h = refl
unwritten_puts os (i ∷ M) l h =
    let parts = neither (eq_by_cmp location_cmp i.at l) (writes M l) h in
    unwritten_puts (put_on os i) M l parts.1 ∙ get-put os i l
    ∙ ap (λ b. option_or (cond b (option_map put_outcome (regular_value i.action)) None) (finite.get os l)) parts.0

regular_is : (a : Action) → is_regular a ≡ true → (v : Value) × (a ≡ Regular v)
regular_is (Regular v) h = (v, refl)
regular_is (SetAdd e) h = absurd (false≢true h)
regular_is (SetRemove e) h = absurd (false≢true h)
regular_is (BagAdd e n) h = absurd (false≢true h)
regular_is (BagRemove e n) h = absurd (false≢true h)
regular_is (Increment n) h = absurd (false≢true h)

-- the first of puts at different locations, and the others
first_apart : (i : Instruction) (M : Move) → all_regular (i ∷ M) ≡ true → are_apart (i ∷ M) ≡ true →
    ((v : Value) × (i.action ≡ Regular v)) × (all_regular M ≡ true) × (writes M i.at ≡ false) × (are_apart M ≡ true)
first_apart i M regular apart =
    let first = both (is_regular i.action) (all_regular M) regular in
    let other = both (not (writes M i.at)) (are_apart M) apart in (
      regular_is i.action first.0,
      first.1,
      false_from_not (writes M i.at) (not (writes M i.at)) refl other.0,
      other.1,
    )

-- where one of them puts, it alone acts
pub written_puts : (os : Outcomes) (M : Move) (l : Place) → all_regular M ≡ true → are_apart M ≡ true → writes M l ≡ true →
    (v : Value) × (actions_at M l ≡ Regular v ∷ []) × (finite.get (puts_on os M) l ≡ Some (put_outcome v))
written_puts os [] l regular apart w = absurd (false≢true w)
written_puts os (i ∷ M) l regular apart w =
    by_test (eq_by_cmp location_cmp i.at l) refl (written_puts (put_on os i) M l parts.1 parts.3) where
      parts : ((v : Value) × (i.action ≡ Regular v)) × (all_regular M ≡ true) × (writes M i.at ≡ false) × (are_apart M ≡ true)
      parts = first_apart i M regular apart

      by_test : (b : Bool) → eq_by_cmp location_cmp i.at l ≡ b →
          (writes M l ≡ true → (v : Value) × (actions_at M l ≡ Regular v ∷ []) × (finite.get (puts_on (put_on os i) M) l ≡ Some (put_outcome v))) →
          (v : Value) × (actions_at (i ∷ M) l ≡ Regular v ∷ []) × (finite.get (puts_on (put_on os i) M) l ≡ Some (put_outcome v))
      by_test true e others =
          let v = parts.0.0 in
          let none : writes M l ≡ false = ap (writes M) (sym (same_location i.at l e)) ∙ parts.2 in (
            v,
            ap (λ b. map (λ (j : Instruction). j.action) (cond b (i ∷ filter (λ (j : Instruction). eq_by_cmp location_cmp j.at l) M)
                (filter (λ (j : Instruction). eq_by_cmp location_cmp j.at l) M))) e
                ∙ (λ k. parts.0.1 k ∷ unwritten M l none k),
            unwritten_puts (put_on os i) M l none ∙ get-put os i l
                ∙ (λ k. option_or (cond (e k) (option_map put_outcome (regular_value (parts.0.1 k))) None) (finite.get os l)),
          )
      by_test false e others =
          let later : writes M l ≡ true = sym (ap (λ b. b || writes M l) e) ∙ w in
          let rest = others later in (
            rest.0,
            ap (λ b. map (λ (j : Instruction). j.action) (cond b (i ∷ filter (λ (j : Instruction). eq_by_cmp location_cmp j.at l) M)
                (filter (λ (j : Instruction). eq_by_cmp location_cmp j.at l) M))) e ∙ rest.1,
            rest.2,
          )

one_more : (all before after n here : ℕ) → all ≡ after + n → after + here ≡ before + 1 → here ≡ 0 → all ≡ before + suc n
one_more all before after n here a b c = omega (arith, a, b, c)

-- each of them comes in as one instruction
many_puts : (os : Outcomes) (M : Move) → all_regular M ≡ true → are_apart M ≡ true →
    ((l : Place) → writes M l ≡ true → actions_in os l ≡ []) →
    length (listed (puts_on os M)) ≡ length (listed os) + length M
many_puts os [] regular apart none = omega arith
many_puts os (i ∷ M) regular apart none =
    let parts : ((v : Value) × (i.action ≡ Regular v)) × (all_regular M ≡ true) × (writes M i.at ≡ false) × (are_apart M ≡ true) =
    first_apart i M regular apart in
    let v = parts.0.0 in
    let on : put_on os i ≡ finite.insert os i.at (put_outcome v) =
    ap (λ (a : Action). option_map_or (λ (u : Value). finite.insert os i.at (put_outcome u)) (regular_value a) os) parts.0.1 in
    let came = ap (λ (m : Outcomes). length (listed m) + length (actions_in os i.at)) on ∙ insert_many os i.at (put_outcome v) in
    let here = none i.at (ap (λ b. b || writes M i.at) (itself location_cmp_total i.at)) in
    one_more _ _ _ (length M) _
    (many_puts (put_on os i) M parts.1 parts.3 (λ l w. still l w parts.2 (eq_by_cmp location_cmp i.at l) refl))
    came (ap length here) where
      still : (l : Place) → writes M l ≡ true → writes M i.at ≡ false → (b : Bool) → eq_by_cmp location_cmp i.at l ≡ b →
          actions_in (put_on os i) l ≡ []
      still l w gone true e = absurd (false≢true (sym gone ∙ ap (writes M) (same_location i.at l e) ∙ w))
      still l w gone false e =
          ap (λ (x : Option Outcome). option_map_or (λ (o : Outcome). o.actions) x [])
          (get-put os i l ∙ ap (λ b. option_or (cond b (option_map put_outcome (regular_value i.action)) None) (finite.get os l)) e)
          ∙ none l (ap (λ b. b || writes M l) e ∙ w)

pub so_many_puts : (M : Move) → all_regular M ≡ true → are_apart M ≡ true → length M ≡ length (listed (puts_on nothing M))
so_many_puts M regular apart =
    let all = many_puts nothing M regular apart (λ l w.
    ap (λ (o : Option Outcome). option_map_or (λ (o : Outcome). o.actions) o []) (finite.get-empty location_cmp l)) in
    let none : length (listed nothing) ≡ 0 = ap length none_of_empty in
    omega (arith, all, none)

pub some_left : (M : Move) → M ≢ [] → length M ≡ 0 → ⊥
some_left [] some none = some refl
some_left (i ∷ M) some none = omega (arith, none)

-- one put is at different locations
pub one_put : (M : Move) (i : Instruction) (b : Bool) → M ≡ i ∷ [] → b ≡ is_regular i.action → OnTrue b (ArePuts M)
one_put M i false is put = tt
one_put M i true is put = (
  (λ none. let no : 1 ≡ 0 = ap length (sym is ∙ none) in omega (arith, no)),
  ap all_regular is ∙ ap (λ b. b && true) (sym put),
  ap are_apart is,
)
