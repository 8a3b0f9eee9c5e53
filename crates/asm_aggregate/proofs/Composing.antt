-- A walk of the locations of two moves in ascending order, which composes one location more at a time.
use Rattle.std.proofs.Common.{◌≡◌, ◌≢◌, Bool, true, false, cond, ◌&&◌, T, List, [], ◌∷◌, ◌++◌, map, refl, sym, ap}
use Rattle.std.proofs.Common.{subst, ◌∙◌, unwrap_or, append_assoc, All, ◌≤◌}
use Rattle.std.proofs.Common.{length}
use Rattle.std.specs.Prelude.{Option, Result, Ok, Err, None, Some, is_some, filter}
use Rattle.std.specs.Ordering.{eq_by_cmp, is_lt}
use Rattle.std.specs.List.{filter_map}
use Rattle.std.specs.FinMap as finite
use Rattle.std.specs.FinMap.Entries.{below_all}
use Rattle.std.proofs.lemmas.Bool.{false≢true}
use Rattle.std.proofs.lemmas.Option.{same_Some}
use Rattle.asm_element.specs.Place.{Place, location_cmp, location_cmp_total, location_cmp-IsAntisymmetric}
use Rattle.asm_element.specs.Place.{same_location}
use Rattle.asm_element.specs.Tests.{itself}
use Rattle.asm_element.specs.declared.value.Value.{Value}
use Rattle.asm_update.specs.Action.{is_partial, regular_value, IsProperInstruction}
use Rattle.asm_update.specs.Aggregator.{Meaning, AggregatorLaws, Joined, NoJoin, Refused, TooLarge, IsJoined}
use Rattle.asm_update.specs.Fire.{first, written, locations}
use Rattle.asm_update.specs.Move.{Move, actions_at, writes}
use Rattle.asm_update.specs.declared.action.Action.{Action}
use Rattle.asm_update.specs.declared.error.JoinError.{JoinError}
use Rattle.asm_update.specs.declared.error.JoinError.TheVariants as join_error
use Rattle.asm_element.specs.Set.{same_unit}
use Rattle.asm_update.proofs.FireLemmas.{in_locations, places}
use Rattle.asm_aggregate.specs.Bundle.{Bundle, bundle_of, AreGroups, HaveRoom}
use Rattle.asm_aggregate.specs.Compose.{composed, composed_at, composition, before, in_turn, placed, IsComposition}
use Rattle.asm_aggregate.specs.Compose.{IsComposedList, IsLimited, IsRefusalAt, KeepsSequence}
use Rattle.asm_aggregate.specs.declared.composition.ComposeError.{ComposeError}
use Rattle.asm_aggregate.specs.declared.composition.ComposeError.TheVariants as compose_error
use Rattle.asm_aggregate.proofs.Bundles.{nothing, no_actions}
use Rattle.asm_aggregate.proofs.Grouped.{actions_at-append, bundle_or_none}
use Rattle.asm_aggregate.proofs.Sequence.{composition_is_sequence, refusal_never_fires}
use Rattle.asm_element.specs.Ascending.{rising_rest, first_gone}

abbrev find_in : {X : Type 0} → Place → List (Place × X) → Option X
find_in l es = finite.find location_cmp l es

-- the same locations, with nothing at them
abbrev units : {X : Type 0} → List (Place × X) → List (Place × Unit {0})
units es = map (λ e. (e.0, tt)) es

below-units : {X : Type 0} (k : Place) (es : List (Place × X)) →
    below_all location_cmp k (units es) ≡ below_all location_cmp k es
below-units k [] = refl
below-units k (e ∷ es) = ap (λ b. is_lt (location_cmp k e.0) && b) (below-units k es)

sorted-units : {X : Type 0} (es : List (Place × X)) →
    finite.is_sorted location_cmp (units es) ≡ finite.is_sorted location_cmp es
sorted-units [] = refl
sorted-units (e ∷ es) = λ i. below-units e.0 es i && sorted-units es i

find-units : {X : Type 0} (es : List (Place × X)) (q : Place) →
    is_some (finite.find location_cmp q (units es)) ≡ is_some (finite.find location_cmp q es)
find-units [] q = refl
find-units (e ∷ es) q = by_test (eq_by_cmp location_cmp q e.0) (find-units es q) where
  by_test : (b : Bool) → is_some (finite.find location_cmp q (units es)) ≡ is_some (finite.find location_cmp q es) →
      is_some (cond b (Some tt) (finite.find location_cmp q (units es)))
      ≡ is_some (cond b (Some e.1) (finite.find location_cmp q es))
  by_test true later = refl
  by_test false later = later

places-units : {X : Type 0} (es : List (Place × X)) → places (units es) ≡ places es
places-units [] = refl
places-units (e ∷ es) = ap (λ ls. e.0 ∷ ls) (places-units es)

-- a map that has the locations of a move has them in the move's order
pub same_places : {X : Type 0} (m : finite.FinMap location_cmp X) (W : Move) →
    ((q : Place) → is_some (finite.get m q) ≡ writes W q) → places (finite.entries m) ≡ locations W
same_places m W has =
    let es = finite.entries m in
    let sorted = subst T (sym (sorted-units es)) (finite.entries_sorted m) in
    let marked : finite.FinMap location_cmp (Unit {0}) = finite.from_sorted (units es) in
    let same : marked ≡ written W =
    finite.same_map location_cmp_total location_cmp-IsAntisymmetric marked (written W) (λ q. same_unit _ _ (
    ap is_some (finite.get-from_sorted location_cmp (units es) q sorted) ∙ find-units es q
    ∙ ap is_some (sym (finite.get-entries m q)) ∙ has q
    ∙ sym (finite.contains_key-keys (written W) q ∙ in_locations W q))) in
    sym (places-units es) ∙ ap places (sym (finite.entries-from_sorted location_cmp (units es) sorted))
    ∙ ap (λ (n : finite.FinMap location_cmp (Unit {0})). places (finite.entries n)) same

before-none : (r : Result Move (Place × NoJoin)) → before [] r ≡ r
before-none (Ok M) = refl
before-none (Err e) = refl

before-append : (M N : Move) (r : Result Move (Place × NoJoin)) → before (M ++ N) r ≡ before M (before N r)
before-append M N (Ok R) = ap (λ L. Ok L) (append_assoc M N R)
before-append M N (Err e) = refl

no_first : (vs : List Value) → first vs ≡ None → vs ≡ []
no_first [] h = refl
no_first (v ∷ vs) h = cc

none_left : {X : Type 0} (xs ys : List X) → xs ++ ys ≡ [] → (xs ≡ []) × (ys ≡ [])
none_left [] ys h = (refl, h)
none_left (x ∷ xs) ys h = cc

some_bundle : (F S : List Action) → F ++ S ≢ [] → (bundle_of F).regular ≡ None → (bundle_of S).regular ≡ None →
    (bundle_of F).partials ++ (bundle_of S).partials ≢ []
some_bundle F S some f s none =
    let parts = none_left (filter is_partial F) (filter is_partial S) none in
    some (λ i. nothing F (no_first (filter_map regular_value F) f) parts.0 i
    ++ nothing S (no_first (filter_map regular_value S) s) parts.1 i)

abbrev turns : Meaning → Move → Move → List (Place × Bundle) → List (Place × Joined)
turns a M N left = map (λ l. (l, composed_at a M N l)) (places left)

-- what is left has the bundles of both moves, and in front of what it composes to the list is the composition
pub record IsComposing (a : Meaning) (M N : Move) (left : List (Place × Bundle))
    (seconds : finite.FinMap location_cmp Bundle) (list : Move) : Type 0 where
  pub rising : T (finite.is_sorted location_cmp left)
  pub firsts : (l : Place) (b : Bundle) → find_in l left ≡ Some b →
      (writes (M ++ N) l ≡ true) × (b ≡ bundle_of (actions_at M l))
  pub others : (l : Place) → is_some (find_in l left) ≡ true →
      unwrap_or (finite.get seconds l) (bundle_of []) ≡ bundle_of (actions_at N l)
  pub rest : before list (in_turn (turns a M N left)) ≡ composition a M N

module _ (a : Meaning) (M N : Move) where
  pub composing_starts : (groups : finite.FinMap location_cmp Bundle) (left : List (Place × Bundle))
      (seconds : finite.FinMap location_cmp Bundle) (list : Move) → HaveRoom M N groups → AreGroups N seconds →
      left ≡ finite.entries groups → list ≡ [] → IsComposing a M N left seconds list
  composing_starts groups left seconds list room are all none = record {
    rising = subst (λ es. T (finite.is_sorted location_cmp es)) (sym all) (finite.entries_sorted groups);
    firsts = λ l b h. by_test l b (writes (M ++ N) l) refl (sym (found l) ∙ h);
    others = λ l h. ap (λ o. unwrap_or o (bundle_of [])) (are l) ∙ bundle_or_none N l;
    rest =
        ap (λ L. before L (in_turn (turns a M N left))) none ∙ before-none _
        ∙ ap (λ ls. in_turn (map (λ l. (l, composed_at a M N l)) ls))
        (ap places all ∙ same_places groups (M ++ N) (λ q. ap is_some (room q) ∙ is_there q (writes (M ++ N) q)));
  } where
    found : (l : Place) → find_in l left ≡ cond (writes (M ++ N) l) (Some (bundle_of (actions_at M l))) None
    found l = ap (find_in l) all ∙ sym (finite.get-entries groups l) ∙ room l

    is_there : (q : Place) (b : Bool) → is_some (cond b (Some (bundle_of (actions_at M q))) None) ≡ b
    is_there q true = refl
    is_there q false = refl

    by_test : (l : Place) (b : Bundle) (t : Bool) → writes (M ++ N) l ≡ t →
        cond (writes (M ++ N) l) (Some (bundle_of (actions_at M l))) None ≡ Some b →
        (writes (M ++ N) l ≡ true) × (b ≡ bundle_of (actions_at M l))
    by_test l b true w h = (w, same_Some _ _ (sym h ∙ ap (λ t. cond t (Some (bundle_of (actions_at M l))) None) w))
    by_test l b false w h =
        let no : None ≡ Some b = ap (λ t. cond t (Some (bundle_of (actions_at M l))) None) (sym w) ∙ h in cc

  module _ (k : Place) (b : Bundle) (rest left : List (Place × Bundle)) (seconds : finite.FinMap location_cmp Bundle)
      (list : Move) (step : left ≡ (k, b) ∷ rest) (had : IsComposing a M N left seconds list) where
    here : find_in k left ≡ Some b
    here = ap (find_in k) step ∙ ap (λ t. cond t (Some b) (find_in k rest)) (itself location_cmp_total k)

    first_is : (writes (M ++ N) k ≡ true) × (b ≡ bundle_of (actions_at M k))
    first_is = had.firsts k b here

    second_is : (s : Bundle) → s ≡ unwrap_or (finite.get seconds k) (bundle_of []) → s ≡ bundle_of (actions_at N k)
    second_is s is = is ∙ had.others k (ap is_some here)

    rises : T (finite.is_sorted location_cmp ((k, b) ∷ rest))
    rises = subst (λ es. T (finite.is_sorted location_cmp es)) step had.rising

    -- one of the two moves does something at the first that is left
    pub first_composed : (s : Bundle) → s ≡ unwrap_or (finite.get seconds k) (bundle_of []) → b.regular ≡ None →
        s.regular ≡ None → b.partials ++ s.partials ≢ []
    first_composed s is f g none =
        some_bundle (actions_at M k) (actions_at N k)
        (λ h. false≢true (sym (no_actions (M ++ N) k (actions_at-append M N k ∙ h)) ∙ first_is.0))
        (ap (λ c. c.regular) (sym first_is.1) ∙ f) (ap (λ c. c.regular) (sym (second_is s is)) ∙ g)
        ((λ i. (sym first_is.1 i).partials ++ (sym (second_is s is) i).partials) ∙ none)

    answered : (s : Bundle) (o : Joined) → s ≡ unwrap_or (finite.get seconds k) (bundle_of []) → composed a b s ≡ o →
        composed_at a M N k ≡ o
    answered s o is h = (λ i. composed a (sym first_is.1 i) (sym (second_is s is) i)) ∙ h

    whole : before list (in_turn ((k, composed_at a M N k) ∷ turns a M N rest)) ≡ composition a M N
    whole = ap (λ es. before list (in_turn (turns a M N es))) (sym step) ∙ had.rest

    -- the first that is left composes to a list
    pub composing_goes_on : (s : Bundle) (actions : List Action) (next : finite.FinMap location_cmp Bundle)
        (longer : Move) → s ≡ unwrap_or (finite.get seconds k) (bundle_of []) →
        composed a b s ≡ Ok actions → next ≡ finite.remove seconds k → longer ≡ list ++ placed k actions →
        IsComposing a M N rest next longer
    composing_goes_on s actions next longer is gave taken appended = record {
      rising = rising_rest location_cmp k b rest rises;
      firsts = λ l c h. had.firsts l c (ap (find_in l) step ∙ later l c h (eq_by_cmp location_cmp l k) refl);
      others = λ l h. by_test l h (eq_by_cmp location_cmp l k) refl;
      rest =
          ap (λ L. before L (in_turn (turns a M N rest))) appended
          ∙ before-append list (placed k actions) (in_turn (turns a M N rest))
          ∙ ap (λ o. before list (in_turn ((k, o) ∷ turns a M N rest))) (sym (answered s (Ok actions) is gave)) ∙ whole;
    } where
      later : (l : Place) (c : Bundle) → find_in l rest ≡ Some c → (t : Bool) → eq_by_cmp location_cmp l k ≡ t →
          cond t (Some b) (find_in l rest) ≡ Some c
      later l c h true e =
          let no : None ≡ Some c =
          sym (ap (λ p. find_in p rest) (same_location l k e) ∙ first_gone location_cmp k b rest rises) ∙ h in cc
      later l c h false e = h

      by_test : (l : Place) → is_some (find_in l rest) ≡ true → (t : Bool) → eq_by_cmp location_cmp l k ≡ t →
          unwrap_or (finite.get next l) (bundle_of []) ≡ bundle_of (actions_at N l)
      by_test l h true e =
          absurd (false≢true
          (sym (ap is_some (ap (λ p. find_in p rest) (same_location l k e) ∙ first_gone location_cmp k b rest rises)) ∙ h))
      by_test l h false e =
          ap (λ o. unwrap_or o (bundle_of []))
          (ap (λ (m : finite.FinMap location_cmp Bundle). finite.get m l) taken
          ∙ finite.get-remove location_cmp_total seconds k l ∙ ap (λ t. cond t None (finite.get seconds l)) e)
          ∙ had.others l (ap is_some (ap (find_in l) step ∙ ap (λ t. cond t (Some b) (find_in l rest)) e) ∙ h)

    -- or it refuses
    refuses : (s : Bundle) (refusal : NoJoin) → s ≡ unwrap_or (finite.get seconds k) (bundle_of []) →
        composed a b s ≡ Err refusal → composition a M N ≡ Err (k, refusal)
    refuses s refusal is gave =
        sym whole ∙ ap (λ o. before list (in_turn ((k, o) ∷ turns a M N rest))) (answered s (Err refusal) is gave)

    pub composing_refuses : (s : Bundle) (error : JoinError) (answer : ComposeError) →
        s ≡ unwrap_or (finite.get seconds k) (bundle_of []) → IsJoined (Err error) (composed a b s) →
        IsRefusalAt k error answer → IsComposedList a M N (Err answer)
    composing_refuses s (join_error.Cause cause) (compose_error.Clash c) is gave at =
        refuses s (Refused cause) is gave ∙ (λ i. Err (sym at.0 i, Refused (sym at.1 i)))
    composing_refuses s join_error.Large (compose_error.Large l) is gave at =
        refuses s TooLarge is gave ∙ (λ i. Err (sym at i, TooLarge))
    composing_refuses s error compose_error.Memory is gave at = tt
    composing_refuses s (join_error.Cause cause) (compose_error.Large l) is gave at = absurd at
    composing_refuses s (join_error.Cause cause) compose_error.ManyInstructions is gave at = absurd at
    composing_refuses s join_error.Large (compose_error.Clash c) is gave at = absurd at
    composing_refuses s join_error.Large compose_error.ManyInstructions is gave at = absurd at
    composing_refuses s join_error.Memory (compose_error.Clash c) is gave at = absurd at
    composing_refuses s join_error.Memory (compose_error.Large l) is gave at = absurd at
    composing_refuses s join_error.Memory compose_error.ManyInstructions is gave at = absurd at

-- the list is the answer, or it is too long
pub limited_list : (a : Meaning) (M N list : Move) (answer : Result Move ComposeError) → composition a M N ≡ Ok list →
    IsLimited list answer → IsComposition a M N answer
limited_list a M N list (Ok C) is h = (is ∙ ap (λ L. Ok L) (sym h.0), subst (λ L. length L ≤ 4096) (sym h.0) h.1)
limited_list a M N list (Err (compose_error.Clash c)) is h = absurd h
limited_list a M N list (Err (compose_error.Large l)) is h = absurd h
limited_list a M N list (Err compose_error.ManyInstructions) is h = (list, is, h)
limited_list a M N list (Err compose_error.Memory) is h = tt

-- the refusal of the list is the answer
pub refused_list : (a : Meaning) (M N : Move) (answer : ComposeError) → IsComposedList a M N (Err answer) →
    IsComposition a M N (Err answer)
refused_list a M N (compose_error.Clash c) h = h
refused_list a M N (compose_error.Large l) h = h
refused_list a M N compose_error.ManyInstructions h = absurd h
refused_list a M N compose_error.Memory h = tt

-- whatever is answered keeps what the sequence does
pub keeps_sequence : {a : Meaning} (laws : AggregatorLaws a) (M N : Move) (answer : Result Move ComposeError) →
    All IsProperInstruction M → All IsProperInstruction N → IsComposition a M N answer → KeepsSequence a.part M N answer
keeps_sequence laws M N (Ok C) proper proper' h = composition_is_sequence laws M N proper proper' C h.0
keeps_sequence laws M N (Err (compose_error.Clash c)) proper proper' h =
    refusal_never_fires laws M N proper proper' c.at (Refused c.cause) h
keeps_sequence laws M N (Err (compose_error.Large l)) proper proper' h =
    refusal_never_fires laws M N proper proper' l TooLarge h
keeps_sequence laws M N (Err compose_error.ManyInstructions) proper proper' h = tt
keeps_sequence laws M N (Err compose_error.Memory) proper proper' h = tt
