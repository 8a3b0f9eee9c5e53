-- A move of one partial update that a layer takes in, as the layer of a next move.
use Rattle.std.proofs.Common.{◌≡◌, ◌≤◌, ◌<◌, ◌+◌, ◌-◌, ◌||◌, ◌&&◌, Bool, true, false, cond, not, List, [], ◌∷◌, ◌++◌, length, map, All, Option, Some, None, is_some, unwrap_or, Ok, refl, sym, ap, subst, ◌∙◌, arith, append-nil, Result, Err}
use Rattle.std.specs.Prelude.{is_none, IsSomeAnd, IfOk, OnErr}
use Rattle.std.specs.List.{flat_map, list_all, list_any}
use Rattle.std.specs.Option.{option_map, option_map_or, option_or}
use Rattle.std.specs.Ordering.{eq_by_cmp}
use Rattle.std.proofs.lemmas.List.Elements.{All-cons, All-head, All-nil, All-tail}
use Rattle.std.proofs.lemmas.List.Folds.{list_any-append}
use Rattle.asm_element.proofs.Ordered.{no_entries}
use Rattle.asm_element.specs.Place.{Place, location_cmp, location_cmp_total, same_location}
use Rattle.asm_element.specs.Tests.{ok_is, flipped, itself, or_false}
use Rattle.asm_element.specs.declared.value.Value.{Value}
use Rattle.asm_update.specs.Action.{family_of, is_partial, is_regular, AllProper, IsProper, IsProperInstruction}
use Rattle.asm_update.specs.Aggregator.{Meaning, AggregatorLaws, Joined}
use Rattle.asm_update.specs.Fire.{Old, IsUpdateSet, locations, res, result_at}
use Rattle.asm_update.specs.Move.{Move, actions_at, writes}
use Rattle.asm_update.specs.State.{Updates}
use Rattle.asm_update.specs.declared.action.Action.{Action}
use Rattle.asm_update.specs.declared.action.Family.{Family}
use Rattle.asm_update.proofs.FireLemmas.{places}
use Rattle.asm_overlay.specs.Frames.{seen_through}
use Rattle.asm_aggregate.specs.Bundle.{bundle_of}
use Rattle.asm_aggregate.specs.Compose.{composed, composed_at, composition, in_turn, placed}
use Rattle.asm_aggregate.proofs.Composing.{keeps_sequence, same_places}
use Rattle.asm_aggregate.proofs.Sequence.{actions_placed}
use Rattle.asm_step.specs.Front.{joined_to, ExtendedInPlace}
use Rattle.asm_step.specs.Layers.{Layer, IsSound, frames_of, stacked_on, outcomes_of, top_of, behind, layers_on, moves_of}
use Rattle.asm_step.specs.Next.{AreNext, IsComposed, IsNextLayer, is_first, next_at, those, IsLayerExtendedInPlace, IsStepExtendedInPlace, LayerExtendedInPlace}
use Rattle.asm_step.specs.Outcomes.{Outcome, Outcomes, acts, acts_at, actions_in, builds_at, listed, sees_at}
use Rattle.asm_step.specs.declared.front.Growth.{Growth}
use Rattle.asm_step.specs.declared.layer.OwnLayer.{OwnLayer}
use Rattle.asm_step.proofs.Joined.{as_joined, res_partial}
use Rattle.asm_step.proofs.Stacked.{kept_at, kept_within, placed_length}
use Rattle.asm_step.proofs.Continued.{has_updates}
use Rattle.asm_step.proofs.Nexts.{next_ok, of_next, topmost_is}
use Rattle.asm_step.proofs.Prefixes.{top_sound, all_laid, all_push, extended_top, held-push, layers-push, sound_behind, sound_items}
use Rattle.std.specs.declared.alloc.AllocError.{AllocError}
use Rattle.asm_step.specs.InTurn.{all_but_last}
use Rattle.asm_step.proofs.Layered.{top_of-push}
use Rattle.std.specs.FinMap as finite
use Rattle.asm_element.specs.Place as place

-- one value at a location, and nothing elsewhere
abbrev pub only : {X : Type 0} → Place → X → finite.FinMap location_cmp X
only l v = finite.insert finite.empty l v

abbrev none_yet : (X : Type 0) → finite.FinMap location_cmp X
none_yet X = finite.empty

pub get-only : {X : Type 0} (l : Place) (v : X) (q : Place) → finite.get (only l v) q ≡ cond (eq_by_cmp location_cmp q l) (Some v) None
get-only {X = X} l v q =
    finite.get-insert location_cmp_total (none_yet X) l v q
    ∙ ap (cond (eq_by_cmp location_cmp q l) (Some v)) (finite.get-empty location_cmp q)

entries-only : {X : Type 0} (l : Place) (v : X) → finite.entries (only l v) ≡ (l, v) ∷ []
entries-only {X = X} l v =
    finite.entries-insert location_cmp_total (none_yet X) l v
    ∙ ap (finite.put location_cmp l v)
    (no_entries _ (sym (finite.len-entries (none_yet X)) ∙ finite.len-empty location_cmp X))

-- instructions at one location
writes_placed : (l q : Place) (xs : List Action) →
    (writes (placed l xs) q || eq_by_cmp location_cmp q l) ≡ eq_by_cmp location_cmp q l
writes_placed l q [] = refl
writes_placed l q (x ∷ xs) =
    ap (λ b. (b || writes (placed l xs) q) || eq_by_cmp location_cmp q l) (flipped location_cmp_total l q)
    ∙ by_test (eq_by_cmp location_cmp q l) (writes (placed l xs) q) (writes_placed l q xs) where
      by_test : (e w : Bool) → (w || e) ≡ e → ((e || w) || e) ≡ e
      by_test true w h = refl
      by_test false w h = h

proper_placed : (l : Place) (xs : List Action) → place.IsProper l → AllProper xs → All IsProperInstruction (placed l xs)
proper_placed l [] here all = All-nil IsProperInstruction
proper_placed l (x ∷ xs) here all =
    All-cons IsProperInstruction (record { at = l; action = x }) (placed l xs) (here, All-head IsProper x xs all)
    (proper_placed l xs here (All-tail IsProper x xs all))

not_regular : (x : Action) → is_partial x ≡ true → list_any is_regular (x ∷ []) ≡ false
not_regular x h = by_family (family_of x) h where
  by_family : (o : Option Family) → is_some o ≡ true → (is_none o || false) ≡ false
  by_family (Some f) h = refl
  by_family None h = cc

module _ {a : Meaning} (laws : AggregatorLaws a) (old : Old) (s : List Layer) (sound : All IsSound s)
    (z : Layer) (top : top_of s ≡ Some z) (room : z.count < 4096) (l : Place) (x : Action) (o w : Outcome) (grown : Growth)
    (here : finite.get (outcomes_of s) l ≡ Some o) (gone : ExtendedInPlace a x o w grown)
    (proper : All IsProperInstruction (record { at = l; action = x } ∷ [])) where
  abbrev M : Move
  M = record { at = l; action = x } ∷ []

  abbrev os : Outcomes
  os = outcomes_of s

  abbrev U : Updates
  U = only l w.value

  abbrev own : Outcomes
  own = only l w

  abbrev E : Move
  E = placed l o.actions

  abbrev F : Move
  F = placed l w.actions ++ []

  at_one : (q : Place) → writes M q ≡ eq_by_cmp location_cmp q l
  at_one q = or_false _ ∙ flipped location_cmp_total l q

  does_one : actions_at M l ≡ x ∷ []
  does_one = actions_placed l l (x ∷ []) true (itself location_cmp_total l)

  seen_here : seen_through (frames_of s) old l ≡ o.value
  seen_here = ap (λ t. unwrap_or t (old l)) (topmost_is s l ∙ ap (option_map (λ (o : Outcome). o.value)) here)

  one_partial : list_all is_partial (x ∷ []) ≡ true
  one_partial = ap (λ b. b && true) gone.partial

  result_here : result_at a.part (seen_through (frames_of s) old) M l ≡ Ok w.value
  result_here =
      (λ i. res a.part (seen_here i) (does_one i)) ∙ res_partial a.part o.value (x ∷ []) one_partial ∙ gone.applied.value

  set : IsUpdateSet a.part (seen_through (frames_of s) old) M U
  set = record {
    written = λ q h.
        let same : eq_by_cmp location_cmp q l ≡ true = sym (at_one q) ∙ h in
        subst (λ (u : Option Value). IsSomeAnd u (λ v. result_at a.part (seen_through (frames_of s) old) M q ≡ Ok v))
        (sym (get-only l w.value q ∙ ap (λ b. cond b (Some w.value) None) same))
        (subst (λ p. result_at a.part (seen_through (frames_of s) old) M p ≡ Ok w.value) (sym (same_location q l same)) result_here);
    others = λ q h. get-only l w.value q ∙ ap (λ b. cond b (Some w.value) None) (sym (at_one q) ∙ h);
  }

  acts_here : actions_in os l ≡ o.actions
  acts_here = ap (λ (t : Option Outcome). option_map_or (λ (o : Outcome). o.actions) t []) here

  kept : E ≡ kept_at os (finite.entries U)
  kept =
      ap (placed l) (sym acts_here) ∙ sym (append-nil (placed l (actions_in os l)))
      ∙ ap (kept_at os) (sym (entries-only l w.value))

  proper_here : All IsProperInstruction E
  proper_here = proper_placed l o.actions (All-head IsProperInstruction (record { at = l; action = x }) [] proper).0 gone.applied.proper

  outcomes_top : os ≡ z.outcomes
  outcomes_top = ap (λ (t : Option Layer). option_map_or (λ (y : Layer). y.outcomes) t finite.empty) top

  count : z.count ≡ length (listed os)
  count = (top_sound s z sound top).count ∙ ap (λ (m : Outcomes). length (listed m)) (sym outcomes_top)

  within : length o.actions ≤ z.count
  within =
      let most = kept_within os U in
      let long = ap length kept in
      let many = placed_length l o.actions in
      omega (arith, most, long, many, count)

  long : length F ≡ length w.actions
  long = ap length (append-nil (placed l w.actions)) ∙ placed_length l w.actions

  -- the layer of the move
  abbrev pub going : OwnLayer
  going = record { own = own; moves = M ∷ []; is_alone = false; count = (z.count + grown.more) - grown.less }

  listed_here : length (listed own) ≡ length w.actions
  listed_here =
      ap (λ (es : List (Place × Outcome)). length (flat_map (λ (e : Place × Outcome). placed e.0 e.1.actions) es)) (entries-only l w)
      ∙ long

  counted : going.count ≡ (z.count - length E) + length (listed own)
  counted =
      let longer = gone.applied.longer in
      let many = placed_length l o.actions in
      omega (arith, longer, within, listed_here, many)

  few : going.count ≤ 4096
  few = let one = gone.applied.few in omega (arith, one, room)

  first : false ≡ is_first s
  first = ap (λ (t : Option Layer). option_map_or (λ (y : Layer). false) t true) (sym top)

  -- where there are actions before it
  module _ (some : acts o.actions ≡ true) where
    some_here : acts_at os l ≡ true
    some_here = ap acts acts_here ∙ some

    shared : M ≡ those true os M
    shared = ap (λ b. cond b M []) (sym some_here)

    apart : [] ≡ those false os M
    apart = ap (λ b. cond (not b) M []) (sym some_here)

    written_here : (q : Place) → is_some (finite.get U q) ≡ writes (E ++ M) q
    written_here q =
        ap is_some (get-only l w.value q) ∙ by_test (eq_by_cmp location_cmp q l) ∙ sym (writes_placed l q o.actions)
        ∙ ap (λ b. writes E q || b) (sym (at_one q))
        ∙ sym (list_any-append _ E M) where
          by_test : (b : Bool) → is_some (cond b (Some w.value) None) ≡ b
          by_test true = refl
          by_test false = refl

    at_here : locations (E ++ M) ≡ l ∷ []
    at_here = sym (same_places U (E ++ M) written_here) ∙ ap places (entries-only l w.value)

    composed_here : composed_at a E M l ≡ Ok w.actions
    composed_here =
        (λ i. composed a (bundle_of (actions_placed l l o.actions true (itself location_cmp_total l) i)) (bundle_of (does_one i)))
        ∙ sym (as_joined a o.actions x some) ∙ gone.applied.joined

    gave : composition a E M ≡ Ok F
    gave =
        ap (λ ls. in_turn (map (λ (k : Place). (k, composed_at a E M k)) ls)) at_here
        ∙ ap (λ (j : Joined). in_turn ((l, j) ∷ [])) composed_here

    few_here : length F ≤ 4096
    few_here =
        let longer = gone.applied.longer in
        let one = gone.applied.few in
        omega (arith, longer, one, within, room, long)

    composed_is : IsComposed a (option_map (λ (y : Layer). E) (top_of s)) M (Ok F)
    composed_is =
        subst (λ (t : Option Layer). IsComposed a (option_map (λ (y : Layer). E) t) M (Ok F)) (sym top)
        ((gave, few_here), keeps_sequence laws E M (Ok F) proper_here proper (gave, few_here))

    next_here : w ≡ next_at os (F ++ []) M l w.value
    next_here = λ i. record {
      value = w.value;
      actions = (sym (ap (λ (K : Move). actions_at K l) (append-nil (placed l w.actions ++ []) ∙ append-nil (placed l w.actions))
          ∙ actions_placed l l w.actions true (itself location_cmp_total l))) i;
      builds = (gone.builds ∙ sym (ap (λ (t : Option Outcome). option_map_or (λ (o : Outcome). o.builds) t true) here)
          ∙ ap (λ b. cond b (builds_at os l) (sees_at os l)) (sym (ap (list_any is_regular) does_one ∙ not_regular x gone.partial))) i;
      depends = (gone.depends ∙ sym (ap (λ (t : Option Outcome). option_map_or (λ (o : Outcome). o.builds) t false) here)) i;
    }

    next : AreNext os U (F ++ []) M own
    next q =
        get-only l w q ∙ by_test (eq_by_cmp location_cmp q l) refl
        ∙ ap (option_map (next_at os (F ++ []) M q)) (sym (get-only l w.value q)) where
          by_test : (b : Bool) → eq_by_cmp location_cmp q l ≡ b →
              cond b (Some w) None ≡ option_map (next_at os (F ++ []) M q) (cond b (Some w.value) None)
          by_test true e =
              subst (λ (p : Place). Some w ≡ Some (next_at os (F ++ []) M p w.value)) (sym (same_location q l e)) (ap Some next_here)
          by_test false e = refl

    goes_on_behind : IsNextLayer a old s M (stacked_on os going)
    goes_on_behind =
        of_next a old s M U set (stacked_on os going)
        (next_ok laws s M E M [] U sound (has_updates a.part (seen_through (frames_of s) old) M U set) kept shared apart proper_here
        proper (omega arith) F composed_is z.count count going next counted few refl first)

  -- where there are none
  module _ (none : o.actions ≡ []) where
    none_here : acts_at os l ≡ false
    none_here = ap acts (acts_here ∙ none)

    none_shared : [] ≡ those true os M
    none_shared = ap (λ b. cond b M []) (sym none_here)

    all_apart : M ≡ those false os M
    all_apart = ap (λ b. cond (not b) M []) (sym none_here)

    none_kept : [] ≡ kept_at os (finite.entries U)
    none_kept = sym (ap (placed l) none) ∙ kept

    nowhere : locations [] ≡ []
    nowhere =
        sym (same_places (none_yet Value) [] (λ q. ap is_some (finite.get-empty location_cmp q)))
        ∙ ap places (no_entries _ (sym (finite.len-entries (none_yet Value)) ∙ finite.len-empty location_cmp Value))

    gave_none : composition a [] [] ≡ Ok []
    gave_none = ap (λ ls. in_turn (map (λ (k : Place). (k, composed_at a [] [] k)) ls)) nowhere

    nothing_composed : IsComposed a (option_map (λ (y : Layer). []) (top_of s)) [] (Ok [])
    nothing_composed =
        subst (λ (t : Option Layer). IsComposed a (option_map (λ (y : Layer). []) t) [] (Ok [])) (sym top)
        ((gave_none, omega arith), keeps_sequence laws [] [] (Ok []) (All-nil IsProperInstruction) (All-nil IsProperInstruction) (gave_none, omega arith))

    only_this : w.actions ≡ x ∷ []
    only_this = sym (ok_is _ _ (sym (ap (λ (xs : List Action). joined_to a xs x) none) ∙ gone.applied.joined))

    first_here : w ≡ next_at os M M l w.value
    first_here = λ i. record {
      value = w.value;
      actions = (only_this ∙ sym does_one) i;
      builds = (gone.builds ∙ sym (ap (λ (t : Option Outcome). option_map_or (λ (o : Outcome). o.builds) t true) here)
          ∙ ap (λ b. cond b (builds_at os l) (sees_at os l)) (sym (ap (list_any is_regular) does_one ∙ not_regular x gone.partial))) i;
      depends = (gone.depends ∙ sym (ap (λ (t : Option Outcome). option_map_or (λ (o : Outcome). o.builds) t false) here)) i;
    }

    first_next : AreNext os U M M own
    first_next q =
        get-only l w q ∙ by_test (eq_by_cmp location_cmp q l) refl
        ∙ ap (option_map (next_at os M M q)) (sym (get-only l w.value q)) where
          by_test : (b : Bool) → eq_by_cmp location_cmp q l ≡ b →
              cond b (Some w) None ≡ option_map (next_at os M M q) (cond b (Some w.value) None)
          by_test true e =
              subst (λ (p : Place). Some w ≡ Some (next_at os M M p w.value)) (sym (same_location q l e)) (ap Some first_here)
          by_test false e = refl

    goes_on_alone : IsNextLayer a old s M (stacked_on os going)
    goes_on_alone =
        of_next a old s M U set (stacked_on os going)
        (next_ok laws s M [] [] M U sound (has_updates a.part (seen_through (frames_of s) old) M U set) none_kept none_shared
        all_apart (All-nil IsProperInstruction) (All-nil IsProperInstruction) (omega arith) [] nothing_composed z.count count
        going first_next
        (let longer = gone.applied.longer in
        let one = gone.applied.few in
        let nothing = ap length none in omega (arith, longer, one, nothing, listed_here)) few refl first)

  pub extends : IsNextLayer a old s M (stacked_on os going)
  extends = by_actions o.actions refl where
    by_actions : (xs : List Action) → o.actions ≡ xs → IsNextLayer a old s M (stacked_on os going)
    by_actions [] is = goes_on_alone is
    by_actions (y ∷ ys) is = goes_on_behind (ap acts is)

module _ {a : Meaning} (laws : AggregatorLaws a) (old : Old) (t items : List OwnLayer) (now : List Layer) (x new : OwnLayer) (M : Move)
    (seen : layers_on finite.empty items ≡ now) (is : items ≡ t ++ x ∷ []) (sound : All IsSound now)
    (gone : LayerExtendedInPlace a M x new) where
  abbrev z : Layer
  z = stacked_on (all_laid finite.empty t) x

  all : layers_on finite.empty t ++ z ∷ [] ≡ now
  all = sym (layers-push finite.empty t x) ∙ ap (λ (s : List OwnLayer). layers_on finite.empty s) (sym is) ∙ seen

  top : top_of now ≡ Some z
  top = ap top_of (sym all) ∙ top_of-push (layers_on finite.empty t) z

  here : finite.get (outcomes_of now) gone.at ≡ Some gone.own.before
  here =
      ap (λ (s : List Layer). finite.get (outcomes_of s) gone.at)
      (sym seen ∙ ap (λ (s : List OwnLayer). layers_on finite.empty s) is)
      ∙ held-push t x gone.at
      ∙ ap (λ o. option_or o (finite.get (outcomes_of (layers_on finite.empty t)) gone.at)) gone.own.there

  proper : All IsProperInstruction (record { at = gone.at; action = gone.action } ∷ [])
  proper = subst (All IsProperInstruction) gone.one gone.proper

  abbrev next_one : OwnLayer
  next_one =
      going laws old now sound z top gone.few gone.at gone.action gone.own.before gone.own.after gone.grown here gone.own.extends proper

  written : (q : Place) → finite.get new.own q ≡ option_or (finite.get next_one.own q) (finite.get x.own q)
  written q =
      ap (λ m. finite.get m q) gone.own.written
      ∙ finite.get-insert location_cmp_total x.own gone.at gone.own.after q
      ∙ by_test (eq_by_cmp location_cmp q gone.at)
      ∙ ap (λ o. option_or o (finite.get x.own q)) (sym (get-only gone.at gone.own.after q)) where
        by_test : (b : Bool) →
            cond b (Some gone.own.after) (finite.get x.own q) ≡ option_or (cond b (Some gone.own.after) None) (finite.get x.own q)
        by_test true = refl
        by_test false = refl

  -- the layers are those with the layer of the next move taken in
  pub taken_in : (y : Layer) × IsNextLayer a old now M y
      × (layers_on finite.empty (t ++ new ∷ []) ≡ all_but_last now ++ behind (moves_of now) y ∷ [])
  taken_in =
      subst (λ (N : Move). (y : Layer) × IsNextLayer a old now N y
      × (layers_on finite.empty (t ++ new ∷ []) ≡ all_but_last now ++ behind (moves_of now) y ∷ []))
      (sym gone.one) (
        stacked_on (outcomes_of now) next_one,
        extends laws old now sound z top gone.few gone.at gone.action gone.own.before gone.own.after gone.grown here gone.own.extends proper,
        extended_top t items now x new next_one seen is written (gone.moves ∙ ap (λ (N : Move). x.moves ++ N ∷ []) gone.one) gone.alone refl gone.count,
      )

-- so it is, or nothing is changed
module _ {a : Meaning} (laws : AggregatorLaws a) (t items : List OwnLayer) (now : List Layer) (x new : OwnLayer) (M : Move)
    (seen : layers_on finite.empty items ≡ now) (is : items ≡ t ++ x ∷ []) (sound : All IsSound now) where
  back : new ≡ x → layers_on finite.empty (t ++ new ∷ []) ≡ now
  back same = ap (λ (y : OwnLayer). layers_on finite.empty (t ++ y ∷ [])) same ∙ ap (λ (s : List OwnLayer). layers_on finite.empty s) (sym is) ∙ seen

  pub step_gone_on : (r : Result Bool AllocError) → IfOk r (IsLayerExtendedInPlace a M x new) →
      IfOk r (λ done. (old : Old) → IsStepExtendedInPlace a old now (layers_on finite.empty (t ++ new ∷ [])) M done)
  step_gone_on (Ok true) gone = λ old. taken_in laws old t items now x new M seen is sound gone
  step_gone_on (Ok false) same = λ old. back same
  step_gone_on (Err e) same = tt

  pub step_kept : (r : Result Bool AllocError) → OnErr r (new ≡ x) → OnErr r (layers_on finite.empty (t ++ new ∷ []) ≡ now)
  step_kept (Ok _) same = tt
  step_kept (Err e) same = back same

  pub step_sound : (old : Old) (r : Result Bool AllocError) → IfOk r (IsLayerExtendedInPlace a M x new) → OnErr r (new ≡ x) →
      All IsSound (layers_on finite.empty (t ++ new ∷ []))
  step_sound old (Ok true) gone same =
      let taken = taken_in laws old t items now x new M seen is sound gone in
      subst (λ (s : List Layer). All IsSound s) (sym taken.2)
      (all_push IsSound (all_but_last now) (behind (moves_of now) taken.0) (sound_items now sound)
      (sound_behind (moves_of now) taken.0 taken.1.over.sound))
  step_sound old (Ok false) gone same = subst (λ (s : List Layer). All IsSound s) (sym (back gone)) sound
  step_sound old (Err e) gone same = subst (λ (s : List Layer). All IsSound s) (sym (back same)) sound
