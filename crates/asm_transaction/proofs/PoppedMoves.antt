-- What a pop leaves that returns the moves as one.
use Rattle.std.proofs.Common.{◌≡◌, ◌≢◌, ◌≤◌, ◌+◌, ◌∙◌, ◌↔◌, ⊎_elim, Bool, true, false, inl, inr, cond, List, [], ◌∷◌, ◌++◌, All, Contains, filter, length, Option, Some, None, Ok, arith, ap, refl, subst, sym}
use Rattle.std.specs.Prelude.{IfSome, IsNone}
use Rattle.std.proofs.lemmas.List.Elements.{All-cons, All-contains, All-contains_itself, All-filter, All-nil, All-weaker, Contains-append_cases, Contains-append_left, Contains-append_right}
use Rattle.asm_element.specs.Place.{Place}
use Rattle.asm_state.specs.declared.named.Named.{Named}
use Rattle.asm_storage.specs.Limits.{reads_limit}
use Rattle.asm_step.proofs.Built.{dependencies_those, sees_there}
use Rattle.asm_step.proofs.Dependents.{depends_seen}
use Rattle.asm_step.proofs.Layered.{moves-push}
use Rattle.asm_step.specs.Dependencies.{depends}
use Rattle.asm_step.specs.Layers.{IsStepOf, Layer, all_moves, dependencies_of, moves_of as last_moves, shows_below}
use Rattle.asm_step.specs.Places.{AreEach}
use Rattle.asm_step.specs.Popped.{IsPushedAgain}
use Rattle.asm_update.specs.Aggregator.{Meaning}
use Rattle.asm_update.specs.Fire.{Old}
use Rattle.asm_update.specs.Move.{Move}
use Rattle.asm_transaction.specs.Popping.{Declares, HasPopped, HasPoppedMove, IsLastAsOne, IsOneMoveOf, dependencies_last}
use Rattle.asm_transaction.specs.Reading.{from_below}
use Rattle.asm_transaction.specs.View.{TransactionView, moves_of, places_of, pushed}
use Rattle.asm_transaction.proofs.PoppedGroups.{is_popped}

-- ---- lists of which a test keeps some

kept_each : (p : Place → Bool) (ls : List Place) → All (λ l. p l ≡ true → Contains (filter p ls) l) ls
kept_each p [] = All-nil (λ l. p l ≡ true → Contains (filter p []) l)
kept_each p (k ∷ ls) =
    All-cons (λ l. p l ≡ true → Contains (filter p (k ∷ ls)) l) k ls (here (p k) refl)
    (All-weaker (λ l. p l ≡ true → Contains (filter p ls) l) (λ l. p l ≡ true → Contains (filter p (k ∷ ls)) l)
    (λ l had passes. later (p k) l (had passes)) ls (kept_each p ls)) where
      here : (b : Bool) → p k ≡ b → p k ≡ true → Contains (cond (p k) (k ∷ filter p ls) (filter p ls)) k
      here b e passes =
          subst (λ (c : Bool). Contains (cond c (k ∷ filter p ls) (filter p ls)) k) (sym passes) (0, omega arith, refl)

      later : (b : Bool) (l : Place) → Contains (filter p ls) l → Contains (cond b (k ∷ filter p ls) (filter p ls)) l
      later true l had = Contains-append_right (k ∷ []) (filter p ls) l had
      later false l had = had

kept_there : (p : Place → Bool) (ls : List Place) (l : Place) → Contains ls l → p l ≡ true → Contains (filter p ls) l
kept_there p ls l has passes = All-contains (λ k. p k ≡ true → Contains (filter p ls) k) ls l (kept_each p ls) has passes

was_there : (p : Place → Bool) (ls : List Place) (l : Place) → Contains (filter p ls) l → Contains ls l
was_there p ls l has = All-contains (Contains ls) (filter p ls) l (All-filter p (Contains ls) ls (All-contains_itself ls)) has

-- ---- what a commit declares

module _ (a : Meaning) (below : Old) (old new : TransactionView) (C : Move) (step : IsStepOf a.part below old.layers (pushed old))
    (popped : HasPopped (dependencies_last old) (last_moves old.layers) old new)
    (again : IsPushedAgain a below old.layers (pushed new) (last_moves old.layers) C) where
  abbrev group : List Move
  group = last_moves old.layers

  all : moves_of old ≡ moves_of new ++ group
  all = ap all_moves popped.groups ∙ moves-push (pushed new) group

  rests : (l : Place) → Contains (dependencies_of old.layers) l ↔ (depends (moves_of old) l ≡ true)
  rests = (dependencies_those a.part below old.layers (pushed old) step).same

  tracked_too : (l : Place) → depends (moves_of old) l ≡ true → depends group l ≡ true → Contains new.tracked l
  tracked_too l dependent by_itself =
      (popped.tracked.same l).1
      (Contains-append_right old.tracked (from_below old (dependencies_last old)) l
      (kept_there (shows_below old.layers) (dependencies_last old) l
      (kept_there (depends group) (dependencies_of old.layers) l ((rests l).1 dependent) by_itself)
      (sees_there a.part below old.layers (pushed old) step l ∙ depends_seen (moves_of old) l dependent)))

  there : (l : Place) → Declares old (moves_of old) l → Declares new (moves_of new ++ C ∷ []) l
  there l = ⊎_elim
      (λ has. inl ((popped.tracked.same l).1 (Contains-append_left old.tracked (from_below old (dependencies_last old)) l has)))
      (λ dependent. ⊎_elim (λ still. inr still) (λ by_itself. inl (tracked_too l dependent by_itself))
      (again.no_less l (sym (ap (λ (Ms : List Move). depends Ms l) all) ∙ dependent)))

  back : (l : Place) → Declares new (moves_of new ++ C ∷ []) l → Declares old (moves_of old) l
  back l = ⊎_elim (λ has.
      ⊎_elim (λ had. inl had) (λ added.
      inr ((rests l).0 (was_there (depends group) (dependencies_of old.layers) l
      (was_there (shows_below old.layers) (dependencies_last old) l added))))
      (Contains-append_cases old.tracked (from_below old (dependencies_last old)) l ((popped.tracked.same l).0 has)))
      (λ dependent. inr (ap (λ (Ms : List Move). depends Ms l) all ∙ again.no_more l dependent))

-- ---- the pop

-- the layer that was popped, where there was one
last_layer : (o : Option (List Move)) (old ls : List Layer) → IfSome o (λ Ms. (y : Layer) × (old ≡ ls ++ y ∷ []) × (Ms ≡ y.moves)) →
    (IsNone o → (old ≡ []) × (ls ≡ [])) → old ≢ [] → (y : Layer) × (old ≡ ls ++ y ∷ [])
last_layer (Some Ms) old ls some none is = (some.0, some.1)
last_layer None old ls some none is = absurd (is (none refl).0)

pub popped_move : (a : Meaning) (t inside : TransactionView) (ls : List Layer) (tracked : List Named) (C : Move)
    (o : Option (List Move)) → inside ≡ t → AreEach (t.tracked ++ from_below t (dependencies_last t)) (places_of tracked) →
    length tracked + length t.scanned ≤ reads_limit → IsLastAsOne a t C → IsOneMoveOf a (last_moves t.layers) (Ok C) →
    IfSome o (λ Ms. (y : Layer) × (inside.layers ≡ ls ++ y ∷ []) × (Ms ≡ y.moves)) →
    (IsNone o → (inside.layers ≡ []) × (ls ≡ [])) → t.layers ≢ [] →
    HasPoppedMove a t (record inside { layers = ls; tracked = places_of tracked }) C
popped_move a t inside ls tracked C o view each few one does some none any =
    let (y, all) = last_layer o inside.layers ls some none (λ is. any (sym (ap (λ (x : TransactionView). x.layers) view) ∙ is)) in
    let popped = is_popped t inside ls (dependencies_last t) tracked y view all each few in
    let again = λ (below : Old) (step : IsStepOf a.part below t.layers (pushed t)).
    one below (pushed (record inside { layers = ls; tracked = places_of tracked }))
    (subst (λ (gs : List (List Move)). IsStepOf a.part below t.layers gs) popped.groups step) in
    record {
      popped = popped;
      one = does;
      reads = λ below step l. (
        there a below t (record inside { layers = ls; tracked = places_of tracked }) C step popped (again below step) l,
        back a below t (record inside { layers = ls; tracked = places_of tracked }) C step popped (again below step) l,
      );
      again = again;
    }
