-- A move depends on the values of the locations of its partial updates alone.
use Rattle.std.proofs.Common.{◌≡◌, ◌≢◌, ◌⊎◌, inl, inr, ⊎_elim, map, arith, IsOk, IsSomeAnd, Bool, true, false, ◌||◌, cond, List, [], ◌∷◌, ◌++◌, Contains, filter, Some, Ok, Err, refl, sym, ap, ◌∙◌, subst, append-nil, unwrap_or, Result}
use Rattle.std.proofs.lemmas.Bool.{false≢true}
use Rattle.std.proofs.lemmas.Grind.{flat_map-append}
use Rattle.std.proofs.lemmas.List.Elements.{Contains-append_left, Contains-append_right}
use Rattle.std.proofs.lemmas.List.Kept.{IsStrictlySortedBy-dedup, Contains-dedup, Contains-from_dedup}
use Rattle.std.proofs.lemmas.List.Filters.{dedup_is}
use Rattle.std.proofs.lemmas.List.Sorted.{Contains-permutation, IsPermutation-sym}
use Rattle.std.specs.Cmp.{eq_by_cmp_equiv}
use Rattle.std.specs.List.{list_any, filter_map, dedup}
use Rattle.std.specs.List.Retain.{IsFiltered, DiffersFromLast}
use Rattle.std.specs.List.Sorted.{IsPermutation, IsSorted, IsStrictlySortedBy}
use Rattle.std.specs.Ordering.{eq_by_cmp}
use Rattle.asm_element.specs.Place.{Place, location_cmp, location_cmp_total, same_location}
use Rattle.asm_element.specs.declared.value.Value.{Value}
use Rattle.asm_update.specs.Action.{is_partial, regular_value}
use Rattle.asm_update.specs.Fire.{Part, Old, GroupResult, res, group_result, result_at, IsUpdateSet, IsLeastClash, fire, then_fire}
use Rattle.asm_update.specs.Move.{Move, actions_at, writes, are_different}
use Rattle.asm_update.specs.State.{State, Updates, val, IsProper, overwrite}
use Rattle.asm_update.specs.declared.action.Action.{Action}
use Rattle.asm_update.specs.declared.action.Instruction.{Instruction}
use Rattle.asm_update.specs.declared.clash.Cause.TheVariants.{Two}
use Rattle.asm_update.specs.declared.clash.Clash.{Clash}
use Rattle.asm_update.proofs.ActionLemmas.{IsRegular, IsPartial, kinds}
use Rattle.asm_step.specs.InTurn.{Agrees, fire_all, all_but_last, DoesAll, AreUpdateSets}
use Rattle.asm_step.specs.Places.{partial_place, partial_places, all_partial_places, AreEach}
use Rattle.asm_update.proofs.FireLemmas.{fire_updates, get-overwrite, same_state, stored_or, val-overwrite}
use Rattle.asm_aggregate.specs.Compose.{IsSequence}
use Rattle.asm_overlay.specs.Frames.{Frames, under, seen_through}
use Rattle.std.specs.FinMap as finite
use Rattle.asm_update.specs.declared.action.Action.TheVariants as action

-- a partial update of the move at a location is its first instruction's, or one of the others'
partial_at : (j : Instruction) (M : Move) (l : Place) → list_any is_partial (actions_at (j ∷ M) l) ≡ true →
    ((is_partial j.action ≡ true) × (eq_by_cmp location_cmp j.at l ≡ true)) ⊎
    (list_any is_partial (actions_at M l) ≡ true)
partial_at j M l = by_test (eq_by_cmp location_cmp j.at l) refl where
  rest : List Instruction
  rest = filter (λ i. eq_by_cmp location_cmp i.at l) M

  by_kind : (b : Bool) → is_partial j.action ≡ b → (b || list_any is_partial (map (λ i. i.action) rest)) ≡ true →
      (is_partial j.action ≡ true) ⊎ (list_any is_partial (map (λ i. i.action) rest) ≡ true)
  by_kind true is h = inl is
  by_kind false is h = inr h

  by_test : (b : Bool) → eq_by_cmp location_cmp j.at l ≡ b →
      list_any is_partial (map (λ (i : Instruction). i.action) (cond b (j ∷ rest) rest)) ≡ true →
      ((is_partial j.action ≡ true) × (eq_by_cmp location_cmp j.at l ≡ true)) ⊎
      (list_any is_partial (map (λ i. i.action) rest) ≡ true)
  by_test true is h = ⊎_elim (λ partial. inl (partial, is)) (λ other. inr other) (by_kind (is_partial j.action) refl h)
  by_test false is h = inr h

-- where a move has a partial update, it has that location
pub partial_there : (M : Move) (l : Place) → list_any is_partial (actions_at M l) ≡ true → Contains (partial_places M) l
partial_there [] l h = absurd (false≢true h)
partial_there (j ∷ M) l h =
    ⊎_elim
    (λ first. Contains-append_left (partial_place j) (partial_places M) l
    (subst (λ (b : Bool). Contains (cond b (j.at ∷ []) []) l) (sym first.0) (0, omega arith, same_location j.at l first.1)))
    (λ later. Contains-append_right (partial_place j) (partial_places M) l (partial_there M l later))
    (partial_at j M l h)

no_partials : (G : List Action) → list_any is_partial G ≡ false → filter is_partial G ≡ []
no_partials [] h = refl
no_partials (x ∷ G) h = by_kind (is_partial x) h (no_partials G) where
  by_kind : (b : Bool) → (b || list_any is_partial G) ≡ false →
      (list_any is_partial G ≡ false → filter is_partial G ≡ []) →
      cond b (x ∷ filter is_partial G) (filter is_partial G) ≡ []
  by_kind true h rest = absurd (false≢true (sym h))
  by_kind false h rest = rest h

-- regular updates alone have the same result on each old value
regular_result : (part : Part) (v w : Value) (x : Value) (G : List Action) → list_any is_partial G ≡ false →
    res part v (action.Regular x ∷ G) ≡ res part w (action.Regular x ∷ G)
regular_result part v w x G none = is v ∙ sym (is w) where
  is : (u : Value) → res part u (action.Regular x ∷ G) ≡ cond (are_different (x ∷ filter_map regular_value G))
      (Err Two) (Ok x)
  is u = ap (λ (ps : List Action). cond (are_different (x ∷ filter_map regular_value G)) (Err Two)
      (group_result part u (Some x) ps)) (no_partials G none)

-- the old value is no matter where there is no partial update
same_result : (part : Part) (v w : Value) (G : List Action) → G ≢ [] → (list_any is_partial G ≡ true → v ≡ w) →
    res part v G ≡ res part w G
same_result part v w G some same = by_test (list_any is_partial G) refl where
  by_list : (F : List Action) → F ≢ [] → list_any is_partial F ≡ false → res part v F ≡ res part w F
  by_list [] some none = absurd (some refl)
  by_list (a ∷ F) some none = elim (kinds a) [
    | IsRegular x e ↦ let regulars = rw e at none in rw e (regular_result part v w x F regulars)
    | IsPartial p n ↦ let found = rw p at none in absurd (false≢true (sym found))
  ]

  by_test : (b : Bool) → list_any is_partial G ≡ b → res part v G ≡ res part w G
  by_test true is = ap (λ u. res part u G) (same is)
  by_test false is = by_list G some is

pub some_actions : (M : Move) (l : Place) → writes M l ≡ true → actions_at M l ≢ []
some_actions [] l h = λ none. absurd (false≢true h)
some_actions (j ∷ M) l h = by_test (eq_by_cmp location_cmp j.at l) h (some_actions M l) where
  by_test : (b : Bool) → (b || writes M l) ≡ true → (writes M l ≡ true → actions_at M l ≢ []) →
      map (λ (i : Instruction). i.action)
      (cond b (j ∷ filter (λ i. eq_by_cmp location_cmp i.at l) M) (filter (λ i. eq_by_cmp location_cmp i.at l) M))
      ≢ []
  by_test true h rest = λ none. cc
  by_test false h rest = rest h

module _ (part : Part) (old new : Old) (M : Move) (same : (l : Place) → Contains (partial_places M) l → old l ≡ new l) where
  same_outcome : (l : Place) → writes M l ≡ true → result_at part old M l ≡ result_at part new M l
  same_outcome l w =
      same_result part (old l) (new l) (actions_at M l) (some_actions M l w)
      (λ partial. same l (partial_there M l partial))

  -- where two agree there, the move has the same update set on both
  pub same_update_set : (U : Updates) → IsUpdateSet part old M U → IsUpdateSet part new M U
  same_update_set U h = record {
    written = λ l w. subst (λ (o : GroupResult). IsSomeAnd (finite.get U l) (λ v. o ≡ Ok v)) (same_outcome l w)
        (h.written l w);
    others = h.others;
  }

  -- and the same clash
  pub same_clash : (clash : Clash) → IsLeastClash part old M clash → IsLeastClash part new M clash
  same_clash clash h = record {
    written = h.written;
    cause = sym (same_outcome clash.at h.written) ∙ h.cause;
    least = λ l lt w. subst IsOk (same_outcome l w) (h.least l lt w);
  }

-- a state that agrees for moves and a last one agrees for the moves, and for the last one
all-push : (Ms : List Move) (M : Move) →
    all_partial_places (Ms ++ M ∷ []) ≡ all_partial_places Ms ++ (partial_places M ++ [])
all-push Ms M = flat_map-append partial_places Ms (M ∷ [])

pub places-push : (Ms : List Move) (M : Move) →
    all_partial_places (Ms ++ M ∷ []) ≡ all_partial_places Ms ++ partial_places M
places-push Ms M = all-push Ms M ∙ ap (λ ls. all_partial_places Ms ++ ls) (append-nil (partial_places M))

pub agrees_before : (A : State) (old : Old) (Ms : List Move) (M : Move) → Agrees A old (Ms ++ M ∷ []) → Agrees A old Ms
agrees_before A old Ms M has l there =
    has l (subst (λ (ls : List Place). Contains ls l) (sym (places-push Ms M))
    (Contains-append_left (all_partial_places Ms) (partial_places M) l there))

pub agrees_last : (A : State) (old : Old) (Ms : List Move) (M : Move) → Agrees A old (Ms ++ M ∷ []) →
    (l : Place) → Contains (partial_places M) l → val A l ≡ old l
agrees_last A old Ms M has l there =
    has l (subst (λ (ls : List Place). Contains ls l) (sym (places-push Ms M))
    (Contains-append_right (all_partial_places Ms) (partial_places M) l there))

-- locations, sorted and then told apart, are each of them
pub each_from : (all ordered places : List Place) → IsPermutation all ordered →
    IsSorted location_cmp ordered → IsFiltered (DiffersFromLast (eq_by_cmp location_cmp)) [] ordered places →
    AreEach all places
each_from all ordered places moved sorted kept = record {
  ascending =
      subst (IsStrictlySortedBy location_cmp) (sym left)
      (IsStrictlySortedBy-dedup location_cmp_total (λ x y. refl) ordered sorted);
  same = λ l. (
    λ there.
        Contains-permutation ordered all l (IsPermutation-sym all ordered moved)
        (Contains-from_dedup (eq_by_cmp location_cmp) ordered l (subst (λ (ls : List Place). Contains ls l) left there)),
    λ there.
        subst (λ (ls : List Place). Contains ls l) (sym left)
        (Contains-dedup (eq_by_cmp_equiv location_cmp_total) same_location ordered l
        (Contains-permutation all ordered l moved there)),
  );
} where
  left : places ≡ dedup (eq_by_cmp location_cmp) ordered
  left = dedup_is (eq_by_cmp location_cmp) ordered places kept

pub all_but_last-push : {X : Type 0} (xs : List X) (x : X) → all_but_last (xs ++ x ∷ []) ≡ xs
all_but_last-push [] x = refl
all_but_last-push (y ∷ []) x = refl
all_but_last-push (y ∷ z ∷ xs) x = ap (λ ys. y ∷ ys) (all_but_last-push (z ∷ xs) x)

-- moves in turn, and then others
pub fire_all-both : (part : Part) (r : Result State Clash) (Ms Ns : List Move) →
    fire_all part r (Ms ++ Ns) ≡ fire_all part (fire_all part r Ms) Ns
fire_all-both part r [] Ns = refl
fire_all-both part r (M ∷ Ms) Ns = fire_all-both part (then_fire part r M) Ms Ns

fire_all-push : (part : Part) (r : Result State Clash) (Ms : List Move) (M : Move) →
    fire_all part r (Ms ++ M ∷ []) ≡ then_fire part (fire_all part r Ms) M
fire_all-push part r [] M = refl
fire_all-push part r (N ∷ Ms) M = fire_all-push part (then_fire part r N) Ms M

earlier_ok : (part : Part) (r : Result State Clash) (M : Move) → IsOk (then_fire part r M) → IsOk r
earlier_ok part (Ok A) M h = refl
earlier_ok part (Err clash) M h = h

pub but_last_ok : (part : Part) (r : Result State Clash) (Ms : List Move) → IsOk (fire_all part r Ms) →
    IsOk (fire_all part r (all_but_last Ms))
but_last_ok part r [] h = h
but_last_ok part r (M ∷ []) h = earlier_ok part r M h
but_last_ok part r (M ∷ N ∷ Ms) h = but_last_ok part (then_fire part r M) (N ∷ Ms) h

fires_nothing : (part : Part) (A : State) → fire part A [] ≡ Ok A
fires_nothing part A =
    let none : IsUpdateSet part (val A) [] finite.empty = record {
      written = λ l writes. absurd (false≢true writes);
      others = λ l none. finite.get-empty location_cmp l;
    } in
    fire_updates part A [] finite.empty none
    ∙ ap Ok (same_state (overwrite A finite.empty) A
    (λ l. get-overwrite A finite.empty l ∙ ap (λ o. stored_or o (finite.get A l)) (finite.get-empty location_cmp l)))

-- no move does what no moves do, and a move what it does alone
pub does_none : (part : Part) → DoesAll part [] []
does_none part A proper fires = fires_nothing part A

pub does_one : (part : Part) (M : Move) → DoesAll part (M ∷ []) M
does_one part M A proper fires = refl

-- what does the same as one move of all and then a last one does what all and the last one do
pub does_next : (part : Part) (Ms : List Move) (D M C : Move) → DoesAll part Ms D → IsSequence part D M C →
    DoesAll part (Ms ++ M ∷ []) C
does_next part Ms D M C does keeps A proper fires =
    let fired = subst (λ Ns. IsOk (fire_all part (Ok A) Ns)) (all_but_last-push Ms M) fires in
    let same : fire part A D ≡ fire_all part (Ok A) Ms = does A proper (but_last_ok part (Ok A) Ms fired) in
    keeps A proper (subst IsOk (sym same) fired) ∙ ap (λ r. then_fire part r M) same
    ∙ sym (fire_all-push part (Ok A) Ms M)

-- so where all fire, it does what the last one does on what they leave
pub does_last : (part : Part) (Ms : List Move) (M C : Move) (B A : State) → DoesAll part (Ms ++ M ∷ []) C → IsProper A →
    fire_all part (Ok A) Ms ≡ Ok B → fire part A C ≡ fire part B M
does_last part Ms M C B A does proper fired =
    does A proper
    (subst (λ Ns. IsOk (fire_all part (Ok A) Ns)) (sym (all_but_last-push Ms M)) (subst IsOk (sym fired) refl))
    ∙ fire_all-push part (Ok A) Ms M ∙ ap (λ r. then_fire part r M) fired

-- on a state that has what is below where the moves have partial updates, they fire in turn, with these update sets
pub fires_in_turn : (part : Part) (old : Old) (A : State) (Ms : List Move) (Us : Frames) →
    AreUpdateSets part old Ms Us → Agrees A old Ms → fire_all part (Ok A) Ms ≡ Ok (under A Us)
fires_in_turn part old A [] [] h has = refl
fires_in_turn part old A (M ∷ Ms) (U ∷ Us) h has =
    let here : (l : Place) → Contains (partial_places M) l → old l ≡ val A l =
    λ l there. sym (has l (Contains-append_left (partial_places M) (all_partial_places Ms) l there)) in
    let later : (l : Place) → Contains (all_partial_places Ms) l → val A l ≡ old l =
    λ l there. has l (Contains-append_right (partial_places M) (all_partial_places Ms) l there) in
    ap (λ r. fire_all part r Ms) (fire_updates part A M U (same_update_set part old (val A) M here U h.0))
    ∙ fires_in_turn part (seen_through (U ∷ []) old) (overwrite A U) Ms Us h.1
    (λ l there. val-overwrite A U l ∙ ap (unwrap_or (finite.get U l)) (later l there))
fires_in_turn part old A [] (U ∷ Us) h has = absurd h
fires_in_turn part old A (M ∷ Ms) [] h has = absurd h
