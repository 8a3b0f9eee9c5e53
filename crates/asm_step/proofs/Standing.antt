-- What moves do at one location, and that the one move does what they do where a state agrees at what they rest on.
use Rattle.std.proofs.Common.{◌≡◌, Bool, true, false, cond, not, ◌&&◌, ◌||◌, List, [], ◌∷◌, ◌++◌, map, filter, Option, Some, None, unwrap_or, Result, Ok, Err, IsOk, IsSomeAnd, refl, sym, ap, subst, ◌∙◌}
use Rattle.std.proofs.lemmas.Bool.{false≢true}
use Rattle.std.specs.List.{filter_map}
use Rattle.std.specs.Ordering.{eq_by_cmp}
use Rattle.asm_element.specs.Place.{Place, location_cmp}
use Rattle.asm_element.specs.Tests.{neither, ok_is}
use Rattle.asm_element.specs.declared.value.Value.{Value}
use Rattle.asm_update.specs.Action.{is_partial, is_regular, regular_value}
use Rattle.asm_update.specs.Aggregator.{AggregatorLaws, Meaning}
use Rattle.asm_update.specs.Fire.{Part, Old, GroupResult, fire, group_result, result_at, IsUpdateSet}
use Rattle.asm_update.specs.Move.{Move, actions_at, are_different, regular_values, writes}
use Rattle.asm_update.specs.State.{State, Updates, val, IsProper}
use Rattle.asm_update.specs.declared.action.Action.{Action}
use Rattle.asm_update.specs.declared.action.Instruction.{Instruction}
use Rattle.asm_update.specs.declared.clash.Cause.TheVariants.{Two}
use Rattle.asm_update.specs.declared.clash.Clash.{Clash}
use Rattle.asm_update.proofs.ActionLemmas.{IsRegular, IsPartial, kinds}
use Rattle.asm_update.proofs.FireLemmas.{fired_clash}
use Rattle.asm_aggregate.specs.Compose.{gives}
use Rattle.asm_aggregate.proofs.Composed.{gives_regulars, partials_of}
use Rattle.asm_aggregate.proofs.Grouped.{unwritten}
use Rattle.asm_aggregate.proofs.Sequence.{clash_given, given_fired, gives_some, proper_value}
use Rattle.asm_overlay.specs.Frames.{Frames, seen_through}
use Rattle.asm_step.specs.InTurn.{in_column, then_gives, DoesEach, IsSequenceAt, IsClashOfOne, all_but_last, fire_all, AreUpdateSets, DoesAll}
use Rattle.asm_step.specs.Dependencies.{first_actions, one_writes, puts, depends, sees_below, left_by, AgreesIfSeen, KeepsGroups}
use Rattle.asm_step.proofs.Agreeing.{some_actions, all_but_last-push, but_last_ok}
use Rattle.asm_step.proofs.Pushed.{through_first, same_seen}
use Rattle.asm_step.specs.Layers.{Layer, all_moves, frames_of, IsStepOf}
use Rattle.asm_step.proofs.Layered.{seen}
use Rattle.std.specs.FinMap as finite
use Rattle.asm_update.specs.declared.action.Action.TheVariants as action

ok_then : (part : Part) (r : GroupResult) (G : List Action) → IsOk (then_gives part r G) → IsOk r
ok_then part (Ok v) G h = refl
ok_then part (Err cause) G h = h

ok_earlier : (part : Part) (r : GroupResult) (Ms : List Move) (l : Place) → IsOk (in_column part r Ms l) → IsOk r
ok_earlier part r [] l h = h
ok_earlier part r (M ∷ Ms) l h =
    ok_then part r (actions_at M l) (ok_earlier part (then_gives part r (actions_at M l)) Ms l h)

pub column_but_last : (part : Part) (r : GroupResult) (Ms : List Move) (l : Place) → IsOk (in_column part r Ms l) →
    IsOk (in_column part r (all_but_last Ms) l)
column_but_last part r [] l h = h
column_but_last part r (M ∷ []) l h = ok_then part r (actions_at M l) h
column_but_last part r (M ∷ N ∷ Ms) l h = column_but_last part (then_gives part r (actions_at M l)) (N ∷ Ms) l h

column-push : (part : Part) (r : GroupResult) (Ms : List Move) (M : Move) (l : Place) →
    in_column part r (Ms ++ M ∷ []) l ≡ then_gives part (in_column part r Ms l) (actions_at M l)
column-push part r [] M l = refl
column-push part r (N ∷ Ms) M l = column-push part (then_gives part r (actions_at N l)) Ms M l

-- no move, one move, and a composition with one more do so at each location
pub each_none : (part : Part) → DoesEach part [] []
each_none part l v proper fires = refl

pub each_one : (part : Part) (M : Move) → DoesEach part (M ∷ []) M
each_one part M l v proper fires = refl

pub each_next : (part : Part) (Ms : List Move) (D M C : Move) → DoesEach part Ms D → IsSequenceAt part D M C →
    DoesEach part (Ms ++ M ∷ []) C
each_next part Ms D M C does follows l v proper fires =
    let fired = subst (λ Ns. IsOk (in_column part (Ok v) Ns l)) (all_but_last-push Ms M) fires in
    by_answer (in_column part (Ok v) Ms l) refl fired (does l v proper (column_but_last part (Ok v) Ms l fired)) where
      by_answer : (r : GroupResult) → in_column part (Ok v) Ms l ≡ r → IsOk r →
          gives part v (actions_at D l) ≡ in_column part (Ok v) Ms l →
          gives part v (actions_at C l) ≡ in_column part (Ok v) (Ms ++ M ∷ []) l
      by_answer (Ok w) is h same =
          follows l v w proper (same ∙ is)
          ∙ sym (column-push part (Ok v) Ms M l ∙ ap (λ r. then_gives part r (actions_at M l)) is)
      by_answer (Err cause) is h same = absurd (false≢true h)

gives_nothing : (part : Part) (r : GroupResult) → then_gives part r [] ≡ r
gives_nothing part (Ok v) = refl
gives_nothing part (Err cause) = refl

skipped : (part : Part) (r : GroupResult) (M : Move) (Ms : List Move) (l : Place) → writes M l ≡ false →
    in_column part r (M ∷ Ms) l ≡ in_column part r Ms l
skipped part r M Ms l w =
    ap (λ G. in_column part (then_gives part r G) Ms l) (unwritten M l w)
    ∙ ap (λ s. in_column part s Ms l) (gives_nothing part r)

-- where none of them writes, nothing changes
column_unwritten : (part : Part) (r : GroupResult) (Ms : List Move) (l : Place) → one_writes Ms l ≡ false →
    in_column part r Ms l ≡ r
column_unwritten part r [] l w = refl
column_unwritten part r (M ∷ Ms) l w =
    let none = neither (writes M l) (one_writes Ms l) w in
    skipped part r M Ms l none.0 ∙ column_unwritten part r Ms l none.1

-- regular updates of a move at a location

not_regular : (x : Action) → is_partial x ≡ true → is_regular x ≡ false
not_regular (action.Regular v) h = absurd (false≢true h)
not_regular (action.SetAdd e) h = refl
not_regular (action.SetRemove e) h = refl
not_regular (action.BagAdd e n) h = refl
not_regular (action.BagRemove e n) h = refl
not_regular (action.Increment n) h = refl

pub values_none : (M : Move) (l : Place) → puts M l ≡ false → regular_values M l ≡ []
values_none [] l h = refl
values_none (i ∷ M) l h = by_test (eq_by_cmp location_cmp i.at l) h (values_none M l) where
  rest : List Instruction
  rest = filter (λ (j : Instruction). eq_by_cmp location_cmp j.at l) M

  by_test : (b : Bool) → ((b && is_regular i.action) || puts M l) ≡ false →
      (puts M l ≡ false → filter_map regular_value (map (λ (j : Instruction). j.action) rest) ≡ []) →
      filter_map regular_value (map (λ (j : Instruction). j.action) (cond b (i ∷ rest) rest)) ≡ []
  by_test false h later = later h
  by_test true h later =
      let parts = neither (is_regular i.action) (puts M l) h in elim (kinds i.action) [
        | IsRegular v e ↦ absurd (false≢true (sym parts.0 ∙ ap is_regular e))
        | IsPartial p n ↦ rw n (later parts.1)
      ]

values_some : (M : Move) (l : Place) → puts M l ≡ true → (s : Value) × (ss : List Value) × (regular_values M l ≡ s ∷ ss)
values_some [] l h = absurd (false≢true h)
values_some (i ∷ M) l h = by_test (eq_by_cmp location_cmp i.at l) h (values_some M l) where
  rest : List Instruction
  rest = filter (λ (j : Instruction). eq_by_cmp location_cmp j.at l) M

  HasSome : List Instruction → Type 0
  HasSome js =
      (s : Value) × (ss : List Value) × (filter_map regular_value (map (λ (j : Instruction). j.action) js) ≡ s ∷ ss)

  by_test : (b : Bool) → ((b && is_regular i.action) || puts M l) ≡ true → (puts M l ≡ true → HasSome rest) →
      HasSome (cond b (i ∷ rest) rest)
  by_test false h later = later h
  by_test true h later = elim (kinds i.action) [
    | IsRegular v e ↦ (v, filter_map regular_value (map (λ (j : Instruction). j.action) rest), rw e refl)
    | IsPartial p n ↦
        let more = later (sym (ap (λ b. b || puts M l) (not_regular i.action p)) ∙ h) in
        (more.0, more.1, rw n more.2)
  ]

-- where one alone writes by partial updates, or none writes, the column gives what it gives
pub column_first : (part : Part) (v : Value) (Ms : List Move) (l : Place) → sees_below Ms l ≡ true →
    depends Ms l ≡ false → in_column part (Ok v) Ms l ≡ gives part v (first_actions Ms l)
column_first part v [] l sees alone = refl
column_first part v (M ∷ Ms) l sees alone = by_test (writes M l) refl sees alone (column_first part v Ms l) where
  once : (b : Bool) → not b ≡ true → (not b && one_writes Ms l) ≡ false → one_writes Ms l ≡ false
  once false sees alone = alone
  once true sees alone = absurd (false≢true sees)

  by_test : (b : Bool) → writes M l ≡ b → cond b (not (puts M l)) (sees_below Ms l) ≡ true →
      cond b (not (puts M l) && one_writes Ms l) (depends Ms l) ≡ false →
      (sees_below Ms l ≡ true → depends Ms l ≡ false → in_column part (Ok v) Ms l ≡ gives part v (first_actions Ms l)) →
      in_column part (Ok v) (M ∷ Ms) l ≡ gives part v (cond b (actions_at M l) (first_actions Ms l))
  by_test true w sees alone later =
      column_unwritten part (gives part v (actions_at M l)) Ms l (once (puts M l) sees alone)
  by_test false w sees alone later = skipped part (Ok v) M Ms l w ∙ later sees alone

module _ {a : Meaning} (laws : AggregatorLaws a) where
  -- a group with a regular update gives the same on each value
  same_put : (M : Move) (l : Place) (v w : Value) → puts M l ≡ true →
      gives a.part v (actions_at M l) ≡ gives a.part w (actions_at M l)
  same_put M l v w h =
      let some = values_some M l h in
      gives_regulars a.part v some.0 some.1 (actions_at M l) some.2
      ∙ by_test (are_different (some.0 ∷ some.1)) (partials_of (actions_at M l)) some.0
      ∙ sym (gives_regulars a.part w some.0 some.1 (actions_at M l) some.2)
    where
      by_test : (d : Bool) (ps : List Action) (s : Value) →
          cond d (Err Two) (group_result a.part v (Some s) ps) ≡ cond d (Err Two) (group_result a.part w (Some s) ps)
      by_test true ps s = refl
      by_test false [] s = refl
      by_test false (p ∷ ps) s = laws.regular_decides v w s (p ∷ ps)

  -- where the first that writes puts a value, the column gives the same on each value
  pub column_put : (v w : Value) (Ms : List Move) (l : Place) → sees_below Ms l ≡ false →
      in_column a.part (Ok v) Ms l ≡ in_column a.part (Ok w) Ms l
  column_put v w [] l h = absurd (false≢true (sym h))
  column_put v w (M ∷ Ms) l h = by_test (writes M l) refl h (column_put v w Ms l) where
    put : (b : Bool) → not b ≡ false → b ≡ true
    put true h = refl
    put false h = absurd (false≢true (sym h))

    by_test : (b : Bool) → writes M l ≡ b → cond b (not (puts M l)) (sees_below Ms l) ≡ false →
        (sees_below Ms l ≡ false → in_column a.part (Ok v) Ms l ≡ in_column a.part (Ok w) Ms l) →
        in_column a.part (Ok v) (M ∷ Ms) l ≡ in_column a.part (Ok w) (M ∷ Ms) l
    by_test true wr h later = ap (λ r. in_column a.part r Ms l) (same_put M l v w (put (puts M l) h))
    by_test false wr h later =
        skipped a.part (Ok v) M Ms l wr ∙ later h ∙ sym (skipped a.part (Ok w) M Ms l wr)

-- over what is looked up

update_given : (part : Part) (old : Old) (M : Move) (U : Updates) (l : Place) → IsUpdateSet part old M U →
    gives part (old l) (actions_at M l) ≡ Ok (unwrap_or (finite.get U l) (old l))
update_given part old M U l h = by_test (writes M l) refl where
  by_get : (o : Option Value) → IsSomeAnd o (λ v. result_at part old M l ≡ Ok v) →
      result_at part old M l ≡ Ok (unwrap_or o (old l))
  by_get (Some v) is = is
  by_get None is = absurd is

  by_test : (b : Bool) → writes M l ≡ b → gives part (old l) (actions_at M l) ≡ Ok (unwrap_or (finite.get U l) (old l))
  by_test true w =
      gives_some part (old l) (actions_at M l) (some_actions M l w) ∙ by_get (finite.get U l) (h.written l w)
  by_test false w =
      ap (gives part (old l)) (unwritten M l w) ∙ ap (λ o. Ok (unwrap_or o (old l))) (sym (h.others l w))

-- the moves give there what is seen through their update sets
pub column_old : (part : Part) (old : Old) (Ms : List Move) (Us : Frames) (l : Place) → AreUpdateSets part old Ms Us →
    in_column part (Ok (old l)) Ms l ≡ Ok (seen_through Us old l)
column_old part old [] [] l h = refl
column_old part old (M ∷ Ms) (U ∷ Us) l h =
    ap (λ r. in_column part r Ms l) (update_given part old M U l h.0)
    ∙ column_old part (seen_through (U ∷ []) old) Ms Us l h.1
    ∙ (λ i. Ok (sym (through_first U Us old) i l))
column_old part old [] (U ∷ Us) l h = absurd h
column_old part old (M ∷ Ms) [] l h = absurd h

-- over a state

pub err_stays : (part : Part) (clash : Clash) (Ms : List Move) → fire_all part (Err clash) Ms ≡ Err clash
err_stays part clash [] = refl
err_stays part clash (M ∷ Ms) = err_stays part clash Ms

-- where the moves fire in turn, they leave there what they give
pub column_fired : (part : Part) (B D : State) (Ms : List Move) (l : Place) → fire_all part (Ok B) Ms ≡ Ok D →
    in_column part (Ok (val B l)) Ms l ≡ Ok (val D l)
column_fired part B D [] l h = ap (λ S. Ok (val S l)) (ok_is B D h)
column_fired part B D (M ∷ Ms) l h = by_answer (fire part B M) refl h (λ A. column_fired part A D Ms l) where
  by_answer : (r : Result State Clash) → fire part B M ≡ r → fire_all part r Ms ≡ Ok D →
      ((A : State) → fire_all part (Ok A) Ms ≡ Ok D → in_column part (Ok (val A l)) Ms l ≡ Ok (val D l)) →
      in_column part (Ok (val B l)) (M ∷ Ms) l ≡ Ok (val D l)
  by_answer (Ok A) is h later = ap (λ r. in_column part r Ms l) (given_fired part B A M l is) ∙ later A h
  by_answer (Err clash) is h later = let no_way : Err clash ≡ Ok D = sym (err_stays part clash Ms) ∙ h in cc

fires_if : (part : Part) (B : State) (M : Move) → ((l : Place) → IsOk (gives part (val B l) (actions_at M l))) →
    (D : State) × (fire part B M ≡ Ok D)
fires_if part B M each = by_answer (fire part B M) refl where
  by_answer : (r : Result State Clash) → fire part B M ≡ r → (D : State) × (fire part B M ≡ Ok D)
  by_answer (Ok D) is = (D, is)
  by_answer (Err c) is =
      let clashes = clash_given part B M c (fired_clash part B M c is) in
      absurd (false≢true (subst IsOk clashes (each c.at)))

-- where they give something at each location, they fire in turn
pub all_fire_if : (part : Part) (B : State) (Ms : List Move) →
    ((l : Place) → IsOk (in_column part (Ok (val B l)) Ms l)) → (D : State) × (fire_all part (Ok B) Ms ≡ Ok D)
all_fire_if part B [] each = (B, refl)
all_fire_if part B (M ∷ Ms) each =
    let first = fires_if part B M (λ l. ok_earlier part (gives part (val B l) (actions_at M l)) Ms l (each l)) in
    let rest = all_fire_if part first.0 Ms
    (λ l. subst (λ (r : GroupResult). IsOk (in_column part r Ms l)) (given_fired part B first.0 M l first.1) (each l)) in
    (rest.0, ap (λ r. fire_all part r Ms) first.1 ∙ rest.1)

module _ {a : Meaning} (laws : AggregatorLaws a) (old : Old) (s : List Layer) (groups : List (List Move))
    (step : IsStepOf a.part old s groups) where
  abbrev Ms : List Move
  Ms = all_moves groups

  -- over what is looked up they give what is seen
  column_seen : (l : Place) → in_column a.part (Ok (old l)) Ms l ≡ Ok (seen_through (frames_of s) old l)
  column_seen l =
      let is = seen a.part old s groups step in
      let (sets, updates, wrote) = is.written in
      column_old a.part old Ms sets l updates
      ∙ (λ i. Ok (same_seen sets (frames_of s) old (λ q. sym (wrote q) ∙ sym (is.show q)) i l))

  -- a value that was told is the one that they leave
  pub reported_stands : (B D : State) (l : Place) → AgreesIfSeen B old Ms l → fire_all a.part (Ok B) Ms ≡ Ok D →
      seen_through (frames_of s) old l ≡ val D l
  reported_stands B D l has fired =
      ok_is _ _ (sym (column_seen l) ∙ by_test (sees_below Ms l) refl ∙ column_fired a.part B D Ms l fired)
    where
      by_test : (b : Bool) → sees_below Ms l ≡ b → in_column a.part (Ok (old l)) Ms l ≡ in_column a.part (Ok (val B l)) Ms l
      by_test true is = ap (λ v. in_column a.part (Ok v) Ms l) (sym (has is))
      by_test false is = column_put laws (old l) (val B l) Ms l is

  module _ (C : Move) (B : State) (does : DoesAll a.part Ms C) (keeps : KeepsGroups Ms C) (proper : IsProper B)
      (has : (l : Place) → depends Ms l ≡ true → val B l ≡ old l) where
    each_gives : (D : State) → fire a.part B C ≡ Ok D → (l : Place) → IsOk (in_column a.part (Ok (val B l)) Ms l)
    each_gives D fired l = by_test (depends Ms l) (sees_below Ms l) refl refl where
      by_test : (b c : Bool) → depends Ms l ≡ b → sees_below Ms l ≡ c → IsOk (in_column a.part (Ok (val B l)) Ms l)
      by_test true c is sees =
          subst (λ v. IsOk (in_column a.part (Ok v) Ms l)) (sym (has l is)) (subst IsOk (sym (column_seen l)) refl)
      by_test false false is sees =
          subst IsOk (column_put laws (old l) (val B l) Ms l sees) (subst IsOk (sym (column_seen l)) refl)
      by_test false true is sees =
          let same : in_column a.part (Ok (val B l)) Ms l ≡ Ok (val D l) =
          column_first a.part (val B l) Ms l sees is ∙ ap (gives a.part (val B l)) (sym (keeps l sees is))
          ∙ given_fired a.part B D C l fired in
          subst IsOk (sym same) refl

    -- the one move does what they do, if they fire
    does_so : (D : State) → fire_all a.part (Ok B) Ms ≡ Ok D → fire a.part B C ≡ fire_all a.part (Ok B) Ms
    does_so D all = does B proper (but_last_ok a.part (Ok B) Ms (subst IsOk (sym all) refl))

    -- it fires where they fire in turn, and leaves what they leave
    pub stands : left_by (fire a.part B C) ≡ left_by (fire_all a.part (Ok B) Ms)
    stands = by_answer (fire a.part B C) refl where
      by_turn : (c : Clash) (r : Result State Clash) → fire a.part B C ≡ Err c → fire_all a.part (Ok B) Ms ≡ r →
          left_by (Err c) ≡ left_by r
      by_turn c (Ok D) one all = let no_way : Err c ≡ Ok D = sym one ∙ does_so D all ∙ all in cc
      by_turn c (Err d) one all = refl

      by_answer : (r : Result State Clash) → fire a.part B C ≡ r →
          left_by (fire a.part B C) ≡ left_by (fire_all a.part (Ok B) Ms)
      by_answer (Ok D) one =
          let all = all_fire_if a.part B Ms (each_gives D one) in ap left_by (does_so all.0 all.1)
      by_answer (Err c) one =
          ap left_by one ∙ by_turn c (fire_all a.part (Ok B) Ms) one refl

    -- where the column gives a value, the one move gives it too, so it has no clash there
    no_clash_at : DoesEach a.part Ms C → (c : Clash) → fire a.part B C ≡ Err c →
        IsOk (in_column a.part (Ok (val B c.at)) Ms c.at) → ⊥
    no_clash_at each c clashes gave =
        let same = each c.at (val B c.at) (proper_value B c.at proper)
        (column_but_last a.part (Ok (val B c.at)) Ms c.at gave) in
        let cause = clash_given a.part B C c (fired_clash a.part B C c clashes) in
        false≢true (subst IsOk (sym same ∙ cause) gave)

    -- a clash of the one move is that of the one of them that writes there
    pub clash_stands : DoesEach a.part Ms C → (c : Clash) → fire a.part B C ≡ Err c → IsClashOfOne a.part B Ms c
    clash_stands each c clashes = by_test (depends Ms c.at) (sees_below Ms c.at) refl refl where
      seen_ok : IsOk (in_column a.part (Ok (old c.at)) Ms c.at)
      seen_ok = subst IsOk (sym (column_seen c.at)) refl

      by_test : (b d : Bool) → depends Ms c.at ≡ b → sees_below Ms c.at ≡ d → IsClashOfOne a.part B Ms c
      by_test true d is sees =
          absurd (no_clash_at each c clashes
          (subst (λ v. IsOk (in_column a.part (Ok v) Ms c.at)) (sym (has c.at is)) seen_ok))
      by_test false false is sees =
          absurd (no_clash_at each c clashes (subst IsOk (column_put laws (old c.at) (val B c.at) Ms c.at sees) seen_ok))
      by_test false true is sees = (
        sees,
        is,
        ap (gives a.part (val B c.at)) (sym (keeps c.at sees is))
            ∙ clash_given a.part B C c (fired_clash a.part B C c clashes),
      )
