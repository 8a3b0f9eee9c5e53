-- Moves that are pushed again as their one move.
use Rattle.std.proofs.Common.{◌≡◌, ◌∙◌, ◌⊎◌, Bool, true, false, inl, inr, List, [], ◌∷◌, ◌++◌, All, Ok, Err, IsOk, unwrap_or, refl, ap, subst, sym}
use Rattle.std.proofs.lemmas.Bool.{false≢true}
use Rattle.std.proofs.lemmas.List.Elements.{All-append, All-head, All-nil, All-tail}
use Rattle.asm_aggregate.specs.Compose.{gives}
use Rattle.asm_aggregate.proofs.Sequence.{proper_stored, proper_value, same_fire}
use Rattle.asm_element.specs.Place.{Place}
use Rattle.asm_element.specs.Value as value
use Rattle.asm_element.specs.declared.value.Value.{Value}
use Rattle.asm_update.specs.Action.{IsProperInstruction}
use Rattle.asm_update.specs.Aggregator.{AggregatorLaws, Meaning}
use Rattle.asm_update.specs.Fire.{GroupResult, Old, Part, fire}
use Rattle.asm_update.specs.Move.{Move, actions_at}
use Rattle.asm_update.specs.State.{State, IsProper, val}
use Rattle.asm_step.specs.Dependencies.{AgreesAtDependencies, KeepsGroups, depends, left_by, sees_below}
use Rattle.asm_step.specs.InTurn.{DoesEach, fire_all, in_column}
use Rattle.asm_step.specs.Layers.{AreLayers, IsStepOf, Layer, all_moves, one_move}
use Rattle.asm_step.specs.Popped.{AreProper, IsOneMove, IsPushedAgain}
use Rattle.asm_step.proofs.Columns.{column_both, column_err, proper_column, same_left}
use Rattle.asm_step.proofs.Dependents.{depends_no_more, depends_through, still_depends}
use Rattle.asm_step.proofs.Layered.{moves-push, seen}
use Rattle.asm_step.proofs.OneMove.{one_each, one_keeps}
use Rattle.asm_step.proofs.Standing.{column_but_last, column_first, column_old, column_put}

-- ---- at one location

ok_front : (part : Part) (r : GroupResult) (Ms : List Move) (l : Place) → IsOk (in_column part r Ms l) → IsOk r
ok_front part (Ok v) Ms l h = refl
ok_front part (Err cause) Ms l h = absurd (false≢true (subst IsOk (column_err part cause Ms l) h))

module _ {a : Meaning} (laws : AggregatorLaws a) (below : Old) (Ms Ns : List Move) (C : Move) (each : DoesEach a.part Ns C)
    (keeps : KeepsGroups Ns C) (fired : (l : Place) → IsOk (in_column a.part (Ok (below l)) (Ms ++ Ns) l))
    (proper_moves : All (All IsProperInstruction) Ms) (B : State) (proper : IsProper B)
    (agrees : AgreesAtDependencies B below (Ms ++ Ns)) where
  -- where the last moves depend on what is before them, the first ones give the same on both
  alike : (l : Place) → depends Ns l ≡ true → in_column a.part (Ok (val B l)) Ms l ≡ in_column a.part (Ok (below l)) Ms l
  alike l dependent = by_test (sees_below Ms l) refl where
    by_test : (b : Bool) → sees_below Ms l ≡ b → in_column a.part (Ok (val B l)) Ms l ≡ in_column a.part (Ok (below l)) Ms l
    by_test true sees = ap (λ v. in_column a.part (Ok v) Ms l) (agrees l (depends_through Ms Ns l sees dependent))
    by_test false unseen = column_put laws (val B l) (below l) Ms l unseen

  whole : (l : Place) → IsOk (in_column a.part (in_column a.part (Ok (below l)) Ms l) Ns l)
  whole l = subst IsOk (column_both a.part (Ok (below l)) Ms Ns l) (fired l)

  -- where they do, or put a value first, they give one
  gives_there : (l : Place) (w : Value) → in_column a.part (Ok (val B l)) Ms l ≡ Ok w →
      (depends Ns l ≡ true) ⊎ (sees_below Ns l ≡ false) → IsOk (in_column a.part (Ok w) Ns l)
  gives_there l w is (inl dependent) =
      subst (λ (r : GroupResult). IsOk (in_column a.part r Ns l)) (sym (alike l dependent) ∙ is) (whole l)
  gives_there l w is (inr unseen) = by_answer (in_column a.part (Ok (below l)) Ms l) refl where
    by_answer : (r : GroupResult) → in_column a.part (Ok (below l)) Ms l ≡ r → IsOk (in_column a.part (Ok w) Ns l)
    by_answer (Ok u) e =
        subst IsOk (column_put laws u w Ns l unseen)
        (subst (λ (r : GroupResult). IsOk (in_column a.part r Ns l)) e (whole l))
    by_answer (Err cause) e =
        absurd (false≢true (subst IsOk e (ok_front a.part (in_column a.part (Ok (below l)) Ms l) Ns l (whole l))))

  -- so the one move gives what they give
  one_gives : (l : Place) (w : Value) → in_column a.part (Ok (val B l)) Ms l ≡ Ok w →
      in_column a.part (Ok w) Ns l ≡ gives a.part w (actions_at C l)
  one_gives l w is = by_tests (depends Ns l) (sees_below Ns l) refl refl where
    proper_there : value.IsProper w
    proper_there = proper_column laws (val B l) w Ms l (proper_value B l proper) proper_moves is

    so : (depends Ns l ≡ true) ⊎ (sees_below Ns l ≡ false) → in_column a.part (Ok w) Ns l ≡ gives a.part w (actions_at C l)
    so why = sym (each l w proper_there (column_but_last a.part (Ok w) Ns l (gives_there l w is why)))

    by_tests : (b c : Bool) → depends Ns l ≡ b → sees_below Ns l ≡ c → in_column a.part (Ok w) Ns l ≡ gives a.part w (actions_at C l)
    by_tests true c dependent sees = so (inl dependent)
    by_tests false false single unseen = so (inr unseen)
    by_tests false true single sees =
        column_first a.part w Ns l sees single ∙ ap (gives a.part w) (sym (keeps l sees single))

  pub columns : (l : Place) → in_column a.part (Ok (val B l)) (Ms ++ C ∷ []) l ≡ in_column a.part (Ok (val B l)) (Ms ++ Ns) l
  columns l =
      column_both a.part (Ok (val B l)) Ms (C ∷ []) l ∙ by_answer (in_column a.part (Ok (val B l)) Ms l) refl
      ∙ sym (column_both a.part (Ok (val B l)) Ms Ns l) where
        by_answer : (r : GroupResult) → in_column a.part (Ok (val B l)) Ms l ≡ r →
            in_column a.part (in_column a.part (Ok (val B l)) Ms l) (C ∷ []) l
            ≡ in_column a.part (in_column a.part (Ok (val B l)) Ms l) Ns l
        by_answer (Ok w) is =
            ap (λ r. in_column a.part r (C ∷ []) l) is ∙ sym (one_gives l w is) ∙ sym (ap (λ r. in_column a.part r Ns l) is)
        by_answer (Err cause) is =
            ap (λ r. in_column a.part r (C ∷ []) l) is ∙ sym (column_err a.part cause Ns l)
            ∙ sym (ap (λ r. in_column a.part r Ns l) is)

-- ---- of a step

-- the groups before the last one are well-formed
proper_groups : (part : Part) (old : Old) (before : List Move) (groups : List (List Move)) (group : List Move) (s : List Layer) →
    AreLayers part old before (groups ++ group ∷ []) s → AreProper s → All (All IsProperInstruction) (all_moves groups)
proper_groups part old before [] group s h proper = All-nil (All IsProperInstruction)
proper_groups part old before (first ∷ groups) group [] h proper = absurd h
proper_groups part old before (first ∷ groups) group (y ∷ s) h proper =
    All-append (All IsProperInstruction) first (all_moves groups)
    (subst (λ (Ms : List Move). All (All IsProperInstruction) Ms) h.0
    (All-head (λ (y : Layer). All (All IsProperInstruction) y.moves) y s proper))
    (proper_groups part old (before ++ first) groups group s h.2
    (All-tail (λ (y : Layer). All (All IsProperInstruction) y.moves) y s proper))

module _ {a : Meaning} (laws : AggregatorLaws a) (old : Old) (s : List Layer) (groups : List (List Move)) (group : List Move)
    (C : Move) (step : IsStepOf a.part old s (groups ++ group ∷ [])) (proper_layers : AreProper s)
    (one : IsOneMove a.part group C) where
  abbrev Ms : List Move
  Ms = all_moves groups

  all_before : all_moves (groups ++ group ∷ []) ≡ Ms ++ group
  all_before = moves-push groups group

  all_again : all_moves (groups ++ (C ∷ []) ∷ []) ≡ Ms ++ C ∷ []
  all_again = moves-push groups (C ∷ [])

  -- over what is below the moves of a step give a value at each location
  fired_over : (t : List Layer) (gs : List (List Move)) → IsStepOf a.part old t gs → (l : Place) →
      IsOk (in_column a.part (Ok (old l)) (all_moves gs) l)
  fired_over t gs is l =
      let shown = seen a.part old t gs is in
      let (sets, updates, wrote) = shown.written in
      subst IsOk (sym (column_old a.part old (all_moves gs) sets l updates)) refl

  module _ (B : State) (proper : IsProper B) (agrees : AgreesAtDependencies B old (Ms ++ group)) where
    same_columns : (l : Place) → in_column a.part (Ok (val B l)) (Ms ++ C ∷ []) l ≡ in_column a.part (Ok (val B l)) (Ms ++ group) l
    same_columns =
        columns laws old Ms group C one.each one.keeps
        (λ l. subst (λ (Ks : List Move). IsOk (in_column a.part (Ok (old l)) Ks l)) all_before (fired_over s (groups ++ group ∷ []) step l))
        (proper_groups a.part old [] groups group s step proper_layers) B proper agrees

    -- the one move of a step gives what its moves give
    one_column : (t : List Layer) (gs : List (List Move)) → IsStepOf a.part old t gs → AgreesAtDependencies B old (all_moves gs) →
        (l : Place) → gives a.part (val B l) (actions_at (unwrap_or (one_move t) []) l) ≡ in_column a.part (Ok (val B l)) (all_moves gs) l
    one_column t gs is agree =
        columns laws old [] (all_moves gs) (unwrap_or (one_move t) [])
        (one_each a.part old t gs (unwrap_or (one_move t) []) is refl) (one_keeps a.part old t gs (unwrap_or (one_move t) []) is refl)
        (fired_over t gs is) (All-nil (All IsProperInstruction)) B proper agree

    left_same : left_by (fire_all a.part (Ok B) (Ms ++ C ∷ [])) ≡ left_by (fire_all a.part (Ok B) (Ms ++ group))
    left_same = same_left a.part B (Ms ++ C ∷ []) (Ms ++ group) (proper_stored B proper) same_columns

    one_same : (t : List Layer) → IsStepOf a.part old t (groups ++ (C ∷ []) ∷ []) →
        fire a.part B (unwrap_or (one_move t) []) ≡ fire a.part B (unwrap_or (one_move s) [])
    one_same t is =
        same_fire a.part B B (unwrap_or (one_move t) []) (unwrap_or (one_move s) [])
        (λ l. one_column t (groups ++ (C ∷ []) ∷ []) is
        (λ k dependent. agrees k (depends_no_more a.part group C one Ms k (sym (ap (λ (Ks : List Move). depends Ks k) all_again) ∙ dependent))) l
        ∙ ap (λ (Ks : List Move). in_column a.part (Ok (val B l)) Ks l) all_again ∙ same_columns l
        ∙ sym (ap (λ (Ks : List Move). in_column a.part (Ok (val B l)) Ks l) all_before)
        ∙ sym (one_column s (groups ++ group ∷ []) step
        (λ k dependent. agrees k (sym (ap (λ (Ks : List Move). depends Ks k) all_before) ∙ dependent)) l))
        (proper_stored B proper) (proper_stored B proper)

  pub pushed_again : IsPushedAgain a old s groups group C
  pushed_again = record {
    no_more = depends_no_more a.part group C one Ms;
    no_less = still_depends a.part group C one Ms;
    leaves = left_same;
    fires = λ t B is proper agrees. one_same B proper agrees t is;
  }
