-- A step stays one of its moves when one is pushed, extended or popped, and its one move does what they do.
use Rattle.std.proofs.Common.{◌≡◌, List, [], ◌∷◌, ◌++◌, append_assoc, append-nil, Option, Some, None, Ok, IsOk, refl, sym, ap, ◌∙◌, subst, ◌≢◌, ◌<◌, ◌+◌, ◌-◌, ℕ, Contains, arith, drop, get_or, length, length-append, take, Result, Err, IsErr}
use Rattle.std.specs.Option.{option_map, option_map_or}
use Rattle.asm_element.specs.Place.{Place, location_cmp}
use Rattle.asm_update.specs.Fire.{Part, Old, fire, then_fire}
use Rattle.asm_update.specs.Move.{Move}
use Rattle.asm_update.specs.State.{State, Updates, IsProper}
use Rattle.asm_overlay.specs.Frames.{under, topmost}
use Rattle.asm_step.specs.InTurn.{fire_all, all_but_last, DoesAll, IsWrittenInTurn, Agrees}
use Rattle.asm_step.specs.Layers.{Layer, behind, frames_of, one_move_of, top_of, all_moves, IsLayerOf, AreLayers, IsStepOf, extended}
use Rattle.asm_step.specs.Outcomes.{frame}
use Rattle.asm_step.proofs.Prefixes.{has_top, without_layers}
use Rattle.asm_step.proofs.Pushed.{same_under}
use Rattle.asm_step.proofs.Agreeing.{but_last_ok, does_none, fires_in_turn, fire_all-both}
use Rattle.std.proofs.lemmas.Bool.{false≢true}
use Rattle.std.proofs.lemmas.List.{drop_more, take-append-drop, take_more}
use Rattle.std.proofs.lemmas.List.Elements.{Contains-append_left}
use Rattle.std.proofs.Math.Seq.{take-append_seam}
use Rattle.asm_update.specs.declared.clash.Clash.{Clash}
use Rattle.asm_aggregate.specs.Compose.{KeepsSequence, NeverFires}
use Rattle.asm_aggregate.specs.declared.composition.ComposeError.{ComposeError}
use Rattle.asm_step.specs.Places.{all_partial_places, partial_places}
use Rattle.asm_step.specs.Popped.{KeepsTurns, NeverFireAll}
use Rattle.std.specs.FinMap as finite
use Rattle.asm_aggregate.specs.declared.composition.ComposeError.TheVariants as compose_error

-- lists by their last item

pub record HasLast {X : Type 0} (xs : List X) : Type 0 where
  pub before : List X
  pub last : X
  pub parts : xs ≡ before ++ last ∷ []

pub has_last : {X : Type 0} (x : X) (xs : List X) → HasLast (x ∷ xs)
has_last x [] = record { before = []; last = x; parts = refl }
has_last x (y ∷ xs) =
    let rest = has_last y xs in
    record { before = x ∷ rest.before; last = rest.last; parts = ap (λ ys. x ∷ ys) rest.parts }

pub top_of-push : (s : List Layer) (y : Layer) → top_of (s ++ y ∷ []) ≡ Some y
top_of-push [] y = refl
top_of-push (x ∷ []) y = refl
top_of-push (x ∷ z ∷ s) y = top_of-push (z ∷ s) y

pub moves-push : (groups : List (List Move)) (group : List Move) →
    all_moves (groups ++ group ∷ []) ≡ all_moves groups ++ group
moves-push [] group = append-nil group
moves-push (first ∷ groups) group =
    ap (λ Ms. first ++ Ms) (moves-push groups group) ∙ sym (append_assoc first (all_moves groups) group)

pub extended-push : (groups : List (List Move)) (group : List Move) (M : Move) →
    extended (groups ++ group ∷ []) M ≡ groups ++ (group ++ M ∷ []) ∷ []
extended-push [] group M = refl
extended-push (first ∷ []) group M = refl
extended-push (first ∷ next ∷ groups) group M = ap (λ gs. first ∷ gs) (extended-push (next ∷ groups) group M)

pub split_top : (s : List Layer) (x : Layer) → top_of s ≡ Some x → s ≡ all_but_last s ++ x ∷ []
split_top [] x is = absurd (cc is)
split_top (y ∷ []) x is = let same : y ≡ x = cc is in ap (λ z. z ∷ []) same
split_top (y ∷ z ∷ s) x is = ap (λ t. y ∷ t) (split_top (z ∷ s) x is)

-- layers

pub layers_push : (part : Part) (old : Old) (before : List Move) (groups : List (List Move)) (s : List Layer)
    (group : List Move) (y : Layer) → AreLayers part old before groups s → y.moves ≡ group →
    IsLayerOf part old ((before ++ all_moves groups) ++ group) y →
    AreLayers part old before (groups ++ group ∷ []) (s ++ y ∷ [])
layers_push part old before [] [] group y h has on_top =
    (has, subst (λ Ns. IsLayerOf part old (Ns ++ group) y) (append-nil before) on_top, tt)
layers_push part old before (first ∷ groups) (x ∷ s) group y h has on_top = (
  h.0,
  h.1,
  layers_push part old (before ++ first) groups s group y h.2 has
      (subst (λ Ns. IsLayerOf part old (Ns ++ group) y) (sym (append_assoc before first (all_moves groups))) on_top),
)
layers_push part old before [] (x ∷ s) group y h has on_top = absurd h
layers_push part old before (first ∷ groups) [] group y h has on_top = absurd h

pub layers_split : (part : Part) (old : Old) (before : List Move) (groups : List (List Move)) (s : List Layer)
    (group : List Move) (y : Layer) →
    AreLayers part old before (groups ++ group ∷ []) (s ++ y ∷ []) → AreLayers part old before groups s
layers_split part old before [] [] group y h = tt
layers_split part old before (first ∷ groups) (x ∷ s) group y h =
    (h.0, h.1, layers_split part old (before ++ first) groups s group y h.2)
layers_split part old before [] (x ∷ []) group y h = absurd h.2
layers_split part old before [] (x ∷ z ∷ s) group y h = absurd h.2
layers_split part old before (first ∷ []) [] group y h = absurd h.2
layers_split part old before (first ∷ next ∷ groups) [] group y h = absurd h.2

-- the last layer keeps the last group
pub layers_last : (part : Part) (old : Old) (before : List Move) (groups : List (List Move)) (s : List Layer)
    (group : List Move) (y : Layer) → AreLayers part old before (groups ++ group ∷ []) (s ++ y ∷ []) → y.moves ≡ group
layers_last part old before [] [] group y h = h.0
layers_last part old before (first ∷ groups) (x ∷ s) group y h = layers_last part old (before ++ first) groups s group y h.2
layers_last part old before [] (x ∷ []) group y h = absurd h.2
layers_last part old before [] (x ∷ z ∷ s) group y h = absurd h.2
layers_last part old before (first ∷ []) [] group y h = absurd h.2
layers_last part old before (first ∷ next ∷ groups) [] group y h = absurd h.2

-- without layers there is no last group
pub no_last : {X : Type 0} (part : Part) (old : Old) (before : List Move) (groups : List (List Move)) (group : List Move) →
    AreLayers part old before (groups ++ group ∷ []) [] → X
no_last part old before [] group h = absurd h
no_last part old before (first ∷ groups) group h = absurd h

-- so the topmost layer keeps the last group
pub last_group : (part : Part) (old : Old) (s : List Layer) (groups : List (List Move)) (group : List Move) →
    IsStepOf part old s (groups ++ group ∷ []) → option_map (λ (y : Layer). y.moves) (top_of s) ≡ Some group
last_group part old s groups group step = by_top (top_of s) refl where
  by_top : (t : Option Layer) → top_of s ≡ t → option_map (λ (y : Layer). y.moves) t ≡ Some group
  by_top (Some y) top =
      ap Some (layers_last part old [] groups (all_but_last s) group y
      (subst (λ (t : List Layer). IsStepOf part old t (groups ++ group ∷ [])) (split_top s y top) step))
  by_top None top =
      no_last part old [] groups group
      (subst (λ (t : List Layer). IsStepOf part old t (groups ++ group ∷ [])) (without_layers s top) step)

-- moves in front of a layer's own leave it what it is
pub layer_behind : (part : Part) (old : Old) (Ms Ns : List Move) (y : Layer) → IsLayerOf part old Ms y →
    IsLayerOf part old Ms (behind Ns y)
layer_behind part old Ms Ns y h = record {
  written = h.written;
  does = h.does;
  each = h.each;
  keeps = h.keeps;
  building = h.building;
  dependencies = h.dependencies;
}

-- where there is a layer, there is a group
pub group_there : (part : Part) (old : Old) (before : List Move) (groups : List (List Move)) (s : List Layer) (y : Layer) →
    AreLayers part old before groups (s ++ y ∷ []) → HasLast groups
group_there part old before (first ∷ groups) s y h = has_last first groups
group_there part old before [] [] y h = absurd h
group_there part old before [] (x ∷ s) y h = absurd h

pub none_there : (part : Part) (old : Old) (before : List Move) (groups : List (List Move)) →
    AreLayers part old before groups [] → groups ≡ []
none_there part old before [] h = refl
none_there part old before (first ∷ groups) h = absurd h

-- the topmost layer is of all moves
of_all : (part : Part) (old : Old) (before : List Move) (groups : List (List Move)) (s : List Layer) (y : Layer) →
    AreLayers part old before groups s → top_of s ≡ Some y → IsLayerOf part old (before ++ all_moves groups) y
of_all part old before [] [] y h is = absurd (cc is)
of_all part old before (group ∷ []) (x ∷ []) y h is =
    let same : x ≡ y = cc is in
    subst (IsLayerOf part old (before ++ (group ++ []))) same
    (subst (λ Ms. IsLayerOf part old (before ++ Ms) x) (sym (append-nil group)) h.1)
of_all part old before (group ∷ groups) (x ∷ z ∷ s) y h is =
    subst (λ Ms. IsLayerOf part old Ms y) (append_assoc before group (all_moves groups))
    (of_all part old (before ++ group) groups (z ∷ s) y h.2 is)
of_all part old before [] (x ∷ s) y h is = absurd h
of_all part old before (group ∷ groups) [] y h is = absurd h
of_all part old before (group ∷ next ∷ groups) (x ∷ []) y h is = absurd h.2

-- what the moves of a step write, and its frames show
pub record IsSeen (part : Part) (old : Old) (s : List Layer) (Ms : List Move) : Type 0 where
  pub updates : Updates
  pub written : IsWrittenInTurn part old Ms updates
  pub show : (l : Place) → topmost (frames_of s) l ≡ finite.get updates l

module _ (part : Part) (old : Old) (s : List Layer) (groups : List (List Move)) (step : IsStepOf part old s groups) where
  pub top_is : (y : Layer) → top_of s ≡ Some y → IsLayerOf part old (all_moves groups) y
  top_is y is = of_all part old [] groups s y step is

  -- the one move does what all do, and where there is none nothing does
  pub top_does : (y : Layer) → top_of s ≡ Some y → DoesAll part (all_moves groups) (one_move_of y)
  top_does y is = (top_is y is).does

  -- without layers there are no moves
  pub no_groups : top_of s ≡ None → groups ≡ []
  no_groups none = by_list s step none where
    by_list : (t : List Layer) → IsStepOf part old t groups → top_of t ≡ None → groups ≡ []
    by_list [] h none = none_there part old [] groups h
    by_list (x ∷ t) h none = let top = has_top x t in absurd (cc (none, top.1))

  pub does_nothing : (C : Move) → top_of s ≡ None → C ≡ [] → DoesAll part (all_moves groups) C
  does_nothing C none empty =
      subst (λ gs. DoesAll part (all_moves gs) C) (sym (no_groups none)) (subst (DoesAll part []) (sym empty) (does_none part))

  pub seen : IsSeen part old s (all_moves groups)
  seen = by_top (top_of s) refl where
    by_top : (t : Option Layer) → top_of s ≡ t → IsSeen part old s (all_moves groups)
    by_top (Some y) top = record {
      updates = frame y.outcomes;
      written = (top_is y top).written;
      show = λ l. ap (λ (t : Option Layer). topmost (option_map_or (λ (y : Layer). frame y.outcomes ∷ []) t []) l) top;
    }
    by_top None top = record {
      updates = finite.empty;
      written = subst (λ gs. IsWrittenInTurn part old (all_moves gs) finite.empty) (sym (no_groups top))
          ([], tt, (λ l. finite.get-empty location_cmp l));
      show = λ l. ap (λ (t : Option Layer). topmost (option_map_or (λ (y : Layer). frame y.outcomes ∷ []) t []) l) top
          ∙ sym (finite.get-empty location_cmp l);
    }

-- over a state that has what is below, the step's moves fire in turn
pub fires_all : (part : Part) (old : Old) (s : List Layer) (groups : List (List Move)) (B : State) →
    IsStepOf part old s groups → Agrees B old (all_moves groups) →
    fire_all part (Ok B) (all_moves groups) ≡ Ok (under B (frames_of s))
fires_all part old s groups B step has =
    let is = seen part old s groups step in
    let (sets, updates, written) = is.written in
    fires_in_turn part old B (all_moves groups) sets updates has
    ∙ ap Ok (same_under B sets (frames_of s) (λ l. sym (written l) ∙ sym (is.show l)))

-- and what does the same as all leaves the same
pub fires_as : (part : Part) (old : Old) (s : List Layer) (groups : List (List Move)) (C : Move) (B : State) →
    IsStepOf part old s groups → DoesAll part (all_moves groups) C → IsProper B → Agrees B old (all_moves groups) →
    (fire part B C ≡ Ok (under B (frames_of s)))
    × (fire_all part (Ok B) (all_moves groups) ≡ Ok (under B (frames_of s)))
fires_as part old s groups C B step does proper has =
    let all = fires_all part old s groups B step has in
    (does B proper (but_last_ok part (Ok B) (all_moves groups) (subst IsOk (sym all) refl)) ∙ all, all)

places-both : (Ms Ns : List Move) → all_partial_places (Ms ++ Ns) ≡ all_partial_places Ms ++ all_partial_places Ns
places-both [] Ns = refl
places-both (M ∷ Ms) Ns =
    ap (λ ls. partial_places M ++ ls) (places-both Ms Ns)
    ∙ sym (append_assoc (partial_places M) (all_partial_places Ms) (all_partial_places Ns))

agrees_front : (B : State) (old : Old) (Ms Ns : List Move) → Agrees B old (Ms ++ Ns) → Agrees B old Ms
agrees_front B old Ms Ns has l there =
    has l (subst (λ (ls : List Place). Contains ls l) (sym (places-both Ms Ns))
    (Contains-append_left (all_partial_places Ms) (all_partial_places Ns) l there))

-- the last group fires on what the groups before it leave
pub last_fires : (part : Part) (old : Old) (s : List Layer) (groups : List (List Move)) (group : List Move) (y : Layer)
    (B : State) → IsStepOf part old (s ++ y ∷ []) (groups ++ group ∷ []) →
    Agrees B old (all_moves (groups ++ group ∷ [])) →
    fire_all part (Ok (under B (frames_of s))) group ≡ Ok (under B (frames_of (s ++ y ∷ [])))
last_fires part old s groups group y B step has =
    let moves = moves-push groups group in
    let front = agrees_front B old (all_moves groups) group (subst (λ Ms. Agrees B old Ms) moves has) in
    ap (λ r. fire_all part r group) (sym (fires_all part old s groups B (layers_split part old [] groups s group y step) front))
    ∙ sym (fire_all-both part (Ok B) (all_moves groups) group) ∙ ap (fire_all part (Ok B)) (sym moves)
    ∙ fires_all part old (s ++ y ∷ []) (groups ++ group ∷ []) B step has

-- a clash stays
clash_stays : (part : Part) (r : Result State Clash) (Ms : List Move) → IsErr r → IsErr (fire_all part r Ms)
clash_stays part r [] clash = clash
clash_stays part (Ok A) (M ∷ Ms) clash = absurd (false≢true clash)
clash_stays part (Err c) (M ∷ Ms) clash = clash_stays part (Err c) Ms clash

-- moves that one does, and a next one that never fires after that
pub never_in_turn : (part : Part) (Ms Ns : List Move) (C N : Move) → DoesAll part Ms C → NeverFires part C N →
    NeverFireAll part (Ms ++ N ∷ Ns)
never_in_turn part Ms Ns C N does never A proper =
    subst IsErr (sym (fire_all-both part (Ok A) Ms (N ∷ Ns))) (by_answer (fire_all part (Ok A) Ms) refl) where
      by_answer : (r : Result State Clash) → fire_all part (Ok A) Ms ≡ r → IsErr (fire_all part (then_fire part r N) Ns)
      by_answer (Ok B) is =
          let same : fire part A C ≡ Ok B = does A proper (but_last_ok part (Ok A) Ms (subst IsOk (sym is) refl)) ∙ is in
          clash_stays part (fire part B N) Ns (subst (λ r. IsErr (then_fire part r N)) same (never A proper))
      by_answer (Err c) is = clash_stays part (Err c) Ns refl

-- so where a next one doesn't compose
pub keeps_err : (part : Part) (Ms Ns : List Move) (C N : Move) (e : ComposeError) → DoesAll part Ms C →
    KeepsSequence part C N (Err e) → KeepsTurns part (Ms ++ N ∷ Ns) (Err e)
keeps_err part Ms Ns C N (compose_error.Clash c) does never = never_in_turn part Ms Ns C N does never
keeps_err part Ms Ns C N (compose_error.Large l) does never = never_in_turn part Ms Ns C N does never
keeps_err part Ms Ns C N compose_error.ManyInstructions does never = tt
keeps_err part Ms Ns C N compose_error.Memory does never = tt

-- the first of some moves, the next one, and the others
pub record IsAt (Ms : List Move) (i : ℕ) (M : Move) : Type 0 where
  pub more : take (i + 1) Ms ≡ take i Ms ++ M ∷ []
  pub left : drop i Ms ≡ M ∷ drop (i + 1) Ms
  pub all : Ms ≡ take i Ms ++ M ∷ drop (i + 1) Ms

pub is_at : (Ms : List Move) (i : ℕ) (M : Move) → i < length Ms → M ≡ get_or Ms i M → IsAt Ms i M
is_at Ms i M within is =
    let left : drop i Ms ≡ M ∷ drop (i + 1) Ms = drop_more Ms i M within ∙ ap (λ N. N ∷ drop (i + 1) Ms) (sym is) in
    record {
      more = take_more Ms i M within ∙ ap (λ N. take i Ms ++ N ∷ []) (sym is);
      left = left;
      all = sym (take-append-drop i Ms) ∙ ap (λ Ns. take i Ms ++ Ns) left;
    }

-- all but the last of some moves, of which the first isn't the last
pub without_last : (first M : Move) (more left Ms : List Move) → left ≡ take (length more - 1) more → Ms ≢ [] →
    first ∷ more ≡ Ms ++ M ∷ [] → first ∷ left ≡ Ms
without_last first M more left [] is some all = absurd (some refl)
without_last first M more left (N ∷ Ns) is some all =
    let head : first ≡ N = cc in
    let tail : more ≡ Ns ++ M ∷ [] = cc in
    let long = length-append Ns (M ∷ []) in
    let front : length (Ns ++ M ∷ []) - 1 ≡ length Ns = omega (arith, long) in
    let same : left ≡ Ns =
    is ∙ ap (λ Ls. take (length Ls - 1) Ls) tail ∙ ap (λ n. take n (Ns ++ M ∷ [])) front ∙ take-append_seam Ns (M ∷ []) in
    (λ i. head i ∷ same i)
