-- What a push and an extension do to a step, and what they answer.
use Rattle.std.proofs.Common.{◌≡◌, inl, inr, List, [], ◌∷◌, ◌++◌, Contains, append_assoc, Option, Some, None, unwrap_or, Result, Ok, Err, IfOk, IfErr, IsErr, refl, sym, ap, ◌∙◌, subst}
use Rattle.std.proofs.lemmas.Bool.{false≢true}
use Rattle.std.specs.Option.{option_or, option_map, option_map_or}
use Rattle.asm_element.specs.Place.{Place}
use Rattle.asm_update.specs.Aggregator.{Meaning}
use Rattle.asm_update.specs.Fire.{Part, Old, fire, then_fire, sequence, IsUpdateSet}
use Rattle.asm_update.specs.Move.{Move}
use Rattle.asm_update.specs.State.{State, Updates, IsProper, val, overwrite}
use Rattle.asm_update.specs.declared.clash.Clash.{Clash}
use Rattle.asm_update.proofs.FireLemmas.{fire_updates, fire_clash}
use Rattle.asm_overlay.specs.Frames.{under, topmost, seen_through}
use Rattle.asm_overlay.proofs.FrameLemmas.{topmost-append, val-under}
use Rattle.asm_step.specs.Answer.{HasUpdates, IsPushAnswer, IsPushAnswerOn, IsLastOn}
use Rattle.asm_step.specs.InTurn.{DoesEach, DoesAll, Agrees, all_but_last}
use Rattle.asm_step.specs.Layers.{Layer, IsLayerOf, behind, frames_of, one_move_of, top_of, one_move, all_moves, IsStepOf, extended, moves_of}
use Rattle.asm_step.specs.Next.{KeepsEach, KeepsOrder, NeverFollows, IsComposed, IsContinued, IsNext, IsNextLayer, IsExtensionAnswer}
use Rattle.asm_step.specs.Outcomes.{frame}
use Rattle.asm_step.specs.Places.{partial_places}
use Rattle.asm_step.specs.Dependencies.{KeepsGroups}
use Rattle.asm_step.specs.declared.error.StepError.{StepError}
use Rattle.asm_step.proofs.Agreeing.{agrees_before, agrees_last, same_clash, same_update_set, does_one, does_last, does_next}
use Rattle.asm_step.proofs.Built.{builds_push, depends_push}
use Rattle.asm_step.proofs.Standing.{each_next, each_one}
use Rattle.asm_step.proofs.Layered.{extended-push, fires_all, fires_as, group_there, layer_behind, layers_last, layers_push, layers_split, moves-push, no_groups, none_there, seen, top_does, top_is, top_of-push, split_top}
use Rattle.asm_step.proofs.Prefixes.{has_top}
use Rattle.asm_step.proofs.Pushed.{keeps_one, keeps_push, same_seen, same_under, under-push, written_more}
use Rattle.std.specs.Prelude.{OnOk, OnErr, IfErr}
use Rattle.std.specs.FinMap as finite
use Rattle.asm_step.specs.declared.error.StepError.TheVariants as step_error

-- with one more move

next_does : (a : Meaning) (old : Old) (s : List Layer) (groups : List (List Move)) (M C : Move) →
    IsStepOf a.part old s groups → (one_move s ≡ None → M ≡ C) → KeepsOrder a.part (one_move s) M (Ok C) →
    DoesAll a.part (all_moves groups ++ M ∷ []) C
next_does a old [] groups M C step first order =
    subst (λ gs. DoesAll a.part (all_moves gs ++ M ∷ []) C) (sym (none_there a.part old [] groups step))
    (subst (DoesAll a.part (M ∷ [])) (first refl) (does_one a.part M))
next_does a old (x ∷ s) groups M C step first order =
    let top = has_top x s in
    let after = subst (λ (o : Option Layer). KeepsOrder a.part (option_map one_move_of o) M (Ok C)) top.1 order in
    does_next a.part (all_moves groups) (one_move_of top.0) M C (top_does a.part old (x ∷ s) groups step top.0 top.1) after

-- where there was no move, the one move is the next one
pub first_continued : (a : Meaning) (o : Option Move) (M C : Move) → IsContinued a o M (Ok C) → o ≡ None → M ≡ C
first_continued a None M C h is = let same : M ≡ C = cc (h.0.0) in same
first_continued a (Some D) M C h is = absurd (cc is)

pub first_composed : (a : Meaning) (o : Option Move) (M C : Move) → IsComposed a o M (Ok C) → o ≡ None → M ≡ C
first_composed a None M C h is = let same : M ≡ C = cc (h.0.0) in same
first_composed a (Some D) M C h is = absurd (cc is)

next_each : (a : Meaning) (old : Old) (s : List Layer) (groups : List (List Move)) (M C : Move) →
    IsStepOf a.part old s groups → (one_move s ≡ None → M ≡ C) → KeepsEach a.part (one_move s) M C →
    DoesEach a.part (all_moves groups ++ M ∷ []) C
next_each a old [] groups M C step first each =
    subst (λ gs. DoesEach a.part (all_moves gs ++ M ∷ []) C) (sym (none_there a.part old [] groups step))
    (subst (DoesEach a.part (M ∷ [])) (first refl) (each_one a.part M))
next_each a old (x ∷ s) groups M C step first each =
    let top = has_top x s in
    let after = subst (λ (o : Option Layer). KeepsEach a.part (option_map one_move_of o) M C) top.1 each in
    each_next a.part (all_moves groups) (one_move_of top.0) M C (top_is a.part old (x ∷ s) groups step top.0 top.1).each after

next_keeps : (a : Meaning) (old : Old) (s : List Layer) (groups : List (List Move)) (M C : Move) →
    IsStepOf a.part old s groups → IsContinued a (one_move s) M (Ok C) → KeepsGroups (all_moves groups ++ M ∷ []) C
next_keeps a old [] groups M C step extends =
    let same : M ≡ C = first_continued a None M C extends refl in
    subst (λ gs. KeepsGroups (all_moves gs ++ M ∷ []) C) (sym (none_there a.part old [] groups step))
    (subst (KeepsGroups (M ∷ [])) same (keeps_one M))
next_keeps a old (x ∷ s) groups M C step extends =
    let top = has_top x s in
    let after = subst (λ (o : Option Layer). IsContinued a (option_map one_move_of o) M (Ok C)) top.1 extends in
    keeps_push a (all_moves groups) (one_move_of top.0) M C (top_is a.part old (x ∷ s) groups step top.0 top.1).keeps after.0.0

-- the layer of a next move is of all moves and this one
next_is : (a : Meaning) (old : Old) (s : List Layer) (groups : List (List Move)) (M : Move) (y : Layer) →
    IsStepOf a.part old s groups → IsNextLayer a old s M y → IsLayerOf a.part old (all_moves groups ++ M ∷ []) y
next_is a old s groups M y step next =
    let is = seen a.part old s groups step in
    let same : seen_through (frames_of s) old ≡ seen_through (is.updates ∷ []) old =
    same_seen (frames_of s) (is.updates ∷ []) old is.show in
    record {
      written = written_more a.part old (all_moves groups) M is.updates next.updates (frame y.outcomes) is.written
          (subst (λ (o : Old). IsUpdateSet a.part o M next.updates) same next.set)
          (λ l. next.over.written l ∙ ap (option_or (finite.get next.updates l)) (is.show l));
      does = next_does a old s groups M (one_move_of y) step (first_continued a (one_move s) M (one_move_of y) next.over.extends)
          next.over.extends.1;
      each = next_each a old s groups M (one_move_of y) step (first_continued a (one_move s) M (one_move_of y) next.over.extends)
          next.over.each;
      keeps = next_keeps a old s groups M (one_move_of y) step next.over.extends;
      building = λ l. next.over.building l ∙ builds_push a.part old s groups step M l;
      dependencies = λ l. next.over.dependencies l ∙ depends_push a.part old s groups step M l;
    }

-- a step that was pushed, extended or popped

pub step_push : (a : Meaning) (old : Old) (s : List Layer) (groups : List (List Move)) (M : Move) (y : Layer) →
    IsStepOf a.part old s groups → IsNextLayer a old s M y →
    IsStepOf a.part old (s ++ y ∷ []) (groups ++ (M ∷ []) ∷ [])
step_push a old s groups M y step next =
    layers_push a.part old [] groups s (M ∷ []) y step next.over.moves (next_is a old s groups M y step next)

pub step_extend : (a : Meaning) (old : Old) (s : List Layer) (groups : List (List Move)) (M : Move) (x y : Layer) →
    IsStepOf a.part old (s ++ x ∷ []) groups → IsNextLayer a old (s ++ x ∷ []) M y →
    IsStepOf a.part old (s ++ behind x.moves y ∷ []) (extended groups M)
step_extend a old s groups M x y step next =
    let last = group_there a.part old [] groups s x step in
    let split = subst (λ gs. IsStepOf a.part old (s ++ x ∷ []) gs) last.parts step in
    let below = layers_split a.part old [] last.before s last.last x split in
    let has : x.moves ++ y.moves ≡ last.last ++ M ∷ [] =
    (λ i. layers_last a.part old [] last.before s last.last x split i ++ next.over.moves i) in
    let all : all_moves groups ++ M ∷ [] ≡ all_moves last.before ++ (last.last ++ M ∷ []) =
    ap (λ gs. all_moves gs ++ M ∷ []) last.parts ∙ ap (λ Ms. Ms ++ M ∷ []) (moves-push last.before last.last)
    ∙ append_assoc (all_moves last.before) last.last (M ∷ []) in
    subst (λ gs. IsStepOf a.part old (s ++ behind x.moves y ∷ []) gs)
    (sym (ap (λ gs. extended gs M) last.parts ∙ extended-push last.before last.last M))
    (layers_push a.part old [] last.before s (last.last ++ M ∷ []) (behind x.moves y) below has
    (layer_behind a.part old _ x.moves y
    (subst (λ Ms. IsLayerOf a.part old Ms y) all (next_is a old (s ++ x ∷ []) groups M y step next))))

pub step_pop : (part : Part) (old : Old) (s : List Layer) (groups : List (List Move)) (group : List Move) (y : Layer) →
    IsStepOf part old (s ++ y ∷ []) (groups ++ group ∷ []) → IsStepOf part old s groups
step_pop part old s groups group y step = layers_split part old [] groups s group y step

-- what is answered

pub answered_ok : (a : Meaning) (old : Old) (s new : List Layer) (M : Move) (y : Layer) → IsNextLayer a old s M y →
    one_move new ≡ Some (one_move_of y) → IsPushAnswer a old s new M (Ok tt)
answered_ok a old s new M y next is = ((next.updates, next.set), (one_move_of y, is, next.over.extends.0))

-- on a state that has what is below, a move that fires is not refused for those before it
not_refused : (a : Meaning) (old : Old) (s : List Layer) (groups : List (List Move)) (M : Move) (A B : State) →
    IsStepOf a.part old s groups → IsProper B → Agrees B old (all_moves groups) →
    fire a.part (under B (frames_of s)) M ≡ Ok A → NeverFollows a.part (one_move s) M → ⊥
not_refused a old [] groups M A B step proper has fires never = never
not_refused a old (x ∷ s) groups M A B step proper has fires never =
    let top = has_top x s in
    let D = one_move_of top.0 in
    let after = subst (λ (o : Option Layer). NeverFollows a.part (option_map one_move_of o) M) top.1 never in
    let done = (fires_as a.part old (x ∷ s) groups D B step (top_does a.part old (x ∷ s) groups step top.0 top.1) proper
    has).0 in
    let both : sequence a.part B D M ≡ Ok A = ap (λ r. then_fire a.part r M) done ∙ fires in
    false≢true (subst IsErr both (after B proper))

module _ (a : Meaning) (old : Old) (s : List Layer) (groups : List (List Move)) (M : Move) (B : State)
    (step : IsStepOf a.part old s groups) (proper : IsProper B) (has : Agrees B old (all_moves groups ++ M ∷ [])) where
  seen_there : (l : Place) → Contains (partial_places M) l →
      seen_through (frames_of s) old l ≡ val (under B (frames_of s)) l
  seen_there l there =
      sym (val-under B (frames_of s) l
      ∙ ap (unwrap_or (topmost (frames_of s) l)) (agrees_last B old (all_moves groups) M has l there))

  pub fires_there : (V : Updates) → IsUpdateSet a.part (seen_through (frames_of s) old) M V →
      fire a.part (under B (frames_of s)) M ≡ Ok (overwrite (under B (frames_of s)) V)
  fires_there V updates =
      fire_updates a.part (under B (frames_of s)) M V
      (same_update_set a.part (seen_through (frames_of s) old) (val (under B (frames_of s))) M seen_there V updates)

  pub answered_on_ok : (new : List Layer) (V : Updates) → IsUpdateSet a.part (seen_through (frames_of s) old) M V →
      ((l : Place) → topmost (frames_of new) l ≡ option_or (finite.get V l) (topmost (frames_of s) l)) →
      IsPushAnswerOn a.part B s new M (Ok tt)
  answered_on_ok new V updates show =
      fires_there V updates
      ∙ ap Ok (sym (under-push B (frames_of s) V)
      ∙ same_under B (frames_of s ++ V ∷ []) (frames_of new) (λ l. topmost-append (frames_of s) V l ∙ sym (show l)))

  refused_there : HasUpdates a.part old s M → NeverFollows a.part (one_move s) M → ⊥
  refused_there updates never =
      not_refused a old s groups M (overwrite (under B (frames_of s)) updates.0) B step proper
      (agrees_before B old (all_moves groups) M has) (fires_there updates.0 updates.1) never

  pub answered_on_err : (e : StepError) → IsNext a old s M (Err e) → IsPushAnswerOn a.part B s s M (Err e)
  answered_on_err (step_error.Clash clash) (inl least) =
      fire_clash a.part (under B (frames_of s)) M clash
      (same_clash a.part (seen_through (frames_of s) old) (val (under B (frames_of s))) M seen_there clash least)
  answered_on_err (step_error.Clash clash) (inr refused) = absurd (refused_there refused.0 refused.1.1)
  answered_on_err (step_error.Large l) (inl least) = absurd least
  answered_on_err (step_error.Large l) (inr refused) = absurd (refused_there refused.0 refused.1.1)
  answered_on_err step_error.Many next = tt
  answered_on_err step_error.Deep next = tt
  answered_on_err step_error.Memory next = tt

-- an extension of a step without moves is a push

pub extend_first : (part : Part) (old : Old) (s new : List Layer) (groups : List (List Move)) (M : Move) →
    IsStepOf part old s groups → top_of s ≡ None → IsStepOf part old new (groups ++ (M ∷ []) ∷ []) →
    IsStepOf part old new (extended groups M)
extend_first part old s new groups M step none pushed =
    let gone = no_groups part old s groups step none in
    subst (λ gs. IsStepOf part old new (extended gs M)) (sym gone)
    (subst (λ gs. IsStepOf part old new (gs ++ (M ∷ []) ∷ [])) gone pushed)

pub not_deep : (r : Result (Unit {0}) StepError) → (r ≡ Err step_error.Deep → ⊥) →
    IfErr r (λ e. e ≡ step_error.Deep → ⊥)
not_deep (Ok _) other = tt
not_deep (Err e) other = λ is. other (ap Err is)

-- a last move that isn't pushed

pub followed_does : (a : Meaning) (old : Old) (s : List Layer) (groups : List (List Move)) (M : Move)
    (r : Result Move StepError) →
    IsComposed a (one_move s) M r → IsStepOf a.part old s groups →
    IfOk r (λ C. DoesAll a.part (all_moves groups ++ M ∷ []) C)
followed_does a old s groups M (Ok C) composed step =
    next_does a old s groups M C step (first_composed a (one_move s) M C composed) composed.1
followed_does a old s groups M (Err e) composed step = tt

never_after : (a : Meaning) (old : Old) (s : List Layer) (groups : List (List Move)) (M : Move) (B : State) →
    IsStepOf a.part old s groups → IsProper B → Agrees B old (all_moves groups) → NeverFollows a.part (one_move s) M →
    IsErr (fire a.part (under B (frames_of s)) M)
never_after a old s groups M B step proper has never = by_answer (fire a.part (under B (frames_of s)) M) refl where
  by_answer : (r : Result State Clash) → fire a.part (under B (frames_of s)) M ≡ r → IsErr r
  by_answer (Ok A) is = absurd (not_refused a old s groups M A B step proper has is never)
  by_answer (Err clash) is = refl

pub last_on : (a : Meaning) (old : Old) (s : List Layer) (groups : List (List Move)) (M : Move) (B : State)
    (r : Result Move StepError) →
    IsComposed a (one_move s) M r → IsStepOf a.part old s groups → IsProper B → Agrees B old (all_moves groups) →
    IsLastOn a.part B s M r
last_on a old s groups M B (Ok C) composed step proper has =
    let all = fires_all a.part old s groups B step has in
    does_last a.part (all_moves groups) M C (under B (frames_of s)) B
    (next_does a old s groups M C step (first_composed a (one_move s) M C composed) composed.1) proper all
last_on a old s groups M B (Err (step_error.Clash clash)) composed step proper has =
    never_after a old s groups M B step proper has composed.1
last_on a old s groups M B (Err (step_error.Large l)) composed step proper has =
    never_after a old s groups M B step proper has composed.1
last_on a old s groups M B (Err step_error.Many) composed step proper has = tt
last_on a old s groups M B (Err step_error.Deep) composed step proper has = tt
last_on a old s groups M B (Err step_error.Memory) composed step proper has = tt

pub shown_on_top : (s : List Layer) (y : Layer) (l : Place) →
    topmost (frames_of (s ++ y ∷ [])) l ≡ finite.get (frame y.outcomes) l
shown_on_top s y l =
    ap (λ (t : Option Layer). topmost (option_map_or (λ (y : Layer). frame y.outcomes ∷ []) t []) l) (top_of-push s y)

module _ (a : Meaning) (old : Old) (s new : List Layer) (M : Move) where
  refused : (e : StepError) → IsNext a old s M (Err e) → IsPushAnswer a old s new M (Err e)
  refused (step_error.Clash clash) (inl h) = inl h
  refused (step_error.Clash clash) (inr h) = inr (h.0, h.1.0)
  refused (step_error.Large l) (inl h) = absurd h
  refused (step_error.Large l) (inr h) = (h.0, h.1.0)
  refused step_error.Many (inl h) = absurd h
  refused step_error.Many (inr h) = (h.0, h.1.0)
  refused step_error.Deep (inl h) = absurd h
  refused step_error.Deep (inr h) = absurd h.1.0
  refused step_error.Memory h = tt

  never_deep : (e : StepError) → IsNext a old s M (Err e) → e ≡ step_error.Deep → ⊥
  never_deep e h is = by_deep (subst (λ (d : StepError). IsNext a old s M (Err d)) is h) where
    by_deep : IsNext a old s M (Err step_error.Deep) → ⊥
    by_deep (inl k) = k
    by_deep (inr k) = k.1.0

  pub taken_step : (r : Result (Unit {0}) StepError) → IsExtensionAnswer a old s new M r → (z : Layer) → top_of s ≡ Some z →
      OnOk r ((groups : List (List Move)) → IsStepOf a.part old s groups → IsStepOf a.part old new (extended groups M))
  taken_step (Ok _) (y, next, is) z top = λ groups step.
      let parts = split_top s z top in
      let had : moves_of s ≡ z.moves = ap (λ (t : Option Layer). option_map_or (λ (z : Layer). z.moves) t []) top in
      subst (λ (t : List Layer). IsStepOf a.part old t (extended groups M)) (sym is)
      (subst (λ Ms. IsStepOf a.part old (all_but_last s ++ behind Ms y ∷ []) (extended groups M)) (sym had)
      (step_extend a old (all_but_last s) groups M z y
      (subst (λ (t : List Layer). IsStepOf a.part old t groups) parts step)
      (subst (λ (t : List Layer). IsNextLayer a old t M y) parts next)))
  taken_step (Err e) taken z top = tt

  pub taken_instead : (r : Result (Unit {0}) StepError) → IsExtensionAnswer a old s new M r →
      OnOk r ((y : Layer) × (new ≡ all_but_last s ++ y ∷ []))
  taken_instead (Ok _) (y, next, is) = (behind (moves_of s) y, is)
  taken_instead (Err e) taken = tt

  pub taken_answer : (r : Result (Unit {0}) StepError) → IsExtensionAnswer a old s new M r → IsPushAnswer a old s new M r
  taken_answer (Ok _) (y, next, is) =
      answered_ok a old s new M y next
      (ap one_move is ∙ ap (option_map one_move_of) (top_of-push (all_but_last s) (behind (moves_of s) y)))
  taken_answer (Err e) taken = refused e taken.0

  pub taken_on : (r : Result (Unit {0}) StepError) → IsExtensionAnswer a old s new M r → (groups : List (List Move)) (B : State) →
      IsStepOf a.part old s groups → IsProper B → Agrees B old (all_moves groups ++ M ∷ []) → IsPushAnswerOn a.part B s new M r
  taken_on (Ok _) (y, next, is) groups B step proper has =
      subst (λ (t : List Layer). IsPushAnswerOn a.part B s t M (Ok tt)) (sym is)
      (answered_on_ok a old s groups M B step proper has (all_but_last s ++ behind (moves_of s) y ∷ []) next.updates next.set
      (λ l. shown_on_top (all_but_last s) (behind (moves_of s) y) l ∙ next.over.written l))
  taken_on (Err e) taken groups B step proper has =
      subst (λ (t : List Layer). IsPushAnswerOn a.part B s t M (Err e)) (sym taken.1)
      (answered_on_err a old s groups M B step proper has e taken.0)

  pub taken_err : (r : Result (Unit {0}) StepError) → IsExtensionAnswer a old s new M r → OnErr r (new ≡ s)
  taken_err (Ok _) taken = tt
  taken_err (Err e) taken = taken.1

  pub taken_deep : (r : Result (Unit {0}) StepError) → IsExtensionAnswer a old s new M r → IfErr r (λ e. e ≡ step_error.Deep → ⊥)
  taken_deep (Ok _) taken = tt
  taken_deep (Err e) taken = never_deep e taken.0
