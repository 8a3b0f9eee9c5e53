-- On which values moves rest with one more move, what the one move keeps, and what layers on layers write.
use Rattle.std.proofs.Common.{◌≡◌, ◌++◌, Bool, true, false, cond, not, ◌&&◌, ◌||◌, List, [], ◌∷◌, Option, Some, None, is_some, Ok, refl, sym, ap, ◌∙◌, unwrap_or, subst}
use Rattle.std.proofs.lemmas.Bool.{false≢true}
use Rattle.std.proofs.lemmas.List.Folds.{list_any-append}
use Rattle.std.specs.Option.{option_or}
use Rattle.std.specs.Ordering.{eq_by_cmp}
use Rattle.asm_element.specs.Place.{Place, location_cmp}
use Rattle.asm_element.specs.Tests.{neither, ok_is, or_false}
use Rattle.asm_element.specs.declared.value.Value.{Value}
use Rattle.asm_update.specs.Aggregator.{Meaning}
use Rattle.asm_update.specs.Fire.{Part, Old, locations, written, IsUpdateSet}
use Rattle.asm_update.specs.Move.{Move, actions_at, writes}
use Rattle.asm_update.specs.declared.action.Instruction.{Instruction}
use Rattle.asm_update.proofs.FireLemmas.{has_updated, in_locations, is_in, get-overwrite, same_state, stored_or}
use Rattle.asm_aggregate.specs.Compose.{composed_at}
use Rattle.asm_aggregate.proofs.Bundles.{no_actions}
use Rattle.asm_aggregate.proofs.Grouped.{unwritten}
use Rattle.asm_aggregate.proofs.Sequence.{all_apart, in_turn_lists}
use Rattle.asm_overlay.specs.Frames.{Frames, seen_through, topmost, under}
use Rattle.asm_step.specs.Answer.{continued, continued_at}
use Rattle.asm_step.specs.InTurn.{AreUpdateSets, IsWrittenInTurn}
use Rattle.asm_step.specs.Dependencies.{builds, first_actions, one_writes, puts, depends, sees_below, KeepsGroups}
use Rattle.asm_update.specs.State.{State, Updates, overwrite}
use Rattle.asm_overlay.proofs.FrameLemmas.{topmost-append}
use Rattle.asm_step.specs.Next.{AreMerged}
use Rattle.std.specs.FinMap as finite

pub writes-push : (Ms : List Move) (M : Move) (l : Place) → one_writes (Ms ++ M ∷ []) l ≡ (one_writes Ms l || writes M l)
writes-push Ms M l =
    list_any-append (λ N. writes N l) Ms (M ∷ []) ∙ ap (λ b. one_writes Ms l || b) (or_false (writes M l))

pub sees-push : (Ms : List Move) (M : Move) (l : Place) → sees_below (Ms ++ M ∷ []) l
    ≡ cond (one_writes Ms l) (sees_below Ms l) (cond (writes M l) (not (puts M l)) true)
sees-push [] M l = refl
sees-push (N ∷ Ms) M l = by_test (writes N l) (sees-push Ms M l) where
  by_test : (b : Bool) →
      sees_below (Ms ++ M ∷ []) l ≡ cond (one_writes Ms l) (sees_below Ms l) (cond (writes M l) (not (puts M l)) true) →
      cond b (not (puts N l)) (sees_below (Ms ++ M ∷ []) l)
      ≡ cond (b || one_writes Ms l) (cond b (not (puts N l)) (sees_below Ms l)) (cond (writes M l) (not (puts M l)) true)
  by_test true later = refl
  by_test false later = later

first-push : (Ms : List Move) (M : Move) (l : Place) → first_actions (Ms ++ M ∷ []) l
    ≡ cond (one_writes Ms l) (first_actions Ms l) (cond (writes M l) (actions_at M l) [])
first-push [] M l = refl
first-push (N ∷ Ms) M l = by_test (writes N l) (first-push Ms M l) where
  by_test : (b : Bool) →
      first_actions (Ms ++ M ∷ []) l ≡ cond (one_writes Ms l) (first_actions Ms l) (cond (writes M l) (actions_at M l) []) →
      cond b (actions_at N l) (first_actions (Ms ++ M ∷ []) l)
      ≡ cond (b || one_writes Ms l) (cond b (actions_at N l) (first_actions Ms l)) (cond (writes M l) (actions_at M l) [])
  by_test true later = refl
  by_test false later = later

pub depends-push : (Ms : List Move) (M : Move) (l : Place) →
    depends (Ms ++ M ∷ []) l ≡ (depends Ms l || (builds Ms l && writes M l))
depends-push [] M l = by_test (writes M l) (puts M l) where
  by_test : (w p : Bool) → cond w (not p && false) false ≡ (false || (false && w))
  by_test true true = refl
  by_test true false = refl
  by_test false p = refl
depends-push (N ∷ Ms) M l = by_test (writes N l) (depends-push Ms M l) where
  on_put : (p : Bool) → (not p && (one_writes Ms l || writes M l))
      ≡ ((not p && one_writes Ms l) || (not p && writes M l))
  on_put true = refl
  on_put false = refl

  by_test : (b : Bool) → depends (Ms ++ M ∷ []) l ≡ (depends Ms l || (builds Ms l && writes M l)) →
      cond b (not (puts N l) && one_writes (Ms ++ M ∷ []) l) (depends (Ms ++ M ∷ []) l)
      ≡ (cond b (not (puts N l) && one_writes Ms l) (depends Ms l)
      || (((b || one_writes Ms l) && cond b (not (puts N l)) (sees_below Ms l)) && writes M l))
  by_test true later = ap (λ b. not (puts N l) && b) (writes-push Ms M l) ∙ on_put (puts N l)
  by_test false later = later

pub builds-push : (Ms : List Move) (M : Move) (l : Place) →
    builds (Ms ++ M ∷ []) l ≡ (builds Ms l || (writes M l && (not (puts M l) && not (one_writes Ms l))))
builds-push Ms M l =
    (λ i. writes-push Ms M l i && sees-push Ms M l i)
    ∙ by_test (one_writes Ms l) (writes M l) (puts M l) (sees_below Ms l)
  where
    by_test : (o w p s : Bool) → ((o || w) && cond o s (cond w (not p) true)) ≡ ((o && s) || (w && (not p && not o)))
    by_test true true true s = sym (or_false s)
    by_test true true false s = sym (or_false s)
    by_test true false p s = sym (or_false s)
    by_test false true true s = refl
    by_test false true false s = refl
    by_test false false p s = refl

-- where none of them writes
pub unwritten_seen : (Ms : List Move) (l : Place) → one_writes Ms l ≡ false →
    (sees_below Ms l ≡ true) × (depends Ms l ≡ false) × (first_actions Ms l ≡ [])
unwritten_seen [] l h = (refl, refl, refl)
unwritten_seen (M ∷ Ms) l h =
    let none = neither (writes M l) (one_writes Ms l) h in
    let later = unwritten_seen Ms l none.1 in (
      ap (λ b. cond b (not (puts M l)) (sees_below Ms l)) none.0 ∙ later.0,
      ap (λ b. cond b (not (puts M l) && one_writes Ms l) (depends Ms l)) none.0 ∙ later.1,
      ap (λ b. cond b (actions_at M l) (first_actions Ms l)) none.0 ∙ later.2,
    )

-- what is kept

pub keeps_none : KeepsGroups [] []
keeps_none l sees alone = refl

pub keeps_one : (M : Move) → KeepsGroups (M ∷ []) M
keeps_one M l sees alone = by_test (writes M l) refl where
  by_test : (b : Bool) → writes M l ≡ b → actions_at M l ≡ cond b (actions_at M l) []
  by_test true w = refl
  by_test false w = unwritten M l w

-- where not both write, what goes on has what the one that writes does
pub continued_alone : (a : Meaning) (D M C : Move) → continued a D M ≡ Ok C → (l : Place) → (writes M l && writes D l) ≡ false →
    actions_at C l ≡ cond (writes M l) (actions_at M l) (actions_at D l)
continued_alone a D M C is l apart = by_tests (writes M l) (writes D l) refl refl apart where
  at : (is_in (locations (D ++ M)) l ≡ true → continued_at a D M l ≡ Ok (actions_at C l))
      × (is_in (locations (D ++ M)) l ≡ false → actions_at C l ≡ [])
  at =
      in_turn_lists (continued_at a D M) (locations (D ++ M)) C l
      (all_apart (finite.entries (written (D ++ M))) (finite.entries_sorted (written (D ++ M)))) is

  joined : writes (D ++ M) l ≡ (writes D l || writes M l)
  joined = list_any-append (λ (i : Instruction). eq_by_cmp location_cmp i.at l) D M

  by_tests : (m d : Bool) → writes M l ≡ m → writes D l ≡ d → (m && d) ≡ false →
      actions_at C l ≡ cond m (actions_at M l) (actions_at D l)
  by_tests true true m d h = absurd (false≢true (sym h))
  by_tests true false m d h =
      sym (ok_is _ _
      (sym (λ i. cond (m i) (cond (d i) (composed_at a D M l) (Ok (actions_at M l))) (Ok (actions_at D l)))
      ∙ at.0 (in_locations (D ++ M) l ∙ joined ∙ (λ i. d i || m i))))
  by_tests false true m d h =
      sym (ok_is _ _
      (sym (λ i. cond (m i) (cond (writes D l) (composed_at a D M l) (Ok (actions_at M l))) (Ok (actions_at D l)))
      ∙ at.0 (in_locations (D ++ M) l ∙ joined ∙ (λ i. d i || m i))))
  by_tests false false m d h = at.1 (in_locations (D ++ M) l ∙ joined ∙ (λ i. d i || m i)) ∙ sym (unwritten D l d)

never : (b : Bool) → (b && false) ≡ false
never true = refl
never false = refl

-- one that goes on keeps the groups that the first keeps
pub keeps_push : (a : Meaning) (Ms : List Move) (D M C : Move) → KeepsGroups Ms D → continued a D M ≡ Ok C →
    KeepsGroups (Ms ++ M ∷ []) C
keeps_push a Ms D M C keeps is l sees alone =
    by_test (one_writes Ms l) refl (sym (sees-push Ms M l) ∙ sees)
    (neither (depends Ms l) (builds Ms l && writes M l) (sym (depends-push Ms M l) ∙ alone)) ∙ sym (first-push Ms M l)
  where
    by_test : (o : Bool) → one_writes Ms l ≡ o →
        cond o (sees_below Ms l) (cond (writes M l) (not (puts M l)) true) ≡ true →
        (depends Ms l ≡ false) × ((builds Ms l && writes M l) ≡ false) →
        actions_at C l ≡ cond o (first_actions Ms l) (cond (writes M l) (actions_at M l) [])
    by_test true o sees alone =
        let still : writes M l ≡ false = sym (λ i. (o i && sees i) && writes M l) ∙ alone.1 in
        continued_alone a D M C is l (ap (λ b. b && writes D l) still)
        ∙ ap (λ b. cond b (actions_at M l) (actions_at D l)) still ∙ keeps l sees alone.0
    by_test false o sees alone =
        let before = unwritten_seen Ms l o in
        let nothing : actions_at D l ≡ [] = keeps l before.0 before.1 ∙ before.2 in
        continued_alone a D M C is l (ap (λ b. writes M l && b) (no_actions D l nothing) ∙ never (writes M l))
        ∙ ap (cond (writes M l) (actions_at M l)) nothing

-- where moves rest they build
pub depends_builds : (Ms : List Move) (l : Place) → (depends Ms l || builds Ms l) ≡ builds Ms l
depends_builds [] l = refl
depends_builds (M ∷ Ms) l = by_test (writes M l) (depends_builds Ms l) where
  by_tests : (p o : Bool) → ((not p && o) || not p) ≡ not p
  by_tests true o = refl
  by_tests false true = refl
  by_tests false false = refl

  by_test : (b : Bool) → (depends Ms l || builds Ms l) ≡ builds Ms l →
      (cond b (not (puts M l) && one_writes Ms l) (depends Ms l)
      || ((b || one_writes Ms l) && cond b (not (puts M l)) (sees_below Ms l)))
      ≡ ((b || one_writes Ms l) && cond b (not (puts M l)) (sees_below Ms l))
  by_test true later = by_tests (puts M l) (one_writes Ms l)
  by_test false later = later

-- the frames have a value where one of the moves writes
pub sets_written : (part : Part) (old : Old) (Ms : List Move) (Us : Frames) (l : Place) → AreUpdateSets part old Ms Us →
    is_some (topmost Us l) ≡ one_writes Ms l
sets_written part old [] [] l h = refl
sets_written part old (M ∷ Ms) (U ∷ Us) l h =
    by_get (topmost Us l) (finite.get U l) (sets_written part (seen_through (U ∷ []) old) Ms Us l h.1) (has_updated part old M U h.0 l) where
      by_get : (x y : Option Value) → is_some x ≡ one_writes Ms l → is_some y ≡ writes M l →
          is_some (option_or x y) ≡ (writes M l || one_writes Ms l)
      by_get (Some v) y later here = later ∙ up (writes M l) (one_writes Ms l) later where
        up : (b c : Bool) → true ≡ c → c ≡ (b || c)
        up true c h = sym h
        up false c h = refl
      by_get None (Some v) later here = ap (λ b. b || one_writes Ms l) here
      by_get None None later here = later ∙ ap (λ b. b || one_writes Ms l) here
sets_written part old [] (U ∷ Us) l h = absurd h
sets_written part old (M ∷ Ms) [] l h = absurd h

pub option_or-none : (x : Option Value) → option_or x None ≡ x
option_or-none (Some v) = refl
option_or-none None = refl

pub option_or-assoc : (x y z : Option Value) → option_or (option_or x y) z ≡ option_or x (option_or y z)
option_or-assoc (Some v) y z = refl
option_or-assoc None y z = refl

unwrap_or-option_or : (x y : Option Value) (v : Value) → unwrap_or (option_or x y) v ≡ unwrap_or x (unwrap_or y v)
unwrap_or-option_or (Some w) y v = refl
unwrap_or-option_or None y v = refl

stored_or-option_or : (x y z : Option Value) → stored_or x (stored_or y z) ≡ stored_or (option_or x y) z
stored_or-option_or (Some v) y z = refl
stored_or-option_or None y z = refl

-- through more frames, it is the same as through the first and then through the others
pub through_first : (U : Updates) (Us : Frames) (old : Old) →
    seen_through (U ∷ Us) old ≡ seen_through Us (seen_through (U ∷ []) old)
through_first U Us old i l = unwrap_or-option_or (topmost Us l) (finite.get U l) (old l) i

-- what is seen is the same through frames that show the same
pub same_seen : (Us Vs : Frames) (old : Old) → ((l : Place) → topmost Us l ≡ topmost Vs l) →
    seen_through Us old ≡ seen_through Vs old
same_seen Us Vs old same i l = unwrap_or (same l i) (old l)

pub topmost-both : (Us Vs : Frames) (l : Place) → topmost (Us ++ Vs) l ≡ option_or (topmost Vs l) (topmost Us l)
topmost-both [] Vs l = sym (option_or-none (topmost Vs l))
topmost-both (U ∷ Us) Vs l =
    ap (λ o. option_or o (finite.get U l)) (topmost-both Us Vs l)
    ∙ option_or-assoc (topmost Vs l) (topmost Us l) (finite.get U l)

get-under : (A : State) (Us : Frames) (l : Place) → finite.get (under A Us) l ≡ stored_or (topmost Us l) (finite.get A l)
get-under A [] l = refl
get-under A (U ∷ Us) l =
    get-under (overwrite A U) Us l ∙ ap (stored_or (topmost Us l)) (get-overwrite A U l)
    ∙ stored_or-option_or (topmost Us l) (finite.get U l) (finite.get A l)

-- so they leave the same state
pub same_under : (A : State) (Us Vs : Frames) → ((l : Place) → topmost Us l ≡ topmost Vs l) → under A Us ≡ under A Vs
same_under A Us Vs same =
    same_state (under A Us) (under A Vs)
    (λ l. get-under A Us l ∙ ap (λ o. stored_or o (finite.get A l)) (same l) ∙ sym (get-under A Vs l))

pub under-push : (A : State) (Us : Frames) (U : Updates) → under A (Us ++ U ∷ []) ≡ overwrite (under A Us) U
under-push A [] U = refl
under-push A (V ∷ Us) U = under-push (overwrite A V) Us U

-- moves that follow have their update sets on what is seen through those before
pub sets_both : (part : Part) (old : Old) (Ms Ns : List Move) (Us Vs : Frames) → AreUpdateSets part old Ms Us →
    AreUpdateSets part (seen_through Us old) Ns Vs → AreUpdateSets part old (Ms ++ Ns) (Us ++ Vs)
sets_both part old [] Ns [] Vs h later = later
sets_both part old (M ∷ Ms) Ns (U ∷ Us) Vs h later = (
  h.0,
  sets_both part (seen_through (U ∷ []) old) Ms Ns Us Vs h.1
      (subst (λ (o : Old). AreUpdateSets part o Ns Vs) (through_first U Us old) later),
)
sets_both part old [] Ns (U ∷ Us) Vs h later = absurd h
sets_both part old (M ∷ Ms) Ns [] Vs h later = absurd h

-- and with one more move, what was written, merged with the update set of the move
pub written_more : (part : Part) (old : Old) (Ms : List Move) (M : Move) (U V W : Updates) → IsWrittenInTurn part old Ms U →
    IsUpdateSet part (seen_through (U ∷ []) old) M V → AreMerged U V W → IsWrittenInTurn part old (Ms ++ M ∷ []) W
written_more part old Ms M U V W h updates merged =
    let seen : seen_through (U ∷ []) old ≡ seen_through h.0 old = same_seen (U ∷ []) h.0 old (λ l. h.2 l) in
    let last : AreUpdateSets part (seen_through h.0 old) (M ∷ []) (V ∷ []) =
    (subst (λ (o : Old). IsUpdateSet part o M V) seen updates, tt) in (
      h.0 ++ V ∷ [],
      sets_both part old Ms (M ∷ []) h.0 (V ∷ []) h.1 last,
      (λ l. merged l ∙ ap (option_or (finite.get V l)) (h.2 l) ∙ sym (topmost-append h.0 V l)),
    )
