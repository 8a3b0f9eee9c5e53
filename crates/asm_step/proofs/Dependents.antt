-- On which values moves depend with one move in the place of the last of them.
use Rattle.std.proofs.Common.{◌≡◌, ◌∙◌, ◌⊎◌, ◌&&◌, ◌||◌, Bool, true, false, cond, not, inl, inr, List, [], ◌∷◌, ◌++◌, append-nil, refl, ap, sym}
use Rattle.std.proofs.lemmas.Bool.{false≢true}
use Rattle.std.proofs.lemmas.List.Folds.{list_any-append}
use Rattle.asm_element.specs.Place.{Place}
use Rattle.asm_element.specs.Tests.{or_false}
use Rattle.asm_step.proofs.Continued.{writes_by}
use Rattle.asm_step.proofs.Pushed.{unwritten_seen}
use Rattle.asm_step.specs.Dependencies.{depends, first_actions, one_writes, puts, sees_below}
use Rattle.asm_step.specs.Outcomes.{acts}
use Rattle.asm_update.specs.Fire.{Part}
use Rattle.asm_update.specs.Move.{Move, actions_at, writes}
use Rattle.asm_step.specs.Popped.{IsOneMove}
use Rattle.asm_step.proofs.AsOne.{put_written}

writes-both : (Ms Ns : List Move) (l : Place) → one_writes (Ms ++ Ns) l ≡ (one_writes Ms l || one_writes Ns l)
writes-both Ms Ns l = list_any-append (λ (N : Move). writes N l) Ms Ns

-- ---- moves, and then others

-- where none of the first writes, the others tell
depends_later : (Ms Ns : List Move) (l : Place) → one_writes Ms l ≡ false → depends (Ms ++ Ns) l ≡ depends Ns l
depends_later [] Ns l h = refl
depends_later (M ∷ Ms) Ns l h = by_test (writes M l) h (depends_later Ms Ns l) where
  by_test : (b : Bool) → (b || one_writes Ms l) ≡ false → (one_writes Ms l ≡ false → depends (Ms ++ Ns) l ≡ depends Ns l) →
      cond b (not (puts M l) && one_writes (Ms ++ Ns) l) (depends (Ms ++ Ns) l) ≡ depends Ns l
  by_test true h later = absurd (false≢true (sym h))
  by_test false h later = later h

-- where one does, only whether one of the others writes tells
depends_alike : (Ms Ns Ks : List Move) (l : Place) → one_writes Ms l ≡ true → one_writes Ns l ≡ one_writes Ks l →
    depends (Ms ++ Ns) l ≡ depends (Ms ++ Ks) l
depends_alike [] Ns Ks l h same = absurd (false≢true h)
depends_alike (M ∷ Ms) Ns Ks l h same = by_test (writes M l) h (λ k. depends_alike Ms Ns Ks l k same) where
  all : one_writes (Ms ++ Ns) l ≡ one_writes (Ms ++ Ks) l
  all = writes-both Ms Ns l ∙ ap (λ b. one_writes Ms l || b) same ∙ sym (writes-both Ms Ks l)

  by_test : (b : Bool) → (b || one_writes Ms l) ≡ true → (one_writes Ms l ≡ true → depends (Ms ++ Ns) l ≡ depends (Ms ++ Ks) l) →
      cond b (not (puts M l) && one_writes (Ms ++ Ns) l) (depends (Ms ++ Ns) l)
      ≡ cond b (not (puts M l) && one_writes (Ms ++ Ks) l) (depends (Ms ++ Ks) l)
  by_test true h later = ap (λ b. not (puts M l) && b) all
  by_test false h later = later h

-- what the first depend on, all do
depends_more : (Ms Ns : List Move) (l : Place) → depends Ms l ≡ true → depends (Ms ++ Ns) l ≡ true
depends_more [] Ns l h = absurd (false≢true h)
depends_more (M ∷ Ms) Ns l h = by_test (writes M l) h (depends_more Ms Ns l) where
  here : (p o : Bool) → one_writes Ms l ≡ o → (not p && o) ≡ true → (not p && one_writes (Ms ++ Ns) l) ≡ true
  here false true is h = writes-both Ms Ns l ∙ ap (λ b. b || one_writes Ns l) is
  here false false is h = absurd (false≢true h)
  here true o is h = absurd (false≢true h)

  by_test : (b : Bool) → cond b (not (puts M l) && one_writes Ms l) (depends Ms l) ≡ true →
      (depends Ms l ≡ true → depends (Ms ++ Ns) l ≡ true) →
      cond b (not (puts M l) && one_writes (Ms ++ Ns) l) (depends (Ms ++ Ns) l) ≡ true
  by_test true h later = here (puts M l) (one_writes Ms l) refl h
  by_test false h later = later h

-- where moves depend, what is seen through them is made from below, and one of them writes
pub depends_seen : (Ms : List Move) (l : Place) → depends Ms l ≡ true → sees_below Ms l ≡ true
depends_seen [] l h = refl
depends_seen (M ∷ Ms) l h = by_test (writes M l) h (depends_seen Ms l) where
  here : (p : Bool) → (not p && one_writes Ms l) ≡ true → not p ≡ true
  here true h = absurd (false≢true h)
  here false h = refl

  by_test : (b : Bool) → cond b (not (puts M l) && one_writes Ms l) (depends Ms l) ≡ true →
      (depends Ms l ≡ true → sees_below Ms l ≡ true) → cond b (not (puts M l)) (sees_below Ms l) ≡ true
  by_test true h later = here (puts M l) h
  by_test false h later = later h

pub depends_writes : (Ms : List Move) (l : Place) → depends Ms l ≡ true → one_writes Ms l ≡ true
depends_writes [] l h = h
depends_writes (M ∷ Ms) l h = by_test (writes M l) h (depends_writes Ms l) where
  by_test : (b : Bool) → cond b (not (puts M l) && one_writes Ms l) (depends Ms l) ≡ true →
      (depends Ms l ≡ true → one_writes Ms l ≡ true) → (b || one_writes Ms l) ≡ true
  by_test true h later = refl
  by_test false h later = later h

-- where what is seen through the first is made from below, all depend where the others do
pub depends_through : (Ms Ns : List Move) (l : Place) → sees_below Ms l ≡ true → depends Ns l ≡ true → depends (Ms ++ Ns) l ≡ true
depends_through [] Ns l sees h = h
depends_through (M ∷ Ms) Ns l sees h = by_test (writes M l) sees (depends_through Ms Ns l) where
  from_right : (b : Bool) → (b || true) ≡ true
  from_right true = refl
  from_right false = refl

  one : one_writes (Ms ++ Ns) l ≡ true
  one = writes-both Ms Ns l ∙ ap (λ b. one_writes Ms l || b) (depends_writes Ns l h) ∙ from_right (one_writes Ms l)

  by_test : (b : Bool) → cond b (not (puts M l)) (sees_below Ms l) ≡ true →
      (sees_below Ms l ≡ true → depends Ns l ≡ true → depends (Ms ++ Ns) l ≡ true) →
      cond b (not (puts M l) && one_writes (Ms ++ Ns) l) (depends (Ms ++ Ns) l) ≡ true
  by_test true sees later = (λ i. sees i && one i)
  by_test false sees later = later sees h

first_acts : (Ms : List Move) (l : Place) → acts (first_actions Ms l) ≡ one_writes Ms l
first_acts [] l = refl
first_acts (M ∷ Ms) l = by_test (writes M l) refl (first_acts Ms l) where
  by_test : (b : Bool) → writes M l ≡ b → acts (first_actions Ms l) ≡ one_writes Ms l →
      acts (cond b (actions_at M l) (first_actions Ms l)) ≡ (b || one_writes Ms l)
  by_test true w later = sym (writes_by M l) ∙ w
  by_test false w later = later

-- ---- with one move in the place of some

module _ (part : Part) (Ns : List Move) (C : Move) (one : IsOneMove part Ns C) where
  -- where they don't depend on what is below, it writes as they do
  writes_alike : (l : Place) → depends Ns l ≡ false → one_writes Ns l ≡ one_writes (C ∷ []) l
  writes_alike l single = by_test (sees_below Ns l) refl ∙ sym (or_false (writes C l)) where
    written : (b : Bool) → one_writes Ns l ≡ b → sees_below Ns l ≡ false → b ≡ true
    written true o unseen = refl
    written false o unseen = absurd (false≢true (sym unseen ∙ (unwritten_seen Ns l o).0))

    by_test : (b : Bool) → sees_below Ns l ≡ b → one_writes Ns l ≡ writes C l
    by_test true sees = sym (writes_by C l ∙ ap acts (one.keeps l sees single) ∙ first_acts Ns l)
    by_test false unseen = written (one_writes Ns l) refl unseen ∙ sym (put_written C l (one.put l unseen))

  -- what all depend on, all with the one move do, or the moves in whose place it is by themselves
  pub still_depends : (Ms : List Move) (l : Place) → depends (Ms ++ Ns) l ≡ true →
      (depends (Ms ++ C ∷ []) l ≡ true) ⊎ (depends Ns l ≡ true)
  still_depends Ms l h = by_test (depends Ns l) refl where
    by_first : (b : Bool) → one_writes Ms l ≡ b → depends Ns l ≡ false → depends (Ms ++ C ∷ []) l ≡ true
    by_first true o single = sym (depends_alike Ms Ns (C ∷ []) l o (writes_alike l single)) ∙ h
    by_first false o single = absurd (false≢true (sym single ∙ sym (depends_later Ms Ns l o) ∙ h))

    by_test : (b : Bool) → depends Ns l ≡ b → (depends (Ms ++ C ∷ []) l ≡ true) ⊎ (depends Ns l ≡ true)
    by_test true is = inr is
    by_test false is = inl (by_first (one_writes Ms l) refl is)

  -- and they depend on nothing else
  pub depends_no_more : (Ms : List Move) (l : Place) → depends (Ms ++ C ∷ []) l ≡ true → depends (Ms ++ Ns) l ≡ true
  depends_no_more Ms l h = by_first (one_writes Ms l) refl where
    none : (w p : Bool) → cond w (not p && false) false ≡ true → ⊥
    none true true h = false≢true h
    none true false h = false≢true h
    none false p h = false≢true h

    by_written : (b : Bool) → writes C l ≡ b → one_writes Ms l ≡ true → depends (Ms ++ Ns) l ≡ true
    by_written true w o =
        depends_alike Ms Ns (C ∷ []) l o (one.only l w ∙ sym (ap (λ b. b || false) w)) ∙ h
    by_written false w o =
        depends_more Ms Ns l
        (ap (λ (Ks : List Move). depends Ks l) (sym (append-nil Ms))
        ∙ sym (depends_alike Ms (C ∷ []) [] l o (ap (λ b. b || false) w)) ∙ h)

    by_first : (b : Bool) → one_writes Ms l ≡ b → depends (Ms ++ Ns) l ≡ true
    by_first true o = by_written (writes C l) refl o
    by_first false o = absurd (none (writes C l) (puts C l) (sym (depends_later Ms (C ∷ []) l o) ∙ h))
