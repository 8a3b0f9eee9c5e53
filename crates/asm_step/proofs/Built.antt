-- Where the layers of a step build and rest on what is below, and where those with a next move do.
use Rattle.std.proofs.Common.{◌≡◌, Bool, true, false, cond, not, ◌&&◌, ◌||◌, List, [], ◌∷◌, ◌++◌, Option, Some, None, is_some, refl, sym, ap, subst, ◌∙◌}
use Rattle.std.specs.FinMap as finite
use Rattle.std.specs.Option.{option_map, option_map_or}
use Rattle.asm_element.specs.Place.{Place, location_cmp}
use Rattle.asm_element.specs.Tests.{or_false}
use Rattle.asm_update.specs.Fire.{Part, Old}
use Rattle.asm_update.specs.Move.{Move, writes}
use Rattle.asm_step.specs.Layers.{Layer, IsStepOf, all_moves, outcomes_of, dependencies_of, top_of}
use Rattle.asm_step.specs.Next.{builds_next, depends_next}
use Rattle.asm_step.specs.Outcomes.{Outcome, builds_at, depends_at, sees_at}
use Rattle.asm_step.specs.Dependencies.{builds, one_writes, puts, depends, sees_below, AreThose}
use Rattle.asm_step.proofs.Layered.{no_groups, seen, top_is}
use Rattle.asm_step.proofs.Nexts.{topmost_is}
use Rattle.asm_step.proofs.OneMove.{dependencies_are}
use Rattle.asm_step.proofs.Pushed.{builds-push, depends-push, depends_builds, sets_written, unwritten_seen}
use Rattle.asm_step.proofs.Depending.{are_dependencies}

module _ (part : Part) (old : Old) (s : List Layer) (groups : List (List Move)) (step : IsStepOf part old s groups) where
  abbrev Ms : List Move
  Ms = all_moves groups

  -- there is an outcome where one of the moves writes
  held_written : (l : Place) → is_some (finite.get (outcomes_of s) l) ≡ one_writes Ms l
  held_written l =
      let is = seen part old s groups step in
      let (sets, updates, wrote) = is.written in
      sym (mapped (finite.get (outcomes_of s) l)) ∙ ap is_some (sym (topmost_is s l) ∙ is.show l ∙ wrote l)
      ∙ sets_written part old Ms sets l updates where
        mapped : (o : Option Outcome) → is_some (option_map (λ (o : Outcome). o.value) o) ≡ is_some o
        mapped (Some o) = refl
        mapped None = refl

  built_there : (l : Place) → builds_at (outcomes_of s) l ≡ builds Ms l
  built_there l = by_top (top_of s) refl where
    by_top : (t : Option Layer) → top_of s ≡ t → builds_at (outcomes_of s) l ≡ builds Ms l
    by_top (Some y) top =
        ap (λ (t : Option Layer). builds_at (option_map_or (λ (y : Layer). y.outcomes) t finite.empty) l) top
        ∙ (top_is part old s groups step y top).building l
    by_top None top =
        ap (λ (t : Option Layer). builds_at (option_map_or (λ (y : Layer). y.outcomes) t finite.empty) l) top
        ∙ ap (λ (o : Option Outcome). option_map_or (λ (o : Outcome). o.builds) o false) (finite.get-empty location_cmp l)
        ∙ ap (λ gs. builds (all_moves gs) l) (sym (no_groups part old s groups step top))

  rested_there : (l : Place) → depends_at (outcomes_of s) l ≡ depends Ms l
  rested_there l = by_top (top_of s) refl where
    by_top : (t : Option Layer) → top_of s ≡ t → depends_at (outcomes_of s) l ≡ depends Ms l
    by_top (Some y) top =
        ap (λ (t : Option Layer). depends_at (option_map_or (λ (y : Layer). y.outcomes) t finite.empty) l) top
        ∙ (top_is part old s groups step y top).dependencies l
    by_top None top =
        ap (λ (t : Option Layer). depends_at (option_map_or (λ (y : Layer). y.outcomes) t finite.empty) l) top
        ∙ ap (λ (o : Option Outcome). option_map_or (λ (o : Outcome). o.depends) o false) (finite.get-empty location_cmp l)
        ∙ ap (λ gs. depends (all_moves gs) l) (sym (no_groups part old s groups step top))

  -- what is left is made from what is below where the moves say so
  pub sees_there : (l : Place) → sees_at (outcomes_of s) l ≡ sees_below Ms l
  sees_there l = by_get (finite.get (outcomes_of s) l) refl where
    by_get : (o : Option Outcome) → finite.get (outcomes_of s) l ≡ o →
        option_map_or (λ (o : Outcome). o.builds) (finite.get (outcomes_of s) l) true ≡ sees_below Ms l
    by_get (Some o) e =
        ap (λ (x : Option Outcome). option_map_or (λ (o : Outcome). o.builds) x true) e
        ∙ sym (ap (λ (x : Option Outcome). option_map_or (λ (o : Outcome). o.builds) x false) e) ∙ built_there l
        ∙ ap (λ b. b && sees_below Ms l) (sym (held_written l) ∙ ap is_some e)
    by_get None e =
        ap (λ (x : Option Outcome). option_map_or (λ (o : Outcome). o.builds) x true) e
        ∙ sym (unwritten_seen Ms l (sym (held_written l) ∙ ap is_some e)).0

  -- the list of where they rest
  pub dependencies_those : AreThose (depends Ms) (dependencies_of s)
  dependencies_those =
      subst (λ (ls : List Place). AreThose (depends Ms) ls) (dependencies_are s) (are_dependencies (outcomes_of s) (depends Ms) rested_there)

  -- with a next move
  module _ (M : Move) where
    pub builds_push : (l : Place) → builds_next (outcomes_of s) M l ≡ builds (Ms ++ M ∷ []) l
    builds_push l =
        (λ i. cond (writes M l) (cond (puts M l) (built_there l i) (sees_there l i)) (built_there l i))
        ∙ by_tests (writes M l) (puts M l) (one_writes Ms l) refl ∙ sym (builds-push Ms M l) where
          by_tests : (w p o : Bool) → one_writes Ms l ≡ o →
              cond w (cond p (builds Ms l) (sees_below Ms l)) (builds Ms l)
              ≡ (builds Ms l || (w && (not p && not (one_writes Ms l))))
          by_tests false p o e = sym (or_false (builds Ms l))
          by_tests true true o e = sym (or_false (builds Ms l))
          by_tests true false true e =
              sym ((λ i. (e i && sees_below Ms l) || not (e i)) ∙ or_false (sees_below Ms l))
          by_tests true false false e =
              (unwritten_seen Ms l e).0 ∙ sym (λ i. (e i && sees_below Ms l) || not (e i))

    pub depends_push : (l : Place) → depends_next (outcomes_of s) M l ≡ depends (Ms ++ M ∷ []) l
    depends_push l =
        (λ i. cond (writes M l) (built_there l i) (rested_there l i)) ∙ by_test (writes M l) ∙ sym (depends-push Ms M l) where
          all : (b : Bool) → (b && true) ≡ b
          all true = refl
          all false = refl

          none : (b : Bool) → (b && false) ≡ false
          none true = refl
          none false = refl

          by_test : (w : Bool) → cond w (builds Ms l) (depends Ms l) ≡ (depends Ms l || (builds Ms l && w))
          by_test true = sym (ap (λ b. depends Ms l || b) (all (builds Ms l)) ∙ depends_builds Ms l)
          by_test false = sym (ap (λ b. depends Ms l || b) (none (builds Ms l)) ∙ or_false (depends Ms l))
