-- The one move of a step, by whether it is of one move alone.
use Rattle.std.proofs.Common.{◌≡◌, List, [], map, filter, Option, Some, None, unwrap_or, refl, sym, ap, subst, ◌∙◌}
use Rattle.std.specs.Option.{option_map, option_map_or}
use Rattle.asm_element.proofs.Ordered.{no_entries}
use Rattle.asm_element.specs.Place.{Place, location_cmp}
use Rattle.asm_update.specs.Fire.{Part, Old}
use Rattle.asm_update.specs.Move.{Move}
use Rattle.asm_step.specs.InTurn.{DoesEach, DoesAll}
use Rattle.asm_step.specs.Layers.{Layer, IsStepOf, all_moves, one_move, one_move_of, outcomes_of, dependencies_of, top_of}
use Rattle.asm_step.specs.Next.{alone_of}
use Rattle.asm_step.specs.Outcomes.{Outcome, listed, dependencies_in}
use Rattle.asm_step.specs.Dependencies.{KeepsGroups}
use Rattle.asm_step.proofs.Standing.{each_none}
use Rattle.asm_step.proofs.Layered.{does_nothing, no_groups, top_does, top_is}
use Rattle.asm_step.proofs.Prefixes.{none_of_empty}
use Rattle.asm_step.proofs.Pushed.{keeps_none}
use Rattle.std.specs.FinMap as finite

pub one_alone : (s : List Layer) (M : Move) → Some M ≡ alone_of s → M ≡ unwrap_or (one_move s) []
one_alone s M = by_top (top_of s) where
  by_top : (t : Option Layer) → Some M ≡ option_map_or (λ (y : Layer). y.alone) t None → M ≡ unwrap_or (option_map one_move_of t) []
  by_top (Some y) is = ap (λ (o : Option Move). unwrap_or o (listed y.outcomes)) is
  by_top None is = absurd (cc is)

pub one_listed : (s : List Layer) → None ≡ alone_of s → listed (outcomes_of s) ≡ unwrap_or (one_move s) []
one_listed s = by_top (top_of s) where
  by_top : (t : Option Layer) → None ≡ option_map_or (λ (y : Layer). y.alone) t None →
      listed (option_map_or (λ (y : Layer). y.outcomes) t finite.empty) ≡ unwrap_or (option_map one_move_of t) []
  by_top (Some y) is = ap (λ (o : Option Move). unwrap_or o (listed y.outcomes)) is
  by_top None is = none_of_empty

pub alone_by : (s : List Layer) (o : Option (Option Move)) → o ≡ option_map (λ (y : Layer). y.alone) (top_of s) →
    option_map_or (λ x. x) o None ≡ alone_of s
alone_by s o is = ap (λ (x : Option (Option Move)). option_map_or (λ y. y) x None) is ∙ by_top (top_of s) where
  by_top : (t : Option Layer) → option_map_or (λ x. x) (option_map (λ (y : Layer). y.alone) t) None ≡ option_map_or (λ (y : Layer). y.alone) t None
  by_top (Some y) = refl
  by_top None = refl

-- it does what all moves do
pub one_does : (part : Part) (old : Old) (s : List Layer) (groups : List (List Move)) (one : Move) →
    IsStepOf part old s groups → one ≡ unwrap_or (one_move s) [] → DoesAll part (all_moves groups) one
one_does part old s groups one step is = by_top (top_of s) refl where
  by_top : (t : Option Layer) → top_of s ≡ t → DoesAll part (all_moves groups) one
  by_top (Some y) top =
      subst (DoesAll part (all_moves groups)) (sym (is ∙ ap (λ (t : Option Layer). unwrap_or (option_map one_move_of t) []) top))
      (top_does part old s groups step y top)
  by_top None top =
      does_nothing part old s groups step one top (is ∙ ap (λ (t : Option Layer). unwrap_or (option_map one_move_of t) []) top)

pub no_dependencies : dependencies_in finite.empty ≡ []
no_dependencies =
    ap (λ (es : List (Place × Outcome)). map (λ (e : Place × Outcome). e.0) (filter (λ (e : Place × Outcome). e.1.depends) es))
    (no_entries _ (sym (finite.len-entries (finite.empty {X = Outcome} {R = location_cmp})) ∙ finite.len-empty location_cmp Outcome))

pub dependencies_are : (s : List Layer) → dependencies_in (outcomes_of s) ≡ dependencies_of s
dependencies_are s = by_top (top_of s) where
  by_top : (t : Option Layer) →
      dependencies_in (option_map_or (λ (y : Layer). y.outcomes) t finite.empty)
      ≡ option_map_or (λ (y : Layer). dependencies_in y.outcomes) t []
  by_top (Some y) = refl
  by_top None = no_dependencies

-- it does so location by location
pub one_each : (part : Part) (old : Old) (s : List Layer) (groups : List (List Move)) (one : Move) →
    IsStepOf part old s groups → one ≡ unwrap_or (one_move s) [] → DoesEach part (all_moves groups) one
one_each part old s groups one step is = by_top (top_of s) refl where
  by_top : (t : Option Layer) → top_of s ≡ t → DoesEach part (all_moves groups) one
  by_top (Some y) top =
      subst (DoesEach part (all_moves groups)) (sym (is ∙ ap (λ (t : Option Layer). unwrap_or (option_map one_move_of t) []) top))
      (top_is part old s groups step y top).each
  by_top None top =
      let empty : one ≡ [] = is ∙ ap (λ (t : Option Layer). unwrap_or (option_map one_move_of t) []) top in
      subst (λ gs. DoesEach part (all_moves gs) one) (sym (no_groups part old s groups step top))
      (subst (DoesEach part []) (sym empty) (each_none part))

-- and keeps the groups of one of them alone
pub one_keeps : (part : Part) (old : Old) (s : List Layer) (groups : List (List Move)) (one : Move) →
    IsStepOf part old s groups → one ≡ unwrap_or (one_move s) [] → KeepsGroups (all_moves groups) one
one_keeps part old s groups one step is = by_top (top_of s) refl where
  by_top : (t : Option Layer) → top_of s ≡ t → KeepsGroups (all_moves groups) one
  by_top (Some y) top =
      subst (KeepsGroups (all_moves groups)) (sym (is ∙ ap (λ (t : Option Layer). unwrap_or (option_map one_move_of t) []) top))
      (top_is part old s groups step y top).keeps
  by_top None top =
      let empty : one ≡ [] = is ∙ ap (λ (t : Option Layer). unwrap_or (option_map one_move_of t) []) top in
      subst (λ gs. KeepsGroups (all_moves gs) one) (sym (no_groups part old s groups step top))
      (subst (KeepsGroups []) (sym empty) keeps_none)

pub none_before : (s : List Layer) → top_of s ≡ None → one_move s ≡ None
none_before s top = ap (option_map one_move_of) top

pub some_before : (s : List Layer) (y : Layer) (one : Move) → top_of s ≡ Some y → one ≡ unwrap_or (one_move s) [] → one_move s ≡ Some one
some_before s y one top is =
    ap (option_map one_move_of) top
    ∙ ap Some (sym (is ∙ ap (λ (t : Option Layer). unwrap_or (option_map one_move_of t) []) top))
