-- A move that changes one location alone: its actions, its update set or its clash, and the state that follows it.
use Rattle.std.proofs.Common.{◌≡◌, ◌≢◌, Bool, true, false, cond, ◌&&◌, ◌||◌, List, [], ◌∷◌, map, refl, sym, ap, ◌∙◌, subst}
use Rattle.std.specs.Prelude.{Option, Some, None, Ok, Err, IsSomeAnd, filter, slice_get}
use Rattle.std.specs.List.{list_all, filter_map}
use Rattle.std.specs.FinMap as map
use Rattle.std.specs.Ordering.{eq_by_cmp}
use Rattle.std.specs.Cmp.{Equal-is}
use Rattle.std.specs.declared.cmp.Ordering.TheVariants.{Less, Equal}
use Rattle.std.proofs.lemmas.Bool.{false≢true}
use Rattle.asm_element.specs.Place.{Place, location_cmp, location_cmp_total, same_location}
use Rattle.asm_element.specs.Tests.{both, itself}
use Rattle.asm_element.specs.declared.value.Value.{Value}
use Rattle.asm_update.specs.Action.{is_partial, regular_value}
use Rattle.asm_update.specs.Fire.{Part, Old, res, group_result, first, result_at, IsUpdateSet, IsLeastClash}
use Rattle.asm_update.specs.Group.{ArePartials}
use Rattle.asm_update.specs.Move.{Move, actions_at, are_different, writes}
use Rattle.asm_update.specs.State.{Updates}
use Rattle.asm_update.specs.declared.action.Action.{Action}
use Rattle.asm_update.specs.declared.action.Instruction.{Instruction}
use Rattle.asm_update.specs.declared.clash.Cause.{Cause}
use Rattle.asm_update.specs.declared.clash.Cause.TheVariants.{Two}
use Rattle.asm_update.proofs.ActionLemmas.{partial_none}
use Rattle.asm_state.specs.Change.{changes_only, IsNotOneChange}

abbrev pub actions : Move → List Action
actions M = map (λ i. i.action) M

-- the first instruction is a partial update of the location, and so are the others
pub first_of : (l : Place) (i : Instruction) (M : Move) → changes_only l (i ∷ M) ≡ true →
    (eq_by_cmp location_cmp i.at l ≡ true) × (is_partial i.action ≡ true) × (changes_only l M ≡ true)
first_of l i M h =
    let parts = both (is_partial i.action && eq_by_cmp location_cmp i.at l) (changes_only l M) h in
    let here = both (is_partial i.action) (eq_by_cmp location_cmp i.at l) parts.0 in
    (here.1, here.0, parts.1)

pub all_here : (l : Place) (M : Move) → changes_only l M ≡ true → actions_at M l ≡ actions M
all_here l [] h = refl
all_here l (i ∷ M) h =
    let (at, _, rest) = first_of l i M h in
    ap (λ b. map (λ (j : Instruction). j.action) (cond b (i ∷ filter (λ j. eq_by_cmp location_cmp j.at l) M) (filter (λ j. eq_by_cmp location_cmp j.at l) M))) at
    ∙ ap (λ rest. i.action ∷ rest) (all_here l M rest)

pub all_partial : (l : Place) (M : Move) → changes_only l M ≡ true → list_all is_partial (actions M) ≡ true
all_partial l [] h = refl
all_partial l (i ∷ M) h =
    let (_, partial, rest) = first_of l i M h in
    ap (λ b. b && list_all is_partial (actions M)) partial ∙ all_partial l M rest

no_values : (G : List Action) → list_all is_partial G ≡ true → filter_map regular_value G ≡ []
no_values [] h = refl
no_values (a ∷ G) h =
    let parts = both (is_partial a) (list_all is_partial G) h in
    no_first a G (regular_value a) refl (partial_none a parts.0) ∙ no_values G parts.1 where
      no_first : (a : Action) (G : List Action) (o : Option Value) → regular_value a ≡ o → regular_value a ≡ None →
          filter_map regular_value (a ∷ G) ≡ filter_map regular_value G
      no_first a G o is none = cc

kept : (G : List Action) → list_all is_partial G ≡ true → filter is_partial G ≡ G
kept [] h = refl
kept (a ∷ G) h =
    let parts = both (is_partial a) (list_all is_partial G) h in
    ap (λ b. cond b (a ∷ filter is_partial G) (filter is_partial G)) parts.0 ∙ ap (λ rest. a ∷ rest) (kept G parts.1)

pub some_left : (M : Move) → M ≢ [] → actions M ≢ []
some_left [] h = λ e. h refl
some_left (i ∷ M) h = λ e. cc

pub are_partials : (l : Place) (M : Move) → M ≢ [] → changes_only l M ≡ true → ArePartials (actions M)
are_partials l M some only = record { some = some_left M some; partial = all_partial l M only }

pub outcome_here : (part : Part) (old : Old) (l : Place) (M : Move) → changes_only l M ≡ true →
    result_at part old M l ≡ part (old l) None (actions M)
outcome_here part old l M only =
    ap (res part (old l)) (all_here l M only)
    ∙ (λ i. cond (are_different (no_values (actions M) (all_partial l M only) i)) (Err Two)
    (group_result part (old l) (first (no_values (actions M) (all_partial l M only) i)) (kept (actions M) (all_partial l M only) i)))

pub written_here : (l : Place) (M : Move) → M ≢ [] → changes_only l M ≡ true → writes M l ≡ true
written_here l [] some only = absurd (some refl)
written_here l (i ∷ M) some only = ap (λ b. b || writes M l) (first_of l i M only).0

pub written_alone : (l q : Place) (M : Move) → changes_only l M ≡ true → writes M q ≡ true → q ≡ l
written_alone l q [] only h = absurd (false≢true h)
written_alone l q (i ∷ M) only h =
    let (at, _, rest) = first_of l i M only in
    by_first (eq_by_cmp location_cmp i.at q) refl at (λ w. written_alone l q M rest w) where
      by_first : (b : Bool) → eq_by_cmp location_cmp i.at q ≡ b → eq_by_cmp location_cmp i.at l ≡ true →
          (writes M q ≡ true → q ≡ l) → q ≡ l
      by_first true is at later = sym (same_location i.at q is) ∙ same_location i.at l at
      by_first false is at later = later (sym (ap (λ b. b || writes M q) is) ∙ h)

-- where they aren't all partial updates of the first one's location, they are so of no location
pub not_one_change : (i : Instruction) (M : Move) → slice_get M 0 ≡ Some i → changes_only i.at M ≡ false → IsNotOneChange M
not_one_change i [] at_first other = λ l some. absurd (some refl)
not_one_change i (j ∷ M) at_first other = λ l some. by_test l (changes_only l (j ∷ M)) refl where
  is : j ≡ i
  is = let e : Some j ≡ Some i = at_first in cc

  by_test : (l : Place) (b : Bool) → changes_only l (j ∷ M) ≡ b → b ≡ false
  by_test l true e =
      let same : i.at ≡ l = ap (λ (k : Instruction). k.at) (sym is) ∙ same_location j.at l (first_of l j M e).0 in
      sym e ∙ ap (λ (k : Place). changes_only k (j ∷ M)) (sym same) ∙ other
  by_test l false e = refl

abbrev pub nothing : Updates
nothing = map.empty

-- the update set of one location
abbrev pub alone : Place → Value → Updates
alone l v = map.insert nothing l v

module _ (part : Part) (old : Old) (l : Place) (M : Move) (some : M ≢ []) (only : changes_only l M ≡ true) where
  -- what the location's partial updates give is the update set
  pub updates_here : (v : Value) → part (old l) None (actions M) ≡ Ok v → IsUpdateSet part old M (alone l v)
  updates_here v gave = record {
    written = λ q w. subst (λ (k : Place). IsSomeAnd (map.get (alone l v) k) (λ u. result_at part old M k ≡ Ok u))
        (sym (written_alone l q M only w))
        (subst (λ (o : Option Value). IsSomeAnd o (λ u. result_at part old M l ≡ Ok u))
        (sym (map.get-insert location_cmp_total nothing l v l ∙ ap (λ b. cond b (Some v) (map.get nothing l)) (itself location_cmp_total l)))
        (outcome_here part old l M only ∙ gave));
    others = λ q w. map.get-insert location_cmp_total nothing l v q
        ∙ ap (λ b. cond b (Some v) (map.get nothing q)) (elsewhere q w (eq_by_cmp location_cmp q l) refl)
        ∙ map.get-empty location_cmp q;
  } where
    elsewhere : (q : Place) → writes M q ≡ false → (b : Bool) → eq_by_cmp location_cmp q l ≡ b → b ≡ false
    elsewhere q w true e = absurd (false≢true (sym w ∙ ap (writes M) (same_location q l e) ∙ written_here l M some only))
    elsewhere q w false e = refl

  -- or its cause is the clash
  pub clash_here : (cause : Cause) → part (old l) None (actions M) ≡ Err cause →
      IsLeastClash part old M (record { at = l; cause = cause })
  clash_here cause gave = record {
    written = written_here l M some only;
    cause = outcome_here part old l M only ∙ gave;
    least = λ q lt w. absurd (not_below q lt (written_alone l q M only w));
  } where
    not_below : (q : Place) → location_cmp q l ≡ Less → q ≡ l → ⊥
    not_below q lt same =
        let no : Less ≡ Equal = sym lt ∙ ap (λ (k : Place). location_cmp k l) same ∙ (Equal-is (location_cmp l l)).0 (itself location_cmp_total l) in cc
