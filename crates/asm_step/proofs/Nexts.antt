-- The layer of a move that is next, from its parts.
use Rattle.std.proofs.Common.{◌≡◌, ◌≤◌, ◌<◌, ◌+◌, ◌-◌, ℕ, Bool, true, false, cond, List, [], ◌∷◌, ◌++◌, length, All, Option, Some, None, is_some, unwrap_or, Result, Ok, Err, inr, refl, sym, ap, subst, ◌∙◌, arith}
use Rattle.std.specs.Option.{option_map, option_map_or, option_or}
use Rattle.asm_element.specs.Place.{Place, location_cmp}
use Rattle.asm_element.specs.declared.value.Value.{Value}
use Rattle.asm_update.specs.Action.{IsProperInstruction}
use Rattle.asm_update.specs.Aggregator.{Meaning, AggregatorLaws, Refused, TooLarge}
use Rattle.asm_update.specs.Fire.{Old, IsUpdateSet}
use Rattle.asm_update.specs.Move.{Move, actions_at, writes}
use Rattle.asm_update.specs.State.{Updates}
use Rattle.asm_overlay.specs.Frames.{topmost, seen_through}
use Rattle.asm_step.specs.Layers.{Layer, IsSound, alone_in, first_of, frames_of, stacked_on, one_move, one_move_of, outcomes_of, top_of}
use Rattle.asm_step.specs.InTurn.{IsSequenceAt}
use Rattle.asm_step.specs.Next.{AreNext, AreWhere, IsComposed, IsContinued, IsLayerFrom, IsLayerOver, IsNext, IsNextLayer, IsOver, KeepsEach, first_alone, is_first, next_at, on_top, those}
use Rattle.asm_step.specs.Outcomes.{Outcome, Outcomes, actions_in, frame, stacked, listed}
use Rattle.asm_step.specs.declared.error.StepError.{StepError}
use Rattle.asm_step.specs.declared.layer.OwnLayer.{OwnLayer}
use Rattle.asm_aggregate.specs.Compose.{composition, placed}
use Rattle.asm_aggregate.proofs.Composing.{same_places}
use Rattle.asm_aggregate.proofs.Grouped.{unwritten}
use Rattle.asm_update.proofs.FireLemmas.{places}
use Rattle.asm_step.proofs.Continued.{IsSplit, actions_are, next_actions, continues, continues_as, continues_each, continues_in_turn, no_shorter, refused, refused_never, there}
use Rattle.asm_step.proofs.Placed.{each_placed}
use Rattle.asm_step.proofs.Stacked.{actions_at-listed, get-frame, get-stacked, kept_at, kept_within, laid_many}
use Rattle.asm_step.proofs.Prefixes.{none_of_empty, top_sound}
use Rattle.asm_step.proofs.Depending.{next_building, next_dependencies}
use Rattle.asm_step.proofs.Filled.{nothing_shared, split_is, split_length}
use Rattle.std.specs.FinMap as finite
use Rattle.asm_step.specs.declared.error.StepError.TheVariants as step_error

-- what the frames of a step show is what its outcomes have
pub topmost_is : (s : List Layer) (l : Place) →
    topmost (frames_of s) l ≡ option_map (λ (o : Outcome). o.value) (finite.get (outcomes_of s) l)
topmost_is s l = by_top (top_of s) where
  by_top : (t : Option Layer) →
      topmost (option_map_or (λ (y : Layer). frame y.outcomes ∷ []) t []) l
      ≡ option_map (λ (o : Outcome). o.value) (finite.get (option_map_or (λ (y : Layer). y.outcomes) t finite.empty) l)
  by_top (Some y) = get-frame y.outcomes l
  by_top None = ap (option_map (λ (o : Outcome). o.value)) (sym (finite.get-empty location_cmp l))

-- what the next frame has, and else the frames below
pub written_over : (s : List Layer) (U : Updates) (C M : Move) (own : Outcomes) → AreNext (outcomes_of s) U C M own → (l : Place) →
    finite.get (frame (stacked (outcomes_of s) own)) l ≡ option_or (finite.get U l) (topmost (frames_of s) l)
written_over s U C M own next l =
    get-frame (stacked (outcomes_of s) own) l
    ∙ ap (option_map (λ (o : Outcome). o.value)) (get-stacked (outcomes_of s) own l
    ∙ ap (λ (x : Option Outcome). option_or x (finite.get (outcomes_of s) l)) (next l))
    ∙ by_update (finite.get U l)
    ∙ ap (option_or (finite.get U l)) (sym (topmost_is s l)) where
      by_update : (u : Option Value) →
          option_map (λ (o : Outcome). o.value) (option_or (option_map (next_at (outcomes_of s) C M l) u) (finite.get (outcomes_of s) l))
          ≡ option_or u (option_map (λ (o : Outcome). o.value) (finite.get (outcomes_of s) l))
      by_update (Some v) = refl
      by_update None = refl

-- what the topmost layer does at a location is what its outcomes have
pub same_actions : (y : Layer) → IsSound y → (l : Place) → actions_at (one_move_of y) l ≡ actions_in y.outcomes l
same_actions y sound l = by_alone y.alone refl where
  by_alone : (o : Option Move) → y.alone ≡ o → actions_at (unwrap_or o (listed y.outcomes)) l ≡ actions_in y.outcomes l
  by_alone (Some M) is = sound.alone M is l
  by_alone None is = actions_at-listed y.outcomes l

-- the locations of a next move's outcomes are those of its update set
kept_places : {X : Type 0} (os : Outcomes) (es : List (Place × X)) → kept_at os es ≡ each_placed (actions_in os) (places es)
kept_places os [] = refl
kept_places os (e ∷ es) = ap (λ M. placed e.0 (actions_in os e.0) ++ M) (kept_places os es)

kept_same : (os own : Outcomes) (U : Updates) (C M : Move) → AreNext os U C M own →
    ((l : Place) → is_some (finite.get U l) ≡ writes M l) →
    kept_at os (finite.entries own) ≡ kept_at os (finite.entries U)
kept_same os own U C M next has =
    kept_places os (finite.entries own)
    ∙ ap (each_placed (actions_in os))
    (same_places own M (λ q. ap is_some (next q) ∙ by_update q (finite.get U q) ∙ has q) ∙ sym (same_places U M has))
    ∙ sym (kept_places os (finite.entries U)) where
      by_update : (q : Place) (u : Option Value) → is_some (option_map (next_at os C M q) u) ≡ is_some u
      by_update q (Some v) = refl
      by_update q None = refl

-- none, as an option of a move
abbrev no_move : Option Move
no_move = None

-- with the update set of the move it is the next layer
pub of_next : (a : Meaning) (old : Old) (s : List Layer) (M : Move) (U : Updates) →
    IsUpdateSet a.part (seen_through (frames_of s) old) M U → (y : Layer) → IsLayerOver a s M U y → IsNextLayer a old s M y
of_next a old s M U set y over = record { updates = U; set = set; over = over }

pub next_over : (a : Meaning) (old : Old) (s : List Layer) (M : Move) (U : Updates) →
    IsUpdateSet a.part (seen_through (frames_of s) old) M U → (r : Result Layer StepError) → IsOver a s M U r → IsNext a old s M r
next_over a old s M U set (Ok y) over = of_next a old s M U set y over
next_over a old s M U set (Err e) refused = inr ((U, set), refused)

module _ {a : Meaning} (laws : AggregatorLaws a) (s : List Layer) (M E S O : Move) (U : Updates)
    (sound : All IsSound s) (has : AreWhere M U)
    (kept : E ≡ kept_at (outcomes_of s) (finite.entries U)) (shared : S ≡ those true (outcomes_of s) M)
    (apart : O ≡ those false (outcomes_of s) M) (proper : All IsProperInstruction E) (proper' : All IsProperInstruction S)
    (short : length M ≤ 4096) where
  module _ (z : Layer) (top : top_of s ≡ Some z) where
    outcomes_are : outcomes_of s ≡ z.outcomes
    outcomes_are = ap (λ (t : Option Layer). option_map_or (λ (y : Layer). y.outcomes) t finite.empty) top

    same_as : (l : Place) → actions_at (one_move_of z) l ≡ actions_in (outcomes_of s) l
    same_as l = same_actions z (top_sound s z sound top) l ∙ ap (λ (os : Outcomes). actions_in os l) (sym outcomes_are)

    split : IsSplit (one_move_of z) M E S O
    split =
        split_is (outcomes_of s) (one_move_of z) M E S O same_as (there (outcomes_of s) (one_move_of z) M E U has same_as kept)
        shared apart

    refused_some : (e : StepError) → IsComposed a (Some E) S (Err e) → IsContinued a (Some (one_move_of z)) M (Err e)
    refused_some (step_error.Clash clash) h = (
      refused (one_move_of z) M E S O split a clash.at (Refused clash.cause) h.0,
      refused_never laws (one_move_of z) M E S O split proper proper' clash.at (Refused clash.cause) h.0,
    )
    refused_some (step_error.Large l) h = (
      refused (one_move_of z) M E S O split a l TooLarge h.0,
      refused_never laws (one_move_of z) M E S O split proper proper' l TooLarge h.0,
    )
    refused_some step_error.Many (reported, order) =
        let (C, is, many) = reported in
        let longer = no_shorter (one_move_of z) M E S O split a C is in
        ((_, continues (one_move_of z) M E S O split a C is, omega (arith, many, longer)), tt)
    refused_some step_error.Deep h = absurd h.0
    refused_some step_error.Memory h = (tt, tt)

  -- what isn't composed at the locations of the move isn't continued
  pub not_continued : (e : StepError) → IsComposed a (option_map (λ (y : Layer). E) (top_of s)) S (Err e) →
      IsContinued a (one_move s) M (Err e)
  not_continued e = by_top (top_of s) refl where
    by_top : (t : Option Layer) → top_of s ≡ t → IsComposed a (option_map (λ (y : Layer). E) t) S (Err e) →
        IsContinued a (option_map one_move_of t) M (Err e)
    by_top (Some z) top h = refused_some z top e h
    by_top None top h = first_refused e h where
      first_refused : (e : StepError) → IsComposed a None S (Err e) → IsContinued a None M (Err e)
      first_refused (step_error.Clash clash) h = absurd (cc (h.0))
      first_refused (step_error.Large l) h = absurd (cc (h.0))
      first_refused step_error.Many h = absurd h.0
      first_refused step_error.Deep h = absurd h.0
      first_refused step_error.Memory h = (tt, tt)

  module _ (F : Move) (composed : IsComposed a (option_map (λ (y : Layer). E) (top_of s)) S (Ok F)) (n : ℕ)
      (count : n ≡ length (listed (outcomes_of s))) where
    abbrev C : Move
    C = F ++ O

    -- a first move is as it is
    as_first : top_of s ≡ None → IsComposed a None S (Ok F) → (l : Place) → actions_at C l ≡ actions_at M l
    as_first top h l =
        let first : S ≡ F = cc (h.0.0) in
        ap (λ (N : Move). actions_at (N ++ O) l) (sym first)
        ∙ nothing_shared (outcomes_of s) M S O
        (ap (λ (t : Option Layer). option_map_or (λ (y : Layer). y.outcomes) t finite.empty) top) shared apart l

    -- so many instructions come together
    sum_of : (own : Outcomes) (m : ℕ) → AreNext (outcomes_of s) U C M own → m ≡ (n - length E) + length (listed own) →
        m ≡ length (listed (stacked (outcomes_of s) own))
    sum_of own m next is =
        let all = laid_many (outcomes_of s) own in
        let same : length (kept_at (outcomes_of s) (finite.entries own)) ≡ length E =
        ap length (kept_same (outcomes_of s) own U C M next has ∙ sym kept) in
        let within : length E ≤ length (listed (outcomes_of s)) =
        subst (λ (N : Move). length N ≤ length (listed (outcomes_of s))) (sym kept) (kept_within (outcomes_of s) U) in
        omega (arith, all, same, within, count, is)

    module _ (y : OwnLayer) (next : AreNext (outcomes_of s) U C M y.own)
        (counted : y.count ≡ (n - length E) + length (listed y.own)) (few : y.count ≤ 4096)
        (moves : y.moves ≡ M ∷ []) (first : y.is_alone ≡ is_first s) where
      alone_is : alone_in y ≡ first_alone s M
      alone_is = (λ i. cond (first i) (first_of (moves i)) None) ∙ by_top (top_of s) where
        by_top : (t : Option Layer) →
            cond (option_map_or (λ (z : Layer). false) t true) (Some M) no_move ≡ option_map_or (λ (z : Layer). no_move) t (Some M)
        by_top (Some z) = refl
        by_top None = refl

      long : y.count ≡ length (listed (stacked (outcomes_of s) y.own))
      long = sum_of y.own y.count next counted

      first_same : (l : Place) → top_of s ≡ None → actions_at C l ≡ actions_at M l →
          actions_at M l ≡ actions_in (stacked (outcomes_of s) y.own) l
      first_same l top is =
          by_test (writes M l) refl
          ∙ (λ i. cond (sym (has l) i) (sym is i) (sym nothing i))
          ∙ sym (next_actions (outcomes_of s) y.own U C M next l) where
            nothing : actions_in (outcomes_of s) l ≡ []
            nothing =
                ap (λ (t : Option Layer). actions_in (option_map_or (λ (y : Layer). y.outcomes) t finite.empty) l) top
                ∙ ap (λ (o : Option Outcome). option_map_or (λ (o : Outcome). o.actions) o []) (finite.get-empty location_cmp l)

            by_test : (b : Bool) → writes M l ≡ b → actions_at M l ≡ cond (writes M l) (actions_at M l) []
            by_test true w = ap (λ b. cond b (actions_at M l) []) (sym w)
            by_test false w = unwritten M l w ∙ ap (λ b. cond b (actions_at M l) []) (sym w)

      -- the move that is alone does what the outcomes say
      is_alone : (N : Move) → alone_in y ≡ Some N → (l : Place) → actions_at N l ≡ actions_in (stacked (outcomes_of s) y.own) l
      is_alone N is l = by_top (top_of s) refl composed (sym alone_is ∙ is) where
        by_top : (t : Option Layer) → top_of s ≡ t → IsComposed a (option_map (λ (y : Layer). E) t) S (Ok F) →
            option_map_or (λ (y : Layer). no_move) t (Some M) ≡ Some N →
            actions_at N l ≡ actions_in (stacked (outcomes_of s) y.own) l
        by_top (Some z) top h e = absurd (cc e)
        by_top None top h e =
            let same : M ≡ N = cc e in
            ap (λ (K : Move). actions_at K l) (sym same) ∙ first_same l top (as_first top h l)

      abbrev R : Move
      R = listed (stacked (outcomes_of s) y.own)

      goes_each : (z : Layer) → top_of s ≡ Some z → composition a E S ≡ Ok F → IsSequenceAt a.part (one_move_of z) M R
      goes_each z top gave =
          continues_each laws (one_move_of z) M E S O (split z top) proper proper' F R gave
          (λ l. actions_at-listed (stacked (outcomes_of s) y.own) l
          ∙ sym (actions_are a (outcomes_of s) y.own U (one_move_of z) M C has (same_as z top) next l))

      extends : IsContinued a (one_move s) M (Ok (one_move_of (stacked_on (outcomes_of s) y)))
      extends = by_top (top_of s) refl composed alone_is where
        by_top : (t : Option Layer) → top_of s ≡ t → IsComposed a (option_map (λ (y : Layer). E) t) S (Ok F) →
            alone_in y ≡ option_map_or (λ (y : Layer). no_move) t (Some M) →
            IsContinued a (option_map one_move_of t) M (Ok (unwrap_or (alone_in y) R))
        by_top (Some z) top h e =
            let gave = continues_as a (outcomes_of s) y.own U (one_move_of z) M C has (same_as z top) next E S O F (split z top) h.0.0 refl in
            subst (λ (o : Option Move). IsContinued a (Some (one_move_of z)) M (Ok (unwrap_or o R))) (sym e) (
              (gave, subst (λ (k : ℕ). k ≤ 4096) long few),
              continues_in_turn laws (one_move_of z) M E S O (split z top) proper proper' R (goes_each z top h.0.0),
            )
        by_top None top h e =
            subst (λ (o : Option Move). IsContinued a None M (Ok (unwrap_or o R))) (sym e) ((refl, short), tt)

      keeps_each : KeepsEach a.part (one_move s) M (one_move_of (stacked_on (outcomes_of s) y))
      keeps_each = by_top (top_of s) refl composed alone_is where
        by_top : (t : Option Layer) → top_of s ≡ t → IsComposed a (option_map (λ (y : Layer). E) t) S (Ok F) →
            alone_in y ≡ option_map_or (λ (y : Layer). no_move) t (Some M) →
            KeepsEach a.part (option_map one_move_of t) M (unwrap_or (alone_in y) R)
        by_top (Some z) top h e =
            subst (λ (o : Option Move). IsSequenceAt a.part (one_move_of z) M (unwrap_or o R)) (sym e) (goes_each z top h.0.0)
        by_top None top h e = tt

      -- the layer of the move
      pub next_ok : IsLayerOver a s M U (stacked_on (outcomes_of s) y)
      next_ok = record {
        written = written_over s U C M y.own next;
        extends = extends;
        each = keeps_each;
        building = next_building (outcomes_of s) y.own U C M next has;
        dependencies = next_dependencies (outcomes_of s) y.own U C M next has;
        sound = record { count = long; few = few; alone = is_alone };
        moves = moves;
        alone = alone_is;
      }

    -- or there are too many instructions
    too_many : (own : Outcomes) → AreNext (outcomes_of s) U C M own → length (listed own) ≤ length C →
        4096 < (n - length E) + length (listed own) → IsContinued a (one_move s) M (Err step_error.Many)
    too_many own next few many = by_top (top_of s) refl composed where
      longer : 4096 < length (listed (stacked (outcomes_of s) own))
      longer = let sum = sum_of own _ next refl in omega (arith, sum, many)

      by_top : (t : Option Layer) → top_of s ≡ t → IsComposed a (option_map (λ (y : Layer). E) t) S (Ok F) →
          IsContinued a (option_map one_move_of t) M (Err step_error.Many)
      by_top (Some z) top h = (
        (
          listed (stacked (outcomes_of s) own),
          continues_as a (outcomes_of s) own U (one_move_of z) M C has (same_as z top) next E S O F (split z top) h.0.0 refl,
          longer,
        ),
        tt,
      )
      by_top None top h =
          let none : length (listed (outcomes_of s)) ≡ 0 =
          ap (λ (t : Option Layer). length (listed (option_map_or (λ (y : Layer). y.outcomes) t finite.empty))) top
          ∙ ap length none_of_empty in
          let first : S ≡ F = cc (h.0.0) in
          let all : length C ≡ length M =
          ap (λ (N : Move). length (N ++ O)) (sym first) ∙ split_length (outcomes_of s) M S O shared apart in
          absurd (omega (arith, none, count, few, many, all, short))

    -- what is answered
    pub next_answer : (r : Result OwnLayer StepError) → IsLayerFrom s U (n - length E) C M r → IsOver a s M U (on_top s r)
    next_answer (Ok y) (next, counted, few, moves, first) = next_ok y next counted few moves first
    next_answer (Err step_error.Many) (own, next, few, many) = too_many own next few many
    next_answer (Err step_error.Memory) h = (tt, tt)
    next_answer (Err (step_error.Clash clash)) h = absurd h
    next_answer (Err (step_error.Large l)) h = absurd h
    next_answer (Err step_error.Deep) h = absurd h
