-- Blocks and moves depend on the locations that they name alone.
use Rattle.std.proofs.Common.{◌≡◌, ◌≢◌, ◌⊎◌, inl, inr, ⊎_elim, map, arith, IsOk, IsSomeAnd, Bool, true, false, ◌||◌}
use Rattle.std.proofs.Common.{cond, ◌+◌, ℕ, List, [], ◌∷◌, ◌++◌, Contains, filter, Some, Result, Ok, Err, refl, sym, ap}
use Rattle.std.proofs.Common.{◌∙◌, subst}
use Rattle.std.proofs.lemmas.Bool.{false≢true}
use Rattle.std.specs.FinMap as finite
use Rattle.std.proofs.lemmas.List.Elements.{Contains-append_left, Contains-append_right}
use Rattle.std.specs.List.{list_any, filter_map}
use Rattle.std.specs.Ordering.{eq_by_cmp}
use Rattle.asm_element.specs.Place.{Place, location_cmp, same_location}
use Rattle.asm_element.specs.declared.element.Element.TheVariants.{Num}
use Rattle.asm_element.specs.declared.value.Value.{Value}
use Rattle.asm_element.specs.declared.value.Value.TheVariants.{Plain}
use Rattle.asm_update.specs.Action.{is_partial, regular_value}
use Rattle.asm_update.specs.Fire.{Part, Old, GroupResult, res, group_result, result_at, IsUpdateSet, IsLeastClash}
use Rattle.asm_update.specs.Move.{Move, actions_at, writes, are_different}
use Rattle.asm_update.specs.State.{Updates}
use Rattle.asm_update.specs.declared.action.Action.{Action}
use Rattle.asm_update.specs.declared.action.Action.TheVariants as action
use Rattle.asm_update.specs.declared.action.Instruction.{Instruction}
use Rattle.asm_update.specs.declared.clash.Cause.TheVariants.{Two}
use Rattle.asm_update.specs.declared.clash.Clash.{Clash}
use Rattle.asm_update.proofs.ActionLemmas.{IsRegular, IsPartial, kinds}
use Rattle.asm_script.specs.Terms.{term_value, number_value, element_value, as_number, as_element, sum_value}
use Rattle.asm_script.specs.Terms.{location_in, locations_in, made_of, come_of}
use Rattle.asm_script.specs.Blocks.{action_in, instruction_in, in_front, move_from, move_in}
use Rattle.asm_script.specs.StepReads.{places_in, target_of, taken, changed}
use Rattle.asm_script.specs.declared.term.Term.{Term}
use Rattle.asm_script.specs.declared.term.Term.TheVariants as term
use Rattle.asm_script.specs.declared.term.Term.TheVariants.{Val, Sum'}
use Rattle.asm_script.specs.declared.block.TermAction.{TermAction}
use Rattle.asm_script.specs.declared.block.TermAction.TheVariants.{Put, Add, Remove, BagAdd, BagRemove, Increment}
use Rattle.asm_script.specs.declared.block.TermInstruction.{TermInstruction}
use Rattle.asm_script.specs.declared.block.Block.{Block}
use Rattle.asm_script.specs.declared.term.NoValue.{NoValue}

-- the two have the same value at each location of the list
abbrev pub Agree : Old → Old → List Place → Type 0
Agree old new ls = (l : Place) → Contains ls l → old l ≡ new l

pub agree_left : (old new : Old) (ks ls : List Place) → Agree old new (ks ++ ls) → Agree old new ks
agree_left old new ks ls same l there = same l (Contains-append_left ks ls l there)

pub agree_right : (old new : Old) (ks ls : List Place) → Agree old new (ks ++ ls) → Agree old new ls
agree_right old new ks ls same l there = same l (Contains-append_right ks ls l there)

module _ (old new : Old) where
  same_at : (l : Place) → Agree old new (l ∷ []) → old l ≡ new l
  same_at l same = same l (0, omega arith, refl)

  same_number : (t : Term) → Agree old new (locations_in t) → number_value old t ≡ number_value new t
  same_number (term.Value v) same = refl
  same_number (Val l) same = ap (as_number (Some l)) (same_at l same)
  same_number (Sum' p a q b) same =
      let one = same_number a (agree_left old new (locations_in a) (locations_in b) same) in
      let other = same_number b (agree_right old new (locations_in a) (locations_in b) same) in
      λ i. sum_value (one i) (other i)

  same_term : (t : Term) → Agree old new (locations_in t) → term_value old t ≡ term_value new t
  same_term (term.Value v) same = refl
  same_term (Val l) same = ap Ok (same_at l same)
  same_term (Sum' p a q b) same = ap (made_of (λ n. Plain (Num n))) (same_number (Sum' p a q b) same)

  same_element : (t : Term) → Agree old new (locations_in t) → element_value old t ≡ element_value new t
  same_element t same = ap (come_of (as_element (location_in t))) (same_term t same)

  same_action : (a : TermAction) → Agree old new (places_in a) → action_in old a ≡ action_in new a
  same_action (Put t) same = ap (made_of action.Regular) (same_term t same)
  same_action (Add t) same = ap (made_of action.SetAdd) (same_element t same)
  same_action (Remove t) same = ap (made_of action.SetRemove) (same_element t same)
  same_action (BagAdd t n) same = ap (made_of (λ e. action.BagAdd e n)) (same_element t same)
  same_action (BagRemove t n) same = ap (made_of (λ e. action.BagRemove e n)) (same_element t same)
  same_action (Increment n) same = refl

  same_from : (n : ℕ) (b : Block) → Agree old new (taken b) → move_from old n b ≡ move_from new n b
  same_from n [] same = refl
  same_from n (i ∷ b) same =
      let one = same_action i.action (agree_left old new (places_in i.action) (taken b) same) in
      let others = same_from (n + 1) b (agree_right old new (places_in i.action) (taken b) same) in
      λ x. in_front n (made_of (λ a. record { at = i.at; action = a }) (one x)) (others x)

  -- so the block has the same move in both
  pub same_move : (b : Block) → Agree old new (taken b) → move_in old b ≡ move_in new b
  same_move b same = same_from 0 b same

mapped : {X Y W : Type 0} (f : X → Y) (o : Result X W) (y : Y) → made_of f o ≡ Ok y → (x : X) × (o ≡ Ok x) × (f x ≡ y)
mapped f (Err why) y h = cc
mapped f (Ok x) y h = (x, refl, cc)

-- a move whose first instruction has a value is this instruction, and the others
chained : (n : ℕ) (o : Result Instruction NoValue) (others : Result Move (ℕ × NoValue)) (M : Move) →
    in_front n o others ≡ Ok M → (j : Instruction) × (N : Move) × (o ≡ Ok j) × (others ≡ Ok N) × (j ∷ N ≡ M)
chained n (Err why) others M h = cc
chained n (Ok j) others M h = let rest = mapped (λ (N : Move). j ∷ N) others M h in (j, rest.0, refl, rest.1, rest.2)

-- an action that comes out partial was written as a partial update
written_partial : (old : Old) (l : Place) (t : TermAction) (a : Action) → action_in old t ≡ Ok a →
    is_partial a ≡ true →
    target_of l t ≡ l ∷ []
written_partial old l (Put t) a h partial =
    let regular = mapped action.Regular (term_value old t) a h in
    absurd (false≢true (ap is_partial regular.2 ∙ partial))
written_partial old l (Add t) a h partial = refl
written_partial old l (Remove t) a h partial = refl
written_partial old l (BagAdd t n) a h partial = refl
written_partial old l (BagRemove t n) a h partial = refl
written_partial old l (Increment n) a h partial = refl

target_there : (old : Old) (i : TermInstruction) (j : Instruction) (l : Place) → instruction_in old i ≡ Ok j →
    is_partial j.action ≡ true → eq_by_cmp location_cmp j.at l ≡ true → Contains (target_of i.at i.action) l
target_there old i j l is partial there =
    let from = mapped (λ a. record { at = i.at; action = a }) (action_in old i.action) j is in
    let target = written_partial old i.at i.action from.0 from.1
    (ap (λ (k : Instruction). is_partial k.action) from.2 ∙ partial) in
    let at = ap (λ (k : Instruction). k.at) from.2 ∙ same_location j.at l there in
    subst (λ (ls : List Place). Contains ls l) (sym target) (0, omega arith, at)

-- a partial update of the move at a location is its first instruction's, or one of the others'
partial_at : (j : Instruction) (M : Move) (l : Place) → list_any is_partial (actions_at (j ∷ M) l) ≡ true →
    ((is_partial j.action ≡ true) × (eq_by_cmp location_cmp j.at l ≡ true)) ⊎
    (list_any is_partial (actions_at M l) ≡ true)
partial_at j M l = by_test (eq_by_cmp location_cmp j.at l) refl where
  rest : List Instruction
  rest = filter (λ i. eq_by_cmp location_cmp i.at l) M

  by_kind : (b : Bool) → is_partial j.action ≡ b → (b || list_any is_partial (map (λ i. i.action) rest)) ≡ true →
      (is_partial j.action ≡ true) ⊎ (list_any is_partial (map (λ i. i.action) rest) ≡ true)
  by_kind true is h = inl is
  by_kind false is h = inr h

  by_test : (b : Bool) → eq_by_cmp location_cmp j.at l ≡ b →
      list_any is_partial (map (λ (i : Instruction). i.action) (cond b (j ∷ rest) rest)) ≡ true →
      ((is_partial j.action ≡ true) × (eq_by_cmp location_cmp j.at l ≡ true)) ⊎
      (list_any is_partial (map (λ i. i.action) rest) ≡ true)
  by_test true is h = ⊎_elim (λ partial. inl (partial, is)) (λ other. inr other) (by_kind (is_partial j.action) refl h)
  by_test false is h = inr h

-- where a block's move has a partial update, the block has one
partial_from : (old : Old) (n : ℕ) (b : Block) (M : Move) (l : Place) → move_from old n b ≡ Ok M →
    list_any is_partial (actions_at M l) ≡ true → Contains (changed b) l
partial_from old n [] M l is h =
    let none : [] ≡ M = cc in
    absurd (false≢true (ap (λ (N : Move). list_any is_partial (actions_at N l)) none ∙ h))
partial_from old n (i ∷ b) M l is h =
    let all = chained n (instruction_in old i) (move_from old (n + 1) b) M is in
    ⊎_elim
    (λ first. Contains-append_left (target_of i.at i.action) (changed b) l
    (target_there old i all.0 l all.2 first.0 first.1))
    (λ later. Contains-append_right (target_of i.at i.action) (changed b) l
    (partial_from old (n + 1) b all.1 l all.3 later))
    (partial_at all.0 all.1 l (ap (λ (N : Move). list_any is_partial (actions_at N l)) all.4 ∙ h))

no_partials : (G : List Action) → list_any is_partial G ≡ false → filter is_partial G ≡ []
no_partials [] h = refl
no_partials (x ∷ G) h = by_kind (is_partial x) h (no_partials G) where
  by_kind : (b : Bool) → (b || list_any is_partial G) ≡ false →
      (list_any is_partial G ≡ false → filter is_partial G ≡ []) →
      cond b (x ∷ filter is_partial G) (filter is_partial G) ≡ []
  by_kind true h rest = absurd (false≢true (sym h))
  by_kind false h rest = rest h

-- regular updates alone have the same result on each old value
regular_result : (part : Part) (v w : Value) (x : Value) (G : List Action) → list_any is_partial G ≡ false →
    res part v (action.Regular x ∷ G) ≡ res part w (action.Regular x ∷ G)
regular_result part v w x G none = is v ∙ sym (is w) where
  is : (u : Value) → res part u (action.Regular x ∷ G) ≡ cond (are_different (x ∷ filter_map regular_value G))
      (Err Two) (Ok x)
  is u = ap (λ (ps : List Action). cond (are_different (x ∷ filter_map regular_value G)) (Err Two)
      (group_result part u (Some x) ps)) (no_partials G none)

-- the old value is no matter where there is no partial update
same_result : (part : Part) (v w : Value) (G : List Action) → G ≢ [] → (list_any is_partial G ≡ true → v ≡ w) →
    res part v G ≡ res part w G
same_result part v w G some same = by_test (list_any is_partial G) refl where
  by_list : (F : List Action) → F ≢ [] → list_any is_partial F ≡ false → res part v F ≡ res part w F
  by_list [] some none = absurd (some refl)
  by_list (a ∷ F) some none = elim (kinds a) [
    | IsRegular x e ↦ let regulars = rw e at none in rw e (regular_result part v w x F regulars)
    | IsPartial p n ↦ let found = rw p at none in absurd (false≢true (sym found))
  ]

  by_test : (b : Bool) → list_any is_partial G ≡ b → res part v G ≡ res part w G
  by_test true is = ap (λ u. res part u G) (same is)
  by_test false is = by_list G some is

some_actions : (M : Move) (l : Place) → writes M l ≡ true → actions_at M l ≢ []
some_actions [] l h = λ none. absurd (false≢true h)
some_actions (j ∷ M) l h = by_test (eq_by_cmp location_cmp j.at l) h (some_actions M l) where
  by_test : (b : Bool) → (b || writes M l) ≡ true → (writes M l ≡ true → actions_at M l ≢ []) →
      map (λ (i : Instruction). i.action)
      (cond b (j ∷ filter (λ i. eq_by_cmp location_cmp i.at l) M) (filter (λ i. eq_by_cmp location_cmp i.at l) M))
      ≢ []
  by_test true h rest = λ none. cc
  by_test false h rest = rest h

module _ (part : Part) (old new : Old) (b : Block) (M : Move) (is : move_in old b ≡ Ok M)
    (same : Agree old new (changed b)) where
  same_outcome : (l : Place) → writes M l ≡ true → result_at part old M l ≡ result_at part new M l
  same_outcome l w =
      same_result part (old l) (new l) (actions_at M l) (some_actions M l w)
      (λ partial. same l (partial_from old 0 b M l is partial))

  -- a block's move has the same update set in both
  pub same_update_set : (U : Updates) → IsUpdateSet part old M U → IsUpdateSet part new M U
  same_update_set U h = record {
    written = λ l w. subst (λ (o : GroupResult). IsSomeAnd (finite.get U l) (λ v. o ≡ Ok v)) (same_outcome l w)
        (h.written l w);
    others = h.others;
  }

  -- and the same clash
  pub same_clash : (clash : Clash) → IsLeastClash part old M clash → IsLeastClash part new M clash
  same_clash clash h = record {
    written = h.written;
    cause = sym (same_outcome clash.at h.written) ∙ h.cause;
    least = λ l lt w. subst IsOk (same_outcome l w) (h.least l lt w);
  }
