-- Actions that come in one by one, regular updates that are noted, and instructions that are split and opened.
use Rattle.std.proofs.Common.{◌≡◌, ◌+◌, ◌≤◌, ◌<◌, ℕ, Bool, true, false, cond, ◌||◌, get_or, take, [], ◌∷◌, ◌++◌, length, Option, Some, None, is_some, refl, sym, ap, subst, ◌∙◌, arith, append-nil, append_assoc, length-append, not, map, filter, length-take}
use Rattle.std.proofs.lemmas.List.{take_all, take_more}
use Rattle.std.proofs.lemmas.List.Folds.{list_any-append}
use Rattle.std.specs.List.{list_any}
use Rattle.std.specs.Option.{option_map, option_map_or, option_or}
use Rattle.std.specs.Ordering.{eq_by_cmp}
use Rattle.asm_element.specs.Place.{Place, location_cmp, location_cmp_total, same_location}
use Rattle.asm_element.specs.Tests.{flipped}
use Rattle.asm_update.specs.Action.{is_regular}
use Rattle.asm_update.specs.Move.{Move, actions_at, writes}
use Rattle.asm_update.specs.declared.action.Action.{Action}
use Rattle.asm_update.specs.declared.action.Instruction.{Instruction}
use Rattle.asm_aggregate.proofs.Grouped.{actions_at-one, actions_at-append}
use Rattle.asm_step.specs.Next.{AreFilled, AreMarked, followed, noted, AreNext, AreOpened, next_at, opened_at, is_one, those}
use Rattle.asm_step.specs.Outcomes.{Outcome, Outcomes, actions_in, listed, with_action, with_put, acts, acts_at}
use Rattle.asm_step.proofs.Stacked.{insert_many, none_listed}
use Rattle.asm_element.specs.declared.value.Value.{Value}
use Rattle.asm_update.specs.State.{Updates}
use Rattle.std.proofs.lemmas.List.Elements.{filter-append}
use Rattle.std.proofs.lemmas.List.Filters.{length-filter_both}
use Rattle.asm_step.proofs.Continued.{IsSplit, writes_by}
use Rattle.std.specs.FinMap as finite

same_followed : (o : Option Outcome) → o ≡ option_map (followed []) o
same_followed (Some o) = ap (λ xs. Some (record o { actions = xs })) (sym (append-nil o.actions))
same_followed None = refl

same_noted : (o : Option Outcome) → o ≡ option_map (noted []) o
same_noted (Some o) = refl
same_noted None = refl

pub none_filled : (os : Outcomes) → AreFilled [] os os
none_filled os l = same_followed (finite.get os l)

pub none_marked : (os : Outcomes) → AreMarked [] os os
none_marked os l = same_noted (finite.get os l)

-- an outcome that is changed in its place
changed_at : (os : Outcomes) (k l : Place) (f : Outcome → Outcome) →
    finite.get (option_map_or (λ (o : Outcome). finite.insert os k (f o)) (finite.get os k) os) l
    ≡ cond (eq_by_cmp location_cmp l k) (option_map f (finite.get os l)) (finite.get os l)
changed_at os k l f = by_test (eq_by_cmp location_cmp l k) refl (finite.get os k) refl where
  by_test : (b : Bool) → eq_by_cmp location_cmp l k ≡ b → (o : Option Outcome) → finite.get os k ≡ o →
      finite.get (option_map_or (λ (o : Outcome). finite.insert os k (f o)) o os) l
      ≡ cond b (option_map f (finite.get os l)) (finite.get os l)
  by_test true e (Some o) is =
      finite.get-insert location_cmp_total os k (f o) l ∙ ap (λ b. cond b (Some (f o)) (finite.get os l)) e
      ∙ ap (option_map f) (sym (ap (finite.get os) (same_location l k e) ∙ is))
  by_test true e None is =
      let none = ap (finite.get os) (same_location l k e) ∙ is in none ∙ ap (option_map f) (sym none)
  by_test false e (Some o) is =
      finite.get-insert location_cmp_total os k (f o) l ∙ ap (λ b. cond b (Some (f o)) (finite.get os l)) e
  by_test false e None is = refl

-- one action more
pub one_filled : (M : Move) (x : Instruction) (old now new : Outcomes) → AreFilled M old now →
    new ≡ with_action x.at x.action now → AreFilled (M ++ x ∷ []) old new
one_filled M x old now new had is l =
    ap (λ (os : Outcomes). finite.get os l) is ∙ changed_at now x.at l (followed (x.action ∷ []))
    ∙ ap (λ b. cond b (option_map (followed (x.action ∷ [])) (finite.get now l)) (finite.get now l))
    (flipped location_cmp_total l x.at)
    ∙ by_test (eq_by_cmp location_cmp x.at l) refl where
      both : (o : Option Outcome) → option_map (followed (x.action ∷ [])) (option_map (followed (actions_at M l)) o)
          ≡ option_map (followed (actions_at M l ++ x.action ∷ [])) o
      both (Some o) = ap (λ xs. Some (record o { actions = xs })) (append_assoc o.actions (actions_at M l) (x.action ∷ []))
      both None = refl

      by_test : (b : Bool) → eq_by_cmp location_cmp x.at l ≡ b →
          cond b (option_map (followed (x.action ∷ [])) (finite.get now l)) (finite.get now l)
          ≡ option_map (followed (actions_at (M ++ x ∷ []) l)) (finite.get old l)
      by_test true e =
          ap (option_map (followed (x.action ∷ []))) (had l) ∙ both (finite.get old l)
          ∙ ap (λ xs. option_map (followed xs) (finite.get old l)) (sym (actions_at-one M x l true e))
      by_test false e = had l ∙ ap (λ xs. option_map (followed xs) (finite.get old l)) (sym (actions_at-one M x l false e))

-- which is one more that is listed, if there is an outcome
pub one_counted : (os new : Outcomes) (k : Place) (x : Action) → new ≡ with_action k x os →
    length (listed new) ≡ cond (is_some (finite.get os k)) 1 0 + length (listed os)
one_counted os new k x is = ap (λ (m : Outcomes). length (listed m)) is ∙ by_case (finite.get os k) refl where
  by_case : (o : Option Outcome) → finite.get os k ≡ o →
      length (listed (option_map_or (λ (o : Outcome). finite.insert os k (record o { actions = o.actions ++ x ∷ [] })) o os))
      ≡ cond (is_some o) 1 0 + length (listed os)
  by_case None e = let none : length (listed os) ≡ 0 + length (listed os) = omega arith in none
  by_case (Some o) e =
      let put = insert_many os k (record o { actions = o.actions ++ x ∷ [] }) in
      let had : length (actions_in os k) ≡ length o.actions =
      ap (λ (y : Option Outcome). length (option_map_or (λ (o : Outcome). o.actions) y [])) e in
      let long : length (o.actions ++ x ∷ []) ≡ length o.actions + 1 = length-append o.actions (x ∷ []) in
      counted_sum _ _ _ _ _ put had long
    where
      counted_sum : (new old mine here longer : ℕ) → new + here ≡ old + longer → here ≡ mine → longer ≡ mine + 1 →
          new ≡ 1 + old
      counted_sum new old mine here longer a b c = omega (arith, a, b, c)

-- one instruction more is looked at
chosen : (a b r u : Bool) → cond b r (cond a r u) ≡ cond (a || b) r u
chosen true true r u = refl
chosen true false r u = refl
chosen false b r u = refl

noted_more : (M : Move) (x : Instruction) (old now : Outcomes) (l : Place) → AreMarked M old now → (b : Bool) →
    eq_by_cmp location_cmp x.at l ≡ b →
    cond b (option_map (noted (x.action ∷ [])) (finite.get now l)) (finite.get now l)
    ≡ option_map (noted (actions_at (M ++ x ∷ []) l)) (finite.get old l)
noted_more M x old now l had true e =
    ap (option_map (noted (x.action ∷ []))) (had l) ∙ both (finite.get old l)
    ∙ ap (λ xs. option_map (noted xs) (finite.get old l)) (sym (actions_at-one M x l true e)) where
      both : (o : Option Outcome) → option_map (noted (x.action ∷ [])) (option_map (noted (actions_at M l)) o)
          ≡ option_map (noted (actions_at M l ++ x.action ∷ [])) o
      both (Some o) =
          ap (λ b. Some (record o { builds = b }))
          (chosen (list_any is_regular (actions_at M l)) (list_any is_regular (x.action ∷ [])) o.depends o.builds
          ∙ ap (λ b. cond b o.depends o.builds) (sym (list_any-append is_regular (actions_at M l) (x.action ∷ []))))
      both None = refl
noted_more M x old now l had false e =
    had l ∙ ap (λ xs. option_map (noted xs) (finite.get old l)) (sym (actions_at-one M x l false e))

pub put_marked : (M : Move) (x : Instruction) (old now new : Outcomes) → AreMarked M old now →
    is_regular x.action ≡ true → new ≡ with_put x.at now → AreMarked (M ++ x ∷ []) old new
put_marked M x old now new had regular is l =
    ap (λ (os : Outcomes). finite.get os l) is ∙ changed_at now x.at l (λ o. record o { builds = o.depends })
    ∙ ap (λ b. cond b (option_map (λ (o : Outcome). record o { builds = o.depends }) (finite.get now l)) (finite.get now l))
    (flipped location_cmp_total l x.at)
    ∙ ap (λ (o : Option Outcome). cond (eq_by_cmp location_cmp x.at l) o (finite.get now l)) (same (finite.get now l))
    ∙ noted_more M x old now l had (eq_by_cmp location_cmp x.at l) refl where
      same : (o : Option Outcome) → option_map (λ (o : Outcome). record o { builds = o.depends }) o ≡ option_map (noted (x.action ∷ [])) o
      same (Some o) = ap (λ b. Some (record o { builds = cond (b || false) o.depends o.builds })) (sym regular)
      same None = refl

pub partial_marked : (M : Move) (x : Instruction) (old now : Outcomes) → AreMarked M old now →
    is_regular x.action ≡ false → AreMarked (M ++ x ∷ []) old now
partial_marked M x old now had partial l =
    by_test (eq_by_cmp location_cmp x.at l)
    ∙ noted_more M x old now l had (eq_by_cmp location_cmp x.at l) refl where
      same : (o : Option Outcome) → o ≡ option_map (noted (x.action ∷ [])) o
      same (Some o) = ap (λ b. Some (record o { builds = cond (b || false) o.depends o.builds })) (sym partial)
      same None = refl

      by_test : (b : Bool) → finite.get now l ≡ cond b (option_map (noted (x.action ∷ [])) (finite.get now l)) (finite.get now l)
      by_test true = same (finite.get now l)
      by_test false = refl

pub one_or_none : (b : Bool) → cond b 1 0 ≤ 1
one_or_none true = omega arith
one_or_none false = omega arith

-- one instruction more of a list
pub taken_one : (items M : Move) (i : ℕ) (x : Instruction) → items ≡ M → i < length items → x ≡ get_or items i x →
    take i M ++ x ∷ [] ≡ take (i + 1) M
taken_one items M i x same lt is =
    ap (λ (N : Move). take i N ++ x ∷ []) (sym same) ∙ ap (λ y. take i items ++ y ∷ []) is ∙ sym (take_more items i x lt)
    ∙ ap (take (i + 1)) same

pub taken_all : (items M : Move) (i : ℕ) → items ≡ M → length items ≤ i → take i M ≡ M
taken_all items M i same le = take_all i M (subst (λ (N : Move). length N ≤ i) same le)

pub one_marked : (M : Move) (x : Instruction) (old now new : Outcomes) → AreMarked M old now →
    new ≡ cond (is_regular x.action) (with_put x.at now) now → AreMarked (M ++ x ∷ []) old new
one_marked M x old now new had is = by_test (is_regular x.action) refl is where
  by_test : (b : Bool) → is_regular x.action ≡ b → new ≡ cond b (with_put x.at now) now → AreMarked (M ++ x ∷ []) old new
  by_test true p e = put_marked M x old now new had p e
  by_test false p e = subst (AreMarked (M ++ x ∷ []) old) (sym e) (partial_marked M x old now had p)

-- over nothing
pub over_nothing : (o : Option Outcome) (l : Place) (m : Outcomes) → m ≡ finite.empty → option_or o (finite.get m l) ≡ o
over_nothing o l m none = ap (λ (n : Outcomes). option_or o (finite.get n l)) none ∙ ap (option_or o) (finite.get-empty location_cmp l) ∙ alone o where
  alone : (o : Option Outcome) → option_or o None ≡ o
  alone (Some x) = refl
  alone None = refl

-- values that came in, in which regular updates were noted, and to which actions were put
pub next_from : (os : Outcomes) (U : Updates) (C M : Move) (opened marked filled : Outcomes) →
    AreOpened os U opened → AreMarked M opened marked → AreFilled C marked filled → AreNext os U C M filled
next_from os U C M opened marked filled opens marks fills l =
    fills l ∙ ap (option_map (followed (actions_at C l))) (marks l ∙ ap (option_map (noted (actions_at M l))) (opens l))
    ∙ by_update (finite.get U l) where
      by_update : (u : Option Value) →
          option_map (followed (actions_at C l)) (option_map (noted (actions_at M l)) (option_map (opened_at os l) u))
          ≡ option_map (next_at os C M l) u
      by_update (Some v) = refl
      by_update None = refl

-- actions that were put there, and then others
pub filled_both : (C O : Move) (old now new : Outcomes) → AreFilled C old now → AreFilled O now new → AreFilled (C ++ O) old new
filled_both C O old now new first second l =
    second l ∙ ap (option_map (followed (actions_at O l))) (first l) ∙ by_outcome (finite.get old l)
    ∙ ap (λ xs. option_map (followed xs) (finite.get old l)) (sym (actions_at-append C O l)) where
      by_outcome : (o : Option Outcome) →
          option_map (followed (actions_at O l)) (option_map (followed (actions_at C l)) o)
          ≡ option_map (followed (actions_at C l ++ actions_at O l)) o
      by_outcome (Some o) = ap (λ xs. Some (record o { actions = xs })) (append_assoc o.actions (actions_at C l) (actions_at O l))
      by_outcome None = refl

-- before actions were put there are none
pub none_so_far : (os : Outcomes) (U : Updates) (M : Move) (opened marked : Outcomes) →
    AreOpened os U opened → AreMarked M opened marked → listed marked ≡ []
none_so_far os U M opened marked opens marks =
    none_listed marked (λ l.
    ap (λ (x : Option Outcome). option_map_or (λ (o : Outcome). o.actions) x [])
    (marks l ∙ ap (option_map (noted (actions_at M l))) (opens l)) ∙ by_update l (finite.get U l)) where
      by_update : (l : Place) (u : Option Value) →
          option_map_or (λ (o : Outcome). o.actions) (option_map (noted (actions_at M l)) (option_map (opened_at os l) u)) [] ≡ []
      by_update l (Some v) = refl
      by_update l None = refl

-- the instructions at the locations that a test passes
at_passed : (p : Place → Bool) (M : Move) (l : Place) →
    actions_at (filter (λ (i : Instruction). p i.at) M) l ≡ cond (p l) (actions_at M l) []
at_passed p [] l = by_test (p l) where
  by_test : (b : Bool) → actions_at [] l ≡ cond b (actions_at [] l) []
  by_test true = refl
  by_test false = refl
at_passed p (i ∷ M) l = by_tests (p i.at) refl (eq_by_cmp location_cmp i.at l) refl (at_passed p M l) where
  here : Move → Move
  here N = filter (λ (j : Instruction). eq_by_cmp location_cmp j.at l) N

  passing : Move
  passing = filter (λ (j : Instruction). p j.at) M

  by_tests : (t : Bool) → p i.at ≡ t → (e : Bool) → eq_by_cmp location_cmp i.at l ≡ e →
      actions_at passing l ≡ cond (p l) (actions_at M l) [] →
      actions_at (cond t (i ∷ passing) passing) l
      ≡ cond (p l) (map (λ (j : Instruction). j.action) (cond e (i ∷ here M) (here M))) []
  by_tests true t true e later =
      let is : p l ≡ true = sym (ap p (same_location i.at l e)) ∙ t in
      ap (λ b. map (λ (j : Instruction). j.action) (cond b (i ∷ here passing) (here passing))) e
      ∙ ap (λ xs. i.action ∷ xs) (later ∙ ap (λ b. cond b (actions_at M l) []) is)
      ∙ ap (λ b. cond b (i.action ∷ actions_at M l) []) (sym is)
  by_tests true t false e later =
      ap (λ b. map (λ (j : Instruction). j.action) (cond b (i ∷ here passing) (here passing))) e ∙ later
  by_tests false t true e later =
      let is : p l ≡ false = sym (ap p (same_location i.at l e)) ∙ t in
      later ∙ ap (λ b. cond b (actions_at M l) []) is ∙ ap (λ b. cond b (i.action ∷ actions_at M l) []) (sym is)
  by_tests false t false e later = later

pub at_those : (b : Bool) (os : Outcomes) (M : Move) (l : Place) →
    actions_at (those b os M) l ≡ cond (is_one b os l) (actions_at M l) []
at_those b os M l = at_passed (is_one b os) M l

-- where D does what the outcomes have, it writes what they do anything at
acts_written : (os : Outcomes) (D : Move) (l : Place) → actions_at D l ≡ actions_in os l → acts_at os l ≡ writes D l
acts_written os D l is = ap acts (sym is) ∙ sym (writes_by D l)

pub split_is : (os : Outcomes) (D M E S O : Move) → ((l : Place) → actions_at D l ≡ actions_in os l) →
    ((l : Place) → actions_at E l ≡ cond (writes M l) (actions_at D l) []) → S ≡ those true os M → O ≡ those false os M →
    IsSplit D M E S O
split_is os D M E S O same there shared apart = record {
  there = there;
  shared = λ l.
      ap (λ (N : Move). actions_at N l) shared ∙ at_those true os M l
      ∙ ap (λ b. cond b (actions_at M l) []) (acts_written os D l (same l));
  apart = λ l.
      ap (λ (N : Move). actions_at N l) apart ∙ at_those false os M l
      ∙ ap (λ b. cond (not b) (actions_at M l) []) (acts_written os D l (same l)) ∙ other l (writes D l);
} where
  other : (l : Place) (b : Bool) → cond (not b) (actions_at M l) [] ≡ cond b [] (actions_at M l)
  other l true = refl
  other l false = refl

-- over no outcomes nothing is shared
pub acts_nowhere : (os : Outcomes) → os ≡ finite.empty → (l : Place) → acts_at os l ≡ false
acts_nowhere os none l =
    ap (λ (m : Outcomes). acts_at m l) none
    ∙ ap (λ (o : Option Outcome). acts (option_map_or (λ (o : Outcome). o.actions) o [])) (finite.get-empty location_cmp l)

pub none_shared : (os : Outcomes) (M : Move) → ((l : Place) → acts_at os l ≡ false) → those true os M ≡ []
none_shared os [] nowhere = refl
none_shared os (i ∷ M) nowhere =
    ap (λ b. cond b (i ∷ those true os M) (those true os M)) (nowhere i.at) ∙ none_shared os M nowhere

pub all_others : (os : Outcomes) (M : Move) → ((l : Place) → acts_at os l ≡ false) → those false os M ≡ M
all_others os [] nowhere = refl
all_others os (i ∷ M) nowhere =
    ap (λ b. cond (not b) (i ∷ those false os M) (those false os M)) (nowhere i.at)
    ∙ ap (λ (N : Move). i ∷ N) (all_others os M nowhere)

pub nothing_shared : (os : Outcomes) (M S O : Move) → os ≡ finite.empty → S ≡ those true os M → O ≡ those false os M →
    (l : Place) → actions_at (S ++ O) l ≡ actions_at M l
nothing_shared os M S O none shared apart l =
    let nowhere = acts_nowhere os none in
    (λ i. actions_at ((shared ∙ none_shared os M nowhere) i ++ (apart ∙ all_others os M nowhere) i) l)

-- both together are as many as all
pub split_length : (os : Outcomes) (M S O : Move) → S ≡ those true os M → O ≡ those false os M →
    length (S ++ O) ≡ length M
split_length os M S O shared apart =
    (λ i. length (shared i ++ apart i)) ∙ length-append (those true os M) (those false os M)
    ∙ length-filter_both (λ (i : Instruction). is_one true os i.at) (λ (i : Instruction). is_one false os i.at) (λ i. refl) M

pub those_few : (b : Bool) (os : Outcomes) (M : Move) → length (those b os M) ≤ length M
those_few true os M =
    let all = length-filter_both (λ (i : Instruction). is_one true os i.at) (λ (i : Instruction). is_one false os i.at) (λ i. refl) M in
    omega (arith, all)
those_few false os M =
    let all = length-filter_both (λ (i : Instruction). is_one true os i.at) (λ (i : Instruction). is_one false os i.at) (λ i. refl) M in
    omega (arith, all)

-- one more of the first instructions is one of those or not
pub one_more : (b : Bool) (os : Outcomes) (M N list new : Move) (x : Instruction) → list ≡ those b os M →
    new ≡ list ++ those b os (x ∷ []) → M ++ x ∷ [] ≡ N → new ≡ those b os N
one_more b os M N list new x had is more =
    is ∙ ap (λ (K : Move). K ++ those b os (x ∷ [])) had
    ∙ sym (filter-append (λ (j : Instruction). is_one b os j.at) M (x ∷ [])) ∙ ap (those b os) more

-- and there is room for it, where there is room for all
pub one_fits : (b : Bool) (os : Outcomes) (M list : Move) (i : ℕ) → list ≡ those b os (take i M) → i < length M →
    length M ≤ 4096 → length list + 1 ≤ 4096
one_fits b os M list i had within few =
    let short = those_few b os (take i M) in
    let long = ap length had in
    let part = length-take i M in
    omega (arith, short, long, part, within, few)
