-- What actions name of a set or a bag, one at a time; what a move of partial updates of one location changes; and that the
-- changes of a trace leave the state that the moves leave. No float is written.
use Rattle.std.proofs.Common.{◌≡◌, List, [], ◌∷◌, map, refl, sym, ap, ◌∙◌, ℕ, Option, Some, false, option_map, ◌+◌, ◌-◌, ◌≤◌, Bool, true, cond, ◌&&◌, ◌||◌, length, take, arith, T, ◌++◌, All, subst, append-nil}
use Rattle.std.specs.Prelude.{None, Result, Ok, Err, unwrap_or}
use Rattle.std.specs.FinMap as finite
use Rattle.std.proofs.lemmas.List.{nil_from_length, take_all}
use Rattle.asm_element.specs.Place.{Place, location_cmp, location_cmp_total, same_location}
use Rattle.asm_element.specs.declared.value.Value.{Value}
use Rattle.asm_update.specs.Fire.{Part, Old, aggregated, overwritten, fire, state_or, state_of}
use Rattle.asm_update.specs.Group.{Parts}
use Rattle.asm_update.specs.Move.{Move}
use Rattle.asm_update.specs.declared.clash.Cause.{Cause}
use Rattle.asm_update.proofs.FireLemmas.{aggregated-update_set, aggregated-clash, val-overwrite}
use Rattle.asm_state.specs.Change.{IsOneChange}
use Rattle.asm_state.proofs.InPlace.{actions, nothing, alone, updates_here, clash_here}
use Rattle.asm_trace.specs.Change.{Change, change_of, changes_or_none, changes_of, OfSet, OfBag, OfValue, Recount, made, changed, changes_at, change_by, element_named, names, is_named, AreSameTo}
use Rattle.serde_json.specs.Data.{Data}
use Rattle.serde_json.specs.Written.{has_float}
use Rattle.asm_element.specs.declared.element.Element.{Element}
use Rattle.asm_storage.specs.declared.call.Answer.{Answer}
use Rattle.asm_storage.specs.declared.call.Answer.TheVariants as answer
use Rattle.asm_storage.specs.declared.history.Event.{Event}
use Rattle.asm_storage.specs.declared.history.History.{History}
use Rattle.asm_journal.specs.Element.{element_json_of}
use Rattle.asm_journal.specs.Shape.{number_json_of}
use Rattle.asm_journal.specs.Value.{pair_json_of}
use Rattle.asm_journal.proofs.Floats.{list_no_float, element_no_float, location_no_float, value_no_float, pair_no_float, call_no_float, answer_no_float}
use Rattle.asm_trace.specs.Text.{elements_json_of, recount_json_of, change_json_of, changes_json_of, event_with, header_of, right_json_of, differing_positions, ChangesReachState}
use Rattle.std.specs.Ordering.{eq_by_cmp}
use Rattle.asm_element.specs.Bag as bag
use Rattle.asm_element.specs.Bag.{ElementBag, count, set_count}
use Rattle.asm_element.specs.Element.{element_cmp}
use Rattle.asm_element.specs.Set.{ElementSet, empty, contains, insert}
use Rattle.asm_element.specs.Tests.{or_false, or_true, itself}
use Rattle.asm_element.specs.declared.value.Value.TheVariants as values
use Rattle.asm_element.proofs.SetTree.{contains-insert}
use Rattle.asm_update.specs.declared.action.Action.{Action}
use Rattle.asm_aggregate.specs.Sets.{is_the}
use Rattle.asm_aggregate.specs.Steps.{raised}
use Rattle.asm_aggregate.specs.laws.BagAlgebra.{held, held_count, get-set_count}
use Rattle.asm_aggregate.specs.laws.SetAlgebra.{same_element, contains-empty}
use Rattle.asm_aggregate.proofs.SetSteps.{IsItem, any_more}
use Rattle.std.specs.List.{cons_option}
use Rattle.std.proofs.lemmas.Option.{same_Some}
use Rattle.std.proofs.lemmas.List.Elements.{All-head, All-tail}
use Rattle.asm_element.specs.Ascending.{rising_rest, first_gone}
use Rattle.asm_element.specs.Value as value
use Rattle.asm_update.specs.Action.{IsProperInstruction}
use Rattle.asm_update.specs.Aggregator.{Meaning, AggregatorLaws}
use Rattle.asm_update.specs.State.{State, Updates, val, write, overwrite}
use Rattle.asm_update.specs.declared.clash.Clash.{Clash}
use Rattle.asm_aggregate.proofs.Sequence.{proper_value}
use Rattle.asm_state.proofs.Wanted.{val-write}
use Rattle.asm_state.proofs.Writers.{state_of-push}
use Rattle.asm_storage.specs.History.{move_of, fired_move, fired_moves}
use Rattle.asm_storage.specs.Proper.{IsProperEvent, IsProperCall}
use Rattle.asm_storage.specs.declared.call.Call.{Call}
use Rattle.asm_storage.specs.declared.call.Call.TheVariants as call
use Rattle.asm_storage.specs.declared.call.Reply.TheVariants as reply
use Rattle.asm_journal.specs.Check.{machine_of, moves_with}
use Rattle.asm_journal.proofs.Moves.{written_with, written_updates}
use Rattle.asm_trace.specs.Note.{Note, AreNotesOf, all_changes}
use Rattle.asm_trace.proofs.Making.{change_made}
use Rattle.asm_trace.proofs.Noted.{IsHeld, move_held}

-- the update set of one location has one entry
one_entry : (l : Place) (v : Value) → finite.entries (alone l v) ≡ (l, v) ∷ []
one_entry l v =
    let none : finite.entries nothing ≡ [] = nil_from_length _ (sym (finite.len-entries nothing) ∙ finite.len-empty location_cmp Value) in
    finite.entries-insert location_cmp_total nothing l v ∙ ap (finite.put location_cmp l v) none

module _ (part : Part) (old : Old) (l : Place) (group : Parts) (M : Move) (one : IsOneChange M l group) where
  same : actions M ≡ group.partials
  same = ap (λ (p : Parts). p.partials) (sym one.2)

  -- it changes there what its group does
  pub changed_alone : changes_of part old M ≡ changes_at l (change_by (old l) (part (old l) None group.partials))
  changed_alone =
      by_result (part (old l) None (actions M)) refl ∙ ap (λ xs. changes_at l (change_by (old l) (part (old l) None xs))) same where
        by_result : (r : Result Value Cause) → part (old l) None (actions M) ≡ r →
            changes_of part old M ≡ changes_at l (change_by (old l) (part (old l) None (actions M)))
        by_result (Ok v) gave =
            ap (changes_or_none old)
            ((aggregated-update_set part old M (alone l v)).1 (updates_here part old l M one.0 one.1 v gave))
            ∙ ap (map (λ (p : Place × Value). (p.0, change_of (old p.0) p.1))) (one_entry l v)
            ∙ ap (λ r. changes_at l (change_by (old l) r)) (sym gave)
        by_result (Err cause) gave =
            ap (changes_or_none old)
            ((aggregated-clash part old M (record { at = l; cause = cause })).1 (clash_here part old l M one.0 one.1 cause gave))
            ∙ ap (λ r. changes_at l (change_by (old l) r)) (sym gave)

elements_no_float : (es : List Element) → has_float (elements_json_of es) ≡ false
elements_no_float es = list_no_float element_json_of element_no_float es

recount_no_float : (r : Recount) → has_float (recount_json_of r) ≡ false
recount_no_float r = rw (element_no_float r.element) refl

change_no_float : (l : Place) (c : Change) → has_float (change_json_of l c) ≡ false
change_no_float l (OfSet added removed) = rw (location_no_float l, elements_no_float added, elements_no_float removed) refl
change_no_float l (OfBag rs) = rw (location_no_float l, list_no_float recount_json_of recount_no_float rs) refl
change_no_float l (OfValue old new) = rw (location_no_float l, value_no_float old, value_no_float new) refl

changes_no_float : (cs : List (Place × Change)) → has_float (changes_json_of cs) ≡ false
changes_no_float cs = list_no_float (λ (c : Place × Change). change_json_of c.0 c.1) (λ c. change_no_float c.0 c.1) cs

abbrev pub HasNoFloat : Option Data → Type 0
HasNoFloat None = Unit {0}
HasNoFloat (Some d) = has_float d ≡ false

pub some_changes_no_float : (o : Option (List (Place × Change))) → HasNoFloat (option_map changes_json_of o)
some_changes_no_float None = tt
some_changes_no_float (Some cs) = changes_no_float cs

right_no_float : (given right : Answer) → has_float (right_json_of given right) ≡ false
right_no_float (answer.Read n given) (answer.Read number right) =
    rw (list_no_float number_json_of (λ _. refl) (differing_positions given right)) refl
right_no_float (answer.Read n given) (answer.Fire r) = answer_no_float (answer.Fire r)
right_no_float (answer.Fire r) (answer.Read number right) = answer_no_float (answer.Read number right)
right_no_float (answer.Fire r) (answer.Fire q) = answer_no_float (answer.Fire q)

pub some_right_no_float : (given : Answer) (o : Option Answer) → HasNoFloat (option_map (right_json_of given) o)
some_right_no_float given None = tt
some_right_no_float given (Some right) = right_no_float given right

pub event_no_float : (n : ℕ) (e : Event) (right changes : Option Data) → HasNoFloat right → HasNoFloat changes →
    has_float (event_with n e right changes) ≡ false
event_no_float n e None None r c = rw (call_no_float e.call, answer_no_float e.answer) refl
event_no_float n e (Some a) None r c = rw (call_no_float e.call, answer_no_float e.answer, r) refl
event_no_float n e None (Some b) r c = rw (call_no_float e.call, answer_no_float e.answer, c) refl
event_no_float n e (Some a) (Some b) r c = rw (call_no_float e.call, answer_no_float e.answer, r, c) refl

pub header_no_float : (h : History) → has_float (header_of h) ≡ false
header_no_float h = rw (list_no_float pair_json_of pair_no_float (finite.entries h.init)) refl

-- ---- sets

module _ (old whole : ElementSet) (x : Action) (y : Element) (is : Some y ≡ element_named x) where
  -- an element that the whole set has comes
  pub kept : (new : ElementSet) (z : Element) → contains whole y ≡ true → new ≡ insert old z → z ≡ y →
      (e : Element) → contains new e ≡ (contains old e || (names e x && contains whole e))
  kept new z there put copied e =
      ap (λ s. contains s e) (put ∙ ap (insert old) copied) ∙ contains-insert old y e
      ∙ at (eq_by_cmp element_cmp e y) refl
      ∙ ap (λ o. contains old e || (is_the e o && contains whole e)) is where
        at : (i : Bool) → eq_by_cmp element_cmp e y ≡ i → (i || contains old e) ≡ (contains old e || (i && contains whole e))
        at true i =
            sym (or_true (contains old e))
            ∙ ap (λ b. contains old e || b) (sym (ap (contains whole) (same_element e y i) ∙ there))
        at false i = sym (or_false (contains old e))

  -- and no other does
  pub left_out : contains whole y ≡ false → (e : Element) →
      contains old e ≡ (contains old e || (names e x && contains whole e))
  left_out lacks e =
      sym (or_false (contains old e)) ∙ ap (λ b. contains old e || b) (at (eq_by_cmp element_cmp e y) refl)
      ∙ ap (λ o. contains old e || (is_the e o && contains whole e)) is where
        at : (i : Bool) → eq_by_cmp element_cmp e y ≡ i → false ≡ (i && contains whole e)
        at true i = sym (ap (contains whole) (same_element e y i) ∙ lacks)
        at false i = refl

-- the part has of the whole set what the actions name
pub record HasNamed (whole part : ElementSet) (xs : List Action) : Type 0 where
  pub has : (e : Element) → contains part e ≡ (is_named xs e && contains whole e)

pub named_none : (whole part : ElementSet) → part ≡ empty → HasNamed whole part []
named_none whole part is = record { has = λ e. ap (λ s. contains s e) is ∙ contains-empty e }

either_named : (m n c : Bool) → ((m && c) || (n && c)) ≡ ((m || n) && c)
either_named true true true = refl
either_named true true false = refl
either_named true false true = refl
either_named true false false = refl
either_named false n c = refl

pub named_more : (whole old new : ElementSet) (xs : List Action) (i : ℕ) (x : Action) → IsItem xs i x →
    ((e : Element) → contains new e ≡ (contains old e || (names e x && contains whole e))) →
    HasNamed whole old (take i xs) → HasNamed whole new (take (i + 1) xs)
named_more whole old new xs i x item step had = record {
  has = λ e.
      step e ∙ ap (λ b. b || (names e x && contains whole e)) (had.has e)
      ∙ either_named (is_named (take i xs) e) (names e x) (contains whole e)
      ∙ ap (λ b. b && contains whole e) (sym (any_more (names e) xs i x item));
}

pub named_all : (whole part : ElementSet) (xs : List Action) (i : ℕ) → length xs ≤ i → HasNamed whole part (take i xs) →
    AreSameTo xs (values.Set whole) (values.Set part)
named_all whole part xs i done had = λ e is.
    sym (had.has e ∙ ap (λ l. is_named l e && contains whole e) (take_all i xs done) ∙ ap (λ b. b && contains whole e) is)

-- ---- bags

count-set_count : (b : ElementBag) (x : Element) (n : ℕ) (e : Element) →
    count (set_count b x n) e ≡ cond (eq_by_cmp element_cmp e x) n (count b e)
count-set_count b x n e = ap (λ o. unwrap_or o 0) (get-set_count b x n e) ∙ at (eq_by_cmp element_cmp e x) where
  at : (i : Bool) → unwrap_or (cond i (held n) (finite.get b e)) 0 ≡ cond i n (count b e)
  at true = held_count n
  at false = refl

module _ (old whole : ElementBag) (x : Action) (y : Element) (is : Some y ≡ element_named x) (had counted : ℕ)
    (there : had ≡ count old y) (all : counted ≡ count whole y) where
  -- a count below that of the whole bag is brought up to it
  pub brought : (new : ElementBag) (z : Element) → new ≡ set_count old z (count old z + (counted - had)) → z ≡ y →
      (e : Element) → count new e ≡ cond (names e x) (raised (count old e) (count whole e)) (count old e)
  brought new z put copied e =
      ap (λ b. count b e) (put ∙ (λ i. set_count old (copied i) (count old (copied i) + (all i - there i))))
      ∙ count-set_count old y (raised (count old y) (count whole y)) e
      ∙ at (eq_by_cmp element_cmp e y) refl
      ∙ ap (λ o. cond (is_the e o) (raised (count old e) (count whole e)) (count old e)) is where
        at : (i : Bool) → eq_by_cmp element_cmp e y ≡ i → cond i (raised (count old y) (count whole y)) (count old e)
            ≡ cond i (raised (count old e) (count whole e)) (count old e)
        at true i = ap (λ q. raised (count old q) (count whole q)) (sym (same_element e y i))
        at false i = refl

  -- and one that isn't stays
  pub stayed : counted ≤ had → (e : Element) →
      count old e ≡ cond (names e x) (raised (count old e) (count whole e)) (count old e)
  stayed enough e =
      at (eq_by_cmp element_cmp e y) refl
      ∙ ap (λ o. cond (is_the e o) (raised (count old e) (count whole e)) (count old e)) is where
        same : count old y ≡ raised (count old y) (count whole y)
        same = omega (arith, enough, there, all)

        at : (i : Bool) → eq_by_cmp element_cmp e y ≡ i →
            count old e ≡ cond i (raised (count old e) (count whole e)) (count old e)
        at true i =
            ap (count old) (same_element e y i) ∙ same
            ∙ ap (λ q. raised (count old q) (count whole q)) (sym (same_element e y i))
        at false i = refl

-- the part has what the actions name as often as the whole bag has it, and nothing else
pub record HasCounts (whole part : ElementBag) (xs : List Action) : Type 0 where
  pub counts : (e : Element) → count part e ≡ cond (is_named xs e) (count whole e) 0

pub counts_none : (whole part : ElementBag) → part ≡ bag.empty → HasCounts whole part []
counts_none whole part is =
    record { counts = λ e. ap (λ b. count b e) is ∙ ap (λ o. unwrap_or o 0) (finite.get-empty element_cmp e) }

one_raised : (m n : Bool) (w : ℕ) → cond n (raised (cond m w 0) w) (cond m w 0) ≡ cond (m || n) w 0
one_raised true true w = omega arith
one_raised true false w = refl
one_raised false true w = omega arith
one_raised false false w = refl

pub counts_more : (whole old new : ElementBag) (xs : List Action) (i : ℕ) (x : Action) → IsItem xs i x →
    ((e : Element) → count new e ≡ cond (names e x) (raised (count old e) (count whole e)) (count old e)) →
    HasCounts whole old (take i xs) → HasCounts whole new (take (i + 1) xs)
counts_more whole old new xs i x item step had = record {
  counts = λ e.
      step e ∙ ap (λ n. cond (names e x) (raised n (count whole e)) n) (had.counts e)
      ∙ one_raised (is_named (take i xs) e) (names e x) (count whole e)
      ∙ ap (λ b. cond b (count whole e) 0) (sym (any_more (names e) xs i x item));
}

pub counts_all : (whole part : ElementBag) (xs : List Action) (i : ℕ) → length xs ≤ i → HasCounts whole part (take i xs) →
    AreSameTo xs (values.Bag whole) (values.Bag part)
counts_all whole part xs i done had = λ e is.
    sym (had.counts e ∙ ap (λ l. cond (is_named l e) (count whole e) 0) (take_all i xs done)
    ∙ ap (λ b. cond b (count whole e) 0) is)

-- ---- the changes of one move

-- each entry has a value that a program can hold, and its location the same value in both states
abbrev AreFit : State → State → List (Place × Value) → Type 0
AreFit A B es = (q : Place) (v : Value) → finite.find location_cmp q es ≡ Some v → (val B q ≡ val A q) × value.IsProper v

fit_rest : (A B : State) (e : Place × Value) (es : List (Place × Value)) → T (finite.is_sorted location_cmp (e ∷ es)) →
    AreFit A B (e ∷ es) → AreFit A (write B e.0 e.1) es
fit_rest A B e es sorted fit q v is = by_test (eq_by_cmp location_cmp q e.0) refl where
  by_test : (b : Bool) → eq_by_cmp location_cmp q e.0 ≡ b → (val (write B e.0 e.1) q ≡ val A q) × value.IsProper v
  by_test true same =
      let none : finite.find location_cmp q es ≡ None =
      ap (λ l. finite.find location_cmp l es) (same_location q e.0 same) ∙ first_gone location_cmp e.0 e.1 es sorted in
      absurd (let bad : ◌≡◌ {A = Option Value} None (Some v) = sym none ∙ is in cc)
  by_test false other =
      let had = fit q v (ap (λ b. cond b (Some e.1) (finite.find location_cmp q es)) other ∙ is) in
      (val-write B e.0 e.1 q ∙ ap (λ b. cond b e.1 (val B q)) other ∙ had.0, had.1)

abbrev reported_of : State → List (Place × Value) → List (Place × Change)
reported_of A es = map (λ p. (p.0, change_of (val A p.0) p.1)) es

-- making what entries change is writing them
changed_is : (A B : State) (es : List (Place × Value)) → T (finite.is_sorted location_cmp es) → IsHeld A →
    AreFit A B es → changed B (reported_of A es) ≡ written_with B es
changed_is A B [] sorted held fit = refl
changed_is A B (e ∷ es) sorted held fit =
    let mine = fit e.0 e.1 (ap (λ b. cond b (Some e.1) (finite.find location_cmp e.0 es)) (itself location_cmp_total e.0)) in
    let here : made (change_of (val A e.0) e.1) (val B e.0) ≡ e.1 =
    ap (made (change_of (val A e.0) e.1)) mine.0 ∙ change_made (val A e.0) e.1 (held e.0) mine.1 in
    ap (λ v. changed (write B e.0 v) (reported_of A es)) here
    ∙ changed_is A (write B e.0 e.1) es (rising_rest location_cmp e.0 e.1 es sorted) held (fit_rest A B e es sorted fit)

-- the state after a move, if there is one
abbrev after : Part → State → Option Move → State
after part A None = A
after part A (Some M) = state_or A (fire part A M)

changed-append : (A : State) (cs ds : List (Place × Change)) → changed A (cs ++ ds) ≡ changed (changed A cs) ds
changed-append A [] ds = refl
changed-append A (c ∷ cs) ds = changed-append (write A c.0 (made c.1 (val A c.0))) cs ds

-- the move that an event fired is proper
fired_proper : (c : Call) (a : Answer) (M : Move) → IsProperCall c → fired_move c a ≡ Some M → All IsProperInstruction M
fired_proper (call.Fire rs N) (answer.Fire (reply.Fired k)) M h is = subst (All IsProperInstruction) (same_Some N M is) h.1.0
fired_proper c a M h is = absurd cc

module _ {a : Meaning} (laws : AggregatorLaws a) where
  move_changed : (A : State) (M : Move) → IsHeld A → All IsProperInstruction M →
      changed A (changes_of a.part (val A) M) ≡ state_or A (fire a.part A M)
  move_changed A M held proper = by_answer (aggregated a.part (val A) M) refl where
    by_answer : (r : Result Updates Clash) → aggregated a.part (val A) M ≡ r →
        changed A (changes_or_none (val A) r) ≡ state_or A (overwritten A r)
    by_answer (Err c) e = refl
    by_answer (Ok U) e =
        let later : IsHeld (overwrite A U) =
        subst IsHeld (ap (λ r. state_or A (overwritten A r)) e) (move_held laws A M held proper) in
        changed_is A A (finite.entries U) (finite.entries_sorted U) held
        (λ q v is. (
          refl,
          subst value.IsProper
              (val-overwrite A U q ∙ ap (λ o. unwrap_or o (val A q)) (finite.get-entries U q ∙ is)) (later q),
        ))
        ∙ written_updates A U

  -- what an event changes leaves the state after its move
  event_changed : (A : State) (o : Option Move) → IsHeld A → ((M : Move) → o ≡ Some M → All IsProperInstruction M) →
      changed A (unwrap_or (option_map (changes_of a.part (val A)) o) []) ≡ after a.part A o
  event_changed A None held proper = refl
  event_changed A (Some M) held proper = move_changed A M held (proper M refl)

  after_held : (A : State) (o : Option Move) → IsHeld A → ((M : Move) → o ≡ Some M → All IsProperInstruction M) →
      IsHeld (after a.part A o)
  after_held A None held proper = held
  after_held A (Some M) held proper = move_held laws A M held (proper M refl)

state_moved : (part : Part) (init : State) (q : List Move) (o : Option Move) →
    state_of part init (q ++ cons_option o []) ≡ after part (state_of part init q) o
state_moved part init q None = ap (state_of part init) (append-nil q)
state_moved part init q (Some M) = state_of-push part init q M

state_split : (part : Part) (A : State) (o : Option Move) (ms : List Move) →
    state_of part A (cons_option o ms) ≡ state_of part (after part A o) ms
state_split part A None ms = refl
state_split part A (Some M) ms = refl

-- ---- the changes of all events

leaves : {a : Meaning} (laws : AggregatorLaws a) (h : History) (q : List Move) (n : ℕ) (es : List Event) (xs : List Note) →
    AreNotesOf (machine_of a.part h) q n es xs → IsHeld (state_of a.part h.init q) → All IsProperEvent es →
    changed (state_of a.part h.init q) (all_changes xs) ≡ state_of a.part (state_of a.part h.init q) (fired_moves es)
leaves laws h q n [] [] are held proper = refl
leaves laws h q n [] (x ∷ xs) are held proper = absurd are
leaves laws h q n (e ∷ es) [] are held proper = absurd are
leaves {a} laws h q n (e ∷ es) (x ∷ xs) are held proper =
    let part = a.part in
    let A = state_of part h.init q in
    let o = move_of e in
    let fired = fired_proper e.call e.answer in
    let mine : (M : Move) → o ≡ Some M → All IsProperInstruction M =
    λ M is. fired M (All-head IsProperEvent e es proper).0 is in
    let moved : state_of part h.init (moves_with q e) ≡ after part A o = state_moved part h.init q o in
    let rest = leaves laws h (moves_with q e) (n + 1) es xs are.1 (subst IsHeld (sym moved) (after_held laws A o held mine))
    (All-tail IsProperEvent e es proper) in
    ap (λ c. changed A (unwrap_or c [] ++ all_changes xs)) are.0.changes
    ∙ changed-append A (unwrap_or (option_map (changes_of part (val A)) o) []) (all_changes xs)
    ∙ ap (λ B. changed B (all_changes xs)) (event_changed laws A o held mine)
    ∙ subst (λ B. changed B (all_changes xs) ≡ state_of part B (fired_moves es)) moved rest
    ∙ sym (state_split part A o (fired_moves es))

pub changes_reach_state : ChangesReachState
changes_reach_state a laws h notes proper are =
    leaves laws h [] 0 h.events notes are (λ l. proper_value h.init l proper.0) proper.1
