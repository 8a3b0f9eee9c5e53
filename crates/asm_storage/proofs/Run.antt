-- Of a legal history: its fired moves are a run, are numbered from one, and find what they named as it was.
use Rattle.std.proofs.Common.{◌≡◌, ℕ, zero, suc, ◌+◌, ◌-◌, ◌<◌, ◌≤◌, Bool, true, false, ◌&&◌, cond, nat_lt, ltb-true, List, [], ◌∷◌, ◌++◌, length, take, map, fold, Option, Some, None, Result, Ok, Err, is_ok, append_assoc, append-nil, length-append, arith, refl, ap, sym, ◌∙◌, subst, ◌⊎◌, inl, inr}
use Rattle.std.specs.List.{filter, cons_option, AllByRecursion}
use Rattle.std.proofs.lemmas.List.Elements.{All-from_recursion}
use Rattle.std.proofs.lemmas.List.{take_at, take-take}
use Rattle.std.proofs.lemmas.Bool.{or_parts}
use Rattle.asm_state.specs.declared.named.Named.{Named}
use Rattle.asm_update.specs.declared.clash.Clash.{Clash}
use Rattle.asm_storage.specs.declared.call.Call.{Call}
use Rattle.asm_storage.specs.declared.call.Call.TheVariants as call
use Rattle.asm_storage.specs.declared.call.Reply.TheVariants as reply
use Rattle.asm_storage.specs.declared.call.Answer.{Answer}
use Rattle.asm_storage.specs.declared.call.Answer.TheVariants as answer
use Rattle.asm_storage.specs.declared.history.Event.{Event}
use Rattle.asm_update.specs.Move.{Move, writes}
use Rattle.asm_update.specs.State.{State, val}
use Rattle.asm_element.specs.Place.{Place, location_cmp}
use Rattle.std.specs.Ordering.{is_lt}
use Rattle.asm_update.specs.Fire as firing
use Rattle.asm_update.specs.Fire.{fire, state_or}
use Rattle.asm_update.proofs.FireLemmas.{val-unwritten}
use Rattle.asm_state.specs.FollowsFrom.{after_move, overwrites, is_stale}
use Rattle.asm_state.specs.Verdict.{lesser, least, least_stale}
use Rattle.asm_state.proofs.Writers.{state_of-push}
use Rattle.asm_storage.specs.Machine.{Machine, machine_state, fired_or_full, firing_reply, fire_reply, reply_to}
use Rattle.asm_storage.specs.History.{fired_move, fired_moves, move_of, IsRun, steps_from, step_and, IsCoherentAt, IsCoherent, fired_number, numbers, count_up}
use Rattle.asm_storage.proofs.Lists.{Each-weaker}
use Rattle.asm_storage.proofs.Legal.{IsLegalFrom, fired_moves-append}

-- what Fired tells
pub record IsFiredReply (m : Machine) (q : List Move) (reads : List Named) (M : Move) (k : ℕ) : Type 0 where
  pub number : k ≡ length q + 1
  pub room : length q < m.capacity
  pub fires : fire m.part (machine_state m q) M ≡ Ok (after_move m.part (machine_state m q) M)
  pub fresh : least_stale m.part m.init q reads ≡ None

taken_fired : (capacity number k : ℕ) → reply.Fired k ≡ fired_or_full capacity number → (k ≡ number + 1) × (number < capacity)
taken_fired capacity number k = here (nat_lt number capacity) refl where
  here : (b : Bool) → nat_lt number capacity ≡ b → reply.Fired k ≡ cond b (reply.Fired (number + 1)) reply.Full → (k ≡ number + 1) × (number < capacity)
  here true e is = (cc is, ltb-true number capacity e)
  here false e is = absurd (cc is)

firing_fired : (m : Machine) (q : List Move) (k : ℕ) (o : Result State Clash) → reply.Fired k ≡ firing_reply m q o → (B : State) × (o ≡ Ok B) × (k ≡ length q + 1) × (length q < m.capacity)
firing_fired m q k (Ok B) is = let t = taken_fired m.capacity (length q) k is in (B, refl, t.0, t.1)
firing_fired m q k (Err c) is = absurd (cc is)

fire_fired : (m : Machine) (q : List Move) (M : Move) (k : ℕ) (o : Option Place) → reply.Fired k ≡ fire_reply m q M o → (o ≡ None) × (reply.Fired k ≡ firing_reply m q (fire m.part (machine_state m q) M))
fire_fired m q M k (Some l) is = absurd (cc is)
fire_fired m q M k None is = (refl, is)

pub fired_reply : (m : Machine) (q : List Move) (reads : List Named) (M : Move) (k : ℕ) → answer.Fire (reply.Fired k) ≡ reply_to m q (call.Fire reads M) → IsFiredReply m q reads M k
fired_reply m q reads M k is =
    let r : reply.Fired k ≡ fire_reply m q M (least_stale m.part m.init q reads) = cc is in
    let f = fire_fired m q M k (least_stale m.part m.init q reads) r in
    let t = firing_fired m q k (fire m.part (machine_state m q) M) f.1 in
    record { number = t.2; room = t.3; fires = rw t.1 refl; fresh = f.0 }

-- an event's move, by its call and answer
fired_cases : (c : Call) (a : Answer) (M : Move) → fired_move c a ≡ Some M → (reads : List Named) × (k : ℕ) × (c ≡ call.Fire reads M) × (a ≡ answer.Fire (reply.Fired k))
fired_cases (call.Fire reads instrs) (answer.Fire (reply.Fired k)) M is = (reads, k, cc is, refl)
fired_cases (call.Fire reads instrs) (answer.Fire (reply.Stale l)) M is = absurd (cc is)
fired_cases (call.Fire reads instrs) (answer.Fire (reply.Clash c)) M is = absurd (cc is)
fired_cases (call.Fire reads instrs) (answer.Fire reply.Full) M is = absurd (cc is)
fired_cases (call.Fire reads instrs) (answer.Read n vs) M is = absurd (cc is)
fired_cases (call.Read places) a M is = absurd (cc is)

-- the fired moves of a legal history are a run
pub run_from : (m : Machine) (q : List Move) (h : List Event) → IsLegalFrom m q h → IsRun m (machine_state m q) (steps_from m (machine_state m q) h)
run_from m q [] legal = tt
run_from m q (e ∷ h) legal = here (move_of e) refl (run_from m (q ++ fired_moves (e ∷ [])) h legal.1) where
  here : (o : Option Move) → move_of e ≡ o → IsRun m (machine_state m (q ++ cons_option (move_of e) [])) (steps_from m (machine_state m (q ++ cons_option (move_of e) [])) h) → IsRun m (machine_state m q) (step_and m (machine_state m q) e.agent o (λ B. steps_from m B h))
  here None is rest = subst (λ r. IsRun m (machine_state m r) (steps_from m (machine_state m r) h)) (ap (λ o. q ++ cons_option o []) is ∙ append-nil q) rest
  here (Some M) is rest =
      let c = fired_cases e.call e.answer M is in
      let f = fired_reply m q c.0 M c.1 (sym c.3 ∙ legal.0 ∙ ap (reply_to m q) c.2) in
      (f.fires, subst (λ (B : State). IsRun m B (steps_from m B h)) (ap (λ o. machine_state m (q ++ cons_option o [])) is ∙ state_of-push m.part m.init q M) rest)

-- a reply has the next number where it fires a move, and none otherwise
reported : (m : Machine) (q : List Move) (c : Call) (a : Answer) → a ≡ reply_to m q c → ((fired_number a ≡ None) × (fired_move c a ≡ None)) ⊎ ((M : Move) × (fired_number a ≡ Some (length q + 1)) × (fired_move c a ≡ Some M))
reported m q (call.Read places) (answer.Read n vs) is = inl (refl, refl)
reported m q (call.Read places) (answer.Fire r) is = absurd (cc is)
reported m q (call.Fire reads instrs) (answer.Read n vs) is = absurd (cc is)
reported m q (call.Fire reads instrs) (answer.Fire (reply.Fired k)) is = inr (instrs, ap Some (fired_reply m q reads instrs k is).number, refl)
reported m q (call.Fire reads instrs) (answer.Fire (reply.Stale l)) is = inl (refl, refl)
reported m q (call.Fire reads instrs) (answer.Fire (reply.Clash c)) is = inl (refl, refl)
reported m q (call.Fire reads instrs) (answer.Fire reply.Full) is = inl (refl, refl)

-- the numbers that are answered count up
pub numbered_from : (m : Machine) (q : List Move) (h : List Event) → IsLegalFrom m q h → numbers h ≡ count_up (length q + 1) (length (fired_moves h))
numbered_from m q [] legal = refl
numbered_from m q (e ∷ h) legal = here (reported m q e.call e.answer legal.0) (numbered_from m (q ++ fired_moves (e ∷ [])) h legal.1) where
  here : ((fired_number e.answer ≡ None) × (fired_move e.call e.answer ≡ None)) ⊎ ((M : Move) × (fired_number e.answer ≡ Some (length q + 1)) × (fired_move e.call e.answer ≡ Some M)) → numbers h ≡ count_up (length (q ++ fired_moves (e ∷ [])) + 1) (length (fired_moves h)) → numbers (e ∷ h) ≡ count_up (length q + 1) (length (fired_moves (e ∷ h)))
  here (inl t) rest =
      let len : length (q ++ fired_moves (e ∷ [])) ≡ length q = ap (λ o. length (q ++ cons_option o [])) t.1 ∙ ap length (append-nil q) in
      ap (λ o. cons_option o (numbers h)) t.0 ∙ rest ∙ ap (λ k. count_up (k + 1) (length (fired_moves h))) len ∙ sym (ap (λ o. count_up (length q + 1) (length (cons_option o (fired_moves h)))) t.1)
  here (inr t) rest =
      let len : length (q ++ fired_moves (e ∷ [])) ≡ length q + 1 = ap (λ o. length (q ++ cons_option o [])) t.2 ∙ length-append q (t.0 ∷ []) in
      ap (λ o. cons_option o (numbers h)) t.1 ∙ ap (λ xs. (length q + 1) ∷ xs) (rest ∙ ap (λ k. count_up (k + 1) (length (fired_moves h))) len) ∙ sym (ap (λ o. count_up (length q + 1) (length (cons_option o (fired_moves h)))) t.2)

-- a state keeps what a move doesn't overwrite
kept : (m : Machine) → (A : State) (M : Move) (l : Place) → overwrites m.part A M l ≡ false → val A l ≡ val (after_move m.part A M) l
kept m A M l none = here (fire m.part A M) refl none where
  here : (o : Result State Clash) → fire m.part A M ≡ o → (is_ok o && writes M l) ≡ false → val A l ≡ val (state_or A o) l
  here (Err c) is none = refl
  here (Ok B) is none = sym (val-unwritten m.part A B M l is none)

-- what isn't stale has the value that it had
pub same_value_from : (m : Machine) → (A : State) (q : List Move) (l : Place) (number : ℕ) → is_stale m.part A q l number ≡ false → number ≤ length q → val (firing.state_of m.part A (take number q)) l ≡ val (firing.state_of m.part A q) l
same_value_from m A [] l zero fresh le = refl
same_value_from m A [] l (suc number) fresh le = absurd (omega arith)
same_value_from m A (M ∷ q) l (suc number) fresh le = same_value_from m (after_move m.part A M) q l number fresh (omega arith)
same_value_from m A (M ∷ q) l zero fresh le =
    let parts = or_parts (overwrites m.part A M l) (is_stale m.part (after_move m.part A M) q l zero) fresh in
    kept m A M l parts.0 ∙ same_value_from m (after_move m.part A M) q l zero parts.1 (omega arith)

-- a location that was found stays
stays : (k : Place) (ls : List Place) → fold lesser (Some k) ls ≡ None → ⊥
stays k [] none = cc
stays k (l ∷ ls) none = here (is_lt (location_cmp l k)) none (stays l ls) (stays k ls) where
  here : (b : Bool) → fold lesser (cond b (Some l) (Some k)) ls ≡ None → (fold lesser (Some l) ls ≡ None → ⊥) → (fold lesser (Some k) ls ≡ None → ⊥) → ⊥
  here true e one other = one e
  here false e one other = other e

-- where none is stale, no named location is
pub fresh_each : (test : Named → Bool) (reads : List Named) → least (map (λ (r : Named). r.at) (filter test reads)) ≡ None → AllByRecursion (λ r. test r ≡ false) reads
fresh_each test [] none = tt
fresh_each test (r ∷ reads) none = here (test r) refl none (fresh_each test reads) where
  here : (b : Bool) → test r ≡ b → least (map (λ (r : Named). r.at) (cond b (r ∷ filter test reads) (filter test reads))) ≡ None → (least (map (λ (r : Named). r.at) (filter test reads)) ≡ None → AllByRecursion (λ r. test r ≡ false) reads) → (test r ≡ false) × AllByRecursion (λ r. test r ≡ false) reads
  here true e none rest = absurd (stays r.at (map (λ (s : Named). s.at) (filter test reads)) none)
  here false e none rest = (e, rest none)

-- a fired move finds each location that it names as it was
pub coherent_at : (m : Machine) → (q : List Move) (c : Call) (k : ℕ) → answer.Fire (reply.Fired k) ≡ reply_to m q c → (all : List Move) → take (length q) all ≡ q → IsCoherentAt m all c (k - 1)
coherent_at m q (call.Read places) k is all begins = tt
coherent_at m q (call.Fire reads instrs) k is all begins =
    let f = fired_reply m q reads instrs k is in
    let before : k - 1 ≡ length q = omega (arith, f.number) in
    rw before (All-from_recursion (λ r. r.number ≤ length q → val (machine_state m (take r.number all)) r.at ≡ val (machine_state m (take (length q) all)) r.at) reads
    (Each-weaker (λ r. is_stale m.part m.init q r.at r.number ≡ false) (λ r. r.number ≤ length q → val (machine_state m (take r.number all)) r.at ≡ val (machine_state m (take (length q) all)) r.at)
    (λ r fresh le.
    let short : take r.number all ≡ take r.number q = sym (take-take r.number (length q) all le) ∙ ap (take r.number) begins in
    ap (λ w. val (machine_state m w) r.at) short ∙ same_value_from m m.init q r.at r.number fresh le ∙ sym (ap (λ w. val (machine_state m w) r.at) begins))
    reads (fresh_each (λ r. is_stale m.part m.init q r.at r.number) reads f.fresh)))

coherent_from : (m : Machine) → (q : List Move) (h : List Event) (all : List Move) → q ++ fired_moves h ≡ all → IsLegalFrom m q h → AllByRecursion (λ e. (k : ℕ) → e.answer ≡ answer.Fire (reply.Fired k) → IsCoherentAt m all e.call (k - 1)) h
coherent_from m q [] all is legal = tt
coherent_from m q (e ∷ h) all is legal =
    let begins : take (length q) all ≡ q = subst (λ w. take (length q) w ≡ q) is (take_at q (fired_moves (e ∷ h)) (length q) refl) in (
      (λ k fired. coherent_at m q e.call k (sym fired ∙ legal.0) all begins),
      coherent_from m (q ++ fired_moves (e ∷ [])) h all (append_assoc q (fired_moves (e ∷ [])) (fired_moves h) ∙ ap (λ w. q ++ w) (sym (fired_moves-append (e ∷ []) h)) ∙ is) legal.1,
    )

pub coherent : (m : Machine) → (h : List Event) → IsLegalFrom m [] h → IsCoherent m h
coherent m h legal = All-from_recursion (λ e. (k : ℕ) → e.answer ≡ answer.Fire (reply.Fired k) → IsCoherentAt m (fired_moves h) e.call (k - 1)) h (coherent_from m [] h (fired_moves h) refl legal)
