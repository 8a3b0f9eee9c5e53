-- Legal histories, event by event, and the check of one event.
use Rattle.std.proofs.Common.{◌≡◌, ◌↔◌, ◌<◌, ◌+◌, ℕ, suc, Bool, true, false, List, [], ◌∷◌, ◌++◌, length, get_or, take, drop, map, Option, Some, None, Result, Ok, Err, refl, sym, ap, ap₂, subst, ◌∙◌, append-nil, arith}
use Rattle.std.specs.Prelude.{IsTrue, IsOk}
use Rattle.std.specs.List.{cons_option}
use Rattle.std.proofs.Math.Seq.{split_at}
use Rattle.std.proofs.lemmas.List.{take_more, length-take-le}
use Rattle.asm_element.specs.Place.{Place}
use Rattle.asm_element.specs.declared.value.Value.{Value}
use Rattle.asm_update.specs.Move.{Move}
use Rattle.asm_update.specs.State.{State, Updates, val}
use Rattle.asm_update.specs.Fire.{Part, aggregated, overwritten, state_of}
use Rattle.asm_update.specs.declared.clash.Clash.{Clash}
use Rattle.asm_state.specs.View.{StateView, value_at}
use Rattle.asm_state.specs.FollowsFrom.{FollowsFrom}
use Rattle.asm_state.specs.Verdict.{IsObjection, least_stale}
use Rattle.asm_state.specs.declared.named.Named.{Named}
use Rattle.asm_state.specs.declared.verdict.Objection.{Objection}
use Rattle.asm_state.specs.declared.verdict.Objection.TheVariants as objection
use Rattle.asm_state.proofs.Judged.{same_old}
use Rattle.asm_storage.specs.Machine.{Machine, machine_state, reply_to, firing_reply, fire_reply}
use Rattle.asm_storage.specs.History.{move_of, fired_moves}
use Rattle.asm_storage.specs.declared.call.Call.{Call}
use Rattle.asm_storage.specs.declared.call.Call.TheVariants as call
use Rattle.asm_storage.specs.declared.call.Reply.{Reply}
use Rattle.asm_storage.specs.declared.call.Reply.TheVariants as reply
use Rattle.asm_storage.specs.declared.call.Answer.{Answer}
use Rattle.asm_storage.specs.declared.call.Answer.TheVariants as answer
use Rattle.asm_storage.specs.declared.history.Event.{Event}
use Rattle.asm_storage.proofs.Legal.{IsLegalFrom, fired_moves-append, legal-append, legal-from}
use Rattle.asm_journal.specs.Check.{machine, IsFirstWrong, judged_reply, was_fired, IsStep}
use Rattle.asm_journal.proofs.Parsed.{true_and_false}

-- ---- legal from some moves on

legal-push : (m : Machine) (h : List Event) (e : Event) → IsLegalFrom m [] h → e.answer ≡ reply_to m (fired_moves h) e.call → IsLegalFrom m [] (h ++ e ∷ [])
legal-push m h e left right = legal-append m [] h (e ∷ []) left (right, tt)

-- ---- the loop of the check

-- the first events are legal, and the state stands for their moves
abbrev pub IsCheckedTo : Part → State → ℕ → List Event → StateView → ℕ → Type 0
IsCheckedTo part init capacity events s i =
    FollowsFrom part init s (fired_moves (take i events)) × IsLegalFrom (machine part init capacity) [] (take i events)

module _ (part : Part) (init : State) (capacity : ℕ) (events : List Event) (i : ℕ) (e : Event) (old new : StateView) (b : Bool)
    (within : i < length events) (here : e ≡ get_or events i e) (step : IsStep part capacity e old new b) (checked : IsCheckedTo part init capacity events old i) where
  pub checked_more : b ≡ true → IsCheckedTo part init capacity events new (i + 1)
  checked_more true_is =
      let done = subst (IsStep part capacity e old new) true_is step init (fired_moves (take i events)) checked.0 in
      let more : take (i + 1) events ≡ take i events ++ e ∷ [] = take_more events i e within ∙ ap (λ x. take i events ++ x ∷ []) (sym here) in (
        subst (FollowsFrom part init new) (sym (ap fired_moves more ∙ fired_moves-append (take i events) (e ∷ []))) done.1,
        subst (IsLegalFrom (machine part init capacity) []) (sym more) (legal-push (machine part init capacity) (take i events) e checked.1 done.0),
      )

  pub first_wrong : b ≡ false → IsFirstWrong (machine part init capacity) events i
  first_wrong false_is = record {
    before = take i events;
    event = e;
    after = drop (suc i) events;
    stands = ap (λ x. take i events ++ x ∷ drop (suc i) events) here ∙ sym (split_at events i e within);
    counted = length-take-le i events (omega (arith, within));
    legal = legal-from (machine part init capacity) (take i events) checked.1;
    wrong = let wrong = subst (IsStep part capacity e old new) false_is step in wrong.1 init (fired_moves (take i events)) checked.0;
  }

-- ---- one read

same_read : (n k : ℕ) (vs ws : List Value) → answer.Read n vs ≡ answer.Read k ws → (n ≡ k) × (vs ≡ ws)
same_read n k vs ws e = (cc, cc)

pub read_step : (part : Part) (capacity : ℕ) (e : Event) (s : StateView) (places : List Place) (n : ℕ) (vs : List Value) (b : Bool)
    → e.call ≡ call.Read places → e.answer ≡ answer.Read n vs → (IsTrue b ↔ ((n ≡ s.number) × (map (value_at s) places ≡ vs))) → IsStep part capacity e s s b
read_step part capacity e s places n vs true call-is answer-is reports = λ init q stands.
    let is = reports.0 refl in
    let values : vs ≡ map (val (machine_state (machine part init capacity) q)) places = sym is.1 ∙ ap (λ (f : Place → Value). map f places) (same_old part init q s stands) in
    let answered = answer-is ∙ ap₂ answer.Read (is.0 ∙ stands.number) values ∙ sym (ap (reply_to (machine part init capacity) q) call-is) in
    let quiet : move_of e ≡ None = ap₂ fired call-is answer-is in
    (answered, subst (FollowsFrom part init s) (sym (ap (λ o. q ++ cons_option o []) quiet ∙ append-nil q)) stands) where
      fired : Call → Answer → Option Move
      fired c a = move_of (record { agent = e.agent; call = c; answer = a })
read_step part capacity e s places n vs false call-is answer-is reports = (
  refl,
  λ init q stands same.
      let parts = same_read _ _ _ _ (sym answer-is ∙ same ∙ ap (reply_to (machine part init capacity) q) call-is) in
      let values = ap (λ (f : Place → Value). map f places) (same_old part init q s stands) ∙ sym parts.1 in
      true_and_false false (reports.1 (parts.0 ∙ sym stands.number, values)) refl,
)

-- ---- one fire

module _ (part : Part) (capacity : ℕ) (init : State) (q : List Move) (reads : List Named) (M : Move) where
  objection_is : (v : Option Objection) → IsObjection part init q reads M (Ok v) → fire_reply (machine part init capacity) q M (least_stale part init q reads) ≡ judged_reply capacity (length q) v
  objection_is (Some (objection.Stale l)) h = ap (fire_reply (machine part init capacity) q M) h
  objection_is (Some (objection.Clash c)) h =
      let m = machine part init capacity in
      ap (fire_reply m q M) h.0 ∙ ap (λ a. firing_reply m q (overwritten (machine_state m q) a)) h.1
  objection_is None h =
      let m = machine part init capacity in
      ap (fire_reply m q M) h.0 ∙ taken (aggregated part (val (state_of part init q)) M) h.1 where
        taken : (a : Result Updates Clash) → IsOk a → firing_reply (machine part init capacity) q (overwritten (state_of part init q) a) ≡ judged_reply capacity (length q) None
        taken (Ok U) ok = refl
        taken (Err c) ok = absurd (cc ok)

  -- the reply after the moves, which a state stands for, is the one to a move with this objection or with none
  pub replied : (s : StateView) (v : Option Objection) → FollowsFrom part init s q → IsObjection part init q reads M (Ok v) → reply_to (machine part init capacity) q (call.Fire reads M) ≡ answer.Fire (judged_reply capacity s.number v)
  replied s v stands judged = ap answer.Fire (objection_is v judged ∙ ap (λ n. judged_reply capacity n v) (sym stands.number))

module _ (part : Part) (capacity : ℕ) (e : Event) (old : StateView) (reads : List Named) (M : Move) (r : Reply) (v : Option Objection)
    (call-is : e.call ≡ call.Fire reads M) (answer-is : e.answer ≡ answer.Fire r)
    (judged : (init : State) (q : List Move) → FollowsFrom part init old q → IsObjection part init q reads M (Ok v)) where
  reply_is : (init : State) (q : List Move) → FollowsFrom part init old q → reply_to (machine part init capacity) q e.call ≡ answer.Fire (judged_reply capacity old.number v)
  reply_is init q stands = ap (reply_to (machine part init capacity) q) call-is ∙ replied part capacity init q reads M old v stands (judged init q stands)

  pub wrong_fire : (r ≡ judged_reply capacity old.number v → ⊥) → IsStep part capacity e old old false
  wrong_fire other = (refl, λ init q stands same. other (same_fire _ _ (sym answer-is ∙ same ∙ reply_is init q stands))) where
    same_fire : (x y : Reply) → answer.Fire x ≡ answer.Fire y → x ≡ y
    same_fire x y e = cc

  right : r ≡ judged_reply capacity old.number v → (init : State) (q : List Move) → FollowsFrom part init old q → e.answer ≡ reply_to (machine part init capacity) q e.call
  right is init q stands = answer-is ∙ ap answer.Fire is ∙ sym (reply_is init q stands)

  move-is : (s : Reply) → r ≡ s → move_of e ≡ move_of (record { agent = e.agent; call = call.Fire reads M; answer = answer.Fire s })
  move-is s is = ap₂ (λ c a. move_of (record { agent = e.agent; call = c; answer = a })) call-is (answer-is ∙ ap answer.Fire is)

  pub quiet_fire : r ≡ judged_reply capacity old.number v → was_fired r ≡ false → IsStep part capacity e old old true
  quiet_fire is none = λ init q stands.
      (right is init q stands, subst (FollowsFrom part init old) (sym (ap (λ o. q ++ cons_option o []) (move-is r refl ∙ quiet r none) ∙ append-nil q)) stands) where
        quiet : (s : Reply) → was_fired s ≡ false → move_of (record { agent = e.agent; call = call.Fire reads M; answer = answer.Fire s }) ≡ None
        quiet (reply.Fired k) none = absurd cc
        quiet (reply.Stale l) none = refl
        quiet (reply.Clash c) none = refl
        quiet reply.Full none = refl

  pub taken_fire : (new : StateView) → r ≡ judged_reply capacity old.number v → was_fired r ≡ true → ((init : State) (q : List Move) → FollowsFrom part init old q → FollowsFrom part init new (q ++ M ∷ [])) → IsStep part capacity e old new true
  taken_fire new is fired followed = λ init q stands.
      (right is init q stands, subst (FollowsFrom part init new) (sym (ap (λ o. q ++ cons_option o []) (move-is r refl ∙ taken r fired))) (followed init q stands)) where
        taken : (s : Reply) → was_fired s ≡ true → move_of (record { agent = e.agent; call = call.Fire reads M; answer = answer.Fire s }) ≡ Some M
        taken (reply.Fired k) fired = refl
        taken (reply.Stale l) fired = absurd cc
        taken (reply.Clash c) fired = absurd cc
        taken reply.Full fired = absurd cc
