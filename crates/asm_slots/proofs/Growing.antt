-- Moves that are put onto the transaction in a slot.
use Rattle.std.proofs.Common.{◌≡◌, ◌≤◌, ◌∙◌, ℕ, ℤ, List, [], Option, Some, Result, Ok, Err, inr, length, refl, subst, sym}
use Rattle.std.specs.Prelude.{IfErr, MatchResult, OnOk}
use Rattle.asm_element.specs.Place.{Place}
use Rattle.asm_state.specs.View.{StateView}
use Rattle.asm_step.specs.declared.error.StepError.{StepError}
use Rattle.asm_step.specs.declared.error.StepError.TheVariants.{Deep}
use Rattle.asm_storage.specs.Storage.{AgentAt}
use Rattle.asm_transaction.specs.Pushing.{HasPushed, IsBelow, IsRefusal}
use Rattle.asm_transaction.specs.Reading.{IsOf}
use Rattle.asm_transaction.specs.View.{TransactionView, pushed}
use Rattle.asm_update.specs.Move.{Move}
use Rattle.asm_slots.specs.Bytes.{ReadAsMove}
use Rattle.asm_slots.specs.Kinds.{IsInstructed}
use Rattle.asm_slots.specs.PushAnswers.{DoesNotPushAt, IsMoveAt, PushesAt}
use Rattle.asm_slots.specs.Slots.{HoldBoth, Holds, a_step}
use Rattle.asm_slots.specs.Standard.{Standard, meaning}
use Rattle.asm_slots.specs.StepAnswers.{DoesNotGrow, DoesNotGrowBy, Grows, GrowsBy}
use Rattle.asm_slots.specs.StepCalls.{HasGrown, HasReached, IsGrown, IsNotGrown, IsPushError, grown}
use Rattle.asm_slots.specs.WrittenText.{WritesNothing}
use Rattle.asm_slots.specs.declared.codes.Code.{Code}
use Rattle.asm_slots.specs.declared.content.Content.{Content}
use Rattle.asm_slots.specs.declared.content.Content.TheVariants as content
use Rattle.asm_slots.specs.declared.pushing.PushMode.{PushMode}
use Rattle.asm_slots.specs.declared.pushing.PushMode.TheVariants as ways
use Rattle.asm_slots.proofs.OwnStates.{IsOwn}

-- what holds of an agent and a step, before and after, holds of the slots
hold_three : (agent step after : Option Content) (a : AgentAt Standard) (s t : TransactionView)
    (P : AgentAt Standard → TransactionView → TransactionView → Type 0) → agent ≡ Some (content.Agent a) → step ≡ Some (content.Step s) →
    after ≡ Some (content.Step t) → P a s t → HoldBoth agent step (λ b r. Holds a_step after (P b r))
hold_three agent step after a s t P e f g p =
    subst (λ (x : Option Content). HoldBoth x step (λ b r. Holds a_step after (P b r))) (sym e)
    (subst (λ (x : Option Content). Holds a_step x (λ r. Holds a_step after (P a r))) (sym f) (subst (λ (x : Option Content). Holds a_step x (P a s)) (sym g) p))

-- a push or an extension over the agent's own state
module _ (way : PushMode) (a : AgentAt Standard) (s : StateView) (agg : Standard) (old new : TransactionView) (M : Move)
    (same : agg ≡ a.storage.agg) (own : IsOwn a s) (number : s.number ≡ a.number) (level : a.number ≡ old.number) where
  reached : HasReached a old
  reached = subst (λ (n : ℕ). n ≤ length a.account.seen) (number ∙ level) own.within

  below : IsBelow meaning a agg s
  below = record { same = same; own = own; number = number }

  pub is_grown : (r : Result (Unit {0}) StepError) →
      ((b : AgentAt Standard) → IsBelow meaning b agg s → b.number ≡ old.number → IsOf meaning b old →
      OnOk r (HasPushed meaning b (grown way (pushed old) M) new)) →
      new ≡ record old { layers = new.layers } → OnOk r (IsGrown way M a old new)
  is_grown (Ok u) grows kept = record { same = kept; reached = reached; grows = grows a below level }
  is_grown (Err e) grows kept = tt

  pub is_push_error : (r : Result (Unit {0}) StepError) →
      ((b : AgentAt Standard) → IsBelow meaning b agg s → b.number ≡ old.number → IfErr r (IsRefusal meaning b old M)) →
      IfErr r (λ e. way ≡ ways.Extend → ¬ (e ≡ Deep)) → IfErr r (IsPushError way M a old)
  is_push_error (Ok u) why deep = tt
  is_push_error (Err e) why deep = by_way way e deep (reached, why a below level) where
    by_way : (w : PushMode) (x : StepError) → (w ≡ ways.Extend → ¬ (x ≡ Deep)) →
        HasReached a old × IsRefusal meaning a old M x → IsPushError w M a old x
    by_way ways.Push x deep is = is
    by_way ways.Extend Deep deep is = absurd (deep refl refl)
    by_way ways.Extend x deep is = is

-- only an extension is never too deep
pub unextended : (r : Result (Unit {0}) StepError) → IfErr r (λ e. ways.Push ≡ ways.Extend → ¬ (e ≡ Deep))
unextended (Ok u) = tt
unextended (Err e) = λ is. cc

pub never_deep : (r : Result (Unit {0}) StepError) → IfErr r (λ e. ¬ (e ≡ Deep)) → IfErr r (λ e. ways.Extend ≡ ways.Extend → ¬ (e ≡ Deep))
never_deep (Ok u) deep = tt
never_deep (Err e) deep = λ is. deep

-- the same of the slots, and of a move whose JSON the bytes are
pub grown_of : (way : PushMode) (bytes : List ℕ) (M : Move) (agent step after : Option Content) (a : AgentAt Standard)
    (s t : TransactionView) (out out_after : List ℕ) (n : ℕ) (r : Result (Unit {0}) Code) → agent ≡ Some (content.Agent a) →
    step ≡ Some (content.Step s) → after ≡ Some (content.Step t) → ReadAsMove bytes M → OnOk r (IsGrown way M a s t) →
    OnOk r (WritesNothing out out_after n) → IfErr r (IsNotGrown way M a s t out out_after n) →
    MatchResult r (λ done. Grows way bytes agent step after out out_after n) (DoesNotGrow way bytes agent step after out out_after n)
grown_of way bytes M agent step after a s t out out_after n (Ok u) e f g reads grown unwritten none =
    (hold_three agent step after a s t (HasGrown way bytes) e f g (M, reads, grown), unwritten)
grown_of way bytes M agent step after a s t out out_after n (Err c) e f g reads grown unwritten none =
    inr (hold_three agent step after a s t (λ b x y. (N : Move) × ReadAsMove bytes N × IsNotGrown way N b x y out out_after n c) e f g
    (M, reads, none))

-- the same of the move of one instruction at the location of a slot
pub pushed_at : (at : Option Content) (verb kind number : ℤ) (bytes : List ℕ) (amount : ℕ) (l : Place) (M : Move)
    (agent step after : Option Content) (out out_after : List ℕ) (n : ℕ) (r : Result (Unit {0}) Code) → at ≡ Some (content.Location l) →
    IsInstructed l verb kind number bytes amount [] M →
    MatchResult r (λ done. GrowsBy ways.Push (Some (content.Move M)) agent step after out out_after n)
    (DoesNotGrowBy ways.Push (Some (content.Move M)) agent step after out out_after n) →
    MatchResult r (λ done. PushesAt at verb kind number bytes amount agent step after out out_after n)
    (DoesNotPushAt at verb kind number bytes amount agent step after out out_after n)
pushed_at at verb kind number bytes amount l M agent step after out out_after n (Ok u) is made grown =
    (M, subst (λ (x : Option Content). IsMoveAt x verb kind number bytes amount M) (sym is) made, grown)
pushed_at at verb kind number bytes amount l M agent step after out out_after n (Err c) is made none =
    inr (M, subst (λ (x : Option Content). IsMoveAt x verb kind number bytes amount M) (sym is) made, none)
