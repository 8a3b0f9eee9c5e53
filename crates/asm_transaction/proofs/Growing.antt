-- A push that is refused.
use Rattle.std.proofs.Common.{◌≡◌, ◌<◌, List, [], ◌∷◌, ◌++◌, length, Option, None, Some, Result, Ok, Err, ap, refl, subst, sym, ◌∙◌}
use Rattle.std.specs.Prelude.{IfErr, OnErr, OnOk}
use Rattle.asm_overlay.specs.Frames.{under}
use Rattle.asm_state.specs.View.{StateView, value_at}
use Rattle.asm_storage.specs.Part.{IsFollowing}
use Rattle.asm_storage.specs.Storage.{AgentAt, machine_of}
use Rattle.asm_step.proofs.Layered.{fires_all}
use Rattle.asm_step.specs.Answer.{IsCompositionAnswer, IsPushAnswer, IsPushAnswerOn, continued_after}
use Rattle.asm_step.specs.InTurn.{Agrees}
use Rattle.asm_step.specs.Layers.{IsStepOf, Layer, all_moves, frames_of, one_move}
use Rattle.asm_step.specs.declared.error.StepError.{StepError}
use Rattle.asm_step.specs.declared.error.StepError.TheVariants.{Clash, Large, Many, Deep, Memory}
use Rattle.asm_update.specs.Aggregator.{Meaning}
use Rattle.asm_update.specs.Fire.{Old, Part}
use Rattle.asm_update.specs.Limits.{instructions_limit}
use Rattle.asm_update.specs.Move.{Move}
use Rattle.asm_update.specs.State.{State, IsProper, val}
use Rattle.asm_transaction.specs.Pushing.{HasPushed, IsBelow, IsRefusal, IsRefused, IsReport}
use Rattle.asm_transaction.specs.Reading.{IsOf, state_at}
use Rattle.asm_transaction.specs.View.{TransactionView, pushed}
use Rattle.asm_transaction.specs.declared.error.PushError.{PushError}
use Rattle.asm_transaction.specs.declared.error.PushError.TheVariants as push_error
use Rattle.asm_transaction.proofs.Shown.{below_is, is_grown}

-- what the step answers on well-formed states that have what is below it
abbrev pub AnswersOn : Part → Old → List Layer → List Layer → Move → Result (Unit {0}) StepError → Type 0
AnswersOn part o layers new M r =
    (groups : List (List Move)) (B : State) → IsStepOf part o layers groups → IsProper B →
    Agrees B o (all_moves groups ++ M ∷ []) → IsPushAnswerOn part B layers new M r

too_long : (a : Meaning) (M : Move) (o : Option Move) → IsCompositionAnswer o (continued_after a o M) (Err Many) →
    (C : Move) × (continued_after a o M ≡ Ok C) × (instructions_limit < length C)
too_long a M None h = absurd h
too_long a M (Some D) h = h

-- the agent's own state is at the transaction's version
is_level : {A : Type 0} (a : AgentAt A) (agg : A) (s : StateView) (t inside : TransactionView) (meaning : A → Meaning) → inside ≡ t →
    IsBelow meaning a agg s → a.number ≡ t.number → s.number ≡ inside.number
is_level a agg s t inside meaning view below at = below.number ∙ at ∙ sym (ap (λ (x : TransactionView). x.number) view)

module _ {A : Type 0} (meaning : A → Meaning) (a : AgentAt A) (s : StateView) (t : TransactionView) (M : Move)
    (own : IsFollowing (machine_of meaning a.storage) a.account.seen s) (level : s.number ≡ t.number) where
  abbrev part : Part
  part = (meaning a.storage.agg).part

  abbrev S : State
  S = state_at meaning a t.number

  at : value_at s ≡ val S
  at = below_is meaning a s t own level

  answer_on : (ls : List Layer) (e : StepError) → ls ≡ t.layers → AnswersOn part (value_at s) t.layers ls M (Err e) → IsOf meaning a t →
      IsProper S → IsPushAnswerOn part S t.layers t.layers M (Err e)
  answer_on ls e same on is proper =
      subst (λ (x : List Layer). IsPushAnswerOn part S t.layers x M (Err e)) same
      (on (pushed t) S (subst (λ (o : Old). IsStepOf part o t.layers (pushed t)) (sym at) is.step) proper
      (λ l there. sym (ap (λ (o : Old). o l) at)))

  refusal : (ls : List Layer) (e : StepError) → ls ≡ t.layers → IsPushAnswer (meaning a.storage.agg) (value_at s) t.layers ls M (Err e) →
      AnswersOn part (value_at s) t.layers ls M (Err e) → IsRefusal meaning a t M e
  refusal ls (Clash c) same answer on = λ is proper. (
    under S (frames_of t.layers),
    fires_all part (val S) t.layers (pushed t) S is.step (λ k there. refl),
    answer_on ls (Clash c) same on is proper,
  )
  refusal ls (Large l) same answer on = λ is proper. answer_on ls (Large l) same on is proper
  refusal ls Many same answer on = λ is proper. too_long (meaning a.storage.agg) M (one_move t.layers) answer.1
  refusal ls Deep same answer on = answer
  refusal ls Memory same answer on = tt

-- why the step refuses a move
pub is_refusal : {A : Type 0} (meaning : A → Meaning) (a : AgentAt A) (agg : A) (s : StateView) (t inside : TransactionView) (ls : List Layer)
    (M : Move) (r : Result (Unit {0}) StepError) → inside ≡ t → IsBelow meaning a agg s → a.number ≡ t.number →
    IsPushAnswer (meaning agg) (value_at s) inside.layers ls M r → AnswersOn (meaning agg).part (value_at s) inside.layers ls M r →
    OnErr r (ls ≡ inside.layers) → IfErr r (IsRefusal meaning a t M)
is_refusal meaning a agg s t inside ls M (Ok u) view below level answer on stays = tt
is_refusal {A} meaning a agg s t inside ls M (Err e) view below level answer on stays =
    subst (λ (x : TransactionView). IsRefusal meaning a x M e) view
    (refusal meaning a s inside M below.own (is_level a agg s t inside meaning view below level) ls e stays
    (subst (λ (g : A). IsPushAnswer (meaning g) (value_at s) inside.layers ls M (Err e)) below.same answer)
    (subst (λ (g : A). AnswersOn (meaning g).part (value_at s) inside.layers ls M (Err e)) below.same on))

-- and so a push refuses it
pub is_refused : {A : Type 0} (meaning : A → Meaning) (a : AgentAt A) (t mid : TransactionView) (M : Move) (e : StepError) (r : PushError) →
    mid ≡ t → IsRefusal meaning a t M e → IsReport M mid e r → IsRefused meaning a t M r
is_refused {A} meaning a t mid M e push_error.Moved same why report = absurd report
is_refused {A} meaning a t mid M e (push_error.Refused x) same why report =
    (subst (λ (y : StepError). IsRefusal meaning a t M y) (sym report.0) why, (λ is. report.1 (sym report.0 ∙ is)))
is_refused {A} meaning a t mid M e push_error.ManyReads same why report =
    (e, why, subst (λ (x : TransactionView). IsReport M x e push_error.ManyReads) same report)
is_refused {A} meaning a t mid M e push_error.Memory same why report = tt

-- where the step accepts it, the pushed moves grow
pub grown_on : {A : Type 0} (meaning : A → Meaning) (a : AgentAt A) (agg : A) (s : StateView) (t inside : TransactionView)
    (ls : List Layer) (grow : List (List Move) → List (List Move)) (r : Result (Unit {0}) StepError) → inside ≡ t →
    IsBelow meaning a agg s → a.number ≡ t.number →
    OnOk r ((groups : List (List Move)) → IsStepOf (meaning agg).part (value_at s) inside.layers groups →
    IsStepOf (meaning agg).part (value_at s) ls (grow groups)) →
    IsOf meaning a t → OnOk r (HasPushed meaning a (grow (pushed t)) (record inside { layers = ls }))
grown_on meaning a agg s t inside ls grow (Ok u) view below level grown is =
    is_grown meaning a agg s t inside ls grow below.same view below.own (is_level a agg s t inside meaning view below level) grown is
grown_on meaning a agg s t inside ls grow (Err e) view below level grown is = tt
