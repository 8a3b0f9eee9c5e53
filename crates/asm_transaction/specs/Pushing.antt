-- What a push or an extension does with a transaction.
use Rattle.std.specs.Prelude.{◌≡◌, ◌≢◌, ◌<◌, List, length, Ok, Err}
use Rattle.asm_update.specs.Aggregator.{Meaning}
use Rattle.asm_update.specs.Fire.{fire}
use Rattle.asm_update.specs.Limits.{instructions_limit}
use Rattle.asm_update.specs.Move.{Move}
use Rattle.asm_update.specs.State.{State, IsProper}
use Rattle.asm_overlay.specs.Limits.{frames_limit}
use Rattle.asm_state.specs.View.{StateView}
use Rattle.asm_storage.specs.Part.{IsFollowing}
use Rattle.asm_storage.specs.Storage.{AgentAt, machine_of}
use Rattle.asm_step.specs.Answer.{continued_after}
use Rattle.asm_step.specs.InTurn.{fire_all}
use Rattle.asm_step.specs.Layers.{one_move}
use Rattle.asm_step.specs.declared.error.StepError.{StepError}
use Rattle.asm_step.specs.declared.error.StepError.TheVariants.{Clash, Large, Many, Deep, Memory}
use Rattle.asm_transaction.specs.Reading.{HasTracked, IsOf, WouldTakeMany, state_at}
use Rattle.asm_transaction.specs.Tracked.{refusal_places}
use Rattle.asm_transaction.specs.View.{TransactionView, moves_of, pushed}
use Rattle.asm_transaction.specs.declared.error.PushError.{PushError}
use Rattle.asm_transaction.specs.declared.error.PushError.TheVariants as push_error

-- these are the agent's own state and its storage's aggregator
pub record IsBelow {A : Type 0} (meaning : A → Meaning) (a : AgentAt A) (agg : A) (s : StateView) : Type 0 where
  pub same : agg ≡ a.storage.agg
  pub own : IsFollowing (machine_of meaning a.storage) a.account.seen s
  pub number : s.number ≡ a.number

-- it is one of this agent, and its pushed moves are these
abbrev pub HasPushed : {A : Type 0} → (A → Meaning) → AgentAt A → List (List Move) → TransactionView → Type 0
HasPushed meaning a groups t = IsOf meaning a t × (pushed t ≡ groups)

-- the move fires nowhere: where the pushed moves have fired in turn on the state at its version, it has this clash, or
-- the one move would be too long. Nothing is too large there
abbrev pub IsRefusedOn : {A : Type 0} → (A → Meaning) → AgentAt A → TransactionView → Move → StepError → Type 0
IsRefusedOn meaning a t M (Clash c) =
    (S : State) × (fire_all (meaning a.storage.agg).part (Ok (state_at meaning a t.number)) (moves_of t) ≡ Ok S)
    × (fire (meaning a.storage.agg).part S M ≡ Err c)
IsRefusedOn meaning a t M (Large l) = ⊥
IsRefusedOn meaning a t M Many =
    (C : Move) × (continued_after (meaning a.storage.agg) (one_move t.layers) M ≡ Ok C) × (instructions_limit < length C)
IsRefusedOn meaning a t M Deep = length t.layers ≡ frames_limit
IsRefusedOn meaning a t M Memory = ⊥

-- why the step refuses the move, if the state at its version is well-formed; a refusal of memory says nothing
abbrev pub IsRefusal : {A : Type 0} → (A → Meaning) → AgentAt A → TransactionView → Move → StepError → Type 0
IsRefusal meaning a t M Deep = length t.layers ≡ frames_limit
IsRefusal meaning a t M Memory = Unit {0}
IsRefusal meaning a t M e = IsOf meaning a t → IsProper (state_at meaning a t.number) → IsRefusedOn meaning a t M e

-- the step's refusal is reported; or the locations on which it depends would take too many places
abbrev pub IsReport : Move → TransactionView → StepError → PushError → Type 0
IsReport M t e push_error.Moved = ⊥
IsReport M t e (push_error.Refused x) = (x ≡ e) × (e ≢ Memory)
IsReport M t e push_error.ManyReads = WouldTakeMany (refusal_places M e) t
IsReport M t e push_error.Memory = Unit {0}

-- why a push or an extension isn't done
abbrev pub IsRefused : {A : Type 0} → (A → Meaning) → AgentAt A → TransactionView → Move → PushError → Type 0
IsRefused meaning a t M push_error.Moved = a.number ≢ t.number
IsRefused meaning a t M (push_error.Refused e) = IsRefusal meaning a t M e × (e ≢ Memory)
IsRefused meaning a t M push_error.ManyReads =
    (e : StepError) × IsRefusal meaning a t M e × WouldTakeMany (refusal_places M e) t
IsRefused meaning a t M push_error.Memory = Unit {0}

-- the locations on which a refusal depends are tracked; with the other errors nothing has changed
abbrev pub HasTrackedRefusal : Move → TransactionView → TransactionView → PushError → Type 0
HasTrackedRefusal M old new (push_error.Refused e) = HasTracked (refusal_places M e) old new
HasTrackedRefusal M old new e = new ≡ old
