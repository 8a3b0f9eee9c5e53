-- Scripts that aren't played, and bytes that are no journal, as refusals; and an input that can't be read.
use Rattle.std.proofs.Common.{◌≡◌, ◌≤◌, ℕ, Bool, List, length, refl, Err, IsErrOf}
use Rattle.asm_driver.specs.Ports.{Known, TakesTooMany, TakesSome, is_fault}
use Rattle.asm_driver.specs.Run.{IsNoInput, input_of}
use Rattle.asm_driver.specs.declared.ports.input.InputError.{InputError}
use Rattle.asm_driver.specs.declared.ports.input.InputError.TheVariants as input
use Rattle.asm_driver.specs.Commands.{IsNoRun, IsNoJournal}
use Rattle.asm_driver.specs.Refusal.{refusal_of_input, refusal_of_run, refusal_of_journal}
use Rattle.asm_script.specs.Plan.{Plan}
use Rattle.asm_script.specs.Script.{IsScriptOf}
use Rattle.asm_row.specs.Limits.{IsNoCapacity}
use Rattle.asm_play.specs.declared.outcome.RunError.{RunError}
use Rattle.asm_play.specs.declared.outcome.RunError.TheVariants.{BadCapacity, NoThread, Missing, Memory}
use Rattle.asm_journal.specs.Fault.{IsRefused}
use Rattle.asm_journal.specs.declared.error.JournalError.{JournalError}
use Rattle.asm_journal.specs.declared.error.JournalError.TheVariants as journal_error

-- the refusal for a script that isn't played
pub unplayed : (bytes : List ℕ) (capacity : ℕ) (asked : Bool) (e : RunError) (plan : Plan) → IsScriptOf bytes plan →
    ((e ≡ BadCapacity) → IsNoCapacity capacity) → ((e ≡ NoThread) → 2 ≤ length plan.agents) →
    IsNoRun bytes capacity asked (refusal_of_run e)
unplayed bytes capacity asked BadCapacity plan is none several = ((plan, is), none refl)
unplayed bytes capacity asked NoThread plan is none several = (plan, is, several refl)
unplayed bytes capacity asked (Missing k) plan is none several = (plan, is)
unplayed bytes capacity asked Memory plan is none several = tt

pub no_journal : (bytes : List ℕ) (e : JournalError) → IsRefused bytes e → IsNoJournal bytes (refusal_of_journal e)
no_journal bytes journal_error.Memory is = tt
no_journal bytes e is = (λ h. cc (h), is)

pub no_input : {T : Type 0} (had left : Known) (failed : Bool) (e : InputError) →
    (IsErrOf {T = T} (Err e) input.TooLarge → TakesTooMany had left) → TakesSome had left → failed ≡ is_fault {T = T} (Err e) →
    IsNoInput (input_of had left failed) (refusal_of_input e)
no_input had left failed input.TooLarge large some noted = (large refl, noted)
no_input had left failed input.Fault large some noted = (some, noted)
no_input had left failed input.Memory large some noted = (some, noted)
