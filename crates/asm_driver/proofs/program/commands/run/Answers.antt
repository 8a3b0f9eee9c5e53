use Rattle.std.proofs.Common.{ℕ, Bool, List}
use Rattle.std.proofs.lemmas.Result.{err_from_is_err_and, IfErr-weaker, IfOk-weaker}
use Rattle.asm_driver.specs.Commands.{IsPlayed, IsNoText, IsNoRun}
use Rattle.asm_play.specs.declared.outcome.Played.{Played}
use Rattle.asm_driver.specs.declared.program.refusal.Refusal.{Refusal}
use Rattle.asm_driver.specs.declared.program.refusal.Refusal.TheVariants as refusal
use Rattle.asm_driver.proofs.Refusing.{unplayed}
use Rattle.asm_driver.proofs.program.commands.run.Goals as goal

-- a play without a text
unreported : (bytes : List ℕ) (capacity : ℕ) (asked : Bool) (p : Played) (r : Refusal) → IsPlayed bytes capacity p →
    IsNoText asked p r → IsNoRun bytes capacity asked r
unreported bytes capacity asked p refusal.Unfit is h = (p, is, h)
unreported bytes capacity asked p refusal.Memory is h = tt
unreported bytes capacity asked p r is h = absurd h

pub returns-in_err-played-clause-err : goal.returns-in_err-played-clause-err
returns-in_err-played-clause-err g c =
    let p = err_from_is_err_and c.from_residual-in_err-played.result c.from_residual-in_err-played.ensures.1 in
    rw (p.1, p.2) (unplayed c.args.bytes.now c.args.capacity c.args.journal c.in_err-played.field-0.0
    c.in_ok-script.script c.in_ok-script.ensures.ok (λ e. c.in_err-played.ensures.capacity.0 (cc (e)))
    (λ e. c.in_err-played.ensures.threads (cc (e))))

pub returns-clause-ok : goal.returns-clause-ok
returns-clause-ok g c =
    let p = c.in_ok-played.played in
    let is : IsPlayed c.args.bytes.now c.args.capacity p =
    (c.in_ok-script.script, c.in_ok-script.ensures.ok, c.in_ok-played.ensures.played) in
    IfOk-weaker c.played_text.result _ _ (λ text h. (p, is, h)) c.played_text.ensures.ok

pub returns-clause-err : goal.returns-clause-err
returns-clause-err g c =
    let p = c.in_ok-played.played in
    let is : IsPlayed c.args.bytes.now c.args.capacity p =
    (c.in_ok-script.script, c.in_ok-script.ensures.ok, c.in_ok-played.ensures.played) in
    IfErr-weaker c.played_text.result _ _
    (λ r h. unreported c.args.bytes.now c.args.capacity c.args.journal p r is h) c.played_text.ensures.err
