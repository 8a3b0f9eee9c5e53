use Rattle.std.proofs.Common.{◌∙◌, ◌↔◌, ◌<◌, ◌+◌, Err, List, IfOk, IsErrOf, ap, inl, inr, length, refl, subst, sym}
use Rattle.std.proofs.lemmas.Result.{err_from_is_err_and}
use Rattle.asm_state.specs.declared.named.Named.{Named}
use Rattle.asm_state.specs.declared.scanned.Scanned.{Scanned}
use Rattle.asm_storage.specs.Limits.{reads_limit}
use Rattle.asm_storage.specs.declared.error.FireError.TheVariants.{ManyReads}
use Rattle.asm_slots.specs.AgentCalls.{IsRepliedOver}
use Rattle.asm_slots.specs.AgentAnswers.{is_any_over}
use Rattle.asm_slots.specs.declared.codes.Code.{Code}
use Rattle.asm_slots.specs.declared.codes.Code.TheVariants as code
use Rattle.asm_slots.proofs.ShortLines.{long_as, not_tried_over, short_as}
use Rattle.asm_slots.proofs.WholeScans.{tried_over}
use Rattle.asm_slots.proofs.read_and_fire.fire_over_in.Goals as goal

pub returns-then-is_behind_over : goal.returns-then-is_behind_over
returns-then-is_behind_over c =
    let fire = c.in_ok-fire.fire in
    let over = c.in_ok-fire.scans.items in
    let seen = length c.args.agent.now.account.seen in
    inr (
      refl,
      c.requires,
      (
        code.Ahead,
        refl,
        inr (inl (
          refl,
          (
            fire.reads,
            over,
            fire.instrs,
            c.in_ok-fire.ensures.ok,
            ap (λ (rs : List Named). is_any_over rs over seen) (sym c.as_slice.ensures)
                ∙ ap (λ (os : List Scanned). is_any_over c.as_slice.result.now os seen) (sym c.deref.ensures.value)
                ∙ sym c.is_behind_over.ensures ∙ c.if-is_behind_over.true,
          ),
        )),
      ),
    )

pub returns-in_err-expect_fire : goal.returns-in_err-expect_fire
returns-in_err-expect_fire c =
    let p = err_from_is_err_and c.from_residual-in_err-expect_fire.result c.from_residual-in_err-expect_fire.ensures.1 in
    let fire = c.in_ok-fire.fire in
    let e = c.in_err-expect_fire.field-0.0 in
    let why = long_as fire.reads _ fire.instrs _ e c.as_slice-2.ensures c.as_slice-3.ensures c.in_err-expect_fire.ensures in
    inr (
      refl,
      c.requires,
      (
        e,
        p.1 ∙ ap (λ (k : Code). Err k) p.2,
        not_tried_over c.args.call.now c.args.scans.now c.args.agent.now fire.reads c.in_ok-fire.scans.items fire.instrs e c.in_ok-fire.ensures.ok why,
      ),
    )

pub returns : goal.returns
returns c =
    let fire = c.in_ok-fire.fire in
    let over = c.in_ok-fire.scans.items in
    let reads = fire.reads in
    let fired = c.fire_over in
    let seen = length c.args.agent.now.account.seen in
    inl (
      fired.result,
      tried_over c.args.call.now c.args.scans.now c.args.agent.now fired.new.self reads over fire.instrs fired.result
          c.in_ok-fire.ensures.ok
          (ap (λ (rs : List Named). is_any_over rs over seen) (sym c.as_slice.ensures)
          ∙ ap (λ (os : List Scanned). is_any_over c.as_slice.result.now os seen) (sym c.deref.ensures.value)
          ∙ sym c.is_behind_over.ensures ∙ c.if-is_behind_over.false)
          (short_as reads _ fire.instrs _ c.as_slice-2.ensures c.as_slice-3.ensures c.in_ok-expect_fire.ensures)
          (subst (λ (os : List Scanned). IsErrOf fired.result ManyReads ↔ (reads_limit < length reads + length os)) c.deref-2.ensures.value fired.ensures.many)
          (subst (λ (os : List Scanned). IfOk fired.result (IsRepliedOver c.args.agent.now fired.new.self reads os fire.instrs)) c.deref-2.ensures.value fired.ensures.replied)
          fired.ensures.answered,
      c.report.ensures,
    )
