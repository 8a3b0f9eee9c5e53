use Rattle.std.proofs.Common.{◌∙◌, Err, List, ap, inl, inr, length, refl, sym}
use Rattle.std.proofs.lemmas.Result.{err_from_is_err_and}
use Rattle.asm_state.specs.declared.named.Named.{Named}
use Rattle.asm_slots.specs.AgentAnswers.{HasTriedFire, is_any_above}
use Rattle.asm_slots.specs.declared.codes.Code.{Code}
use Rattle.asm_slots.specs.declared.codes.Code.TheVariants as code
use Rattle.asm_slots.proofs.ShortLines.{long_as, not_tried, short_as}
use Rattle.asm_slots.proofs.read_and_fire.fire_in.Goals as goal

pub returns-then-is_behind : goal.returns-then-is_behind
returns-then-is_behind c =
    let fire = c.in_ok-fire.fire in
    let seen = length c.args.agent.now.account.seen in
    let ahead = ap (λ (rs : List Named). is_any_above rs seen) (sym c.as_slice.ensures) ∙ sym c.is_behind.ensures ∙ c.if-is_behind.true in
    inr (refl, c.requires, (code.Ahead, refl, inr (inl (refl, (fire.reads, fire.instrs, c.in_ok-fire.ensures.ok, ahead)))))

pub returns-in_err-expect_fire : goal.returns-in_err-expect_fire
returns-in_err-expect_fire c =
    let p = err_from_is_err_and c.from_residual-in_err-expect_fire.result c.from_residual-in_err-expect_fire.ensures.1 in
    let fire = c.in_ok-fire.fire in
    let e = c.in_err-expect_fire.field-0.0 in
    let why = long_as fire.reads _ fire.instrs _ e c.as_slice-2.ensures c.as_slice-3.ensures c.in_err-expect_fire.ensures in
    inr (
      refl,
      c.requires,
      (
        e,
        p.1 ∙ ap (λ (k : Code). Err k) p.2,
        not_tried c.args.call.now c.args.agent.now fire.reads fire.instrs e c.in_ok-fire.ensures.ok why,
      ),
    )

pub returns : goal.returns
returns c =
    let fire = c.in_ok-fire.fire in
    let fired = c.fire in
    let seen = length c.args.agent.now.account.seen in
    let tried : HasTriedFire c.args.call.now fired.result c.args.agent.now fired.new.self = record {
      reads = fire.reads;
      move = fire.instrs;
      read = c.in_ok-fire.ensures.ok;
      within = ap (λ (rs : List Named). is_any_above rs seen) (sym c.as_slice.ensures)
          ∙ sym c.is_behind.ensures ∙ c.if-is_behind.false;
      short = short_as fire.reads _ fire.instrs _ c.as_slice-2.ensures c.as_slice-3.ensures c.in_ok-expect_fire.ensures;
      many = fired.ensures.many;
      replied = fired.ensures.replied;
      coherent = fired.ensures.coherent;
      answered = fired.ensures.answered;
    } in
    inl (fired.result, tried, c.report.ensures)
