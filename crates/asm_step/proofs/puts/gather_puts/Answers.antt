use Rattle.std.proofs.Common.{◌∷◌, ◌+◌, drop, ap, sym, ◌∙◌}
use Rattle.std.proofs.lemmas.List.{drop_all, drop_more}
use Rattle.asm_update.specs.declared.action.Instruction.{Instruction}
use Rattle.asm_step.specs.Outcomes.{Outcomes, puts_on}
use Rattle.asm_step.proofs.puts.gather_puts.Goals as goal

pub loop-put-preserved : goal.loop-put-preserved
loop-put-preserved c =
    let M = c.args.puts.now in
    let i = c.loop-put.put-index in
    ap (λ (os : Outcomes). puts_on os (drop (i + 1) M)) c.in_ok-gather_put.ensures
    ∙ ap (λ (x : Instruction). puts_on c.loop-put.all (x ∷ drop (i + 1) M)) c.put-item.is
    ∙ sym (ap (puts_on c.loop-put.all) (drop_more M i c.put-item.result c.loop-put-test.true))
    ∙ c.loop-put.invariant

pub returns : goal.returns
returns c = sym (ap (puts_on c.loop-put.all) (drop_all c.loop-put.put-index c.args.puts.now c.loop-put-test.false)) ∙ c.loop-put.invariant
