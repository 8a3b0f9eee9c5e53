use Rattle.std.proofs.Common.{sym, ap, ◌∙◌}
use Rattle.asm_storage.specs.declared.call.Answer.TheVariants as answer
use Rattle.asm_journal.specs.Check.{judged_reply}
use Rattle.asm_journal.proofs.Legal.{replied}
use Rattle.asm_trace.proofs.notes.right_reply.Goals as goal

pub returns : goal.returns
returns g c = λ init q stands.
    let part = (g.A.Aggregator.meaning c.args.aggregator.now).part in
    let s = c.args.state.now in
    let v = c.in_ok-objection.objection in
    ap answer.Fire (c.reply_of.ensures ∙ ap (λ n. judged_reply c.args.capacity n v) c.number.ensures)
    ∙ sym (replied part c.args.capacity init q c.args.reads.now c.args.instructions.now s v stands (c.in_ok-objection.ensures init q stands))
