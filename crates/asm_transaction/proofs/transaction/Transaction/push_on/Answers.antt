use Rattle.std.proofs.Common.{◌∙◌, ap, sym}
use Rattle.asm_transaction.specs.View.{TransactionView}
use Rattle.asm_transaction.proofs.Growing.{is_refused}
use Rattle.asm_transaction.proofs.transaction.Transaction.push_on.Goals as goal

pub returns-in-Ok-clause-pushed : goal.returns-in-Ok-clause-pushed
returns-in-Ok-clause-pushed g c a below is =
    c.in-Ok.ensures.grown a below
    (sym below.number ∙ sym c.number.ensures ∙ c.if-number-self.false ∙ ap (λ (x : TransactionView). x.number) c.self.view_is) is

pub returns-in-Err-clause-refused : goal.returns-in-Err-clause-refused
returns-in-Err-clause-refused g c a below =
    is_refused g.A.Aggregator.meaning a c.args.self.now c.push_move.new.self c.args.instrs.now c.in-Err.error c.refuse.result
    c.in-Err.ensures.stays
    (c.in-Err.ensures.refused a below
    (sym below.number ∙ sym c.number.ensures ∙ c.if-number-self.false ∙ ap (λ (x : TransactionView). x.number) c.self.view_is))
    c.refuse.ensures.report
