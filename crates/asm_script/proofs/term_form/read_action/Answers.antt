use Rattle.std.proofs.Common.{None}
use Rattle.serde_json.specs.View.{items_view}
use Rattle.asm_journal.proofs.Carried.{refused}
use Rattle.asm_script.specs.TermForm.{IsActionForm}
use Rattle.asm_script.proofs.TermActions.{put_read, add_read, remove_read, no_bagadd, no_bagremove, inc_read}
use Rattle.asm_script.proofs.term_form.read_action.Goals as goal

pub returns-in_err-read_one-in-put : goal.returns-in_err-read_one-in-put
returns-in_err-read_one-in-put c =
    let word = c.args.word.now in
    let ds = items_view c.args.operands.now in
    refused (IsActionForm word) ds _ c.in_err-read_one-in-put.field-0.0 c.from_residual.ensures.1
    (λ fault. put_read word ds None c.in-put.is (c.in_err-read_one-in-put.ensures fault))

pub returns-in_err-read_one-in-add : goal.returns-in_err-read_one-in-add
returns-in_err-read_one-in-add c =
    let word = c.args.word.now in
    let ds = items_view c.args.operands.now in
    refused (IsActionForm word) ds _ c.in_err-read_one-in-add.field-0.0 c.from_residual-in_err-read_one-in-add.ensures.1
    (λ fault. add_read word ds None c.in-add.is (c.in_err-read_one-in-add.ensures fault))

pub returns-in_err-read_one-in-remove : goal.returns-in_err-read_one-in-remove
returns-in_err-read_one-in-remove c =
    let word = c.args.word.now in
    let ds = items_view c.args.operands.now in
    refused (IsActionForm word) ds _ c.in_err-read_one-in-remove.field-0.0 c.from_residual-in_err-read_one-in-remove.ensures.1
    (λ fault. remove_read word ds None c.in-remove.is (c.in_err-read_one-in-remove.ensures fault))

pub returns-in_err-term-in-bagadd : goal.returns-in_err-term-in-bagadd
returns-in_err-term-in-bagadd c =
    let word = c.args.word.now in
    let ds = items_view c.args.operands.now in
    refused (IsActionForm word) ds _ c.in_err-term-in-bagadd.field-0.0 c.from_residual-in_err-term-in-bagadd.ensures.1
    (λ fault. no_bagadd word ds c.in-bagadd.is (c.in_err-term-in-bagadd.ensures fault))

pub returns-in_err-term-in-bagremove : goal.returns-in_err-term-in-bagremove
returns-in_err-term-in-bagremove c =
    let word = c.args.word.now in
    let ds = items_view c.args.operands.now in
    refused (IsActionForm word) ds _ c.in_err-term-in-bagremove.field-0.0 c.from_residual-in_err-term-in-bagremove.ensures.1
    (λ fault. no_bagremove word ds c.in-bagremove.is (c.in_err-term-in-bagremove.ensures fault))

pub returns-in_err-read_one-in-inc : goal.returns-in_err-read_one-in-inc
returns-in_err-read_one-in-inc c =
    let word = c.args.word.now in
    let ds = items_view c.args.operands.now in
    refused (IsActionForm word) ds _ c.in_err-read_one-in-inc.field-0.0 c.from_residual-in_err-read_one-in-inc.ensures.1
    (λ fault. inc_read word ds None c.in-inc.is (c.in_err-read_one-in-inc.ensures fault))
