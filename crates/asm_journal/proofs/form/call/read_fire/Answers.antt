use Rattle.std.proofs.Common.{refl, sym, subst, codes, ◌∙◌}
use Rattle.serde_json.specs.View.{view}
use Rattle.asm_journal.specs.Shape.{IsListForm, two_of}
use Rattle.asm_journal.specs.Event.{IsMoveForm, IsNamedForm, IsCallForm}
use Rattle.asm_journal.proofs.Carried.{carried_ok, carried_err, refused}
use Rattle.asm_journal.proofs.Events.{no_move, no_reads}
use Rattle.asm_journal.proofs.form.call.read_fire.Goals as goal

pub returns-in_err-instrs : goal.returns-in_err-instrs
returns-in_err-instrs c =
    let m = view c.args.instrs.now in
    let n = view c.args.reads.now in
    refused IsCallForm (two_of (codes "fire") m (codes "reads") n) _ c.in_err-instrs.field-0.0 c.from_residual.ensures.1
    (λ fault. no_move m n (carried_err IsMoveForm m _ _ c.from_json.ensures c.in_err-instrs.ensures.carried fault))

pub returns-in_err-reads : goal.returns-in_err-reads
returns-in_err-reads c =
    let m = view c.args.instrs.now in
    let n = view c.args.reads.now in
    refused IsCallForm (two_of (codes "fire") m (codes "reads") n) _ c.in_err-reads.field-0.0 c.from_residual-in_err-reads.ensures.1
    (λ fault. no_reads m n (carried_err (IsListForm IsNamedForm) n _ _ c.from_json-2.ensures c.in_err-reads.ensures.carried fault))

pub returns : goal.returns
returns c =
    let m = view c.args.instrs.now in
    let n = view c.args.reads.now in
    let move = carried_ok IsMoveForm m _ c.in_ok-instrs.instrs c.from_json.ensures c.in_ok-instrs.ensures.carried in
    let reads = carried_ok (IsListForm IsNamedForm) n _ c.in_ok-reads.reads c.from_json-2.ensures c.in_ok-reads.ensures.carried in
    (m, n, refl, move, subst (λ l. IsListForm IsNamedForm l n) (sym (c.packed.ensures ∙ c.into_vec.ensures)) reads)
