use Rattle.std.proofs.lemmas.List.{take_more}
use Rattle.serde_json.specs.View.{view, items_view}
use Rattle.asm_journal.specs.Shape.{AreForms}
use Rattle.asm_journal.proofs.Arrays.{AreForms-push, no_forms}
use Rattle.asm_journal.proofs.Carried.{carried_ok, carried_err, refused}
use Rattle.asm_journal.proofs.form.array.read_items.Goals as goal

pub returns-in_err-within : goal.returns-in_err-within
returns-in_err-within g c =
    let F = g.T.FromJson.is_form in
    let v = c.index-items-index.result in
    refused (AreForms F) (items_view c.args.items.now) _ c.in_err-within.field-0.0 c.from_residual-in_err-within.ensures.1
    (λ fault xs. no_forms F c.args.items.now c.loop-index.index v c.loop-index-test.true
    (λ x. rw (← c.index-items-index.is) (carried_err F (view v) _ _ c.from_json.ensures c.in_err-within.ensures.carried fault x)) xs)

pub loop-index-preserved : goal.loop-index-preserved
loop-index-preserved g c =
    let F = g.T.FromJson.is_form in
    let v = c.index-items-index.result in
    let x = c.in_ok-within.field-0 in
    let pushed = AreForms-push F c.loop-index.found.items x _ v c.loop-index.invariant (carried_ok F (view v) _ x c.from_json.ensures c.in_ok-within.ensures.carried) in
    rw (c.in_ok-push.ensures.items, take_more c.args.items.now c.loop-index.index v c.loop-index-test.true, ← c.index-items-index.is) pushed
