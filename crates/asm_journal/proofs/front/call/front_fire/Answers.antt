use Rattle.std.proofs.Common.{sym, subst, ◌∙◌}
use Rattle.asm_storage.specs.declared.call.Call.TheVariants as call
use Rattle.asm_journal.specs.Event.{IsCallForm}
use Rattle.asm_journal.specs.Shape.{BeginsAs}
use Rattle.asm_journal.proofs.FrontObjects.{fire_begins}
use Rattle.asm_journal.proofs.front.call.front_fire.Goals as goal

pub returns : goal.returns
returns c =
    let text = c.args.text.now in
    let rest = c.in_ok-rest.rest.now in
    let instrs = c.in_ok-instrs.instrs in
    subst (λ rs. BeginsAs IsCallForm text (call.Fire rs instrs) rest) (sym (c.packed-reads.ensures ∙ c.into_vec.ensures))
    (fire_begins text c.in_ok-inside.inside.now c.in_ok-instrs.left.now c.in_ok-second.second.now c.in_ok-listed.end.now rest instrs
    c.in_ok-listed.listed c.in_ok-inside.ensures c.in_ok-instrs.ensures c.in_ok-second.ensures c.in_ok-listed.ensures c.in_ok-rest.ensures)
