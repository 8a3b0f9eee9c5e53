use Rattle.std.proofs.Common.{sym, subst, ◌∙◌}
use Rattle.asm_storage.specs.declared.call.Call.TheVariants as call
use Rattle.asm_journal.specs.Event.{IsCallForm}
use Rattle.asm_journal.specs.Shape.{BeginsAs}
use Rattle.asm_journal.proofs.FrontObjects.{read_begins}
use Rattle.asm_journal.proofs.front.call.front_read.Goals as goal

pub returns : goal.returns
returns c =
    let text = c.args.text.now in
    let rest = c.in_ok-rest.rest.now in
    subst (λ ls. BeginsAs IsCallForm text (call.Read ls) rest) (sym (c.packed.ensures ∙ c.into_vec.ensures))
    (read_begins text c.in_ok-inside.inside.now c.in_ok-locations.left.now rest c.in_ok-locations.locations c.in_ok-inside.ensures
    c.in_ok-locations.ensures c.in_ok-rest.ensures)
