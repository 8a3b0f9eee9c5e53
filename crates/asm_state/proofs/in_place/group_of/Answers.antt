use Rattle.std.proofs.Common.{◌∙◌, ap, sym, subst}
use Rattle.std.proofs.lemmas.List.{take_all}
use Rattle.asm_update.specs.Group.{ArePartials}
use Rattle.asm_state.proofs.InPlace.{actions, are_partials}
use Rattle.asm_state.proofs.in_place.group_of.Goals as goal

pub new-requires : goal.new-requires
new-requires c =
    let all = take_all c.loop-instruction.instruction-index c.args.instructions.now c.loop-instruction-test.false in
    subst ArePartials (sym (c.loop-instruction.invariant ∙ ap actions all))
    (are_partials c.args.at.now c.args.instructions.now c.requires.some c.requires.only)
