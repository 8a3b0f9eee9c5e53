use Rattle.std.proofs.Common.{refl, subst}
use Rattle.std_alloc.specs.Box.{with_value}
use Rattle.asm_slots.specs.RunView.{RunView}
use Rattle.asm_slots.specs.RunWrites.{NotesFailure}
use Rattle.asm_slots.specs.contracts.run.Run.{the_view}
use Rattle.asm_slots.proofs.run.Run.fail.Goals as goal

pub returns : goal.returns
returns c =
    let new : RunView = the_view (record { reader = c.self.inside.reader; writer = with_value c.self.inside.writer c.fail.new.self }) in
    subst (λ (a : RunView). NotesFailure a new) c.self.view_is
    (subst (λ w. NotesFailure (the_view (record { reader = c.self.inside.reader; writer = with_value c.self.inside.writer w })) new) c.deref_mut.ensures.value
    (record { reader = refl; fails = c.fail.ensures.fails; value = c.fail.ensures.value }))
