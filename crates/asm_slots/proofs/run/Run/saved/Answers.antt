use Rattle.std.proofs.Common.{subst, sym}
use Rattle.std_alloc.specs.Box.{with_value}
use Rattle.asm_slots.specs.RunView.{RunView}
use Rattle.asm_slots.specs.contracts.run.Run.{the_view}
use Rattle.asm_slots.specs.RunWrites.{HasSaved}
use Rattle.asm_slots.specs.declared.run.RunNumbers.{RunNumbers}
use Rattle.asm_slots.proofs.WrittenTexts.{written}
use Rattle.asm_slots.proofs.run.Run.saved.Goals as goal

pub returns : goal.returns
returns c =
    let end = c.saved-extent.result.end in
    let numbers : RunNumbers =
    record { first = c.saved-extent.result.first; segments = end.segments; moves = end.moves } in
    written (HasSaved numbers c.args.self.now) (λ k. ⊥) c.as_slice.result.now end.digest c.args.out.now c.write.new.out
    c.write.new.written c.write.result c.as_slice.ensures
    (subst (λ (a : RunView). HasSaved numbers a end.digest) c.self.view_is
    (subst (λ w. HasSaved numbers (the_view (record { reader = c.self.inside.reader; writer = with_value c.self.inside.writer w })) end.digest) c.deref.ensures
    (record {
      value = sym c.saved-extent.ensures.value;
      saved = c.saved-extent.ensures.saved;
      safe = c.saved-extent.ensures.safe;
    })))
    c.write.ensures.written c.write.ensures.copied c.write.ensures.small c.write.ensures.room c.write.ensures.unwritten
