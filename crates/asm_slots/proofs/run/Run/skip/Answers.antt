use Rattle.std.proofs.Common.{ap, inl, inr, subst, refl}
use Rattle.asm_aggregate.specs.Standard.{standard_meaning}
use Rattle.std_alloc.specs.Box.{with_value}
use Rattle.asm_slots.specs.RunReads.{SkipsText}
use Rattle.asm_slots.specs.RunView.{RunView}
use Rattle.asm_slots.specs.contracts.run.Run.{the_view}
use Rattle.asm_slots.proofs.run.Run.skip.Goals as goal
use Rattle.asm_slots.proofs.run.Run.skip.Goals.{in-Ok, in-Err}

pub returns : goal.returns
unfolding standard_meaning
returns c =
    let new : RunView = the_view (record { reader = with_value c.self.inside.reader c.skip.new.self; writer = c.self.inside.writer }) in
    elim c.match-skip.branch [
      | in-Ok w ↦ subst (λ (a : RunView). SkipsText c.match-skip.result a new) c.self.view_is
          (subst (λ r. SkipsText c.match-skip.result (the_view (record { reader = with_value c.self.inside.reader r; writer = c.self.inside.writer })) new) c.deref_mut.ensures.value
          (inl (
            w.result-is,
            record {
              writer = refl;
              ok = rw w.in-Ok.is at c.skip.ensures.ok;
              none = rw w.in-Ok.is at c.skip.ensures.none;
            },
          )))
      | in-Err w ↦ subst (λ (a : RunView). SkipsText c.match-skip.result a new) c.self.view_is
          (subst (λ r. SkipsText c.match-skip.result (the_view (record { reader = with_value c.self.inside.reader r; writer = c.self.inside.writer })) new) c.deref_mut.ensures.value
          (let busy = rw w.in-Err.is at c.skip.ensures.busy in
          inr (
            (
              w.result-is,
              ap (λ r. the_view (record { reader = with_value c.self.inside.reader r; writer = c.self.inside.writer }))
                  (rw w.in-Err.is at c.skip.ensures.unchanged),
            ),
            busy.1,
          )))
    ]
