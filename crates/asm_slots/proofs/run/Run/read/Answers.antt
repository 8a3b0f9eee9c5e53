use Rattle.std.proofs.Common.{◌≡◌, inl, Ok, refl, subst}
use Rattle.asm_aggregate.specs.Standard.{standard_meaning}
use Rattle.asm_run.specs.declared.trail.Place.TheVariants as at
use Rattle.std_alloc.specs.Box.{with_value}
use Rattle.asm_slots.specs.RunView.{RunView}
use Rattle.asm_slots.specs.RunWrites.{GoesOnOrNot}
use Rattle.asm_slots.specs.contracts.run.Run.{the_view}
use Rattle.asm_slots.proofs.run.Run.read.Goals as goal

pub returns : goal.returns
unfolding standard_meaning
returns c =
    let new : RunView = the_view (record { reader = c.self.inside.reader; writer = with_value c.self.inside.writer c.read.new.self }) in
    subst (λ (a : RunView). GoesOnOrNot (Ok tt) a new) c.self.view_is
    (subst (λ w. GoesOnOrNot (Ok tt) (the_view (record { reader = c.self.inside.reader; writer = with_value c.self.inside.writer w })) new) c.deref_mut.ensures.value
    (inl record {
      between = subst (λ r. r.trail.place ≡ at.Between) c.deref.ensures c.in-Between.is;
      found = c.extent-found.result;
      answer = Ok tt;
      reports = refl;
      reader = refl;
      extent = rw c.deref-2.ensures at c.extent-found.ensures;
      ok = c.in_ok-read.ensures.ok;
      value = c.in_ok-read.ensures.value;
      is_found = c.in_ok-read.ensures.found;
      legal = c.in_ok-read.ensures.legal;
      busy = c.in_ok-read.ensures.busy;
      error = tt;
      unchanged = tt;
    }))
