use Rattle.std.proofs.Common.{◌≡◌, ◌∙◌, inl, sym, Ok, refl, subst}
use Rattle.asm_aggregate.specs.Standard.{standard_meaning}
use Rattle.asm_run.specs.declared.trail.Place.TheVariants as at
use Rattle.std_alloc.specs.Box.{with_value}
use Rattle.asm_slots.specs.RunReads.{TakesText}
use Rattle.asm_slots.specs.RunView.{RunView}
use Rattle.asm_slots.specs.contracts.run.Run.{the_view}
use Rattle.asm_slots.proofs.run.Run.text.Goals as goal

pub returns : goal.returns
unfolding standard_meaning
returns c =
    let new : RunView = the_view (record { reader = with_value c.self.inside.reader c.feed.new.self; writer = c.self.inside.writer }) in
    subst (λ (a : RunView). TakesText c.args.bytes.now (Ok tt) a new) c.self.view_is
    (subst (λ r. TakesText c.args.bytes.now (Ok tt) (the_view (record { reader = with_value c.self.inside.reader r; writer = c.self.inside.writer })) new) c.deref_mut.ensures.value
    (inl (
      refl,
      record {
        writer = refl;
        within = subst (λ r. r.trail.place ≡ at.Within) (c.deref.ensures ∙ sym c.deref_mut.ensures.value) c.in-Within.is;
        fed = c.feed.ensures.fed;
      },
    )))
