use Rattle.std.proofs.Common.{Err, ap, subst, sym, ◌∙◌, refl, Result}
use Rattle.asm_aggregate.specs.Standard.{standard_meaning}
use Rattle.asm_run.specs.declared.error.ReadError.{ReadError}
use Rattle.std_alloc.specs.Box.{with_value}
use Rattle.asm_slots.specs.Audits.{counts_of}
use Rattle.asm_slots.specs.RunReads.{EndsText, ReportsText}
use Rattle.asm_slots.specs.RunView.{RunView}
use Rattle.asm_slots.specs.contracts.run.Run.{the_view}
use Rattle.asm_slots.proofs.run.Run.end.Goals as goal
use Rattle.asm_slots.proofs.run.Run.end.Goals.{in-Ok, in-Err}

pub returns : goal.returns
unfolding standard_meaning
returns c =
    let new : RunView = the_view (record { reader = with_value c.self.inside.reader c.end.new.self; writer = c.self.inside.writer }) in
    let reports : ReportsText c.end.result c.match-end.result c.match-end.reported new =
    elim c.match-end.branch [
      | in-Ok w ↦ subst (λ (e : Result (Unit {0}) ReadError). ReportsText e c.match-end.result c.match-end.reported new)
          (sym w.in-Ok.is) (w.result-is, ap counts_of w.reported-is ∙ w.of.ensures ∙ ap (λ r. r.trail.counts) w.deref.ensures)
      | in-Err w ↦ subst (λ (e : Result (Unit {0}) ReadError). ReportsText e c.match-end.result c.match-end.reported new)
          (sym w.in-Err.is) (w.result-is ∙ ap Err w.code_of_read.ensures.code, w.reported-is ∙ w.code_of_read.ensures.numbers)
    ] in
    subst (λ (a : RunView). EndsText c.match-end.reported c.match-end.result a new) c.self.view_is
    (subst (λ r. EndsText c.match-end.reported c.match-end.result (the_view (record { reader = with_value c.self.inside.reader r; writer = c.self.inside.writer })) new) c.deref_mut.ensures.value
    (record {
      answer = c.end.result;
      reports = reports;
      writer = refl;
      ok = c.end.ensures.ok;
      busy = c.end.ensures.busy;
      error = c.end.ensures.error;
      refused = c.end.ensures.refused;
      unchanged = λ other. ap (λ r. the_view (record { reader = with_value c.self.inside.reader r; writer = c.self.inside.writer })) (c.end.ensures.unchanged other);
    }))
