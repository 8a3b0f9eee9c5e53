use Rattle.std.proofs.Common.{Err, ap, subst, sym, ◌∙◌, refl, Result}
use Rattle.asm_aggregate.specs.Standard.{standard_meaning}
use Rattle.asm_run.specs.declared.error.ReadError.{ReadError}
use Rattle.asm_run.specs.declared.name.SegmentName.{SegmentName}
use Rattle.std_alloc.specs.Box.{with_value}
use Rattle.asm_slots.specs.RunReads.{ReportsName, TakesName}
use Rattle.asm_slots.specs.RunView.{RunView}
use Rattle.asm_slots.specs.contracts.run.Run.{the_view}
use Rattle.asm_slots.proofs.RunAnswers.{on_err}
use Rattle.asm_slots.proofs.run.Run.take_name.Goals as goal
use Rattle.asm_slots.proofs.run.Run.take_name.Goals.{in-Ok, in-Err}

pub returns : goal.returns
unfolding standard_meaning
returns c =
    let new : RunView = the_view (record { reader = with_value c.self.inside.reader c.name.new.self; writer = c.self.inside.writer }) in
    let reports : ReportsName c.name.result c.match-name.result c.match-name.found =
    elim c.match-name.branch [
      | in-Ok w ↦ subst (λ (e : Result SegmentName ReadError). ReportsName e c.match-name.result c.match-name.found)
          (sym w.in-Ok.is) (w.result-is, w.found-is ∙ w.of.ensures)
      | in-Err w ↦ subst (λ (e : Result SegmentName ReadError). ReportsName e c.match-name.result c.match-name.found)
          (sym w.in-Err.is) (w.result-is ∙ ap Err w.code_of_read.ensures.code, w.found-is ∙ c.none.ensures)
    ] in
    subst (λ (a : RunView). TakesName c.args.name.now c.args.length c.match-name.found c.match-name.result a new) c.self.view_is
    (subst (λ r. TakesName c.args.name.now c.args.length c.match-name.found c.match-name.result (the_view (record { reader = with_value c.self.inside.reader r; writer = c.self.inside.writer })) new) c.deref_mut.ensures.value
    (record {
      answer = c.name.result;
      reports = reports;
      writer = refl;
      ok = c.name.ensures.ok;
      named = c.name.ensures.named;
      size = c.name.ensures.length;
      busy = c.name.ensures.busy;
      error = c.name.ensures.error;
      unchanged = on_err c.name.result
          (ap (λ r. the_view (record { reader = with_value c.self.inside.reader r; writer = c.self.inside.writer }))) c.name.ensures.unchanged;
    }))
