use Rattle.std.proofs.Common.{[], sym, ◌∙◌, ap, subst}
use Rattle.asm_run.specs.Judge.{Judges}
use Rattle.asm_run.proofs.Trails as trails
use Rattle.asm_run.proofs.reader.RunReader.new.Goals as goal

pub returns-clause-read : goal.returns-clause-read
returns-clause-read g c =
    let part = (g.A.Aggregator.meaning c.args.aggregator).part in
    let judged = subst (Judges part [] c.new.result.auditor.auditor.progress c.new.result.auditor.line.items)
    c.new.ensures.open c.new.ensures.judges in
    trails.read_part part _ (ap (λ a. (g.A.Aggregator.meaning a).part) (sym c.new.ensures.aggregator)) _ _ _ _ _ _
    (record {
      before = trails.nothing_read part c.new-2.result (c.new-2.ensures.from ∙ sym c.new-2.ensures.end)
          (c.new-2.ensures.since ∙ sym c.new-2.ensures.end) c.new-2.ensures.counts;
      place = c.new-2.ensures.place;
      open_yet = c.new.ensures.open;
      fed = judged;
    })
