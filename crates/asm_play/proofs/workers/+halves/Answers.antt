use Rattle.std.proofs.Common.{◌∙◌, ap}
use Rattle.asm_play.proofs.Jobs.{joins, joins_undone}
use Rattle.asm_play.proofs.workers.+halves.Goals as goal

pub both-scope-returns : goal.both-scope-returns
both-scope-returns g t c =
    let promised = c.in_ok-worker.ensures.ok in
    record {
      done = joins g.T.Task.gives _ _ _ _ _ _ _ _ (ap (λ p. p.task.value) promised ∙ c.of.ensures)
          (ap (λ p. p.jobs.value.items) promised ∙ ap (λ v. v.items) c.of-2.ensures) c.join.ensures.0
          c.each-ours.ensures.done c.joined.ensures.done;
      error = joins_undone _ _ c.joined.result c.join.ensures.1 c.each-ours.ensures.error c.joined.ensures.error;
    }
