use Rattle.std.proofs.Common.{◌∙◌, ap}
use Rattle.serde_json.specs.Written.{compact_text}
use Rattle.asm_update.specs.State.{State}
use Rattle.asm_journal.specs.Text.{state_json_of}
use Rattle.asm_aggregate.specs.Standard.{standard_meaning}
use Rattle.asm_slots.proofs.journals.replayed.Goals as goal

pub returns-in-Ok-state_text-clause-ok : goal.returns-in-Ok-state_text-clause-ok
unfolding standard_meaning
returns-in-Ok-state_text-clause-ok c = record {
  history = c.in_ok-history.history;
  reads = c.in_ok-history.ensures.ok;
  left = c.in-Ok-state_text.ensures ∙ ap (λ (A : State). compact_text (state_json_of A)) c.in-Ok.ensures;
}
