use Rattle.std.proofs.Common.{◌++◌, [], string_bytes, ap, subst, ◌∙◌}
use Rattle.std.proofs.lemmas.Result.{IfOk-weaker}
use Rattle.serde_json.specs.Data.{Data}
use Rattle.asm_aggregate.specs.Standard.{standard_part}
use Rattle.asm_state.specs.FollowsFrom.{FollowsFrom}
use Rattle.asm_journal.specs.Text.{line}
use Rattle.asm_trace.proofs.Unchanged.{header_no_float}
use Rattle.asm_driver.proofs.TextPieces.{on_ok}
use Rattle.asm_driver.proofs.program.tracing.begin.Goals as goal

pub push_line-requires : goal.push_line-requires
push_line-requires c = rw c.in_ok-header_json.ensures (header_no_float c.args.history.now)

pub returns-clause-header : goal.returns-clause-header
returns-clause-header c =
    on_ok _ (c.in_ok-push_line.ensures ∙ ap (λ (d : Data). string_bytes c.args.text.now ++ line d) c.in_ok-header_json.ensures)

pub returns-clause-state : goal.returns-clause-state
returns-clause-state c =
    IfOk-weaker c.new.result _ _
    (λ s is. subst (λ A. FollowsFrom standard_part A s []) c.in_ok-copy.ensures (is standard_part)) c.new.ensures
