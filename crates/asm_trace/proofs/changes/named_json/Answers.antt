use Rattle.std.proofs.Common.{IfSome, sym, ap, subst, ◌∙◌}
use Rattle.std.proofs.lemmas.Result.{IfOk-weaker}
use Rattle.asm_update.specs.Group.{Parts}
use Rattle.asm_state.specs.Change.{IsOneChange}
use Rattle.asm_state.specs.View.{value_at}
use Rattle.asm_trace.specs.Text.{changes_json_of}
use Rattle.asm_trace.proofs.Unchanged.{changed_alone}
use Rattle.asm_trace.proofs.changes.named_json.Goals as goal

pub group_json-requires-clause-alone : goal.group_json-requires-clause-alone
group_json-requires-clause-alone g c =
    let M = c.args.instructions.now in
    let one = subst (λ o. IfSome o (λ p. IsOneChange M p.0.now p.1)) c.in-Some.is c.in_ok-at.ensures.some in
    ap (λ (p : Parts). p.regular) one.2

pub returns-in-Some : goal.returns-in-Some
returns-in-Some g c =
    let part = (g.A.Aggregator.meaning c.args.aggregator.now).part in
    let old = value_at c.args.state.now in
    let M = c.args.instructions.now in
    let one = subst (λ o. IfSome o (λ p. IsOneChange M p.0.now p.1)) c.in-Some.is c.in_ok-at.ensures.some in
    let is = changed_alone part old c.in-Some.at.now c.in-Some.group M one in
    IfOk-weaker c.group_json.result _ _ (λ json e. e ∙ ap changes_json_of (sym is)) c.group_json.ensures
