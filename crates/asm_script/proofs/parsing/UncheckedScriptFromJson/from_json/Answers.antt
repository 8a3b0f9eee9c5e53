use Rattle.std.proofs.Common.{sym, ◌∙◌, subst}
use Rattle.serde_json.specs.View.{view}
use Rattle.asm_journal.specs.Shape.{IsListForm}
use Rattle.asm_journal.specs.Value.{IsStateForm}
use Rattle.asm_journal.proofs.Carried.{carried_ok, carried_err, refused}
use Rattle.asm_journal.proofs.Events.{same_two}
use Rattle.asm_script.specs.Script.{IsAgentForm, IsScriptForm}
use Rattle.asm_script.proofs.parsing.UncheckedScriptFromJson.from_json.Goals as goal

pub returns-in_err-agents : goal.returns-in_err-agents
returns-in_err-agents c =
    let F = IsListForm IsAgentForm in
    refused IsScriptForm (view c.args.json.now) _ c.in_err-agents.field-0.0 c.from_residual.ensures.1 (λ fault w h.
    carried_err F (view c.in-Some.agents.now) _ _ c.from_json.ensures c.in_err-agents.ensures.carried fault w.agents
    (subst (F w.agents) (same_two _ _ _ _ _ _ (sym h.2 ∙ c.in-Some.ensures.some)).0 h.3))

pub returns-in_err-init : goal.returns-in_err-init
returns-in_err-init c =
    refused IsScriptForm (view c.args.json.now) _ c.in_err-init.field-0.0 c.from_residual-in_err-init.ensures.1 (λ fault w h.
    carried_err IsStateForm (view c.in-Some.init.now) _ _ c.from_json-2.ensures c.in_err-init.ensures.carried fault w.init
    (subst (IsStateForm w.init) (same_two _ _ _ _ _ _ (sym h.2 ∙ c.in-Some.ensures.some)).1 h.4))

pub returns : goal.returns
returns c =
    let agents = carried_ok (IsListForm IsAgentForm) _ _ _ c.from_json.ensures c.in_ok-agents.ensures.carried in
    let init = carried_ok IsStateForm _ _ _ c.from_json-2.ensures c.in_ok-init.ensures.carried in
    (view c.in-Some.agents.now, view c.in-Some.init.now, c.in-Some.ensures.some, agents, init)
