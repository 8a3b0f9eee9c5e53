use Rattle.std.proofs.Common.{ap, subst, ◌∙◌}
use Rattle.serde_json.specs.View.{view}
use Rattle.asm_journal.proofs.Parsed.{IsParsed-some}
use Rattle.asm_script.specs.Script.{faults, IsFirst, IsScriptForm, limit_of}
use Rattle.asm_script.proofs.Faults.{limit_first}
use Rattle.asm_script.proofs.parsing.parse_script.Goals as goal

pub returns-in-Ok-clause-ok : goal.returns-in-Ok-clause-ok
returns-in-Ok-clause-ok c =
    let form = IsParsed-some IsScriptForm _ _ _ c.in-Some.is c.in_ok-written.ensures in
    (c.in-Some.written, (view c.in_ok-json.json, c.in_ok-json.ensures.ok, form), c.in-Ok.ensures)

pub returns-in-Err-Form-clause-err : goal.returns-in-Err-Form-clause-err
returns-in-Err-Form-clause-err c =
    let form = IsParsed-some IsScriptForm _ _ _ c.in-Some.is c.in_ok-written.ensures in
    let first = subst (IsFirst (faults c.in-Some.written.agents)) c.in-Err-Form.field-0-is c.in-Err-Form.ensures in
    limit_first c.args.bytes.now c.in-Some.written c.in-Err-Form.fault c.limit_of.result
    (view c.in_ok-json.json, c.in_ok-json.ensures.ok, form) first (c.limit_of.ensures ∙ ap limit_of c.cause.ensures)
