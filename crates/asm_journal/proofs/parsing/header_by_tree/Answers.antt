use Rattle.std.proofs.Common.{refl, sym, true≢false}
use Rattle.serde_json.specs.Data.{Data}
use Rattle.serde_json.specs.View.{view}
use Rattle.asm_journal.specs.declared.parsing.Header.{Header}
use Rattle.asm_journal.specs.Reading.{IsHeader}
use Rattle.asm_journal.proofs.Parsed.{IsParsed-some, IsParsed-none}
use Rattle.asm_journal.proofs.parsing.header_by_tree.Goals as goal

abbrev IsHeaderForm : Header → Data → Type 0
IsHeaderForm h d = IsHeader h.limits.version h.limits.agents h.limits.capacity h.limits.events h.init d

pub returns-in-Some-clause-ok : goal.returns-in-Some-clause-ok
returns-in-Some-clause-ok c =
    let d = view c.in_ok-json.json in
    (d, c.in_ok-json.ensures.ok, IsParsed-some IsHeaderForm d _ c.in-Some.header c.in-Some.is c.in_ok-header.ensures)

pub returns-clause-err : goal.returns-clause-err
returns-clause-err c =
    let d = view c.in_ok-json.json in
    let none = IsParsed-none IsHeaderForm d _ c.in-None.is c.in_ok-header.ensures in
    (refl, (d, c.in_ok-json.rest.now, c.in_ok-json.ensures.ok, λ other. absurd (true≢false (sym (c.if-has_other_version.ensures.1 other))), λ v a p n A h. none (record { limits = record { agents = a; capacity = p; events = n; version = v }; init = A }) h))
