use Rattle.std.proofs.lemmas.List.{take_more}
use Rattle.serde_json.specs.View.{view}
use Rattle.asm_journal.proofs.Arrays.{AreForms-push, no_forms}
use Rattle.asm_journal.proofs.Parsed.{IsParsed-some, IsParsed-none}
use Rattle.asm_slots.specs.AgentAnswers.{IsScanForm}
use Rattle.asm_slots.proofs.reading_scans.read_each.Goals as goal

pub returns-in-None : goal.returns-in-None
returns-in-None c =
    let v = c.item-item.result in
    let none = IsParsed-none IsScanForm (view v) _ c.in-None.is c.in_ok-scan.ensures in
    no_forms IsScanForm c.args.items.now c.loop-item.item-index v c.loop-item-test.true (λ x. rw (← c.item-item.is) (none x))

pub loop-item-preserved : goal.loop-item-preserved
loop-item-preserved c =
    let v = c.item-item.result in
    let some = IsParsed-some IsScanForm (view v) _ c.in-Some.scan c.in-Some.is c.in_ok-scan.ensures in
    let pushed = AreForms-push IsScanForm c.loop-item.found.items c.in-Some.scan _ v c.loop-item.invariant some in
    rw (c.in_ok-push-in-Some.ensures.items, take_more c.args.items.now c.loop-item.item-index v c.loop-item-test.true, ← c.item-item.is) pushed
