use Rattle.std.proofs.Common.{ap, ◌∙◌, sym, ◌++◌, map, take}
use Rattle.asm_storage.specs.Storage.{accounts}
use Rattle.asm_storage.specs.ReceiptOrder.{with_id, receipts_with_ids}
use Rattle.asm_storage.proofs.MergedReceipts.{one_agent_more}
use Rattle.asm_storage.proofs.close.merging.all_receipts.Goals as goal

pub loop-agent-preserved : goal.loop-agent-preserved
loop-agent-preserved g c =
    let receipts = c.receipts.result.now in
    let before = receipts_with_ids (accounts (take c.loop-agent.agent-index c.args.agents.now)) in
    c.in_ok-push_receipts.ensures
    ∙ ap (λ xs. xs ++ map (with_id c.id.result) receipts) c.loop-agent.invariant
    ∙ ap (λ id. before ++ map (with_id id) receipts) c.id.ensures.id
    ∙ ap (λ rs. before ++ map (with_id c.agent-item.result.account.id) rs) c.receipts.ensures
    ∙ sym (one_agent_more c.args.agents.now c.loop-agent.agent-index c.agent-item.result c.loop-agent-test.true c.agent-item.is)
