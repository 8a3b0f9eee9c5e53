use Rattle.std.proofs.Common.{All, refl, sym, subst}
use Rattle.std.proofs.lemmas.List.{take_all}
use Rattle.std.proofs.lemmas.List.Elements.{All-map, All-more}
use Rattle.asm_storage.specs.History.{EventFits}
use Rattle.asm_storage.specs.ReceiptOrder.{merged_event}
use Rattle.asm_storage.specs.declared.close.merging.AgentReceipt.{AgentReceipt}
use Rattle.asm_storage.proofs.Lists.{All-of_map}
use Rattle.asm_storage.proofs.close.closing.all_fit.Goals as goal

pub loop-kept-preserved : goal.loop-kept-preserved
loop-kept-preserved c =
    let fits : AgentReceipt → Type 0 = λ kept. EventFits c.args.agents (merged_event kept) in
    let here = subst fits c.kept-item.is (c.if-not-fits.ensures.0 refl) in
    All-more fits c.args.receipts.now c.loop-kept.kept-index c.kept-item.result c.loop-kept-test.true
    c.loop-kept.invariant here

-- one that doesn't fit is among them
pub returns-then-not-fits : goal.returns-then-not-fits
returns-then-not-fits c =
    let fits : AgentReceipt → Type 0 = λ kept. EventFits c.args.agents (merged_event kept) in (
      λ is. absurd cc,
      λ all.
          let each = All-of_map (EventFits c.args.agents) merged_event c.args.receipts.now all in
          c.if-not-fits.ensures.1
          (subst fits (sym c.kept-item.is) (each c.loop-kept.kept-index c.kept-item.result c.loop-kept-test.true)),
    )

pub returns : goal.returns
returns c =
    let fits : AgentReceipt → Type 0 = λ kept. EventFits c.args.agents (merged_event kept) in
    let whole = take_all c.loop-kept.kept-index c.args.receipts.now c.loop-kept-test.false in
    (λ _. All-map (EventFits c.args.agents) merged_event c.args.receipts.now (subst (All fits) whole c.loop-kept.invariant), λ _. refl)
