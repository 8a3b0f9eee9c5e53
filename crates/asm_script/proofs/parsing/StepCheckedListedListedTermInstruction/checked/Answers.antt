use Rattle.std.proofs.Common.{length, sym, ap, subst, ◌∙◌, arith, map-id}
use Rattle.asm_script.specs.Script.{each, block_faults, IsFirst}
use Rattle.asm_script.specs.StepReads.{AreReads}
use Rattle.asm_script.proofs.Faults.{is_there, refused, good_count, in_blocks, in_reads, no_fault, count_of_reads}
use Rattle.asm_script.proofs.parsing.StepCheckedListedListedTermInstruction.checked.Goals as goal

pub returns-in_err-blocks : goal.returns-in_err-blocks
returns-in_err-blocks c =
    let s = c.args.form in
    let whole = c.into_vec-blocks.ensures in
    let good = good_count s (omega (arith, ap length whole)) (omega (arith, ap length whole)) in
    let first = subst (λ bs. IsFirst (each block_faults bs) c.in_err-blocks.field-0.0) whole c.in_err-blocks.ensures in
    refused _ _ _ _ c.from_residual.ensures.1 (in_blocks s good _ first)

pub returns-then-reads-gt-READS_LIMIT : goal.returns-then-reads-gt-READS_LIMIT
returns-then-reads-gt-READS_LIMIT c =
    let s = c.args.form in
    let whole = c.into_vec-blocks.ensures in
    let good = good_count s (omega (arith, ap length whole)) (omega (arith, ap length whole)) in
    let made = c.in_ok-blocks.ensures in
    let is = is_there _ _ _ c.in-Some.is c.in_ok-step.ensures.step ∙ sym (map-id _) ∙ made.0 ∙ whole in
    let count = count_of_reads s _ (subst (λ t. AreReads t c.reads.result.now) is c.reads.ensures) in
    in_reads s good _ (ap (each block_faults) (sym whole) ∙ made.1) (omega (arith, count))
    c.of-then-reads-gt-READS_LIMIT.ensures

pub returns : goal.returns
returns c =
    let s = c.args.form in
    let whole = c.into_vec-blocks.ensures in
    let good = good_count s (omega (arith, ap length whole)) (omega (arith, ap length whole)) in
    let made = c.in_ok-blocks.ensures in
    let is = is_there _ _ _ c.in-Some.is c.in_ok-step.ensures.step ∙ sym (map-id _) ∙ made.0 ∙ whole in
    let count = count_of_reads s _ (subst (λ t. AreReads t c.reads.result.now) is c.reads.ensures) in
    (is, no_fault s good (ap (each block_faults) (sym whole) ∙ made.1) (omega (arith, count)))
