use Rattle.std.proofs.Common.{◌<◌, true, false, take, length, ap, ◌∙◌, arith}
use Rattle.asm_step.specs.Layers.{outcomes_of}
use Rattle.asm_step.specs.Next.{those}
use Rattle.asm_step.proofs.Filled.{taken_all, taken_one, one_fits, one_more}
use Rattle.asm_step.proofs.step.Step.split.Goals as goal

pub loop-instruction-init : goal.loop-instruction-init
loop-instruction-init c = record { shared = c.new-shared.ensures; apart = c.new-apart.ensures }

pub take_one-requires : goal.take_one-requires
take_one-requires c =
    let os = outcomes_of c.args.self.now in
    let i = c.loop-instruction.instruction-index in
    let M = c.args.instructions.now in
    let all = ap length c.as_slice-instruction-items.ensures in
    let within : i < length M = omega (arith, all, c.loop-instruction-test.true) in
    let had = c.loop-instruction.invariant in
    record {
      shared = one_fits true os M c.loop-instruction.shared i had.shared within c.within_limit.ensures;
      apart = one_fits false os M c.loop-instruction.apart i had.apart within c.within_limit.ensures;
    }

pub loop-instruction-preserved : goal.loop-instruction-preserved
loop-instruction-preserved c =
    let os = outcomes_of c.args.self.now in
    let i = c.loop-instruction.instruction-index in
    let M = c.args.instructions.now in
    let x = c.instruction-item.result in
    let more =
    taken_one c.as_slice-instruction-items.result.now M i x c.as_slice-instruction-items.ensures c.loop-instruction-test.true c.instruction-item.is in
    let had = c.loop-instruction.invariant in
    record {
      shared = one_more true os (take i M) _ c.loop-instruction.shared c.take_one.new.shared x had.shared
          c.in_ok-take_one.ensures.shared more;
      apart = one_more false os (take i M) _ c.loop-instruction.apart c.take_one.new.apart x had.apart
          c.in_ok-take_one.ensures.apart more;
    }

pub returns-clause-shared : goal.returns-clause-shared
returns-clause-shared c =
    c.loop-instruction.invariant.shared
    ∙ ap (those true (outcomes_of c.args.self.now))
    (taken_all c.as_slice-instruction-items.result.now c.args.instructions.now c.loop-instruction.instruction-index
    c.as_slice-instruction-items.ensures c.loop-instruction-test.false)

pub returns-clause-apart : goal.returns-clause-apart
returns-clause-apart c =
    c.loop-instruction.invariant.apart
    ∙ ap (those false (outcomes_of c.args.self.now))
    (taken_all c.as_slice-instruction-items.result.now c.args.instructions.now c.loop-instruction.instruction-index
    c.as_slice-instruction-items.ensures c.loop-instruction-test.false)
