use Rattle.std.proofs.Common.{◌∷◌, [], ap, ◌∙◌}
use Rattle.std.proofs.lemmas.List.{take_all}
use Rattle.std.specs.FinMap as finite
use Rattle.asm_update.specs.Move.{Move}
use Rattle.asm_update.specs.State.{val}
use Rattle.asm_step.specs.Layers.{scanned}
use Rattle.asm_step.specs.Outcomes.{frame, puts_on}
use Rattle.asm_step.proofs.ScannedPuts.{none_shown, taken_shown}
use Rattle.asm_step.proofs.scan.put_puts.Goals as goal

pub loop-put-init : goal.loop-put-init
loop-put-init c = none_shown c.args.name.now c.args.plain.now

pub loop-put-preserved : goal.loop-put-preserved
loop-put-preserved c =
    taken_shown c.args.name.now c.args.puts.now c.loop-put.put-index c.put-item.result c.args.plain.now c.loop-put.plain
    c.put_one.new.plain c.loop-put-test.true c.put-item.is c.loop-put.invariant c.in_ok-put_one.ensures

pub returns : goal.returns
returns c q =
    c.loop-put.invariant q
    ∙ ap (λ (M : Move). scanned (frame (puts_on finite.empty M) ∷ []) (val c.args.plain.now) c.args.name.now q)
    (take_all c.loop-put.put-index c.args.puts.now c.loop-put-test.false)
