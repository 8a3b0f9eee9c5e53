use Rattle.std.proofs.lemmas.Result.{on_ok_weaker}
use Rattle.asm_step.proofs.ScannedPuts.{other_shown, put_shown}
use Rattle.asm_step.proofs.scan.put_one.Goals as goal

pub returns-in-Some : goal.returns-in-Some
returns-in-Some c =
    on_ok_weaker c.put_named.result
    (put_shown c.args.name.now c.args.put.now c.in-Some.value.now c.args.plain.now c.put_named.new.plain c.in-Some.ensures)
    c.put_named.ensures

pub returns-in-None : goal.returns-in-None
returns-in-None c = other_shown c.args.name.now c.args.put.now c.args.plain.now c.in-None.ensures
