use Rattle.std.proofs.lemmas.Result.{IfOk-weaker}
use Rattle.serde_json.specs.View.{view}
use Rattle.asm_driver.proofs.Windows.{header_is}
use Rattle.asm_driver.proofs.program.windowing.header_json.Goals as goal

pub returns : goal.returns
returns c =
    IfOk-weaker c.header_with.result _ _ (λ json is A es all held taken stands.
    header_is c.args.opened.now c.in_ok-init.init A es all c.args.calls (view json) c.in_ok-init.ensures held taken stands is)
    c.header_with.ensures
