use Rattle.std.proofs.Common.{subst}
use Rattle.std.specs.Option.{option_copied}
use Rattle.std.specs.Prelude.{IfOk}
use Rattle.asm_state.specs.Scans.{is_newer, is_rewritten, IsLeastOf}
use Rattle.asm_state.specs.View.{StateView, writer_at}
use Rattle.asm_state.proofs.WrittenAbove.{rewritten_is, same_least_ok}
use Rattle.asm_state.proofs.state.State.least_written_in.Goals as goal

pub returns : goal.returns
returns c = λ part init q stands.
    let name = c.args.name.now in
    let s = c.args.self.now in
    let found = subst (λ (s : StateView). IfOk c.least_written.result (λ found. IsLeastOf (λ l. is_newer name c.args.number l (writer_at s l)) (option_copied found)))
    c.self.view_is c.least_written.ensures in
    same_least_ok (λ l. is_newer name c.args.number l (writer_at s l)) (is_rewritten part init q name c.args.number)
    c.least_written.result (λ l. rewritten_is part init q s name c.args.number l stands) found
