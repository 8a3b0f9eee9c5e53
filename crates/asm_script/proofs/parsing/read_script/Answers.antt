use Rattle.std.proofs.Common.{inl, refl}
use Rattle.std.proofs.lemmas.Result.{err_from_is_err_and}
use Rattle.serde_json.specs.View.{view}
use Rattle.asm_script.proofs.Faults.{read_as}
use Rattle.asm_script.proofs.parsing.read_script.Goals as goal

pub returns-in_err-written : goal.returns-in_err-written
returns-in_err-written c =
    let p = err_from_is_err_and c.from_residual.result c.from_residual.ensures.1 in
    rw (p.1, p.2) (λ fault. inl (c.in_err-written.ensures fault))

pub returns : goal.returns
returns c = read_as _ (view c.args.json.now) c.in_ok-written.written _ _ c.in_ok-written.ensures refl c.script_of.ensures
    c.at.ensures.carried c.at.ensures.placed
