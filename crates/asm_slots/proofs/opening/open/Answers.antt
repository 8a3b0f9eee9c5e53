use Rattle.std.proofs.Common.{◌≡◌, None, rules}
use Rattle.std.proofs.lemmas.Result.{err_from_is_err_and}
use Rattle.asm_slots.specs.Slots.{content_of}
use Rattle.asm_slots.proofs.ShortLines.{not_opened}
use Rattle.asm_slots.proofs.opening.open.Goals as goal

pub returns-in_err-expect_state-clause-answers : goal.returns-in_err-expect_state-clause-answers
returns-in_err-expect_state-clause-answers c =
    let p = err_from_is_err_and c.from_residual-in_err-expect_state.result c.from_residual-in_err-expect_state.ensures.1 in
    let empty : content_of c.args.store.now ≡ None = search rules in
    rw (p.1, p.2) (not_opened c.args.init.now c.args.capacity (content_of c.args.store.now) c.in_ok-init.init c.in_err-expect_state.field-0.0 empty
    c.in_ok-init.ensures.ok c.in_err-expect_state.ensures)
