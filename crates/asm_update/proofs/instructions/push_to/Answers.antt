use Rattle.std.proofs.Common.{[], ◌∷◌, refl, sym, subst}
use Rattle.std.specs.Prelude.{IsOk}
use Rattle.asm_element.specs.Tests.{on_err}
use Rattle.asm_update.proofs.SharedLists.{grown, kept, same_items}
use Rattle.asm_update.proofs.instructions.push_to.Goals as goal

pub returns-in_err-push-clause-err : goal.returns-in_err-push-clause-err
returns-in_err-push-clause-err c =
    let wrote = c.make_mut.follows.holds c.push.new.self (subst IsOk (sym c.in_ok-unshared.was) refl) in
    let own = same_items c.args.list.now.value c.in_ok-unshared.unshared.now c.in_ok-unshared.ensures.value in
    on_err c.from_residual-in_err-push.result
    (kept c.args.list.now.value c.in_ok-unshared.unshared.now c.push.new.self _ wrote c.in_err-push.ensures.items own)

pub returns-clause-ok : goal.returns-clause-ok
returns-clause-ok c =
    let wrote = c.make_mut.follows.holds c.push.new.self (subst IsOk (sym c.in_ok-unshared.was) refl) in
    let own = same_items c.args.list.now.value c.in_ok-unshared.unshared.now c.in_ok-unshared.ensures.value in
    grown c.args.list.now.value c.in_ok-unshared.unshared.now c.push.new.self _ (c.args.instruction ∷ []) wrote
    c.in_ok-push.ensures.items own
