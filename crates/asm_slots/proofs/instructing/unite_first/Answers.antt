use Rattle.std.proofs.Common.{◌≡◌, ◌≤◌, ◌∙◌, ◌++◌, ap, arith, length, subst}
use Rattle.std.proofs.lemmas.Result.{err_from_is_err_and}
use Rattle.asm_update.specs.Limits.{instructions_limit}
use Rattle.asm_update.specs.Move.{Move}
use Rattle.asm_slots.specs.Slots.{content_of, move_of}
use Rattle.asm_slots.proofs.instructing.unite_first.Goals as goal

pub returns-in_err-hold-clause-err : goal.returns-in_err-hold-clause-err
returns-in_err-hold-clause-err c =
    let p = err_from_is_err_and c.from_residual-in_err-hold.result c.from_residual-in_err-hold.ensures.1 in
    let all : c.append_all.new.gathered ≡ move_of (content_of c.args.other.now) =
    c.in_ok-append_all.ensures.done ∙ ap (λ (M : Move). M ++ move_of (content_of c.args.other.now)) c.new-gathered.ensures in
    let few : length (move_of (content_of c.args.other.now)) ≤ instructions_limit =
    subst (λ (M : Move). length M ≤ instructions_limit) all c.len.ensures.few in
    rw (p.1, p.2) (c.in_ok-append_all.ensures.room, omega (arith, few))
