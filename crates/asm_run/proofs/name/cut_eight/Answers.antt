use Rattle.std.proofs.Common.{refl}
use Rattle.asm_run.proofs.Cuts.{no_cut, front_is}
use Rattle.asm_run.proofs.name.cut_eight.Goals as goal

pub returns-in_err-digits-clause-none : goal.returns-in_err-digits-clause-none
returns-in_err-digits-clause-none c = λ e n front rest is all. no_cut c.args.text.now front rest
    (c.in_err-digits.ensures.none refl) all

pub returns-in_err-eight-clause-none : goal.returns-in_err-eight-clause-none
returns-in_err-eight-clause-none c = λ e n front rest is all.
    let cut = c.in_ok-digits.ensures.some in
    c.in_err-eight.ensures.none refl n (front_is c.args.text.now c.in_ok-digits.digits.now c.in_ok-digits.rest.now
    front rest n cut.0 cut.1 is all)

pub returns-clause-some : goal.returns-clause-some
returns-clause-some c = (c.in_ok-digits.digits.now, c.in_ok-eight.ensures.some, c.in_ok-digits.ensures.some.0)
