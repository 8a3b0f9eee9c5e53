use Rattle.std.proofs.Common.{refl, ◌∙◌, List, ◌++◌, ◌∷◌, ℕ, ap}
use Rattle.asm_run.proofs.Cuts.{no_cut, number_is}
use Rattle.asm_run.proofs.name.cut_number.Goals as goal

pub returns-in_err-digits-clause-none : goal.returns-in_err-digits-clause-none
returns-in_err-digits-clause-none c = λ e n rest lt all. no_cut c.args.text.now _ rest
    (c.in_err-digits.ensures.none refl) all

pub returns-in_err-number-clause-none : goal.returns-in_err-number-clause-none
returns-in_err-number-clause-none c = λ e n rest lt all.
    let cut = c.in_ok-digits.ensures.some in
    c.in_err-number.ensures.none refl n lt (number_is c.args.text.now c.in_ok-digits.digits.now
    c.in_ok-digits.rest.now rest n lt cut.0 cut.1 all)

pub returns-clause-some : goal.returns-clause-some
returns-clause-some c = c.in_ok-digits.ensures.some.0 ∙
    ap (λ (d : List ℕ). d ++ (45 ∷ c.in_ok-digits.rest.now)) c.in_ok-number.ensures.some
