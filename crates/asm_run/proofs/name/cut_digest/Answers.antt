use Rattle.std.proofs.Common.{refl, sym, ◌∙◌, List, ◌++◌, ◌∷◌, ℕ, ap, subst}
use Rattle.asm_run.specs.Name.{IsDigest}
use Rattle.asm_run.proofs.Cuts.{no_cut, digest_is}
use Rattle.asm_run.proofs.name.cut_digest.Goals as goal

pub returns-in_err-digits-clause-none : goal.returns-in_err-digits-clause-none
returns-in_err-digits-clause-none c = λ e d rest is all. no_cut c.args.text.now d rest
    (c.in_err-digits.ensures.none refl) all

pub returns-in_err-digest-clause-none : goal.returns-in_err-digest-clause-none
returns-in_err-digest-clause-none c = λ e d rest is all.
    let cut = c.in_ok-digits.ensures.some in
    let same = digest_is c.args.text.now c.in_ok-digits.digits.now c.in_ok-digits.rest.now d rest cut.0 cut.1 is all
    in
    c.in_err-digest.ensures.none refl (subst IsDigest (sym (c.as_bytes.ensures.value ∙ same)) is)

pub returns-clause-some : goal.returns-clause-some
returns-clause-some c =
    let read = c.in_ok-digest.ensures.some in (
      subst IsDigest (sym read.0) read.1,
      c.in_ok-digits.ensures.some.0 ∙ ap (λ (d : List ℕ). d ++ (45 ∷ c.in_ok-digits.rest.now))
          (sym (read.0 ∙ c.as_bytes.ensures.value)),
    )
