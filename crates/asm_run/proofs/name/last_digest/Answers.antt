use Rattle.std.proofs.Common.{refl, sym, ◌∙◌, List, ◌++◌, ℕ, ap, subst}
use Rattle.asm_run.specs.Name.{IsDigest}
use Rattle.asm_run.proofs.Cuts.{journal, no_suffix, suffix, same_digest}
use Rattle.asm_run.proofs.name.last_digest.Goals as goal

pub returns-in_err-digits-clause-none : goal.returns-in_err-digits-clause-none
returns-in_err-digits-clause-none c = λ e d is all. no_suffix c.as_bytes.result.now d c.in_err-digits.ensures.cases
    (c.as_bytes.ensures.value ∙ all)

pub returns-in_err-read-clause-none : goal.returns-in_err-read-clause-none
returns-in_err-read-clause-none c = λ e d is all.
    let same = same_digest c.as_bytes.result.now c.in_ok-digits.digits.now d
    (suffix c.as_bytes.result.now c.in_ok-digits.digits c.in_ok-digits.ensures.cases)
    (c.as_bytes.ensures.value ∙ all) in
    c.in_err-read.ensures.none refl (subst IsDigest (sym same) is)

pub returns-clause-some : goal.returns-clause-some
returns-clause-some c =
    let read = c.in_ok-read.ensures.some in (
      subst IsDigest (sym read.0) read.1,
      sym c.as_bytes.ensures.value ∙ suffix c.as_bytes.result.now c.in_ok-digits.digits c.in_ok-digits.ensures.cases ∙
          ap (λ (d : List ℕ). d ++ journal) (sym read.0),
    )
