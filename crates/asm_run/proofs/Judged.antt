-- Texts that are judged piece by piece.
use Rattle.std.proofs.Common.{◌≡◌, ℕ, List, [], ◌++◌, append-nil, append_assoc, sym, subst}
use Rattle.std.proofs.Common.{Option, Some, None, Result, Ok, Err}
use Rattle.std.specs.Result.{result_err}
use Rattle.asm_update.specs.Fire.{Part}
use Rattle.asm_audit.specs.declared.error.AuditError.{AuditError}
use Rattle.asm_audit.specs.declared.progress.Counts.{Counts}
use Rattle.asm_audit.specs.declared.progress.Progress.{Progress}
use Rattle.asm_audit.specs.Audited.{IsVerdict}
use Rattle.asm_audit.specs.Fault.{IsFaulty}
use Rattle.asm_audit.specs.Fed.{IsFed, IsFedAnswer, IsFedEnd}
use Rattle.asm_run.specs.Judge.{Judges}

module _ (part : Part) (p : Progress) (line : List ℕ) where
  -- a fault stays
  pub still : (text bytes : List ℕ) (fault : Option AuditError) (e : AuditError) → fault ≡ Some e →
      Judges part text p line fault → Judges part (text ++ bytes) p line fault
  still text bytes None e is h = absurd (let no : ⊥ = cc in no)
  still text bytes (Some f) e is h = λ more. subst (λ (t : List ℕ). IsFaulty part t f)
      (sym (append_assoc text bytes more)) (h (bytes ++ more))

  answered : (bytes : List ℕ) (q : Progress) (left : List ℕ) (r : Result (Unit {0}) AuditError) →
      IsFedAnswer part bytes p line q left r → (text : List ℕ) → IsFed part text p line →
      Judges part (text ++ bytes) q left (result_err r)
  answered bytes q left (Ok u) a text h = a text h
  answered bytes q left (Err e) a text h = λ more. subst (λ (t : List ℕ). IsFaulty part t e)
      (sym (append_assoc text bytes more)) (a text more h)

  pub feeds : (bytes : List ℕ) (q : Progress) (left : List ℕ) (r : Result (Unit {0}) AuditError)
      (old new : Option AuditError) → old ≡ None → new ≡ result_err r → IsFedAnswer part bytes p line q left r →
      (text : List ℕ) → Judges part text p line old → Judges part (text ++ bytes) q left new
  feeds bytes q left r old new none is a text h =
      subst (Judges part (text ++ bytes) q left) (sym is)
      (answered bytes q left r a text (subst (Judges part text p line) none h))

  pub faulty : (text : List ℕ) (fault : Option AuditError) (e : AuditError) → fault ≡ Some e →
      Judges part text p line fault → IsFaulty part text e
  faulty text fault e is h = subst (λ (t : List ℕ). IsFaulty part t e) (append-nil text)
      ((subst (Judges part text p line) is h) [])

  pub open_end : (text : List ℕ) (fault : Option AuditError) (r : Result Counts AuditError) → fault ≡ None →
      IsFedEnd part p line r → Judges part text p line fault → IsVerdict part text r
  open_end text fault r none end h = end text (subst (Judges part text p line) none h)
