-- What audits in slots report.
use Rattle.std.proofs.Common.{◌≡◌, ℕ, List, Result, Ok, refl, subst, sym}
use Rattle.asm_audit.specs.declared.error.AuditError.{AuditError}
use Rattle.asm_audit.specs.declared.progress.Counts.{Counts}
use Rattle.asm_audit.specs.Fed.{FeedsFirst, IsFedAnswer}
use Rattle.asm_audit.specs.SoFar.{AreFedSoFar}
use Rattle.asm_slots.specs.Audits.{HasAudited, counts_of}
use Rattle.asm_slots.specs.AuditView.{AuditView}
use Rattle.asm_slots.specs.Standard.{part}
use Rattle.asm_slots.specs.declared.audit.AuditNumbers.{AuditNumbers}

-- all that was fed is legal, and these are the numbers
pub all_legal : (bytes : List ℕ) (taken : ℕ) (n : AuditNumbers) (w : Counts) (old new : AuditView)
    (r : Result (Unit {0}) AuditError) → r ≡ Ok tt →
    IsFedAnswer part bytes old.progress old.line new.progress new.line r →
    FeedsFirst part bytes old.progress old.line new.progress new.line taken r →
    AreFedSoFar part new.progress new.line w → counts_of n ≡ w → HasAudited bytes taken n (Ok tt) old new
all_legal bytes taken n w old new r ok answer first counts same = record {
  answer = Ok tt;
  reports = refl;
  reported = subst (λ (x : Result (Unit {0}) AuditError). IsFedAnswer part bytes old.progress old.line new.progress new.line x) ok answer;
  first = subst (λ (x : Result (Unit {0}) AuditError). FeedsFirst part bytes old.progress old.line new.progress new.line taken x) ok first;
  counts = λ _. subst (AreFedSoFar part new.progress new.line) (sym same) counts;
}
