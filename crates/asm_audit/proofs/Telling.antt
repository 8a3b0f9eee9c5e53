-- What a line reports.
use Rattle.std.proofs.Common.{◌≡◌, ◌+◌, ◌≤◌, ◌<◌, ◌↔◌, ◌⊎◌, ℕ, Bool, false, List, ◌++◌, Option, Some, Result, Ok, Err, sym, subst, ◌∙◌, inl, inr, true≢false}
use Rattle.std.specs.Prelude.{IsTrue}
use Rattle.std.proofs.lemmas.Bool.{cases_lt}
use Rattle.asm_update.specs.Fire.{Part}
use Rattle.asm_audit.specs.declared.part_auditor.PartAuditor.{PartAuditor}
use Rattle.asm_audit.specs.declared.progress.Progress.{Progress}
use Rattle.asm_audit.specs.declared.error.AuditError.{AuditError}
use Rattle.asm_journal.specs.declared.error.JournalError.{JournalError}
use Rattle.asm_journal.specs.declared.error.JournalError.TheVariants as journal_error
use Rattle.asm_audit.specs.Text.{IsLineBefore}
use Rattle.asm_audit.specs.Fault.{part_fault, IsFaulty}
use Rattle.asm_audit.specs.PartAuditor.{IsNotTaken}
use Rattle.asm_audit.specs.Audited.{IsRead, IsAudited, IsLineAnswer, JudgesEnded}
use Rattle.asm_audit.proofs.Extended.{event_fault}
use Rattle.asm_audit.proofs.Steps.{event_wrong, event_broken}

-- the same, if this is what is being read
pub current_is : (part : Part) (text : List ℕ) (p : Progress) (o : Option PartAuditor) → p.current ≡ o → IsAudited part text p →
    IsAudited part text (record { before = p.before; current = o })
current_is part text p o same audited = record {
  first = audited.first;
  before = audited.before;
  rest = audited.rest;
  has = audited.has;
  counts = audited.counts;
  next = subst (IsRead part audited.first audited.before audited.rest) same audited.next;
}

pub not_complete : (b : Bool) (taken count : ℕ) → (IsTrue b ↔ (count ≤ taken)) → b ≡ false → taken < count
not_complete b taken count is none = by_order (cases_lt taken count) where
  by_order : (taken < count) ⊎ (count ≤ taken) → taken < count
  by_order (inl less) = less
  by_order (inr all) = absurd (true≢false (sym (is.1 all) ∙ none))

-- what is reported of an event that isn't taken, whatever comes after it
pub not_taken : (part : Part) (line rest text : List ℕ) (p : Progress) (o : PartAuditor) (e : AuditError) →
    p.current ≡ Some o → o.taken < o.limits.events → IsNotTaken part line o e → IsAudited part text p →
    IsLineBefore line rest → IsFaulty part (text ++ (line ++ rest)) e
not_taken part line rest text p o e same less (inl h) audited before =
    subst (IsFaulty part (text ++ (line ++ rest))) (sym h.1)
    (event_broken part text p.before o (current_is part text p (Some o) same audited) (line ++ rest) h.0 less
    (event_fault line rest o.limits.version o.limits.agents (o.taken + 2) h.0 before h.2))
not_taken part line rest text p o e same less (inr h) audited before =
    subst (IsFaulty part (text ++ (line ++ rest))) (sym h.0)
    (event_wrong part text p.before o (current_is part text p (Some o) same audited) line rest before less h.1.0 h.1.1)

-- a line reports the same of what is being read, written in parts
pub answer_is : (part : Part) (line : List ℕ) (p new : Progress) (o : Option PartAuditor) (r : Result (Unit {0}) AuditError) →
    p.current ≡ o → IsLineAnswer part line (record { before = p.before; current = o }) new r → IsLineAnswer part line p new r
answer_is part line p new o (Ok u) same is = λ text audited. is text (current_is part text p o same audited)
answer_is part line p new o (Err e) same is =
    λ text rest audited before. is text rest (current_is part text p o same audited) before

-- ---- whether a line was judged

pub fault_judged : (line : List ℕ) (number : ℕ) (fault : JournalError) (e : AuditError) → e ≡ part_fault number fault →
    JudgesEnded line (Err e)
fault_judged line number fault e is = subst (λ x. JudgesEnded line (Err x)) (sym is) (by_fault fault) where
  by_fault : (f : JournalError) → JudgesEnded line (Err (part_fault number f))
  by_fault (journal_error.NotJson k) = tt
  by_fault (journal_error.Shape k) = tt
  by_fault journal_error.Version = tt
  by_fault journal_error.Cut = tt
  by_fault journal_error.Memory = tt

pub not_taken_judged : (part : Part) (line : List ℕ) (o : PartAuditor) (e : AuditError) → IsNotTaken part line o e →
    JudgesEnded line (Err e)
not_taken_judged part line o e (inl h) = fault_judged line o.number h.0 e h.1
not_taken_judged part line o e (inr h) =
    subst (λ x. JudgesEnded line (Err x)) (sym h.0) (h.1.1.has.0, h.1.1.rest, h.1.1.has.1)
