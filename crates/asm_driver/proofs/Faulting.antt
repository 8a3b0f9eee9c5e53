-- When a run has the status of a fault.
use Rattle.std.proofs.Common.{◌≡◌, ◌↔◌, ℕ, List, ◌++◌, true, false, Result, Ok, Err, refl, sym, ◌∙◌, ap, subst, inl, inr, arith}
use Rattle.asm_journal.specs.declared.error.JournalError.{JournalError}
use Rattle.asm_journal.specs.declared.error.JournalError.TheVariants as journal
use Rattle.asm_journal.specs.declared.checking.Legality.{Legality}
use Rattle.asm_journal.specs.declared.checking.Legality.TheVariants.{Legal, Illegal}
use Rattle.asm_driver.specs.Commands.{legality_status, IsDone, IsNotDone}
use Rattle.asm_driver.specs.Refusal.{refusal_status, refusal_line, journal_status, has_number}
use Rattle.asm_driver.specs.Words.{Words}
use Rattle.asm_driver.specs.Run.{Input, Output, IsAnswer, IsNoAnswer, IsShown, Writes, HasFailed, EndsAs, Runs}
use Rattle.asm_driver.specs.declared.program.refusal.Refusal.{Refusal}
use Rattle.asm_driver.specs.declared.program.refusal.Refusal.TheVariants as refusal
use Rattle.asm_driver.specs.declared.program.words.Request.{Request}
use Rattle.asm_driver.specs.declared.program.words.Request.TheVariants.{Run, Terms, Check, Show, Audit, Explain}
use Rattle.asm_audit.specs.declared.progress.Counts.{Counts}
use Rattle.asm_driver.specs.Audit.{is_failed_read}

-- it has failed, and it hasn't
both : true ≡ false → ⊥
both e = cc (e)

-- a check has the status 0 or 1
legality_works : (l : Legality) → legality_status l ≡ 4 → ⊥
legality_works (Legal calls moves) e = cc (e)
legality_works (Illegal call) e = cc (e)

-- what is carried out has the status 0 or 1
done_works : (bytes : List ℕ) (request : Request) (status : ℕ) (text : List ℕ) → IsDone bytes request status text →
    status ≡ 4 → ⊥
done_works bytes Check status text (h, l, reads, is, same, written) e = legality_works l (sym same ∙ e)
done_works bytes (Show w) status text done e = absurd done
done_works bytes (Audit every) status text done e = absurd done
done_works bytes (Explain t) status text (inl done) e = omega (arith, done.0, e)
done_works bytes (Explain t) status text (inr done) e = omega (arith, done.0, e)
done_works bytes request status text done e = omega (arith, done.0, e)

answer_works : (words : Words) (i : Input) (status : ℕ) (text : List ℕ) → IsAnswer words i status text → status ≡ 4 → ⊥
answer_works words i status text (inl (bytes, request, whole, asks, done)) e = done_works bytes request status text
    done e
answer_works words i status text (inr (inl (w, asks, same, is))) e = omega (arith, same, e)
answer_works words i status text (inr (inr (same, asks, unread))) e = omega (arith, same, e)

-- if there is an answer, no read failed
answer_reads : (words : Words) (i : Input) (status : ℕ) (text : List ℕ) → IsAnswer words i status text →
    i.failed ≡ false
answer_reads words i status text (inl (bytes, request, whole, asks, done)) = whole.whole
answer_reads words i status text (inr (inl (w, asks, same, is))) = is.noted
answer_reads words i status text (inr (inr (same, asks, unread))) = unread.whole

-- only a failed read has the status 4
journal_four : (e : JournalError) → journal_status e ≡ 4 → ⊥
journal_four journal.Memory e = omega (arith, e)
journal_four f e = omega (arith, e)

four : (r : Refusal) → refusal_status r ≡ 4 → r ≡ refusal.InputFault
four refusal.InputFault e = refl
four (refusal.BadJournal f) e = absurd (journal_four f e)
four (refusal.BadPart part f) e = absurd (journal_four f e)
four r e = absurd (omega (arith, e))

-- a failed read is shown as itself
shown_fault : (r shown : Refusal) → IsShown r shown → shown ≡ refusal.InputFault → r ≡ refusal.InputFault
shown_fault r shown (inl is) e = sym is ∙ e
shown_fault r shown (inr (is, number)) e = cc (is, e)

fault_shown : (r shown : Refusal) → IsShown r shown → r ≡ refusal.InputFault → shown ≡ refusal.InputFault
fault_shown r shown (inl is) e = is ∙ e
fault_shown r shown (inr (is, number)) e = let bad : true ≡ false = sym number
    ∙ subst (λ x. has_number x ≡ has_number refusal.InputFault) (sym e) refl in absurd (both bad)

done_reads : (bytes : List ℕ) (request : Request) → IsNotDone bytes request refusal.InputFault → ⊥
done_reads bytes (Run capacity asked) is = is
done_reads bytes (Terms capacity) is = is
done_reads bytes (Explain t) is = cc (is)
done_reads bytes request is = is

-- an audit that a failed read ended is refused as a failed read
fault_read : (r : Refusal) → is_failed_read (Err r) ≡ true → r ≡ refusal.InputFault
fault_read refusal.InputFault is = refl
fault_read r is = absurd (both (sym is))

-- what is refused as a failed read is one
fault_failed : (words : Words) (i : Input) → IsNoAnswer words i refusal.InputFault → i.failed ≡ true
fault_failed words i (inl (is, unread)) = absurd is
fault_failed words i (inr (inl (taken, is))) = is.1
fault_failed words i (inr (inr (inl (bytes, request, whole, asks, is)))) = absurd (done_reads bytes request is)
fault_failed words i (inr (inr (inr (w, asks, reported)))) = reported.2.noted

-- and a failed read is refused as one
failed_fault : (words : Words) (i : Input) (r : Refusal) → IsNoAnswer words i r → i.failed ≡ true →
    r ≡ refusal.InputFault
failed_fault words i r (inl (is, unread)) e = absurd (both (sym e ∙ unread.whole))
failed_fault words i refusal.TooLarge (inr (inl (taken, is))) e = absurd (both (sym e ∙ is.1))
failed_fault words i refusal.InputFault (inr (inl (taken, is))) e = refl
failed_fault words i refusal.Memory (inr (inl (taken, is))) e = absurd (both (sym e ∙ is.1))
failed_fault words i r (inr (inl (taken, is))) e = absurd is
failed_fault words i r (inr (inr (inl (bytes, request, whole, asks, is)))) e = absurd (both (sym e ∙ whole.whole))
failed_fault words i r (inr (inr (inr (w, asks, reported)))) e = fault_read r (sym reported.2.noted ∙ e)

-- a watched audit has the status of a fault if a read failed
ends_four : (r : Result Counts Refusal) (status : ℕ) (text : List ℕ) → EndsAs r status text → status ≡ 4 →
    is_failed_read r ≡ true
ends_four (Ok v) status text ends e = absurd (omega (arith, ends.0, e))
ends_four (Err r) status text (shown, is, same, written) e =
    ap (λ (x : Refusal). is_failed_read (Err x)) (shown_fault r shown is (four shown (sym same ∙ e)))

read_four : (r : Result Counts Refusal) (status : ℕ) (text : List ℕ) → EndsAs r status text → is_failed_read r ≡ true →
    status ≡ 4
read_four (Ok v) status text ends e = absurd (both (sym e))
read_four (Err r) status text (shown, is, same, written) e =
    same ∙ ap refusal_status (fault_shown r shown is (fault_read r e))

-- the status of what is written is that of a failed read, if a read failed
faults_writes : (i : Input) (o : Output) (status : ℕ) (text : List ℕ) (result : ℕ) → (status ≡ 4 → i.failed ≡ true) →
    (i.failed ≡ true → status ≡ 4) → Writes o status text result → (result ≡ 4) ↔ HasFailed i o
faults_writes i o status text result read reads writes = (there writes, back writes) where
  there : Writes o status text result → result ≡ 4 → HasFailed i o
  there (inl (same, written)) e = inl (read (sym same ∙ e))
  there (inr (same, cut)) e = inr cut.failed

  back : Writes o status text result → HasFailed i o → result ≡ 4
  back (inl (same, written)) (inl failed) = same ∙ reads failed
  back (inl (same, written)) (inr failed) = absurd (both (sym failed ∙ written.whole))
  back (inr (same, cut)) failed = same

pub faults_run : (words : Words) (i : Input) (o : Output) (result : ℕ) → Runs words i o result →
    (result ≡ 4) ↔ HasFailed i o
faults_run words i o result (inl (status, text, inl is, writes)) =
    faults_writes i o status text result (λ e. absurd (answer_works words i status text is e))
    (λ e. absurd (both (sym e ∙ answer_reads words i status text is))) writes
faults_run words i o result (inl (status, text, inr (r, none, same, written), writes)) =
    faults_writes i o status text result
    (λ e. fault_failed words i (subst (IsNoAnswer words i) (four r (sym same ∙ e)) none))
    (λ e. same ∙ ap refusal_status (failed_fault words i r none e)) writes
faults_run words i o result (inr (inl (every, asks, inl (r, reported, text, status, is, ends, writes)))) =
    faults_writes i o status (reported ++ text) result (λ e. is.noted ∙ ends_four r status text ends e)
    (λ e. read_four r status text ends (sym is.noted ∙ e)) writes
faults_run words i o result (inr (inl (every, asks, inr (reported, cut, reads, same, some)))) =
    (λ e. inr some.failed, λ failed. same)
faults_run words i o result (inr (inr (asks, (bytes, begun, h, whole, reads, is, inl writes)))) =
    faults_writes i o 3 (begun ++ refusal_line refusal.Memory) result (λ e. absurd (omega (arith, e)))
    (λ e. absurd (both (sym e ∙ whole.whole))) writes
faults_run words i o result (inr (inr (asks, (bytes, begun, h, whole, reads, is, inr (same, cut))))) =
    (λ e. inr cut.failed, λ failed. same)
