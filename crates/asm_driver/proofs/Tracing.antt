-- A trace that is written event by event.
use Rattle.std.proofs.Common.{◌≡◌, ◌<◌, ◌+◌, ℕ, List, [], ◌++◌, length, get_or, take, refl, sym, ap, subst, ◌∙◌, inl, inr, append-nil, append_assoc}
use Rattle.std.proofs.KnownBytes.{Appends-nil, Appends-trans}
use Rattle.std.specs.Io.KnownBytes.{Appends}
use Rattle.asm_aggregate.specs.Standard.{standard_part}
use Rattle.asm_state.specs.View.{StateView}
use Rattle.asm_storage.specs.declared.history.Event.{Event}
use Rattle.asm_storage.specs.declared.history.History.{History}
use Rattle.asm_journal.specs.Check.{machine_of}
use Rattle.asm_journal.specs.Text.{line}
use Rattle.asm_trace.specs.Note.{AreNotesOf}
use Rattle.asm_trace.specs.Text.{note_json_of, IsNoteAppended, IsTrace}
use Rattle.asm_trace.proofs.Noted.{IsNotedTo, noted_to_more}
use Rattle.asm_driver.specs.Ports.{Known, AppendsSome, IsPassedOn}
use Rattle.asm_driver.specs.Trace.{IsTraceBegun, IsTraceStopped}
use Rattle.asm_driver.specs.declared.program.refusal.Refusal.TheVariants as refusal
use Rattle.asm_driver.specs.declared.program.watching.Stop.TheVariants.{Refused, Unwritten}
use Rattle.asm_driver.proofs.Watching.{some_behind}

-- the events before this one are noted: of their lines the first went out, and these bytes are the others
pub record IsTracedTo (h : History) (s : StateView) (held holds : Known) (text : List ℕ) (i : ℕ) : Type 0 where
  pub out : List ℕ
  pub begun : IsTraceBegun h out
  pub appended : Appends held holds out
  pub noted : IsNotedTo standard_part h s (out ++ text) i

pub nothing_out : (h : History) (held : Known) → IsTraceStopped h held held (Refused refusal.Memory)
nothing_out h held = ([], inl refl, (refl, Appends-nil held))

module _ (h : History) (s : StateView) (held mid : Known) (text : List ℕ) (i : ℕ) (w : IsTracedTo h s held mid text i) where
  all_begun : IsTraceBegun h (w.out ++ text)
  all_begun = inr (i, w.noted.0.0, w.noted.0.1, w.noted.0.2)

  pub traced_more : (t : StateView) (after : List ℕ) (e : Event) → i < length h.events → e ≡ get_or h.events i e →
      IsNoteAppended standard_part h.capacity i e s t text after → IsTracedTo h t held mid after (i + 1)
  traced_more t after e within here step = record {
    out = w.out;
    begun = w.begun;
    appended = w.appended;
    noted = noted_to_more standard_part h i e s t (w.out ++ text) (w.out ++ after) within here w.noted (λ init q stands.
        let done = step init q stands in
        let l = line (note_json_of done.0.0) in
        ((done.0.0, done.0.1, ap (λ b. w.out ++ b) done.0.2 ∙ sym (append_assoc w.out text l)), done.1));
  }

  pub traced_on : (holds : Known) (left : List ℕ) → IsPassedOn mid holds text left → IsTracedTo h s held holds left i
  traced_on holds left (inl (same, kept)) =
      subst (λ (o : Known). IsTracedTo h s held o left i) (sym same)
      (subst (λ (t : List ℕ). IsTracedTo h s held mid t i) (sym kept) w)
  traced_on holds left (inr (wrote, none)) = record {
    out = w.out ++ text;
    begun = all_begun;
    appended = Appends-trans held mid holds w.out text w.appended wrote;
    noted = subst (λ (t : List ℕ). IsNotedTo standard_part h s t i)
        (sym (ap (λ t. (w.out ++ text) ++ t) none ∙ append-nil (w.out ++ text))) w.noted;
  }

  pub traced_stopped : IsTraceStopped h held mid (Refused refusal.Memory)
  traced_stopped = (w.out, w.begun, (refl, w.appended))

  pub traced_cut : (holds : Known) → AppendsSome mid holds text → IsTraceStopped h held holds Unwritten
  traced_cut holds some = (w.out ++ text, all_begun, some_behind held mid holds w.out text w.appended some)

  pub traced_to_end : (holds : Known) → take i h.events ≡ h.events → Appends mid holds text →
      (all : List ℕ) × IsTrace standard_part h all × Appends held holds all
  traced_to_end holds whole wrote = (
    w.out ++ text,
    (
      w.noted.0.0,
      subst (λ (es : List Event). AreNotesOf (machine_of standard_part h) [] 0 es w.noted.0.0) whole w.noted.0.1,
      w.noted.0.2,
    ),
    Appends-trans held mid holds w.out text w.appended wrote,
  )
