-- Events and headers that are read from the input, and what is reported if they aren't.
use Rattle.std.proofs.Common.{◌≡◌, ◌+◌, ◌≤◌, ◌<◌, ◌⊎◌, ℕ, suc, Bool, true, false, List, [], ◌++◌, Ok, Err, sym, ap, subst, ◌∙◌, inl, inr, append-nil, append_assoc, arith}
use Rattle.std.specs.Io.KnownBytes.{Consumes, IsAtEnd}
use Rattle.asm_aggregate.specs.Standard.{standard_part}
use Rattle.asm_update.specs.State.{State}
use Rattle.asm_state.specs.FollowsFrom.{FollowsFrom}
use Rattle.asm_storage.specs.declared.history.Event.{Event}
use Rattle.asm_journal.specs.Reading.{HasNoLineFeed, HasLine}
use Rattle.asm_journal.specs.declared.error.JournalError.TheVariants as journal_error
use Rattle.asm_journal.specs.declared.parsing.Header.{Header}
use Rattle.asm_audit.specs.declared.error.AuditError.{AuditError}
use Rattle.asm_audit.specs.declared.part_auditor.PartAuditor.{PartAuditor}
use Rattle.asm_audit.specs.PartAuditor.{HasHeader, BreaksHeaderOf, IsJudged, IsNotTaken}
use Rattle.asm_audit.specs.Text.{HasLineFeed}
use Rattle.asm_audit.proofs.Extended.{ended, line_before}
use Rattle.asm_audit.proofs.OneVerdict.{no_line}
use Rattle.asm_driver.specs.Audit.{refusal_of_audit}
use Rattle.asm_driver.specs.Ports.{Known}
use Rattle.asm_driver.specs.Lines.{IsLineAt}
use Rattle.asm_driver.specs.Parts.{HasHeaderLine, HasSegments, IsSkipping, IsPartRead, IsAt, IsOneLine, IsBadAlone, IsBadBehind, IsEventRead}
use Rattle.asm_driver.specs.Window.{end_in, IsBadWindow, IsInside, IsNoWindow, IsHeaderRead, IsPartOpened}
use Rattle.asm_driver.specs.declared.program.refusal.Refusal.{Refusal}
use Rattle.asm_driver.specs.declared.program.refusal.Refusal.TheVariants as refusal
use Rattle.asm_driver.specs.declared.program.words.Window.{Window}
use Rattle.asm_driver.proofs.PartLines.{skipping_more, skipping_inside, skipping_cut, header_refused, part_opened, event_read, event_refused}
use Rattle.asm_driver.proofs.LinesTaken.{reported_at, line_ended, line_one}
use Rattle.asm_driver.proofs.Watching.{no_read}
use Rattle.asm_driver.proofs.Windows.{refused_window, inside_part}

-- ---- a header

-- the line of a header has its line feed, and nothing behind that
header_line : (left : Known) (behind line : List ℕ) (h : Header) → IsLineAt left behind line → HasHeader line h →
    HasHeaderLine h line []
header_line left behind line h here (d, after, has, form) = (
  d,
  subst (λ (t : List ℕ). HasLine t d []) (append-nil line)
      (line_before line [] d after (line_ended left behind line d after here has) has),
  form,
)

module _ (had left : Known) (failed : Bool) (text line behind : List ℕ) (at : IsAt had left (text ++ line) behind)
    (here : IsLineAt left behind line) (noted : failed ≡ false) where
  pub header_read : (h : Header) → HasHeader line h → IsHeaderRead had left failed text behind h
  header_read h is = (noted, (line, at, line_one left behind line here, header_line left behind line h here is))

  module _ (w : Window) (number : ℕ) (most : number ≤ w.part) (has : HasSegments number text []) where
    pub header_unread : (e : AuditError) → (line ≡ [] → number ≡ 0) → BreaksHeaderOf number line e →
        IsNoWindow w had left failed (refusal_of_audit e)
    header_unread e some breaks = (
      text,
      inl (number, has, most),
      reported_at had left failed text (IsBadWindow w) (refusal_of_audit e) line behind at here (noted ∙ sym (no_read e))
          (λ rest is. header_refused w number text has most line rest is some e breaks),
    )

    -- there is none
    pub none_reported : line ≡ [] → 0 < number → IsNoWindow w had left failed (refusal.FewParts number)
    none_reported none some = (
      text,
      inl (number, has, most),
      record {
        line = [];
        behind = behind;
        consumed = subst (λ (l : List ℕ). IsAt had left l behind) (ap (λ (l : List ℕ). text ++ l) none ∙ append-nil text) at;
        one = subst IsOneLine none (line_one left behind line here);
        reported = by_end here;
        noted = noted;
      },
    ) where
      few : IsBadWindow w (text ++ []) (refusal.FewParts number)
      few = (some, most, subst (λ (t : List ℕ). HasSegments number t []) (sym (append-nil text)) has)

      by_end : IsLineAt left behind line → (IsAtEnd left × (behind ≡ []) × IsBadWindow w (text ++ []) (refusal.FewParts number))
          ⊎ ((more : List ℕ) → IsBadWindow w (text ++ more) (refusal.FewParts number))
      by_end (inl (body, ends)) = absurd (no_line body [] (sym none ∙ ends.0))
      by_end (inr (open_line, nothing, end)) = inl (end, nothing, few)

-- the header of the window's segment
pub opened : (had left : Known) (failed : Bool) (number : ℕ) (text behind : List ℕ) (h : Header) (o : PartAuditor) →
    IsHeaderRead had left failed text behind h → HasSegments number text [] → o.number ≡ number → o.limits ≡ h.limits →
    o.taken ≡ 0 → FollowsFrom standard_part h.init o.state [] → IsPartOpened had left failed number behind o
opened had left failed number text behind h o (noted, (line, at, one, first)) has known limits taken stands = (
  noted,
  taken,
  (text, line, h.init, at, has, one, part_opened number text line h o has first known limits taken stands),
)

-- ---- a line that is passed

pub within_window : (w : Window) (number n : ℕ) (h : Header) (text : List ℕ) → IsSkipping number h n text → n < h.limits.events →
    number < w.part → IsInside w text
within_window w number n h text s less before =
    let i = skipping_inside number n h text s less in inr (inl (number, i.0, i.1, i.2, before))

module _ (had left : Known) (failed : Bool) (text line behind : List ℕ) (at : IsAt had left (text ++ line) behind)
    (here : IsLineAt left behind line) (noted : failed ≡ false) (number n : ℕ) (h : Header) (s : IsSkipping number h n text)
  where
    pub line_skipped : HasLineFeed line → IsSkipping number h (n + 1) (text ++ line)
    line_skipped feed = let next : suc n ≡ n + 1 = omega arith in subst (λ k. IsSkipping number h k (text ++ line)) next (by_end here) where
      by_end : IsLineAt left behind line → IsSkipping number h (suc n) (text ++ line)
      by_end (inl (body, ends)) = skipping_more number n h text s line body ends
      by_end (inr (none, nothing, end)) = absurd (ended line feed.0 feed.1 feed.2 none)

    pub line_missing : (w : Window) → number < w.part → n < h.limits.events → HasNoLineFeed line →
        IsNoWindow w had left failed (refusal.BadPart number journal_error.Cut)
    line_missing w before less none = (
      text,
      within_window w number n h text s less before,
      record {
        line = line;
        behind = behind;
        consumed = subst (Consumes had left) (append_assoc text line behind) at;
        one = inl none;
        reported = inl (by_end here);
        noted = noted;
      },
    ) where
      by_end : IsLineAt left behind line → IsAtEnd left × (behind ≡ []) × IsBadWindow w (text ++ line) (refusal.BadPart number journal_error.Cut)
      by_end (inl (body, ends)) = absurd (ended line body [] ends none)
      by_end (inr (open_line, nothing, end)) = (end, nothing, skipping_cut number n h text s less w before line none)

-- ---- an event

pub event_reported : (had left : Known) (failed : Bool) (number : ℕ) (text line behind : List ℕ) (old new : PartAuditor)
    (A : State) (es : List Event) → IsAt had left (text ++ line) behind → IsLineAt left behind line → failed ≡ false →
    IsPartRead number text old A es → old.taken < old.limits.events → (e : Event) →
    IsJudged standard_part line e old new true → IsEventRead had left failed number text behind new A es (Ok e)
event_reported had left failed number text line behind old new A es at here noted read less e t = (
  noted,
  (
    text ++ line,
    at,
    event_read number text old A es read less line new e (line_ended left behind line t.value t.rest here t.has) t,
  ),
)

pub event_unread : (had left : Known) (failed : Bool) (number : ℕ) (text line behind : List ℕ) (old new : PartAuditor)
    (A : State) (es : List Event) → IsAt had left (text ++ line) behind → IsLineAt left behind line → failed ≡ false →
    IsPartRead number text old A es → old.taken < old.limits.events → (e : AuditError) →
    IsNotTaken standard_part line old e → IsEventRead had left failed number text behind new A es (Err (refusal_of_audit e))
event_unread had left failed number text line behind old new A es at here noted read less e none =
    reported_at had left failed text (IsBadBehind IsBadAlone number) (refusal_of_audit e) line behind at here (noted ∙ sym (no_read e))
    (λ rest is. event_refused number text old A es read less line rest e is none)

-- ---- events in turn

-- a refusal behind events before the window's end
pub event_refused_window : (w : Window) (had left : Known) (failed : Bool) (calls : ℕ) (text behind : List ℕ) (o new : PartAuditor)
    (A : State) (es : List Event) (r : Refusal) → IsPartRead w.part text o A es → calls ≤ end_in w o.limits.events →
    o.taken < calls → IsEventRead had left failed w.part text behind new A es (Err r) → IsNoWindow w had left failed r
event_refused_window w had left failed calls text behind o new A es r read most less reported =
    let taken = read.taken in
    refused_window w had left failed text r (inside_part w text o A es read (omega (arith, taken, less, most))) reported
