-- Lines, journals and faults of a text that continues.
use Rattle.std.proofs.Common.{◌≡◌, ◌≢◌, ℕ, List, [], ◌∷◌, ◌++◌, length, refl, sym, ap, subst, ◌∙◌, inl, inr, append_assoc, append-nil}
use Rattle.std.proofs.lemmas.List.Elements.{recursion_from_All}
use Rattle.serde_json.specs.Data.{Data}
use Rattle.asm_update.specs.State.{State}
use Rattle.asm_storage.specs.declared.history.Event.{Event}
use Rattle.asm_storage.specs.declared.history.History.{History}
use Rattle.asm_journal.specs.declared.error.JournalError.{JournalError}
use Rattle.asm_journal.specs.declared.error.JournalError.TheVariants.{NotJson, Shape, Version, Cut, Memory}
use Rattle.asm_journal.specs.Event.{IsEventBelow}
use Rattle.asm_journal.specs.Reading.{HasNoLineFeed, EndsLine, BeginsWithLine, HasLine, HasEvents}
use Rattle.asm_journal.specs.Fault.{BreaksLine, BreaksHeader, BreaksEvent}
use Rattle.asm_journal.proofs.Lines.{HasEvents-push}
use Rattle.asm_journal.proofs.OneHistory.{NoFeed, same_split}
use Rattle.asm_audit.specs.Text.{IsLineBefore, IsBegun, HasJournal, HasJournals}

-- ---- more after a text

ends_more : (text body rest more : List ℕ) → EndsLine text body rest → EndsLine (text ++ more) body (rest ++ more)
ends_more text body rest more h = (ap (λ x. x ++ more) h.0 ∙ append_assoc body (10 ∷ rest) more, h.1)

pub line_more : (text : List ℕ) (d : Data) (rest more : List ℕ) → HasLine text d rest →
    HasLine (text ++ more) d (rest ++ more)
line_more text d rest more h = (h.0, ends_more text h.0 rest more h.1, h.2)

pub events_more : (v agents : ℕ) (text : List ℕ) (es : List Event) (rest more : List ℕ) →
    HasEvents v agents text es rest → HasEvents v agents (text ++ more) es (rest ++ more)
events_more v agents text [] rest more h = ap (λ x. x ++ more) h
events_more v agents text (e ∷ es) rest more h =
    (h.0, h.1 ++ more, line_more text h.0 h.1 more h.2, h.3, events_more v agents h.1 es rest more h.4)

pub begun_more : (v count : ℕ) (h : History) (text rest more : List ℕ) → IsBegun v count h text rest →
    IsBegun v count h (text ++ more) (rest ++ more)
begun_more v count h text rest more b = record {
  value = b.value;
  behind = b.behind ++ more;
  line = line_more text b.value b.behind more b.line;
  header = b.header;
  events = events_more v h.agents b.behind h.events rest more b.events;
}

pub journals_more : (hs : List History) (text rest more : List ℕ) → HasJournals hs text rest →
    HasJournals hs (text ++ more) (rest ++ more)
journals_more [] text rest more h = ap (λ x. x ++ more) h
journals_more (j ∷ js) text rest more h = (
  h.0 ++ more,
  (h.1.0, begun_more h.1.0 (length j.events) j text h.0 more h.1.1),
  journals_more js h.0 rest more h.2,
)

-- one more journal
pub journals_push : (hs : List History) (h : History) (text rest after : List ℕ) → HasJournals hs text rest →
    HasJournal h rest after → HasJournals (hs ++ h ∷ []) text after
journals_push [] h text rest after has more = (after, subst (λ t. HasJournal h t after) (sym has) more, refl)
journals_push (j ∷ js) h text rest after has more = (has.0, has.1, journals_push js h has.0 rest after has.2 more)

-- one more event
pub begun_push : (v count agents capacity : ℕ) (A : State) (es : List Event) (e : Event) (text rest after : List ℕ) (d : Data) →
    IsBegun v count (record { init = A; capacity = capacity; agents = agents; events = es }) text rest →
    HasLine rest d after → IsEventBelow v agents e d →
    IsBegun v count (record { init = A; capacity = capacity; agents = agents; events = es ++ e ∷ [] }) text after
begun_push v count agents capacity A es e text rest after d b line form = record {
  value = b.value;
  behind = b.behind;
  line = b.line;
  header = b.header;
  events = HasEvents-push v agents b.behind es rest d e after b.events line form;
}

-- ---- a line, and what comes after it

pub no_feed_inside : (a r : List ℕ) → NoFeed (a ++ 10 ∷ r) → ⊥
no_feed_inside [] r h = h.0 refl
no_feed_inside (x ∷ a) r h = no_feed_inside a r h.1

pub ended : (text body rest : List ℕ) → EndsLine text body rest → HasNoLineFeed text → ⊥
ended text body rest h none = no_feed_inside body rest (subst NoFeed h.0 (recursion_from_All (λ b. b ≢ 10) text none))

some_byte : (a r : List ℕ) → a ++ 10 ∷ r ≡ [] → ⊥
some_byte [] r e = cc
some_byte (x ∷ a) r e = cc

some_more : (a r : List ℕ) → a ≢ [] → a ++ r ≢ []
some_more [] r h e = h refl
some_more (x ∷ a) r h e = cc

some_line : (line rest : List ℕ) → IsLineBefore line rest → line ≢ []
some_line line rest (inl ends) e = some_byte ends.0 [] (sym ends.1.0 ∙ e)
some_line line rest (inr open_line) e = open_line.1 e

pub some_before : (line rest : List ℕ) → IsLineBefore line rest → line ++ rest ≢ []
some_before line rest h = some_more line rest (some_line line rest h)

-- nothing of it comes after its line feed
pub line_alone : (line rest : List ℕ) (d : Data) (after : List ℕ) → IsLineBefore line rest → HasLine line d after →
    after ≡ []
line_alone line rest d after (inl ends) h =
    let first = recursion_from_All (λ b. b ≢ 10) h.0 h.1.1 in
    let second = recursion_from_All (λ b. b ≢ 10) ends.0 ends.1.1 in
    (same_split h.0 ends.0 after [] first second (sym h.1.0 ∙ ends.1.0)).1
line_alone line rest d after (inr open_line) h = absurd (ended line h.0 after h.1 open_line.2)

pub line_before : (line rest : List ℕ) (d : Data) (after : List ℕ) → IsLineBefore line rest → HasLine line d after →
    HasLine (line ++ rest) d rest
line_before line rest d after is h =
    subst (HasLine (line ++ rest) d) (ap (λ x. x ++ rest) (line_alone line rest d after is h)) (line_more line d after rest h)

-- ---- faults

module _ (line rest body : List ℕ) (ends : EndsLine line body []) where
  begins_more : (b : List ℕ) → BeginsWithLine line b → BeginsWithLine (line ++ rest) b
  begins_more b (inl h) = inl (h.0 ++ rest, ends_more line b h.0 rest h.1)
  begins_more b (inr h) = absurd (ended line body [] ends h.1)

  breaks_line : (k : ℕ) (e : JournalError) → BreaksLine k line e → BreaksLine k (line ++ rest) e
  breaks_line k Cut (inl none) = absurd (some_byte body [] (sym ends.0 ∙ none))
  breaks_line k Cut (inr open_line) = absurd (ended line body [] ends open_line.0)
  breaks_line k (NotJson n) h = (h.0, some_more line rest h.1, (h.2.0, begins_more h.2.0 h.2.1, h.2.2))
  breaks_line k (Shape n) h = absurd h
  breaks_line k Version h = absurd h
  breaks_line k Memory h = tt

  breaks_header : (e : JournalError) → BreaksHeader line e → BreaksHeader (line ++ rest) e
  breaks_header Version h = (h.0, h.1 ++ rest, line_more line h.0 h.1 rest h.2, h.3)
  breaks_header (Shape n) h = (h.0, (h.1.0, h.1.1 ++ rest, line_more line h.1.0 h.1.1 rest h.1.2, h.1.3, h.1.4))
  breaks_header Cut h = breaks_line 1 Cut h
  breaks_header (NotJson n) h = breaks_line 1 (NotJson n) h
  breaks_header Memory h = tt

  breaks_event : (v agents k : ℕ) (e : JournalError) → BreaksEvent v agents k line e →
      BreaksEvent v agents k (line ++ rest) e
  breaks_event v agents k Version h = absurd h
  breaks_event v agents k (Shape n) h = (h.0, (h.1.0, h.1.1 ++ rest, line_more line h.1.0 h.1.1 rest h.1.2, h.1.3))
  breaks_event v agents k Cut h = breaks_line k Cut h
  breaks_event v agents k (NotJson n) h = breaks_line k (NotJson n) h
  breaks_event v agents k Memory h = tt

alone : (P : List ℕ → Type 0) (line rest : List ℕ) → rest ≡ [] → P line → P (line ++ rest)
alone P line rest none h = subst P (sym (ap (λ x. line ++ x) none ∙ append-nil line)) h

-- a fault of a line stays one, whatever may come after it
pub header_fault : (line rest : List ℕ) (e : JournalError) → IsLineBefore line rest → BreaksHeader line e →
    BreaksHeader (line ++ rest) e
header_fault line rest e (inl ends) h = breaks_header line rest ends.0 ends.1 e h
header_fault line rest e (inr open_line) h = alone (λ t. BreaksHeader t e) line rest open_line.0 h

pub event_fault : (line rest : List ℕ) (v agents k : ℕ) (e : JournalError) → IsLineBefore line rest →
    BreaksEvent v agents k line e → BreaksEvent v agents k (line ++ rest) e
event_fault line rest v agents k e (inl ends) h = breaks_event line rest ends.0 ends.1 v agents k e h
event_fault line rest v agents k e (inr open_line) h = alone (λ t. BreaksEvent v agents k t e) line rest open_line.0 h
