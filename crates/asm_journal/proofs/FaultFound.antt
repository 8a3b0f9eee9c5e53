-- A text that reads as no history has a fault, and a history that is read fits a journal.
use Rattle.std.proofs.Common.{ℕ, List, [], ◌∷◌, length, Result, Ok, Err, ◌≡◌, ◌≢◌, ◌<◌, ◌+◌, ◌⊎◌, zero, suc, ◌++◌, refl, ap, subst, inl, inr, arith}
use Rattle.std.specs.Prelude.{IfOk}
use Rattle.std.specs.List.{AllByRecursion}
use Rattle.std.proofs.lemmas.List.Elements.{All-from_recursion}
use Rattle.asm_storage.specs.History.{EventFits, Fits}
use Rattle.asm_storage.specs.Proper.{IsProper}
use Rattle.asm_storage.specs.declared.history.Event.{Event}
use Rattle.asm_storage.specs.declared.history.History.{History}
use Rattle.asm_journal.specs.declared.error.JournalError.{JournalError}
use Rattle.asm_journal.specs.Reading.{AreLimits, HasEvents, ReadsAs, HasNoLineFeed, EndsLine, HasLine, IsHeader}
use Rattle.std.proofs.lemmas.Bool.{cases_eq}
use Rattle.std.proofs.lemmas.List.{length_push}
use Rattle.serde_json.specs.Data.{Data}
use Rattle.asm_update.specs.State.{State}
use Rattle.asm_journal.specs.declared.error.JournalError.TheVariants.{NotJson, Shape, Version, Cut, Memory}
use Rattle.asm_journal.specs.Fault.{BreaksLine, BreaksHeader, BreaksEvent, IsRefused}
use Rattle.asm_journal.proofs.Lines.{HasEvents-push}
use Rattle.asm_journal.proofs.OneHistory.{NoFeed}

events_fit : (v agents : ℕ) (text : List ℕ) (es : List Event) (rest : List ℕ)
    → HasEvents v agents text es rest → AllByRecursion (EventFits agents) es
events_fit v agents text [] rest h = tt
events_fit v agents text (e ∷ es) rest h = (h.3.1, events_fit v agents h.1 es rest h.4)

limits_fit : (h : History) → AreLimits h.agents h.capacity (length h.events)
    → AllByRecursion (EventFits h.agents) h.events → IsProper h → Fits h
limits_fit h limits events proper = record {
  agents = limits.0;
  some = limits.1;
  capacity = limits.2;
  few = limits.3;
  events = All-from_recursion (EventFits h.agents) h.events events;
  proper = proper;
}

pub reads_fit : (text : List ℕ) (h : History) → IsProper h → ReadsAs text h → Fits h
reads_fit text h proper p = limits_fit h p.4.6.5 (events_fit p.2 h.agents p.1 h.events [] p.5) proper

-- a history that was read, and that a program can hold
pub fitting : (text : List ℕ) (r : Result History JournalError) → IfOk r (ReadsAs text) → IfOk r IsProper → IfOk r Fits
fitting text (Ok h) reads proper = reads_fit text h proper reads
fitting text (Err e) reads proper = tt

-- ---- lines

-- the text has a line feed, and so a first line that ends, or it has none
abbrev FirstLine : List ℕ → Type 0
FirstLine text =
    ((body : List ℕ) × (rest : List ℕ) × (text ≡ body ++ 10 ∷ rest) × NoFeed body) ⊎ NoFeed text

first_line : (text : List ℕ) → FirstLine text
first_line [] = inr tt
first_line (b ∷ bs) = by_byte (cases_eq b 10) (first_line bs) where
  by_byte : (b ≡ 10) ⊎ (b ≡ 10 → ⊥) → FirstLine bs → FirstLine (b ∷ bs)
  by_byte (inl is) more = inl ([], bs, ap (λ x. x ∷ bs) is, tt)
  by_byte (inr other) (inl line) = inl (b ∷ line.0, line.1, ap (λ t. b ∷ t) line.2, (other, line.3))
  by_byte (inr other) (inr none) = inr (other, none)

no_feed : (text : List ℕ) → NoFeed text → HasNoLineFeed text
no_feed text h = All-from_recursion (λ b. b ≢ 10) text h

cut_alone : Cut ≢ Memory
cut_alone e = cc

not_json_alone : (k : ℕ) → NotJson k ≢ Memory
not_json_alone k e = cc

shape_alone : (k : ℕ) → Shape k ≢ Memory
shape_alone k e = cc

version_alone : Version ≢ Memory
version_alone e = cc

-- where line k isn't at fault, it is JSON and has its line feed
line_sound : (k : ℕ) (text : List ℕ) → ((e : JournalError) → e ≢ Memory → BreaksLine k text e → ⊥)
    → ((d : Data) (rest : List ℕ) → HasLine text d rest → ⊥) → ⊥
line_sound k [] sound go = sound Cut cut_alone (inl refl)
line_sound k (b ∷ bs) sound go = by_line (first_line (b ∷ bs)) where
  some : b ∷ bs ≢ []
  some e = cc

  by_line : FirstLine (b ∷ bs) → ⊥
  by_line (inl line) =
      let ends : EndsLine (b ∷ bs) line.0 line.1 = (line.2, no_feed line.0 line.3) in
      sound (NotJson k) (not_json_alone k)
      (refl, some, (line.0, inl (line.1, ends), λ d json. go d line.1 (line.0, ends, json)))
  by_line (inr none) =
      let open_line = no_feed (b ∷ bs) none in
      sound (NotJson k) (not_json_alone k)
      (refl, some, (b ∷ bs, inr (refl, open_line), λ d json. sound Cut cut_alone (inr (open_line, some, (d, json)))))

-- ---- a fault of a line is one of the header's, or of an event's

header_fault : (text : List ℕ) (e : JournalError) → BreaksLine 1 text e → BreaksHeader text e
header_fault text Cut b = b
header_fault text (NotJson n) b = b
header_fault text (Shape n) b = absurd b
header_fault text Version b = absurd b
header_fault text Memory b = b

event_fault : (v agents k : ℕ) (text : List ℕ) (e : JournalError) → BreaksLine k text e → BreaksEvent v agents k text e
event_fault v agents k text Cut b = b
event_fault v agents k text (NotJson n) b = b
event_fault v agents k text (Shape n) b = absurd b
event_fault v agents k text Version b = absurd b
event_fault v agents k text Memory b = b

-- ---- the whole text

abbrev Faultless : List ℕ → Type 0
Faultless text = (e : JournalError) → e ≢ Memory → IsRefused text e → ⊥

-- behind a header and some events, so many events are still to come
rest_sound : (text : List ℕ) (d : Data) (rest : List ℕ) (v agents capacity count : ℕ) (init : State)
    → HasLine text d rest → IsHeader v agents capacity count init d
    → ((h : History) → ReadsAs text h → ⊥) → Faultless text
    → (n : ℕ) (es : List Event) (left : List ℕ) → HasEvents v agents rest es left → length es + n ≡ count → ⊥
rest_sound text d rest v agents capacity count init line header none faultless zero es [] has all =
    let counted : count ≡ length es = omega arith in
    none (record { init = init; capacity = capacity; agents = agents; events = es })
    (d, rest, v, line, subst (λ c. IsHeader v agents capacity c init d) counted header, has)
rest_sound text d rest v agents capacity count init line header none faultless zero es (b ∷ bs) has all =
    let some : b ∷ bs ≢ [] = λ e. cc in
    let counted : length es ≡ count = omega arith in
    faultless (Shape (count + 2)) (shape_alone (count + 2))
    (inr (d, rest, v, agents, capacity, count, init, line, header, es, b ∷ bs, has, inr (counted, some, refl)))
rest_sound text d rest v agents capacity count init line header none faultless (suc n) es left has all =
    let few : length es < count = omega arith in
    line_sound (length es + 2) left
    (λ e other b. faultless e other
    (inr (
      d,
      rest,
      v,
      agents,
      capacity,
      count,
      init,
      line,
      header,
      es,
      left,
      has,
      inl (few, event_fault v agents (length es + 2) left e b),
    )))
    (λ c after l. faultless (Shape (length es + 2)) (shape_alone (length es + 2))
    (inr (
      d,
      rest,
      v,
      agents,
      capacity,
      count,
      init,
      line,
      header,
      es,
      left,
      has,
      inl (
        few,
        (
          refl,
          (
            c,
            after,
            l,
            λ e below.
                rest_sound text d rest v agents capacity count init line header none faultless n (es ++ e ∷ []) after
                (HasEvents-push v agents rest es left c e after has l below)
                (one_less (length es) n count _ (length_push es e) all),
          ),
        ),
      ),
    )))
  where
    one_less : (m n count k : ℕ) → k ≡ m + 1 → m + suc n ≡ count → k + n ≡ count
    one_less m n count k e all = omega arith

all_left : (n : ℕ) → 0 + n ≡ n
all_left n = omega arith

pub some_fault : (text : List ℕ) → ((h : History) → ReadsAs text h → ⊥) → Faultless text → ⊥
some_fault text none faultless = line_sound 1 text
    (λ e other b. faultless e other (inl (header_fault text e b)))
    (λ d rest line. faultless (Shape 1) (shape_alone 1) (inl (
      refl,
      (
        d,
        rest,
        line,
        λ version. faultless Version version_alone (inl (d, rest, line, version)),
        λ v agents capacity count init header.
            rest_sound text d rest v agents capacity count init line header none faultless count [] rest refl (all_left count),
      ),
    )))
