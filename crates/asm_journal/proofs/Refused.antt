-- A text that is refused reads as no history, and has only one first fault.
use Rattle.std.proofs.Common.{◌≡◌, ◌≢◌, ◌<◌, ◌+◌, ◌⊎◌, ℕ, List, [], ◌∷◌, ◌++◌, length, Result, Ok, Err, refl, sym}
use Rattle.std.proofs.Common.{ap, subst, ◌∙◌, inl, inr, arith}
use Rattle.std.specs.Prelude.{IfOk, IfErr}
use Rattle.std.proofs.lemmas.Bool.{cases_lt}
use Rattle.std.proofs.lemmas.List.Elements.{recursion_from_All}
use Rattle.serde_json.specs.Data.{Data, unsigned}
use Rattle.asm_update.specs.State.{State}
use Rattle.asm_storage.specs.declared.history.Event.{Event}
use Rattle.asm_storage.specs.declared.history.History.{History}
use Rattle.asm_journal.specs.declared.error.JournalError.{JournalError}
use Rattle.asm_journal.specs.declared.error.JournalError.TheVariants.{NotJson, Shape, Version, Cut, Memory}
use Rattle.asm_journal.specs.Event.{IsEventBelow}
use Rattle.asm_journal.specs.Shape.{IsVersion, number_json_of}
use Rattle.asm_journal.specs.Text.{header_with}
use Rattle.asm_journal.specs.Reading.{HasNoLineFeed, BeginsWithLine, HasLine, IsJson, IsHeader, HasEvents, ReadsAs}
use Rattle.asm_journal.specs.Fault.{HasOtherVersion, BreaksLine, BreaksHeader, BreaksEvent, IsRefused, GivesHistory}
use Rattle.asm_journal.proofs.OneHistory.{NoFeed, same_split, line_once, header_once, history_once}

no_feed_inside : (a r : List ℕ) → NoFeed (a ++ 10 ∷ r) → ⊥
no_feed_inside [] r h = h.0 refl
no_feed_inside (x ∷ a) r h = no_feed_inside a r h.1

some_byte : (a r : List ℕ) → a ++ 10 ∷ r ≡ [] → ⊥
some_byte [] r e = cc
some_byte (x ∷ a) r e = cc

-- a text with a line feed has a line that ends
ended : (text : List ℕ) (d : Data) (r : List ℕ) → HasLine text d r → HasNoLineFeed text → ⊥
ended text d r h none = no_feed_inside h.0 r (subst NoFeed h.1.0 (recursion_from_All (λ b. b ≢ 10) text none))

-- a line that is JSON doesn't break
not_broken : (k : ℕ) (text : List ℕ) (d : Data) (r : List ℕ) (e : JournalError) → HasLine text d r → e ≢ Memory
    → BreaksLine k text e → ⊥
not_broken k text d r Cut h other (inl none) = some_byte h.0 r (sym h.1.0 ∙ none)
not_broken k text d r Cut h other (inr open_line) = ended text d r h open_line.0
not_broken k text d r (NotJson n) h other b = not_json b.2.1
  where
    not_json : BeginsWithLine text b.2.0 → ⊥
    not_json (inl rest) =
        let first = recursion_from_All (λ x. x ≢ 10) h.0 h.1.1 in
        let second = recursion_from_All (λ x. x ≢ 10) b.2.0 rest.1.1 in
        let same = same_split h.0 b.2.0 r rest.0 first second (sym h.1.0 ∙ rest.1.0) in
        b.2.2 d (subst (λ x. IsJson x d) same.0 h.2)
    not_json (inr whole) = ended text d r h whole.1
not_broken k text d r (Shape n) h other b = b
not_broken k text d r Version h other b = b
not_broken k text d r Memory h other b = other refl

-- a version that is read is no other one
known_version : (a c n i version : Data) (v : ℕ) → version ≡ number_json_of v → IsVersion v
    → HasOtherVersion (header_with a c n i version) → ⊥
known_version a c n i version v is (inl one) h = let same : h.0 ≡ unsigned v = cc in h.3 (same ∙ ap unsigned one)
known_version a c n i version v is (inr two) h = let same : h.0 ≡ unsigned v = cc in h.4 (same ∙ ap unsigned two)

-- a header that stands has no fault
pub header_stands : (text : List ℕ) (d : Data) (rest : List ℕ) (v agents capacity count : ℕ) (init : State) (e : JournalError)
    → e ≢ Memory → HasLine text d rest → IsHeader v agents capacity count init d → BreaksHeader text e → ⊥
header_stands text d rest v agents capacity count init Cut other line header b =
    not_broken 1 text d rest Cut line other b
header_stands text d rest v agents capacity count init (NotJson n) other line header b =
    not_broken 1 text d rest (NotJson n) line other b
header_stands text d rest v agents capacity count init Version other line header b =
    let same = line_once text b.0 d b.1 rest b.2 line in
    known_version header.0 header.1 header.2 header.3 header.4 v header.6.3 header.6.4
    (subst HasOtherVersion (same.0 ∙ header.5) b.3)
header_stands text d rest v agents capacity count init (Shape n) other line header b =
    let same = line_once text b.1.0 d b.1.1 rest b.1.2 line in
    b.1.4 _ _ _ _ _ (subst (IsHeader v agents capacity count init) (sym same.0) header)
header_stands text d rest v agents capacity count init Memory other line header b = other refl

pub event_stands : (v agents k : ℕ) (text : List ℕ) (x : Event) (d : Data) (r : List ℕ) (e : JournalError) → e ≢ Memory
    → HasLine text d r → IsEventBelow v agents x d → BreaksEvent v agents k text e → ⊥
event_stands v agents k text x d r Cut other h is b = not_broken k text d r Cut h other b
event_stands v agents k text x d r (NotJson n) other h is b = not_broken k text d r (NotJson n) h other b
event_stands v agents k text x d r Version other h is b = b
event_stands v agents k text x d r (Shape n) other h is b =
    let same = line_once text b.1.0 d b.1.1 r b.1.2 h in
    b.1.3 x (subst (IsEventBelow v agents x) (sym same.0) is)
event_stands v agents k text x d r Memory other h is b = other refl

-- the event that stands behind fewer ones
pub next_event : (v agents : ℕ) (text : List ℕ) (es fs : List Event) (left end : List ℕ) → HasEvents v agents text es left
    → HasEvents v agents text fs end → length es < length fs
    → (x : Event) × (d : Data) × (r : List ℕ) × HasLine left d r × IsEventBelow v agents x d
next_event v agents text es [] left end h k less = absurd (omega arith)
next_event v agents text [] (f ∷ fs) left end h k less = (f, k.0, k.1, subst (λ t. HasLine t k.0 k.1) h k.2, k.3)
next_event v agents text (e ∷ es) (f ∷ fs) left end h k less =
    let same = line_once text k.0 h.0 k.1 h.1 k.2 h.2 in
    next_event v agents h.1 es fs left end h.4 (subst (λ t. HasEvents v agents t fs end) same.1 k.4) (omega arith)

pub same_left : (v agents : ℕ) (text : List ℕ) (es fs : List Event) (left end : List ℕ) → HasEvents v agents text es left
    → HasEvents v agents text fs end → length es ≡ length fs → left ≡ end
same_left v agents text [] [] left end h k same = sym h ∙ k
same_left v agents text [] (f ∷ fs) left end h k same = absurd (omega arith)
same_left v agents text (e ∷ es) [] left end h k same = absurd (omega arith)
same_left v agents text (e ∷ es) (f ∷ fs) left end h k same =
    let line = line_once text k.0 h.0 k.1 h.1 k.2 h.2 in
    same_left v agents h.1 es fs left end h.4 (subst (λ t. HasEvents v agents t fs end) line.1 k.4) (omega arith)

pub not_both : (text : List ℕ) (h : History) (e : JournalError) → e ≢ Memory → IsRefused text e → ReadsAs text h → ⊥
not_both text h e other (inl b) p = header_stands text p.0 p.1 _ _ _ _ _ e other p.3 p.4 b
not_both text h e other (inr b) p =
    let same = line_once text b.0 p.0 b.1 p.1 b.7 p.3 in
    let parts = header_once _ _ _ _ _ _ _ _ b.6 h.init p.0 (subst (IsHeader b.2 b.3 b.4 b.5 b.6) same.0 b.8) p.4 in
    let agents = parts.0 in
    let events = parts.2 in
    let version = parts.4 in
    let read = subst (λ t. HasEvents p.2 h.agents t h.events []) (sym same.1) p.5 in
    let found = subst (λ w. HasEvents w h.agents b.1 b.9 b.10) version
    (subst (λ a. HasEvents b.2 a b.1 b.9 b.10) agents b.11) in
    elim b.12 [
      | inl less ↦
          let next = next_event p.2 h.agents b.1 b.9 h.events b.10 [] found read (omega (arith, less.0, events)) in
          let broken = subst (λ w. BreaksEvent w h.agents (length b.9 + 2) b.10 e) version
          (subst (λ a. BreaksEvent b.2 a (length b.9 + 2) b.10 e) agents less.1) in
          event_stands p.2 h.agents (length b.9 + 2) b.10 next.0 next.1 next.2 e other next.3 next.4 broken
      | inr over ↦ over.1 (same_left p.2 h.agents b.1 b.9 h.events b.10 [] found read (over.0 ∙ events))
    ]

-- a text that reads as a history is answered with it, unless memory is refused
pub answered : (text : List ℕ) (r : Result History JournalError) → IfOk r (ReadsAs text) → IfErr r (IsRefused text)
    → (h : History) → ReadsAs text h → GivesHistory h r
answered text (Ok g) ok err h p = history_once text g h ok p
answered text (Err Cut) ok err h p = absurd (not_both text h Cut (λ e. cc) err p)
answered text (Err (NotJson n)) ok err h p = absurd (not_both text h (NotJson n) (λ e. cc) err p)
answered text (Err (Shape n)) ok err h p = absurd (not_both text h (Shape n) (λ e. cc) err p)
answered text (Err Version) ok err h p = absurd (not_both text h Version (λ e. cc) err p)
answered text (Err Memory) ok err h p = refl

-- ---- one first fault

open_line_or_json : (text : List ℕ) → HasNoLineFeed text → ((d : Data) × IsJson text d)
    → ((body : List ℕ) × BeginsWithLine text body × ((d : Data) → IsJson body d → ⊥)) → ⊥
open_line_or_json text none json (body, begins, no_json) = by_line begins where
  by_line : BeginsWithLine text body → ⊥
  by_line (inl rest) = no_feed_inside body rest.0 (subst NoFeed rest.1.0 (recursion_from_All (λ b. b ≢ 10) text none))
  by_line (inr whole) = no_json json.0 (subst (λ t. IsJson t json.0) (sym whole.0) json.1)

one_line_fault : (k : ℕ) (text : List ℕ) (e f : JournalError) → e ≢ Memory → f ≢ Memory → BreaksLine k text e
    → BreaksLine k text f → e ≡ f
one_line_fault k text Cut Cut p q b c = refl
one_line_fault k text Cut (NotJson n) p q (inl none) c = absurd (c.1 none)
one_line_fault k text Cut (NotJson n) p q (inr cut) c = absurd (open_line_or_json text cut.0 cut.2 c.2)
one_line_fault k text (NotJson n) Cut p q b (inl none) = absurd (b.1 none)
one_line_fault k text (NotJson n) Cut p q b (inr cut) = absurd (open_line_or_json text cut.0 cut.2 b.2)
one_line_fault k text (NotJson n) (NotJson m) p q b c = ap NotJson (b.0 ∙ sym c.0)
one_line_fault k text (Shape n) f p q b c = absurd b
one_line_fault k text Version f p q b c = absurd b
one_line_fault k text Memory f p q b c = absurd (p refl)
one_line_fault k text e (Shape n) p q b c = absurd c
one_line_fault k text e Version p q b c = absurd c
one_line_fault k text e Memory p q b c = absurd (q refl)

-- a line that is whole has no fault of a line
pub one_header_fault : (text : List ℕ) (e f : JournalError) → e ≢ Memory → f ≢ Memory → BreaksHeader text e
    → BreaksHeader text f → e ≡ f
one_header_fault text Version Version p q b c = refl
one_header_fault text Version (Shape m) p q b c =
    let same = line_once text b.0 c.1.0 b.1 c.1.1 b.2 c.1.2 in
    absurd (c.1.3 (subst HasOtherVersion same.0 b.3))
one_header_fault text Version Cut p q b c = absurd (not_broken 1 text b.0 b.1 Cut b.2 q c)
one_header_fault text Version (NotJson m) p q b c = absurd (not_broken 1 text b.0 b.1 (NotJson m) b.2 q c)
one_header_fault text (Shape n) Version p q b c =
    let same = line_once text c.0 b.1.0 c.1 b.1.1 c.2 b.1.2 in
    absurd (b.1.3 (subst HasOtherVersion same.0 c.3))
one_header_fault text (Shape n) (Shape m) p q b c = ap Shape (b.0 ∙ sym c.0)
one_header_fault text (Shape n) Cut p q b c = absurd (not_broken 1 text b.1.0 b.1.1 Cut b.1.2 q c)
one_header_fault text (Shape n) (NotJson m) p q b c = absurd (not_broken 1 text b.1.0 b.1.1 (NotJson m) b.1.2 q c)
one_header_fault text Cut Version p q b c = absurd (not_broken 1 text c.0 c.1 Cut c.2 p b)
one_header_fault text Cut (Shape m) p q b c = absurd (not_broken 1 text c.1.0 c.1.1 Cut c.1.2 p b)
one_header_fault text (NotJson n) Version p q b c = absurd (not_broken 1 text c.0 c.1 (NotJson n) c.2 p b)
one_header_fault text (NotJson n) (Shape m) p q b c = absurd (not_broken 1 text c.1.0 c.1.1 (NotJson n) c.1.2 p b)
one_header_fault text Cut Cut p q b c = refl
one_header_fault text Cut (NotJson m) p q b c = one_line_fault 1 text Cut (NotJson m) p q b c
one_header_fault text (NotJson n) Cut p q b c = one_line_fault 1 text (NotJson n) Cut p q b c
one_header_fault text (NotJson n) (NotJson m) p q b c = one_line_fault 1 text (NotJson n) (NotJson m) p q b c
one_header_fault text Memory f p q b c = absurd (p refl)
one_header_fault text Version Memory p q b c = absurd (q refl)
one_header_fault text (Shape n) Memory p q b c = absurd (q refl)
one_header_fault text Cut Memory p q b c = absurd (q refl)
one_header_fault text (NotJson n) Memory p q b c = absurd (q refl)

one_event_fault : (v agents k : ℕ) (text : List ℕ) (e f : JournalError) → e ≢ Memory → f ≢ Memory
    → BreaksEvent v agents k text e → BreaksEvent v agents k text f → e ≡ f
one_event_fault v agents k text (Shape n) (Shape m) p q b c = ap Shape (b.0 ∙ sym c.0)
one_event_fault v agents k text (Shape n) Cut p q b c = absurd (not_broken k text b.1.0 b.1.1 Cut b.1.2 q c)
one_event_fault v agents k text (Shape n) (NotJson m) p q b c =
    absurd (not_broken k text b.1.0 b.1.1 (NotJson m) b.1.2 q c)
one_event_fault v agents k text Cut (Shape m) p q b c = absurd (not_broken k text c.1.0 c.1.1 Cut c.1.2 p b)
one_event_fault v agents k text (NotJson n) (Shape m) p q b c =
    absurd (not_broken k text c.1.0 c.1.1 (NotJson n) c.1.2 p b)
one_event_fault v agents k text Cut Cut p q b c = refl
one_event_fault v agents k text Cut (NotJson m) p q b c = one_line_fault k text Cut (NotJson m) p q b c
one_event_fault v agents k text (NotJson n) Cut p q b c = one_line_fault k text (NotJson n) Cut p q b c
one_event_fault v agents k text (NotJson n) (NotJson m) p q b c = one_line_fault k text (NotJson n) (NotJson m) p q b c
one_event_fault v agents k text Version f p q b c = absurd b
one_event_fault v agents k text Memory f p q b c = absurd (p refl)
one_event_fault v agents k text (Shape n) Version p q b c = absurd c
one_event_fault v agents k text (Shape n) Memory p q b c = absurd (q refl)
one_event_fault v agents k text Cut Version p q b c = absurd c
one_event_fault v agents k text Cut Memory p q b c = absurd (q refl)
one_event_fault v agents k text (NotJson n) Version p q b c = absurd c
one_event_fault v agents k text (NotJson n) Memory p q b c = absurd (q refl)

-- behind these events the next line is at fault, or all events are there and a byte is left
abbrev pub StopsBehind : ℕ → ℕ → ℕ → List Event → List ℕ → JournalError → Type 0
StopsBehind v agents count es left e =
    ((length es < count) × BreaksEvent v agents (length es + 2) left e)
    ⊎ ((length es ≡ count) × (left ≢ []) × (e ≡ Shape (count + 2)))

-- two first faults behind one header have the same events before them
pub one_behind : (v agents count : ℕ) (text : List ℕ) (e f : JournalError) (es fs : List Event) (left end : List ℕ)
    → e ≢ Memory → f ≢ Memory
    → HasEvents v agents text es left → HasEvents v agents text fs end
    → StopsBehind v agents count es left e → StopsBehind v agents count fs end f → e ≡ f
one_behind v agents count text e f es fs left end p q h k (inl b) (inl c) = elim (cases_lt (length es) (length fs)) [
  | inl less ↦
      let next = next_event v agents text es fs left end h k less in
      absurd (event_stands v agents (length es + 2) left next.0 next.1 next.2 e p next.3 next.4 b.1)
  | inr past ↦ elim (cases_lt (length fs) (length es)) [
    | inl less ↦
        let next = next_event v agents text fs es end left k h less in
        absurd (event_stands v agents (length fs + 2) end next.0 next.1 next.2 f q next.3 next.4 c.1)
    | inr other ↦
        let same : length es ≡ length fs = omega (arith, past, other) in
        let left_same = same_left v agents text es fs left end h k same in
        let here = subst (λ t. BreaksEvent v agents (length es + 2) t e) left_same b.1 in
        one_event_fault v agents (length fs + 2) end e f p q (subst (λ n. BreaksEvent v agents (n + 2) end e) same here) c.1
  ]
]
one_behind v agents count text e f es fs left end p q h k (inl b) (inr c) =
    let next = next_event v agents text es fs left end h k (omega (arith, b.0, c.0)) in
    absurd (event_stands v agents (length es + 2) left next.0 next.1 next.2 e p next.3 next.4 b.1)
one_behind v agents count text e f es fs left end p q h k (inr b) (inl c) =
    let next = next_event v agents text fs es end left k h (omega (arith, b.0, c.0)) in
    absurd (event_stands v agents (length fs + 2) end next.0 next.1 next.2 f q next.3 next.4 c.1)
one_behind v agents count text e f es fs left end p q h k (inr b) (inr c) = b.2 ∙ sym c.2

pub one_fault : (text : List ℕ) (e f : JournalError) → e ≢ Memory → f ≢ Memory → IsRefused text e → IsRefused text f
    → e ≡ f
one_fault text e f p q (inl b) (inl c) = one_header_fault text e f p q b c
one_fault text e f p q (inl b) (inr c) = absurd (header_stands text c.0 c.1 _ _ _ _ _ e p c.7 c.8 b)
one_fault text e f p q (inr b) (inl c) = absurd (header_stands text b.0 b.1 _ _ _ _ _ f q b.7 b.8 c)
one_fault text e f p q (inr b) (inr c) =
    let same = line_once text c.0 b.0 c.1 b.1 c.7 b.7 in
    let parts = header_once _ _ _ _ _ _ _ _ c.6 b.6 b.0 (subst (IsHeader c.2 c.3 c.4 c.5 c.6) same.0 c.8) b.8 in
    let known = subst (λ a. HasEvents c.2 a c.1 c.9 c.10) parts.0 c.11 in
    let here = subst (λ t. HasEvents c.2 b.3 t c.9 c.10) same.1 known in
    let found = subst (λ w. HasEvents w b.3 b.1 c.9 c.10) parts.4 here in
    let agents = subst (λ a. StopsBehind c.2 a c.5 c.9 c.10 f) parts.0 c.12 in
    let version = subst (λ w. StopsBehind w b.3 c.5 c.9 c.10 f) parts.4 agents in
    let stops = subst (λ n. StopsBehind b.2 b.3 n c.9 c.10 f) parts.2 version in
    one_behind b.2 b.3 b.5 b.1 e f b.9 c.9 b.10 c.10 p q b.11 found b.12 stops
