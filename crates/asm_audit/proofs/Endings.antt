-- How the events of a journal end: they are complete, or a line is at fault, or an answer is wrong.
use Rattle.std.proofs.Common.{◌≡◌, ◌≢◌, ◌<◌, ◌+◌, ◌≤◌, ◌⊎◌, ℕ, List, [], ◌∷◌, ◌++◌, length, Option, Some, None, Result, Ok, Err, refl, sym, ap, subst, ◌∙◌, inl, inr, append-nil, length-append, arith}
use Rattle.std.proofs.lemmas.Bool.{cases_lt}
use Rattle.asm_update.specs.Fire.{Part}
use Rattle.asm_update.specs.State.{State}
use Rattle.asm_storage.specs.declared.history.Event.{Event}
use Rattle.asm_storage.specs.declared.history.History.{History}
use Rattle.asm_storage.specs.History.{IsLegal}
use Rattle.asm_storage.specs.Machine.{Machine}
use Rattle.asm_journal.specs.declared.error.JournalError.{JournalError}
use Rattle.asm_journal.specs.declared.error.JournalError.TheVariants as journal_error
use Rattle.asm_journal.specs.Check.{machine, machine_of, IsFirstWrong}
use Rattle.asm_journal.specs.Fault.{BreaksEvent}
use Rattle.asm_journal.specs.Reading.{IsHeader, HasEvents}
use Rattle.asm_journal.proofs.OneHistory.{line_once, header_once}
use Rattle.asm_journal.proofs.Refused.{event_stands, next_event, same_left, one_behind}
use Rattle.asm_audit.specs.Text.{IsBegun, HasJournal}
use Rattle.asm_audit.proofs.OneJournal.{events_begin, wrong_more}

-- ---- the end of a journal's events: they are complete, or a line is at fault, or one is wrong

abbrev pub Ending : Type 0
Ending = Option (Result ℕ JournalError)

abbrev pub Ends : Machine → ℕ → ℕ → ℕ → List Event → List ℕ → Ending → Type 0
Ends m v agents count es left None = (length es ≡ count) × IsLegal m es
Ends m v agents count es left (Some (Ok c)) = (length es ≤ count) × IsFirstWrong m es c
Ends m v agents count es left (Some (Err e)) =
    (length es < count) × IsLegal m es × (e ≢ journal_error.Memory) × BreaksEvent v agents (length es + 2) left e

pub legal_or_wrong : (m : Machine) (es : List Event) (c : ℕ) → IsLegal m es → IsFirstWrong m es c → ⊥
legal_or_wrong m es c legal w = w.wrong (legal w.before w.after w.event w.stands)

-- what comes before the later one is legal
earlier_wrong : (m : Machine) (es : List Event) (c d : ℕ) → IsFirstWrong m es c → IsFirstWrong m es d → c < d → ⊥
earlier_wrong m es c d w x less =
    let parts = prefix w.before w.event w.after x.before x.event x.after (w.stands ∙ sym x.stands)
    (two_lengths (length w.before) (length x.before) c d w.counted x.counted less) in
    w.wrong (x.legal w.before parts.0 w.event parts.1)
  where
    two_lengths : (a b c d : ℕ) → a ≡ c → b ≡ d → c < d → a < b
    two_lengths a b c d e f h = omega arith

    prefix : (xs : List Event) (e : Event) (ys zs : List Event) (f : Event) (ws : List Event) → xs ++ e ∷ ys ≡ zs ++ f ∷ ws →
        length xs < length zs → (more : List Event) × (xs ++ e ∷ more ≡ zs)
    prefix xs e ys [] f ws same less = absurd (omega (arith, less))
    prefix [] e ys (z ∷ zs) f ws same less = (zs, let first : e ≡ z = cc in ap (λ (x : Event). x ∷ zs) first)
    prefix (x ∷ xs) e ys (z ∷ zs) f ws same less =
        let first : x ≡ z = cc in
        let rest : xs ++ e ∷ ys ≡ zs ++ f ∷ ws = cc in
        let more = prefix xs e ys zs f ws rest (omega (arith, less)) in
        (more.0, ap (λ (y : Event). y ∷ (xs ++ e ∷ more.0)) first ∙ ap (λ (l : List Event). z ∷ l) more.1)

wrong_once : (m : Machine) (es : List Event) (c d : ℕ) → IsFirstWrong m es c → IsFirstWrong m es d → c ≡ d
wrong_once m es c d w x = by_order (cases_lt c d) (cases_lt d c) where
  by_order : (c < d) ⊎ (d ≤ c) → (d < c) ⊎ (c ≤ d) → c ≡ d
  by_order (inl less) _ = absurd (earlier_wrong m es c d w x less)
  by_order (inr h) (inl less) = absurd (earlier_wrong m es d c x w less)
  by_order (inr h) (inr k) = omega arith

module _ (m : Machine) (v agents count : ℕ) (text : List ℕ) where
  -- a line at fault after legal events, and events that continue there
  broken_or_more : (es fs : List Event) (left end : List ℕ) (e : JournalError) → HasEvents v agents text es left →
      HasEvents v agents text fs end → e ≢ journal_error.Memory → BreaksEvent v agents (length es + 2) left e →
      length es < length fs → ⊥
  broken_or_more es fs left end e h k other breaks less =
      let next = next_event v agents text es fs left end h k less in
      event_stands v agents (length es + 2) left next.0 next.1 next.2 e other next.3 next.4 breaks

  wrong_or_legal : (es fs : List Event) (left end : List ℕ) (c : ℕ) → HasEvents v agents text es left →
      HasEvents v agents text fs end → length es ≤ length fs → IsFirstWrong m es c → IsLegal m fs → ⊥
  wrong_or_legal es fs left end c h k less wrong legal =
      let more = events_begin v agents text es fs left end h k less in
      legal_or_wrong m fs c legal (subst (λ (xs : List Event). IsFirstWrong m xs c) (sym more.1) (wrong_more m es more.0 c wrong))

  wrong_or_broken : (es fs : List Event) (left end : List ℕ) (c : ℕ) (e : JournalError) → HasEvents v agents text es left →
      HasEvents v agents text fs end → Ends m v agents count es left (Some (Ok c)) →
      Ends m v agents count fs end (Some (Err e)) → ⊥
  wrong_or_broken es fs left end c e h k x y = by_order (cases_lt (length fs) (length es)) where
    by_order : (length fs < length es) ⊎ (length es ≤ length fs) → ⊥
    by_order (inl less) = broken_or_more fs es end left e k h y.2 y.3 less
    by_order (inr less) = wrong_or_legal es fs left end c h k less x.1 y.1

  two_wrong : (es fs : List Event) (left end : List ℕ) (c d : ℕ) → HasEvents v agents text es left →
      HasEvents v agents text fs end → length es ≤ length fs → IsFirstWrong m es c → IsFirstWrong m fs d → c ≡ d
  two_wrong es fs left end c d h k less w x =
      let more = events_begin v agents text es fs left end h k less in
      wrong_once m fs c d (subst (λ (xs : List Event). IsFirstWrong m xs c) (sym more.1) (wrong_more m es more.0 c w)) x

  one_wrong : (es fs : List Event) (left end : List ℕ) (c d : ℕ) → HasEvents v agents text es left →
      HasEvents v agents text fs end → IsFirstWrong m es c → IsFirstWrong m fs d → c ≡ d
  one_wrong es fs left end c d h k w x = by_order (cases_lt (length es) (length fs)) where
    by_order : (length es < length fs) ⊎ (length fs ≤ length es) → c ≡ d
    by_order (inl less) = two_wrong es fs left end c d h k (omega (arith, less)) w x
    by_order (inr less) = sym (two_wrong fs es end left d c k h less x w)

  ends_once : (es fs : List Event) (left end : List ℕ) (x y : Ending) → HasEvents v agents text es left →
      HasEvents v agents text fs end → Ends m v agents count es left x → Ends m v agents count fs end y → x ≡ y
  ends_once es fs left end None None h k p q = refl
  ends_once es fs left end None (Some (Ok c)) h k p q =
      absurd (wrong_or_legal fs es end left c k h (subst (λ (n : ℕ). length fs ≤ n) (sym p.0) q.0) q.1 p.1)
  ends_once es fs left end None (Some (Err e)) h k p q =
      absurd (broken_or_more fs es end left e k h q.2 q.3 (subst (λ (n : ℕ). length fs < n) (sym p.0) q.0))
  ends_once es fs left end (Some (Ok c)) None h k p q =
      absurd (wrong_or_legal es fs left end c h k (subst (λ (n : ℕ). length es ≤ n) (sym q.0) p.0) p.1 q.1)
  ends_once es fs left end (Some (Err e)) None h k p q =
      absurd (broken_or_more es fs left end e h k p.2 p.3 (subst (λ (n : ℕ). length es < n) (sym q.0) p.0))
  ends_once es fs left end (Some (Ok c)) (Some (Err e)) h k p q = absurd (wrong_or_broken es fs left end c e h k p q)
  ends_once es fs left end (Some (Err e)) (Some (Ok c)) h k p q = absurd (wrong_or_broken fs es end left c e k h q p)
  ends_once es fs left end (Some (Err e)) (Some (Err f)) h k p q =
      let same = one_behind v agents count text e f es fs left end p.2 q.2 h k (inl (p.0, p.3)) (inl (q.0, q.3)) in
      cc
  ends_once es fs left end (Some (Ok c)) (Some (Ok d)) h k p q =
      let same = one_wrong es fs left end c d h k p.1 q.1 in
      cc

-- ---- a journal that has begun

-- the text has a header, the history's events after it, and then this end
pub record Begins (part : Part) (h : History) (text : List ℕ) (x : Ending) : Type 0 where
  pub v : ℕ
  pub count : ℕ
  pub rest : List ℕ
  pub begun : IsBegun v count h text rest
  pub ends : Ends (machine_of part h) v h.agents count h.events rest x

abbrev pub history : State → ℕ → ℕ → List Event → History
history A c a es = record { init = A; capacity = c; agents = a; events = es }

-- two have the same header
pub same_opening : (text : List ℕ) (v w count total : ℕ) (g h : History) (r s : List ℕ) → IsBegun v count g text r →
    IsBegun w total h text s → g.init ≡ h.init
same_opening text v w count total g h r s b c =
    let line = line_once text b.value c.value b.behind c.behind b.line c.line in
    (header_once _ _ _ _ _ _ _ _ g.init h.init c.value (subst (IsHeader v g.agents g.capacity count g.init) line.0 b.header) c.header).3

pub same_end : (part : Part) (text : List ℕ) (g h : History) (x y : Ending) → Begins part g text x → Begins part h text y → x ≡ y
same_end part text g h x y b c =
    let line = line_once text b.begun.value c.begun.value b.begun.behind c.begun.behind b.begun.line c.begun.line in
    let parts = header_once _ _ _ _ _ _ _ _ g.init h.init c.begun.value (subst (IsHeader b.v g.agents g.capacity b.count g.init) line.0 b.begun.header) c.begun.header in
    let P : State → ℕ → ℕ → ℕ → ℕ → List ℕ → Type 0 = λ A p a n v t. HasEvents v a t g.events b.rest × Ends (machine part A p) v a n g.events b.rest x in
    let first : P g.init g.capacity g.agents b.count b.v b.begun.behind = (b.begun.events, b.ends) in
    let s1 = subst (λ A. P A g.capacity g.agents b.count b.v b.begun.behind) parts.3 first in
    let s2 = subst (λ p. P h.init p g.agents b.count b.v b.begun.behind) parts.1 s1 in
    let s3 = subst (λ a. P h.init h.capacity a b.count b.v b.begun.behind) parts.0 s2 in
    let s4 = subst (λ n. P h.init h.capacity h.agents n b.v b.begun.behind) parts.2 s3 in
    let s5 = subst (λ v. P h.init h.capacity h.agents c.count v b.begun.behind) parts.4 s4 in
    let s6 = subst (λ t. P h.init h.capacity h.agents c.count c.v t) line.1 s5 in
    ends_once (machine_of part h) c.v h.agents c.count c.begun.behind g.events h.events b.rest c.rest x y s6.0 c.begun.events s6.1 c.ends

-- two complete ones are the same
pub same_journal : (text : List ℕ) (g h : History) (r s : List ℕ) → HasJournal g text r → HasJournal h text s → (g ≡ h) × (r ≡ s)
same_journal text g h r s (v, b) (w, c) =
    let line = line_once text b.value c.value b.behind c.behind b.line c.line in
    let parts = header_once _ _ _ _ _ _ _ _ g.init h.init c.value (subst (IsHeader v g.agents g.capacity (length g.events) g.init) line.0 b.header) c.header in
    let here = subst (λ (t : List ℕ). HasEvents v g.agents t g.events r) line.1 b.events in
    let known = subst (λ (a : ℕ). HasEvents v a c.behind g.events r) parts.0 here in
    let found = subst (λ (u : ℕ). HasEvents u h.agents c.behind g.events r) parts.4 known in
    let more = events_begin w h.agents c.behind g.events h.events r s found c.events (omega (arith, parts.2)) in
    let none = no_more g.events more.0 h.events more.1 parts.2 in
    let events : g.events ≡ h.events = sym (ap (λ (xs : List Event). g.events ++ xs) none ∙ append-nil g.events) ∙ sym more.1 in (
      ap (λ A. history A g.capacity g.agents g.events) parts.3 ∙ ap (λ p. history h.init p g.agents g.events) parts.1
          ∙ ap (λ a. history h.init h.capacity a g.events) parts.0 ∙ ap (history h.init h.capacity h.agents) events,
      same_left w h.agents c.behind g.events h.events r s found c.events parts.2,
    )
  where
    no_more : (xs ys zs : List Event) → zs ≡ xs ++ ys → length xs ≡ length zs → ys ≡ []
    no_more xs [] zs e f = refl
    no_more xs (y ∷ ys) zs e f = absurd (omega (arith, ap length e, f, length-append xs (y ∷ ys)))
