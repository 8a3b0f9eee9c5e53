-- What an audit reports of one journal is what the check reports.
use Rattle.std.proofs.Common.{◌≡◌, ◌≢◌, ◌↔◌, ◌+◌, ◌≤◌, ℕ, suc, List, [], ◌∷◌, ◌++◌, length, Option, Some, None, refl, sym, ap, subst, inl, inr, ◌∙◌, append_assoc, length-append, arith}
use Rattle.std.specs.List.{cons_option}
use Rattle.serde_json.specs.Data.{Data}
use Rattle.asm_update.specs.Fire.{Part}
use Rattle.asm_update.specs.Move.{Move}
use Rattle.asm_update.specs.State.{State}
use Rattle.asm_storage.specs.declared.history.Event.{Event}
use Rattle.asm_storage.specs.declared.history.History.{History}
use Rattle.asm_storage.specs.History.{move_of, fired_moves}
use Rattle.asm_storage.specs.Limits.{events_limit}
use Rattle.asm_storage.specs.Machine.{Machine}
use Rattle.asm_journal.specs.Check.{machine, machine_of, IsFirstWrong, IsLegality}
use Rattle.asm_journal.specs.declared.checking.Legality.TheVariants.{Legal, Illegal}
use Rattle.asm_journal.specs.Event.{IsEventForm}
use Rattle.asm_journal.specs.Reading.{IsHeader, HasEvents, ReadsAs}
use Rattle.asm_journal.proofs.Events.{event_once}
use Rattle.asm_journal.proofs.OneHistory.{line_once, header_once}
use Rattle.asm_audit.specs.Text.{IsBegun}
use Rattle.asm_audit.specs.Chain.{HasLegal}
use Rattle.asm_audit.specs.Fault.{counted, BreaksNext, HasWrong, IsFirstIllegal}
use Rattle.asm_journal.specs.declared.error.JournalError.{JournalError}
use Rattle.asm_journal.specs.Fault.{BreaksHeader, IsRefused}
use Rattle.asm_audit.specs.Audited.{AreCounts, IsWhole}
use Rattle.asm_audit.specs.Laws.{OneLegal, OneIllegal, FirstFault}

-- ---- numbers

one_moved : (o : Option Move) (q : List Move) (n : ℕ) → length q ≤ n → length (cons_option o q) ≤ suc n
one_moved None q n h = omega (arith, h)
one_moved (Some M) q n h = omega (arith, h)

fewer_moves : (es : List Event) → length (fired_moves es) ≤ length es
fewer_moves [] = omega arith
fewer_moves (e ∷ es) = one_moved (move_of e) (fired_moves es) (length es) (fewer_moves es)

not_saturated : (n m : ℕ) → n ≤ m → m ≤ events_limit → counted (n + 0) ≡ n
not_saturated n m h few = omega (arith, h, few)

header_few : (v agents capacity count : ℕ) (init : State) (d : Data) → IsHeader v agents capacity count init d →
    count ≤ events_limit
header_few v agents capacity count init d h = h.6.5.3

-- ---- events

pub events_split : (v agents : ℕ) (text : List ℕ) (xs ys : List Event) (rest : List ℕ) →
    HasEvents v agents text (xs ++ ys) rest →
    (mid : List ℕ) × HasEvents v agents text xs mid × HasEvents v agents mid ys rest
events_split v agents text [] ys rest h = (text, refl, h)
events_split v agents text (x ∷ xs) ys rest h =
    let more = events_split v agents h.1 xs ys rest h.4 in
    (more.0, (h.0, h.1, h.2, h.3, more.1), more.2)

-- of two readings of a text the shorter one is the beginning of the longer one
pub events_begin : (v agents : ℕ) (text : List ℕ) (es fs : List Event) (left end : List ℕ) → HasEvents v agents text es left →
    HasEvents v agents text fs end → length es ≤ length fs →
    (more : List Event) × (fs ≡ es ++ more) × HasEvents v agents left more end
events_begin v agents text [] fs left end h k less = (fs, refl, subst (λ (t : List ℕ). HasEvents v agents t fs end) h k)
events_begin v agents text (e ∷ es) [] left end h k less = absurd (omega (arith, less))
events_begin v agents text (e ∷ es) (f ∷ fs) left end h k less =
    let same = line_once text h.0 k.0 h.1 k.1 h.2 k.2 in
    let first : e ≡ f = event_once e f k.0 (subst (IsEventForm e) same.0 h.3.0) k.3.0 in
    let rest = events_begin v agents k.1 es fs left end (subst (λ (t : List ℕ). HasEvents v agents t es left) same.1 h.4) k.4
    (omega (arith, less)) in
    (rest.0, ap (λ (x : Event). x ∷ fs) (sym first) ∙ ap (λ (xs : List Event). e ∷ xs) rest.1, rest.2)

pub wrong_more : (m : Machine) (es more : List Event) (c : ℕ) → IsFirstWrong m es c → IsFirstWrong m (es ++ more) c
wrong_more m es more c w = record {
  before = w.before;
  event = w.event;
  after = w.after ++ more;
  stands = sym (append_assoc w.before (w.event ∷ w.after) more) ∙ ap (λ xs. xs ++ more) w.stands;
  counted = w.counted;
  legal = w.legal;
  wrong = w.wrong;
}

-- ---- legal

module _ (part : Part) (text : List ℕ) (calls moves : ℕ) where
  abbrev Legals : Type 0
  Legals = (h : History) × ReadsAs text h × IsLegality (machine_of part h) h.events (Legal calls moves)

  one_alone : (first : State) (all : List History) → HasLegal part first all text [] → all ≢ [] →
      AreCounts all (record { calls = calls; moves = moves; parts = 1 }) → Legals
  one_alone first [] has some counts = absurd (some refl)
  one_alone first (h ∷ []) has some counts =
      let j = has.journals in
      let b = j.1.1 in
      let few = header_few _ _ _ _ _ _ b.header in (
        h,
        (
          b.value,
          b.behind,
          j.1.0,
          b.line,
          b.header,
          subst (HasEvents j.1.0 h.agents b.behind h.events) j.2 b.events,
        ),
        (
          has.legal.1,
          counts.0 ∙ not_saturated (length h.events) (length h.events) (omega arith) few,
          counts.1 ∙ not_saturated (length (fired_moves h.events)) (length h.events) (fewer_moves h.events) few,
        ),
      )
  one_alone first (h ∷ k ∷ ks) has some counts = absurd (two (length ks) counts.2) where
    two : (n : ℕ) → 1 ≡ counted (suc (suc n)) → ⊥
    two n e = omega (arith, e)

  pub legal_journal : IsWhole part text (record { calls = calls; moves = moves; parts = 1 }) ↔ Legals
  legal_journal = (
    λ w. one_alone w.first w.all w.has w.some w.counts,
    λ r.
        let h = r.0 in
        let p = r.1 in
        let few = header_few _ _ _ _ _ _ p.4 in
        record {
          first = h.init;
          all = h ∷ [];
          has = record {
            journals = ([], (p.2, record { value = p.0; behind = p.1; line = p.3; header = p.4; events = p.5 }), refl);
            legal = (refl, r.2.0, tt);
          };
          some = λ e. cc;
          counts = (
            r.2.1 ∙ sym (not_saturated (length h.events) (length h.events) (omega arith) few),
            r.2.2 ∙ sym (not_saturated (length (fired_moves h.events)) (length h.events) (fewer_moves h.events) few),
            refl,
          );
        },
  )

pub one_legal : OneLegal
one_legal part text calls moves = legal_journal part text calls moves

-- ---- illegal

module _ (part : Part) (text : List ℕ) (h : History) (c : ℕ) (p : ReadsAs text h) where
  wrong_alone : (first : State) (before : List History) (rest : List ℕ) → HasLegal part first before text rest →
      0 ≡ counted (length before) → HasWrong part c first before rest → IsFirstWrong (machine_of part h) h.events c
  wrong_alone first (k ∷ ks) rest has none w = absurd (one (length ks) none) where
    one : (n : ℕ) → 0 ≡ counted (suc n) → ⊥
    one n e = omega (arith, e)
  wrong_alone first [] rest has none w =
      let g = w.2 in
      let b = subst (λ (t : List ℕ). IsBegun w.0 w.1 g t w.3) (sym has.journals) w.4 in
      let same = line_once text b.value p.0 b.behind p.1 b.line p.3 in
      let parts = header_once _ _ _ _ _ _ _ _ g.init h.init p.0 (subst (IsHeader w.0 g.agents g.capacity w.1 g.init) same.0 b.header) p.4 in
      let here = subst (λ (t : List ℕ). HasEvents w.0 g.agents t g.events w.3) same.1 b.events in
      let known = subst (λ (a : ℕ). HasEvents w.0 a p.1 g.events w.3) parts.0 here in
      let found = subst (λ (v : ℕ). HasEvents v h.agents p.1 g.events w.3) parts.4 known in
      let less = subst (λ (n : ℕ). length g.events ≤ n) parts.2 w.5 in
      let more = events_begin p.2 h.agents p.1 g.events h.events w.3 [] found p.5 less in
      let wrong = wrong_more (machine_of part g) g.events more.0 c w.7 in
      let opened = subst (λ (A : State). IsFirstWrong (machine part A g.capacity) (g.events ++ more.0) c) parts.3 wrong in
      let full = subst (λ (n : ℕ). IsFirstWrong (machine part h.init n) (g.events ++ more.0) c) parts.1 opened in
      subst (λ (es : List Event). IsFirstWrong (machine part h.init h.capacity) es c) (sym more.1) full

  pub wrong_journal : IsFirstIllegal part text 0 c ↔ IsLegality (machine_of part h) h.events (Illegal c)
  wrong_journal = (
    λ b. wrong_alone b.first b.before b.rest b.has b.numbered b.next,
    λ w.
        let es = w.before ++ w.event ∷ [] in
        let parts : es ++ w.after ≡ h.events = append_assoc w.before (w.event ∷ []) w.after ∙ w.stands in
        let cut = events_split p.2 h.agents p.1 es w.after [] (subst (λ (fs : List Event). HasEvents p.2 h.agents p.1 fs []) (sym parts) p.5) in
        record {
          first = h.init;
          before = [];
          rest = text;
          has = record { journals = refl; legal = tt };
          numbered = refl;
          next = (
            p.2,
            length h.events,
            record { init = h.init; capacity = h.capacity; agents = h.agents; events = es },
            cut.0,
            record { value = p.0; behind = p.1; line = p.3; header = p.4; events = cut.1 },
            shorter es w.after h.events parts,
            refl,
            record { before = w.before; event = w.event; after = []; stands = refl; counted = w.counted; legal = w.legal; wrong = w.wrong },
          );
        },
  ) where
    shorter : (xs ys zs : List Event) → xs ++ ys ≡ zs → length xs ≤ length zs
    shorter xs ys zs e = omega (arith, length-append xs ys, ap length e)

pub one_illegal : OneIllegal
one_illegal part text h call p = wrong_journal part text h call p

-- ---- faults

not_first : (n : ℕ) → 0 ≡ counted (suc n) → ⊥
not_first n e = omega (arith, e)

refused_alone : (part : Part) (text : List ℕ) (fault : JournalError) (first : State) (before : List History) (rest : List ℕ) →
    HasLegal part first before text rest → 0 ≡ counted (length before) → BreaksNext part first before rest fault →
    IsRefused text fault
refused_alone part text fault first (k ∷ ks) rest has none breaks = absurd (not_first (length ks) none)
refused_alone part text fault first [] rest has none (inl h) =
    inl (subst (λ (t : List ℕ). BreaksHeader t fault) (sym has.journals) h.0)
refused_alone part text fault first [] rest has none (inr g) =
    let h = g.2 in
    let b = subst (λ (t : List ℕ). IsBegun g.0 g.1 h t g.3) (sym has.journals) g.4.begun in
    inr (b.value, b.behind, g.0, h.agents, h.capacity, g.1, h.init, b.line, b.header, h.events, g.3, b.events, inl (g.5, g.6))

pub first_fault : FirstFault
first_fault part text fault (other, b) = refused_alone part text fault b.first b.before b.rest b.has b.numbered b.next
