-- An audit reports one thing alone of a text.
use Rattle.std.proofs.Common.{◌≡◌, ◌≢◌, ◌<◌, ◌+◌, ◌≤◌, ◌⊎◌, ℕ, List, [], ◌∷◌, ◌++◌, length, Some, None, Result, Ok, Err, refl, sym, ap, subst, ◌∙◌, inl, inr, append-nil, length-append, arith}
use Rattle.std.proofs.lemmas.Bool.{cases_lt}
use Rattle.asm_update.specs.Fire.{Part}
use Rattle.asm_update.specs.State.{State}
use Rattle.asm_storage.specs.declared.history.History.{History}
use Rattle.asm_storage.specs.History.{IsLegal}
use Rattle.asm_journal.specs.declared.error.JournalError.{JournalError}
use Rattle.asm_journal.specs.declared.error.JournalError.TheVariants as journal_error
use Rattle.asm_journal.specs.Check.{machine_of}
use Rattle.asm_journal.specs.Fault.{BreaksHeader, BreaksEvent}
use Rattle.asm_journal.proofs.Refused.{header_stands, one_header_fault}
use Rattle.asm_audit.specs.declared.error.AuditError.{AuditError}
use Rattle.asm_audit.specs.declared.error.AuditError.TheVariants.{Journal, Apart, Illegal, LongLine, Memory}
use Rattle.asm_audit.specs.declared.progress.Counts.{Counts}
use Rattle.asm_audit.specs.Text.{IsBegun, HasJournal, HasJournals}
use Rattle.asm_audit.specs.Chain.{state_left, last_left, AreLegalFrom, HasLegal, IsGoing}
use Rattle.asm_audit.specs.Fault.{counted, BreaksNext, OpensMismatched, HasWrong}
use Rattle.asm_audit.specs.Audited.{AreCounts, IsVerdict}
use Rattle.asm_audit.specs.Laws.{IsOfText, OneVerdict}
use Rattle.asm_audit.proofs.Endings.{Begins, same_opening, same_end, same_journal}

-- ---- what stops an audit after complete journals

abbrev pub Stop : Part → State → List History → List ℕ → Result Counts AuditError → Type 0
Stop part A hs text (Ok w) = (text ≡ []) × (hs ≢ []) × AreCounts hs w
Stop part A hs text (Err (Illegal j c)) = (j ≡ counted (length hs)) × HasWrong part c A hs text
Stop part A hs text (Err (Journal j f)) = (j ≡ counted (length hs)) × (f ≢ journal_error.Memory) × BreaksNext part A hs text f
Stop part A hs text (Err (Apart j)) = (j ≡ counted (length hs)) × OpensMismatched part A hs text
Stop part A hs text (Err LongLine) = ⊥
Stop part A hs text (Err Memory) = ⊥

pub no_line : (body rest : List ℕ) → [] ≡ body ++ 10 ∷ rest → ⊥
no_line [] rest e = cc
no_line (x ∷ body) rest e = cc

pub begun_some : (v count : ℕ) (h : History) (text rest : List ℕ) → IsBegun v count h text rest → text ≡ [] → ⊥
begun_some v count h text rest b none = no_line b.line.0 b.behind (sym none ∙ b.line.1.0)

wrong_begins : (part : Part) (c : ℕ) (A : State) (hs : List History) (text : List ℕ) (w : HasWrong part c A hs text) →
    Begins part w.2 text (Some (Ok c))
wrong_begins part c A hs text w = record { v = w.0; count = w.1; rest = w.3; begun = w.4; ends = (w.5, w.7) }

-- ---- further

abbrev IsFurther : Part → State → List History → List ℕ → History → List ℕ → Type 0
IsFurther part A hs text k after =
    HasJournal k text after × (hs ≢ [] → k.init ≡ last_left part A hs) × IsLegal (machine_of part k) k.events

further_begins : (part : Part) (A : State) (hs : List History) (text : List ℕ) (k : History) (after : List ℕ) →
    IsFurther part A hs text k after → Begins part k text None
further_begins part A hs text k after f =
    record { v = f.0.0; count = length k.events; rest = after; begun = f.0.1; ends = (refl, f.2) }

header_and_begun : (text : List ℕ) (v count : ℕ) (h : History) (rest : List ℕ) (e : JournalError) → e ≢ journal_error.Memory →
    IsBegun v count h text rest → BreaksHeader text e → ⊥
header_and_begun text v count h rest e other b breaks =
    header_stands text b.value b.behind _ _ _ _ _ e other b.line b.header breaks

module _ (part : Part) (A : State) (hs : List History) (text : List ℕ) where
  abbrev Going : JournalError → Type 0
  Going e = (v count : ℕ) × (h : History) × (rest : List ℕ) × IsGoing part (last_left part A hs) v count h text rest
      × (length h.events < count) × BreaksEvent v h.agents (length h.events + 2) rest e

  broken_begins : (e : JournalError) → e ≢ journal_error.Memory → (g : Going e) → Begins part g.2 text (Some (Err e))
  broken_begins e other g =
      record { v = g.0; count = g.1; rest = g.3; begun = g.4.begun; ends = (g.5, g.4.legal, other, g.6) }

  no_further : (r : Result Counts AuditError) → Stop part A hs text r → (k : History) (after : List ℕ) →
      IsFurther part A hs text k after → ⊥
  no_further (Ok w) s k after f = begun_some _ _ k text after f.0.1 s.0
  no_further (Err (Illegal j c)) s k after f =
      let same = same_end part text s.1.2 k (Some (Ok c)) None (wrong_begins part c A hs text s.1) (further_begins part A hs text k after f) in
      cc
  no_further (Err (Journal j e)) s k after f = by_fault s.2 where
    by_fault : BreaksNext part A hs text e → ⊥
    by_fault (inl h) = header_and_begun text _ _ k after e s.1 f.0.1 h.0
    by_fault (inr g) =
        let same = same_end part text g.2 k (Some (Err e)) None (broken_begins e s.1 g) (further_begins part A hs text k after f) in
        cc
  no_further (Err (Apart j)) s k after f =
      s.1.1.6 (same_opening text _ _ _ _ s.1.1.2 k s.1.1.3 after s.1.1.4 f.0.1 ∙ f.1 s.1.0)
  no_further (Err LongLine) s k after f = s
  no_further (Err Memory) s k after f = s

-- ---- two stops at one place

-- what histories leave doesn't depend on how the first of them opens, except if there is none
same_last : (part : Part) (A B : State) (hs : List History) → hs ≢ [] → last_left part A hs ≡ last_left part B hs
same_last part A B [] some = absurd (some refl)
same_last part A B (h ∷ hs) some = refl

module _ (part : Part) (hs : List History) (text : List ℕ) (A B : State) where
  legal_or_illegal : (w : Counts) (j c : ℕ) → Stop part A hs text (Ok w) → Stop part B hs text (Err (Illegal j c)) → ⊥
  legal_or_illegal w j c s t = begun_some _ _ t.1.2 text t.1.3 t.1.4 s.0

  legal_or_fault : (w : Counts) (j : ℕ) (e : JournalError) → Stop part A hs text (Ok w) →
      Stop part B hs text (Err (Journal j e)) → ⊥
  legal_or_fault w j e s t = by_fault t.2 where
    by_fault : BreaksNext part B hs text e → ⊥
    by_fault (inl h) = s.1 (h.1 s.0)
    by_fault (inr g) = begun_some _ _ g.2 text g.3 g.4.begun s.0

  legal_or_apart : (w : Counts) (j : ℕ) → Stop part A hs text (Ok w) → Stop part B hs text (Err (Apart j)) → ⊥
  legal_or_apart w j s t = begun_some _ _ t.1.1.2 text t.1.1.3 t.1.1.4 s.0

  illegal_or_fault : (j c k : ℕ) (e : JournalError) → Stop part A hs text (Err (Illegal j c)) →
      Stop part B hs text (Err (Journal k e)) → ⊥
  illegal_or_fault j c k e s t = by_fault t.2 where
    by_fault : BreaksNext part B hs text e → ⊥
    by_fault (inl h) = header_and_begun text _ _ s.1.2 s.1.3 e t.1 s.1.4 h.0
    by_fault (inr g) =
        let same = same_end part text s.1.2 g.2 (Some (Ok c)) (Some (Err e)) (wrong_begins part c A hs text s.1) (broken_begins part B hs text e t.1 g) in
        cc

  illegal_or_apart : (j c k : ℕ) → Stop part A hs text (Err (Illegal j c)) → Stop part B hs text (Err (Apart k)) → ⊥
  illegal_or_apart j c k s t =
      t.1.1.6 (same_opening text _ _ _ _ t.1.1.2 s.1.2 t.1.1.3 s.1.3 t.1.1.4 s.1.4 ∙ s.1.6 ∙ same_last part A B hs t.1.0)

  fault_or_apart : (j k : ℕ) (e : JournalError) → Stop part A hs text (Err (Journal j e)) →
      Stop part B hs text (Err (Apart k)) → ⊥
  fault_or_apart j k e s t = by_fault s.2 where
    by_fault : BreaksNext part A hs text e → ⊥
    by_fault (inl h) = header_and_begun text _ _ t.1.1.2 t.1.1.3 e s.1 t.1.1.4 h.0
    by_fault (inr g) =
        t.1.1.6 (same_opening text _ _ _ _ t.1.1.2 g.2 t.1.1.3 g.3 t.1.1.4 g.4.begun ∙ g.4.opens ∙ same_last part A B hs t.1.0)

  same_fault : (e f : JournalError) → e ≢ journal_error.Memory → f ≢ journal_error.Memory → BreaksNext part A hs text e →
      BreaksNext part B hs text f → e ≡ f
  same_fault e f p q (inl h) (inl k) = one_header_fault text e f p q h.0 k.0
  same_fault e f p q (inl h) (inr g) = absurd (header_and_begun text _ _ g.2 g.3 e p g.4.begun h.0)
  same_fault e f p q (inr g) (inl k) = absurd (header_and_begun text _ _ g.2 g.3 f q g.4.begun k.0)
  same_fault e f p q (inr g) (inr k) =
      let same = same_end part text g.2 k.2 (Some (Err e)) (Some (Err f)) (broken_begins part A hs text e p g) (broken_begins part B hs text f q k) in
      cc

  same_call : (j c k d : ℕ) → Stop part A hs text (Err (Illegal j c)) → Stop part B hs text (Err (Illegal k d)) → c ≡ d
  same_call j c k d s t =
      let same = same_end part text s.1.2 t.1.2 (Some (Ok c)) (Some (Ok d)) (wrong_begins part c A hs text s.1) (wrong_begins part d B hs text t.1) in
      cc

abbrev whole : ℕ → ℕ → ℕ → Counts
whole c m j = record { calls = c; moves = m; parts = j }

same_counts : (hs : List History) (w x : Counts) → AreCounts hs w → AreCounts hs x → w ≡ x
same_counts hs w x p q =
    ap (λ c. whole c w.moves w.parts) (p.0 ∙ sym q.0) ∙ ap (λ m. whole x.calls m w.parts) (p.1 ∙ sym q.1)
    ∙ ap (λ j. whole x.calls x.moves j) (p.2 ∙ sym q.2)

stops_here : (part : Part) (hs : List History) (text : List ℕ) (A B : State) (r s : Result Counts AuditError) →
    Stop part A hs text r → Stop part B hs text s → r ≡ s
stops_here part hs text A B (Ok w) (Ok x) p q = ap (λ (v : Counts). Ok v) (same_counts hs w x p.2 q.2)
stops_here part hs text A B (Ok w) (Err (Illegal j c)) p q = absurd (legal_or_illegal part hs text A B w j c p q)
stops_here part hs text A B (Ok w) (Err (Journal j e)) p q = absurd (legal_or_fault part hs text A B w j e p q)
stops_here part hs text A B (Ok w) (Err (Apart j)) p q = absurd (legal_or_apart part hs text A B w j p q)
stops_here part hs text A B (Err (Illegal j c)) (Ok w) p q = absurd (legal_or_illegal part hs text B A w j c q p)
stops_here part hs text A B (Err (Illegal j c)) (Err (Illegal k d)) p q =
    let call = same_call part hs text A B j c k d p q in
    let journal : j ≡ k = p.0 ∙ sym q.0 in
    cc
stops_here part hs text A B (Err (Illegal j c)) (Err (Journal k e)) p q = absurd (illegal_or_fault part hs text A B j c k e p q)
stops_here part hs text A B (Err (Illegal j c)) (Err (Apart k)) p q = absurd (illegal_or_apart part hs text A B j c k p q)
stops_here part hs text A B (Err (Journal j e)) (Ok w) p q = absurd (legal_or_fault part hs text B A w j e q p)
stops_here part hs text A B (Err (Journal j e)) (Err (Illegal k c)) p q = absurd (illegal_or_fault part hs text B A k c j e q p)
stops_here part hs text A B (Err (Journal j e)) (Err (Journal k f)) p q =
    let fault = same_fault part hs text A B e f p.1 q.1 p.2 q.2 in
    let journal : j ≡ k = p.0 ∙ sym q.0 in
    cc
stops_here part hs text A B (Err (Journal j e)) (Err (Apart k)) p q = absurd (fault_or_apart part hs text A B j k e p q)
stops_here part hs text A B (Err (Apart j)) (Ok w) p q = absurd (legal_or_apart part hs text B A w j q p)
stops_here part hs text A B (Err (Apart j)) (Err (Illegal k c)) p q = absurd (illegal_or_apart part hs text B A k c j q p)
stops_here part hs text A B (Err (Apart j)) (Err (Journal k e)) p q = absurd (fault_or_apart part hs text B A k j e q p)
stops_here part hs text A B (Err (Apart j)) (Err (Apart k)) p q = let journal : j ≡ k = p.0 ∙ sym q.0 in cc
stops_here part hs text A B (Err LongLine) s p q = absurd p
stops_here part hs text A B (Err Memory) s p q = absurd p
stops_here part hs text A B r (Err LongLine) p q = absurd q
stops_here part hs text A B r (Err Memory) p q = absurd q

-- ---- the complete text

pub record IsStopped (part : Part) (text : List ℕ) (r : Result Counts AuditError) : Type 0 where
  pub first : State
  pub hs : List History
  pub rest : List ℕ
  pub has : HasLegal part first hs text rest
  pub stop : Stop part first hs rest r

stopped : (part : Part) (text : List ℕ) (r : Result Counts AuditError) → IsOfText r → IsVerdict part text r → IsStopped part text r
stopped part text (Ok w) of h =
    record { first = h.0.first; hs = h.0.all; rest = []; has = h.0.has; stop = (refl, h.0.some, h.0.counts) }
stopped part text (Err (Illegal j c)) of h =
    record { first = h.first; hs = h.before; rest = h.rest; has = h.has; stop = (h.numbered, h.next) }
stopped part text (Err (Journal j e)) of h =
    record { first = h.1.first; hs = h.1.before; rest = h.1.rest; has = h.1.has; stop = (h.1.numbered, h.0, h.1.next) }
stopped part text (Err (Apart j)) of h =
    record { first = h.first; hs = h.before; rest = h.rest; has = h.has; stop = (h.numbered, h.next) }
stopped part text (Err LongLine) of h = absurd of
stopped part text (Err Memory) of h = absurd of

journals_begin : (hs ks : List History) (text rest end : List ℕ) → HasJournals hs text rest → HasJournals ks text end →
    length hs ≤ length ks → (more : List History) × (ks ≡ hs ++ more) × HasJournals more rest end
journals_begin [] ks text rest end h k less = (ks, refl, subst (λ (t : List ℕ). HasJournals ks t end) h k)
journals_begin (h ∷ hs) [] text rest end p q less = absurd (omega (arith, less))
journals_begin (h ∷ hs) (k ∷ ks) text rest end p q less =
    let same = same_journal text h k p.0 q.0 p.1 q.1 in
    let more = journals_begin hs ks q.0 rest end (subst (λ (t : List ℕ). HasJournals hs t rest) same.1 p.2) q.2 (omega (arith, less)) in
    (more.0, ap (λ (x : History). x ∷ ks) (sym same.0) ∙ ap (λ (l : List History). h ∷ l) more.1, more.2)

chain_at : (part : Part) (A : State) (hs : List History) (k : History) (ks : List History) → AreLegalFrom part A (hs ++ k ∷ ks) →
    (k.init ≡ last_left part A hs) × IsLegal (machine_of part k) k.events
chain_at part A [] k ks chain = (chain.0, chain.1)
chain_at part A (h ∷ hs) k ks chain = chain_at part (state_left part h) hs k ks chain.2

-- an audit doesn't stop before the journals of another one
no_shorter : (part : Part) (text : List ℕ) (r : Result Counts AuditError) (x : IsStopped part text r) (B : State)
    (ks : List History) (end : List ℕ) → HasLegal part B ks text end → length x.hs < length ks → ⊥
no_shorter part text r x B ks end has less =
    by_more more.0 more.1 more.2
  where
    more : (more : List History) × (ks ≡ x.hs ++ more) × HasJournals more x.rest end
    more = journals_begin x.hs ks text x.rest end x.has.journals has.journals (omega (arith, less))

    by_more : (post : List History) → ks ≡ x.hs ++ post → HasJournals post x.rest end → ⊥
    by_more [] all js = absurd (omega (arith, less, ap length (all ∙ append-nil x.hs)))
    by_more (k ∷ post) all js =
        let at = chain_at part B x.hs k post (subst (AreLegalFrom part B) all has.legal) in
        no_further part x.first x.hs x.rest r x.stop k js.0
        (js.1, (λ some. at.0 ∙ same_last part B x.first x.hs some), at.1)

-- two audits of one text stop at one place
pub same_place : (part : Part) (text : List ℕ) (r s : Result Counts AuditError) (x : IsStopped part text r)
    (y : IsStopped part text s) → (y.hs ≡ x.hs) × (x.rest ≡ y.rest)
same_place part text r s x y = by_order (cases_lt (length x.hs) (length y.hs)) (cases_lt (length y.hs) (length x.hs)) where
  no_post : (xs ys zs : List History) → zs ≡ xs ++ ys → length zs ≤ length xs → ys ≡ []
  no_post xs [] zs e less = refl
  no_post xs (z ∷ ys) zs e less = absurd (omega (arith, ap length e, less, length-append xs (z ∷ ys)))

  by_order : (length x.hs < length y.hs) ⊎ (length y.hs ≤ length x.hs) →
      (length y.hs < length x.hs) ⊎ (length x.hs ≤ length y.hs) → (y.hs ≡ x.hs) × (x.rest ≡ y.rest)
  by_order (inl less) _ = absurd (no_shorter part text r x y.first y.hs y.rest y.has less)
  by_order (inr a) (inl less) = absurd (no_shorter part text s y x.first x.hs x.rest x.has less)
  by_order (inr a) (inr b) =
      let more = journals_begin x.hs y.hs text x.rest y.rest x.has.journals y.has.journals b in
      let none = no_post x.hs more.0 y.hs more.1 a in (
        more.1 ∙ ap (λ (l : List History). x.hs ++ l) none ∙ append-nil x.hs,
        subst (λ (l : List History). HasJournals l x.rest y.rest) none more.2,
      )

pub one_verdict : OneVerdict
one_verdict part text r s p q h k =
    let x = stopped part text r p h in
    let y = stopped part text s q k in
    let place = same_place part text r s x y in
    let stop = subst (λ (l : List History). Stop part y.first l y.rest s) place.0 y.stop in
    let at = subst (λ (t : List ℕ). Stop part y.first x.hs t s) (sym place.1) stop in
    stops_here part x.hs x.rest x.first y.first r s x.stop at
