-- One more segment of a legal run.
use Rattle.std.proofs.Common.{◌≡◌, ℕ, ◌+◌, List, [], ◌∷◌, ◌++◌, length, append-nil}
use Rattle.std.proofs.Common.{append_assoc, refl, sym, ap, ap₂, ◌∙◌, subst, arith, length-append}
use Rattle.asm_update.specs.Fire.{Part}
use Rattle.asm_update.specs.State.{State}
use Rattle.asm_update.specs.State as state
use Rattle.asm_storage.specs.History.{fired_moves}
use Rattle.asm_storage.specs.declared.history.History.{History}
use Rattle.asm_audit.specs.Text.{HasJournal, HasJournals}
use Rattle.asm_audit.specs.Chain.{AreLegalFrom}
use Rattle.asm_audit.specs.Audited.{calls_of, moves_of}
use Rattle.asm_audit.proofs.Extended.{journals_more, journals_push}
use Rattle.asm_audit.proofs.Endings.{same_journal}
use Rattle.asm_audit.proofs.OneVerdict.{begun_some}
use Rattle.asm_audit.proofs.Chains.{calls_push, moves_of_push}
use Rattle.asm_run.specs.declared.end.RunEnd.{RunEnd}
use Rattle.asm_run.specs.declared.name.SegmentName.{SegmentName}
use Rattle.asm_run.specs.Chain.{start_end, AreChained, Follows}
use Rattle.asm_run.specs.Name.{IsName}
use Rattle.asm_run.specs.Protocol.{Segment}
use Rattle.asm_audit.specs.Audited.{IsWhole}
use Rattle.asm_audit.specs.declared.progress.Counts.{Counts}
use Rattle.asm_run.specs.declared.trail.Trail.{Trail}
use Rattle.asm_run.specs.Reader.{texts_of, WasRead, IsExactly}
use Rattle.asm_run.proofs.Betweens.{between_of, between_count}
use Rattle.asm_run.specs.Run.{AreNamed, IsJournalOf, AreJournals, IsRunFrom, EndsAt, IsRun, AreBetween}

pub named_push : (segments : List Segment) (pairs : List (SegmentName × List ℕ)) (s : Segment) (name : SegmentName) →
    AreNamed segments pairs → IsName s.0 name → AreNamed (segments ++ s ∷ []) (pairs ++ (name, s.1) ∷ [])
named_push [] [] s name h is = (is, refl, tt)
named_push [] (p ∷ pairs) s name h is = absurd h
named_push (r ∷ segments) [] s name h is = absurd h
named_push (r ∷ segments) (p ∷ pairs) s name h is = (h.0, h.1, named_push segments pairs s name h.2 is)

pub chained_push : (e : RunEnd) (pairs : List (SegmentName × List ℕ)) (m end : RunEnd) (name : SegmentName)
    (text : List ℕ) → AreChained e pairs m → Follows m name text end → AreChained e (pairs ++ (name, text) ∷ []) end
chained_push e [] m end name text h f = (end, subst (λ (x : RunEnd). Follows x name text end) h f, refl)
chained_push e (p ∷ pairs) m end name text h f = (h.0, h.1, chained_push h.0 pairs m end name text h.2 f)

pub journals_also : (pairs : List (SegmentName × List ℕ)) (hs : List History) (p : SegmentName × List ℕ)
    (h : History) → AreJournals pairs hs → IsJournalOf h p.0.moves p.0.events p.1 →
    AreJournals (pairs ++ p ∷ []) (hs ++ h ∷ [])
journals_also [] [] p h j is = (is, tt)
journals_also [] (g ∷ hs) p h j is = absurd j
journals_also (q ∷ pairs) [] p h j is = absurd j
journals_also (q ∷ pairs) (g ∷ hs) p h j is = (j.0, journals_also pairs hs p h j.1 is)

pub no_segments : (segments : List Segment) (pairs : List (SegmentName × List ℕ)) (hs : List History) →
    AreNamed segments pairs → AreJournals pairs hs → hs ≡ [] → segments ≡ []
no_segments [] pairs hs n j none = refl
no_segments (s ∷ segments) [] hs n j none = absurd n
no_segments (s ∷ segments) (p ∷ pairs) [] n j none = absurd j
no_segments (s ∷ segments) (p ∷ pairs) (h ∷ hs) n j none = absurd (let no : ⊥ = cc in no)

pub no_histories : (pairs : List (SegmentName × List ℕ)) (hs : List History) → AreNamed [] pairs →
    AreJournals pairs hs → hs ≡ []
no_histories [] [] n j = refl
no_histories [] (h ∷ hs) n j = absurd j
no_histories (p ∷ pairs) hs n j = absurd n

module _ (part : Part) where
  abbrev pub ends_push : (e : RunEnd) (segments : List Segment) (m end : RunEnd) (s : Segment) (name : SegmentName)
      (r : IsRunFrom part e segments m) → IsName s.0 name → Follows m name s.1 end →
      (h : History) → IsJournalOf h name.moves name.events s.1 → (first : State) →
      AreLegalFrom part first (r.histories ++ h ∷ []) → IsRunFrom part e (segments ++ s ∷ []) end
  ends_push e segments m end s name r is f h journal first legal = record {
    pairs = r.pairs ++ (name, s.1) ∷ [];
    first = first;
    histories = r.histories ++ h ∷ [];
    named = named_push segments r.pairs s name r.named is;
    chained = chained_push e r.pairs m end name s.1 r.chained f;
    journals = journals_also r.pairs r.histories (name, s.1) h r.journals journal;
    legal = legal;
  }

  pub run_between : (e : RunEnd) (segments : List Segment) (end : RunEnd) → IsRunFrom part e segments end →
      AreBetween e segments end
  run_between e segments end r = between_of e segments r.pairs end r.named r.chained

  pub ends_count : (segments : List Segment) (e : RunEnd) → EndsAt part segments e → e.segments ≡ length segments
  ends_count segments e h = let all : e.segments ≡ 0 + length segments =
      between_count start_end segments e (run_between start_end segments e h) in omega arith

  pub none_ends : EndsAt part [] start_end
  none_ends = record {
    pairs = [];
    first = state.empty;
    histories = [];
    named = tt;
    chained = refl;
    journals = tt;
    legal = tt;
  }

  pub none_run : IsRun part []
  none_run = (start_end, none_ends)

-- ---- the journal that was read last

-- lists of journals of one text
pub last_journal : (hs all : List History) (text rest : List ℕ) → HasJournals hs text rest → HasJournals all text [] →
    length all ≡ length hs + 1 →
    (h : History) × (all ≡ hs ++ h ∷ []) × HasJournal h rest []
last_journal [] [] text rest x y n = absurd (omega arith)
last_journal [] (h ∷ []) text rest x y n = (
  h,
  refl,
  subst (λ (t : List ℕ). HasJournal h t []) x
      (subst (λ (t : List ℕ). HasJournal h text t) y.2 y.1),
)
last_journal [] (h ∷ k ∷ all) text rest x y n = absurd (omega arith)
last_journal (g ∷ hs) [] text rest x y n = absurd (omega arith)
last_journal (g ∷ hs) (a ∷ all) text rest x y n =
    let same = same_journal text g a x.0 y.0 x.1 y.1 in
    let more : length all ≡ length hs + 1 = omega arith in
    let is = last_journal hs all x.0 rest x.2 (subst (λ (t : List ℕ). HasJournals all t []) (sym same.1) y.2) more in
    (is.0, ap₂ (λ (z : History) (zs : List History). z ∷ zs) (sym same.0) is.1, is.2)

pub all_journals : (segments : List Segment) (pairs : List (SegmentName × List ℕ)) (hs : List History) →
    AreNamed segments pairs → AreJournals pairs hs → HasJournals hs (texts_of segments) []
all_journals [] [] [] n j = refl
all_journals [] [] (h ∷ hs) n j = absurd j
all_journals [] (p ∷ pairs) hs n j = absurd n
all_journals (s ∷ segments) [] hs n j = absurd n
all_journals (s ∷ segments) (p ∷ pairs) [] n j = absurd j
all_journals (s ∷ segments) (p ∷ pairs) (h ∷ hs) n j =
    let here : HasJournal h s.1 [] = subst (λ (t : List ℕ). HasJournal h t []) (sym n.1) j.0.journal in
    let more : HasJournals (h ∷ []) (s.1 ++ texts_of segments) (texts_of segments) =
    journals_more (h ∷ []) s.1 [] (texts_of segments) ([], here, refl) in (
      more.0,
      more.1,
      subst (λ (t : List ℕ). HasJournals hs t []) (sym more.2)
          (all_journals segments pairs hs n.2 j.1),
    )

pub texts_push : (segments : List Segment) (s : Segment) → texts_of (segments ++ s ∷ []) ≡ texts_of segments ++ s.1
texts_push [] s = append-nil s.1
texts_push (r ∷ segments) s = ap (λ (t : List ℕ). r.1 ++ t) (texts_push segments s) ∙
    sym (append_assoc r.1 (texts_of segments) s.1)

-- the audit's numbers are those of the name, and the text is one more journal
pub record IsMore (part : Part) (hs : List History) (moves events : ℕ) (text : List ℕ) (new : Counts) : Type 0 where
  pub history : History
  pub first : State
  pub journal : IsJournalOf history moves events text
  pub legal : AreLegalFrom part first (hs ++ history ∷ [])
  pub calls : new.calls ≡ calls_of (hs ++ history ∷ [])
  pub fired : new.moves ≡ moves_of (hs ++ history ∷ [])
  pub parts : new.parts ≡ length (hs ++ history ∷ [])

pub one_more : (part : Part) (t : Trail) (skipped segments : List Segment) (text : List ℕ) (moves events : ℕ)
    (new : Counts) (w : WasRead part t skipped segments) →
    IsExactly t.counts moves events new → IsWhole part (texts_of segments ++ text) new →
    IsMore part w.run.histories moves events text new
one_more part t skipped segments text moves events new w exact whole =
    let hs = w.run.histories in
    let before : HasJournals hs (texts_of segments ++ text) text =
    journals_more hs (texts_of segments) [] text (all_journals segments w.run.pairs hs w.run.named w.run.journals)
    in
    let parts : length whole.all ≡ length hs + 1 = (let a = whole.counts.2 in let b = w.parts in
    let c = exact.parts in let d = exact.few_parts in omega arith) in
    let last = last_journal hs whole.all (texts_of segments ++ text) text before whole.has.journals parts in
    let h = last.0 in
    let calls : calls_of whole.all ≡ calls_of hs + length h.events = ap calls_of last.1 ∙ calls_push hs h in
    let fired : moves_of whole.all ≡ moves_of hs + length (fired_moves h.events) =
    ap moves_of last.1 ∙ moves_of_push hs h in
    record {
      history = h;
      first = whole.first;
      journal = record {
        journal = last.2;
        fired = (let a = whole.counts.1 in let b = w.moves in let c = exact.fired in let d = exact.few_moves in
            omega arith);
        answered = (let a = whole.counts.0 in let b = w.calls in let c = exact.calls in let d = exact.few_calls in
            omega arith);
      };
      legal = subst (AreLegalFrom part whole.first) last.1 whole.has.legal;
      calls = (let a = whole.counts.0 in let c = exact.few_calls in
          let n : new.calls ≡ calls_of whole.all = omega arith in n ∙ ap calls_of last.1);
      fired = (let a = whole.counts.1 in let c = exact.few_moves in
          let n : new.moves ≡ moves_of whole.all = omega arith in n ∙ ap moves_of last.1);
      parts = (let a = whole.counts.2 in let c = exact.few_parts in
          let n : new.parts ≡ length whole.all = omega arith in n ∙ ap (λ (l : List History). length l) last.1);
    }

-- a text has one list of journals
same_journals : (xs ys : List History) (text : List ℕ) → HasJournals xs text [] → HasJournals ys text [] → xs ≡ ys
same_journals [] [] text x y = refl
same_journals [] (b ∷ ys) text x y = absurd (begun_some y.1.0 (length b.events) b text y.0 y.1.1 x)
same_journals (a ∷ xs) [] text x y = absurd (begun_some x.1.0 (length a.events) a text x.0 x.1.1 y)
same_journals (a ∷ xs) (b ∷ ys) text x y =
    let same = same_journal text a b x.0 y.0 x.1 y.1 in
    ap₂ (λ (z : History) (zs : List History). z ∷ zs) same.0
    (same_journals xs ys x.0 x.2 (subst (λ (t : List ℕ). HasJournals ys t []) (sym same.1) y.2))

pub numbers : (a b : Counts) → a.calls ≡ b.calls → a.moves ≡ b.moves → a.parts ≡ b.parts → a ≡ b
numbers a b c m p =
    ap (λ (n : ℕ). record { calls = n; moves = a.moves; parts = a.parts }) c ∙
    ap (λ (n : ℕ). record { calls = b.calls; moves = n; parts = a.parts }) m
    ∙ ap (λ (n : ℕ). record { calls = b.calls; moves = b.moves; parts = n }) p

-- with a journal of these numbers the audit has them
pub reported_numbers : (part : Part) (t : Trail) (skipped segments : List Segment) (text : List ℕ) (moves events : ℕ)
    (new next : Counts) → WasRead part t skipped segments →
    IsExactly t.counts moves events next → IsWhole part (texts_of segments ++ text) new → (h : History) →
    IsJournalOf h moves events text → new ≡ next
reported_numbers part t skipped segments text moves events new next w exact whole h is =
    let hs = w.run.histories in
    let before : HasJournals hs (texts_of segments ++ text) text =
    journals_more hs (texts_of segments) [] text (all_journals segments w.run.pairs hs w.run.named w.run.journals)
    in
    let same = same_journals whole.all (hs ++ h ∷ []) (texts_of segments ++ text) whole.has.journals
    (journals_push hs h (texts_of segments ++ text) text [] before is.journal) in
    let calls : calls_of whole.all ≡ calls_of hs + length h.events = ap calls_of same ∙ calls_push hs h in
    let fired : moves_of whole.all ≡ moves_of hs + length (fired_moves h.events) =
    ap moves_of same ∙ moves_of_push hs h in
    let parts : length whole.all ≡ length hs + 1 = ap (λ (l : List History). length l) same ∙
    length-append hs (h ∷ []) in
    numbers new next
    (let a = whole.counts.0 in let b = w.calls in let c = exact.calls in let d = exact.few_calls in
    let e = is.answered in omega arith)
    (let a = whole.counts.1 in let b = w.moves in let c = exact.fired in let d = exact.few_moves in
    let e = is.fired in omega arith)
    (let a = whole.counts.2 in let b = w.parts in let c = exact.parts in let d = exact.few_parts in omega arith)
