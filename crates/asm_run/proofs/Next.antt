-- The journal of a storage that continues a run.
use Rattle.std.proofs.Common.{◌≡◌, inl, inr, ℕ, suc, ◌≤◌, List, [], ◌∷◌, ◌++◌, length, refl, sym, ap}
use Rattle.std.proofs.Common.{◌∙◌, subst, subst₂, arith, min, Option, Some, None}
use Rattle.asm_update.specs.Fire.{Part}
use Rattle.asm_update.specs.State.{State}
use Rattle.asm_update.specs.Move.{Move}
use Rattle.std.specs.List.{cons_option}
use Rattle.asm_journal.specs.Text.{text_of}
use Rattle.asm_storage.specs.History.{move_of, fired_moves, IsLegal}
use Rattle.asm_storage.specs.declared.history.Event.{Event}
use Rattle.asm_storage.specs.declared.history.History.{History}
use Rattle.asm_journal.specs.Check.{machine_of}
use Rattle.asm_journal.specs.Reading.{ReadsAs}
use Rattle.asm_audit.specs.Text.{HasJournal}
use Rattle.asm_audit.specs.Chain.{AreLegalFrom, last_left, state_left}
use Rattle.asm_audit.proofs.Chains.{chain_push}
use Rattle.asm_audit.proofs.Endings.{same_journal}
use Rattle.asm_run.specs.declared.end.RunEnd.{RunEnd}
use Rattle.asm_run.specs.declared.name.SegmentName.{SegmentName}
use Rattle.asm_run.specs.declared.writer.RunWriter.{RunWriter}
use Rattle.asm_run.specs.Chain.{start_end, AreChained}
use Rattle.asm_run.specs.Protocol.{Segment}
use Rattle.asm_run.specs.Run.{AreNamed, AreJournals, IsJournalOf, IsRunFrom, Continues}
use Rattle.asm_run.specs.Writer.{IsHanded}
use Rattle.asm_run.specs.Reader.{IsStateAfter, OpensNext, KeepsState, NextOpens}
use Rattle.asm_run.proofs.Runs.{no_histories}

one_moved : (o : Option Move) (q : List Move) (n : ℕ) → length q ≤ n → length (cons_option o q) ≤ suc n
one_moved None q n h = omega (arith, h)
one_moved (Some M) q n h = omega (arith, h)

fewer_moves : (es : List Event) → length (fired_moves es) ≤ length es
fewer_moves [] = omega arith
fewer_moves (e ∷ es) = one_moved (move_of e) (fired_moves es) (length es) (fewer_moves es)

-- the counts of a history that fits are exact
pub counted : (old new : RunWriter) (h : History) (moves events fired : ℕ) (text title : List ℕ) → moves ≡ fired →
    fired ≡ min (length (fired_moves h.events)) 4294967295 → events ≡ length h.events → length h.events ≤ 4294967295 →
    IsHanded old moves events text title new → IsHanded old (length (fired_moves h.events))
    (length h.events) text title new
counted old new h moves events fired text title counts exact all few handed =
    let less : length (fired_moves h.events) ≤ length h.events = fewer_moves h.events in
    let same : moves ≡ length (fired_moves h.events) = omega arith in
    subst₂ (λ (m v : ℕ). IsHanded old m v text title new) same all handed

pub as_journal : (text : List ℕ) (h : History) → ReadsAs text h → HasJournal h text []
as_journal text h r = (r.2, record { value = r.0; behind = r.1; line = r.3; header = r.4; events = r.5 })

module _ (part : Part) where
  -- it opens with what the run leaves; a first one with any state
  pub continues : (segments : List Segment) (h : History) (text : List ℕ) (moves events : ℕ) →
      IsJournalOf h moves events text → IsLegal (machine_of part h) h.events → OpensNext part segments h.init →
      Continues part segments moves events text
  continues segments h text moves events journal legal (inl none) = record {
    history = h;
    journal = journal;
    legal = λ e r.
        let named = subst (λ (l : List Segment). AreNamed l r.pairs) none r.named in
        let empty = no_histories r.pairs r.histories named r.journals in (
          h.init,
          subst (λ (hs : List History). AreLegalFrom part h.init (hs ++ h ∷ [])) (sym empty)
              (refl, legal, tt),
        );
  }
  continues segments h text moves events journal legal (inr opens) = record {
    history = h;
    journal = journal;
    legal = λ e r. (r.first, chain_push part r.first r.histories h r.legal (opens start_end e r) legal);
  }

  -- the journal that was saved last leaves this
  last_history : (e end : RunEnd) (segments : List Segment) (s : Segment) (h : History)
      (pairs : List (SegmentName × List ℕ)) (hs : List History) (first : State) →
      AreNamed (segments ++ s ∷ []) pairs → AreJournals pairs hs → HasJournal h s.1 [] →
      last_left part first hs ≡ state_left part h
  last_history e end [] s h [] hs first n j is = absurd n
  last_history e end [] s h (p ∷ []) [] first n j is = absurd j
  last_history e end [] s h (p ∷ []) (g ∷ []) first n j is =
      ap (state_left part) (same_journal p.1 g h [] [] j.0.journal
      (subst (λ (t : List ℕ). HasJournal h t []) n.1 is)).0
  last_history e end [] s h (p ∷ []) (g ∷ k ∷ hs) first n j is = absurd j.1
  last_history e end [] s h (p ∷ q ∷ pairs) hs first n j is = absurd n.2
  last_history e end (r ∷ segments) s h [] hs first n j is = absurd n
  last_history e end (r ∷ segments) s h (p ∷ pairs) [] first n j is = absurd j
  last_history e end (r ∷ segments) s h (p ∷ pairs) (g ∷ hs) first n j is =
      last_history e end segments s h pairs hs (state_left part g) n.2 j.1 is

  pub left_by : (segments : List Segment) (s : Segment) (h : History) → HasJournal h s.1 [] →
      IsStateAfter part (segments ++ s ∷ []) (Some (state_left part h))
  left_by segments s h is =
      λ e end r. sym (last_history e end segments s h r.pairs r.histories r.first r.named r.journals is)

  -- the text of a history that fits
  pub closes : (segments : List Segment) (h : History) (text : List ℕ) (moves events fired : ℕ) →
      ReadsAs (text_of h) h → text ≡ text_of h → moves ≡ fired →
      fired ≡ min (length (fired_moves h.events)) 4294967295 →
      events ≡ length h.events → length h.events ≤ 4294967295 → IsLegal (machine_of part h) h.events →
      OpensNext part segments h.init → Continues part segments moves events text
  closes segments h text moves events fired reads is same counted all few legal opens =
      let less : length (fired_moves h.events) ≤ length h.events = fewer_moves h.events in
      continues segments h text moves events
      (record {
        journal = as_journal text h (subst (λ (t : List ℕ). ReadsAs t h) (sym is) reads);
        fired = omega arith;
        answered = all;
      })
      legal opens

pub next_opens : NextOpens
next_opens part segments s h reads = inr (left_by part segments s h (as_journal s.1 h reads))

module _ (part : Part) where
  -- a run without its first segment
  tail_run : (e : RunEnd) (b : Segment) (rest : List Segment) (end : RunEnd) (r : IsRunFrom part e (b ∷ rest) end) →
      (m : RunEnd) × (t : IsRunFrom part m rest end)
      × (last_left part t.first t.histories ≡ last_left part r.first r.histories)
  tail_run e b rest end r = by r.pairs r.histories r.first r.named r.chained r.journals r.legal
    where
      by : (pairs : List (SegmentName × List ℕ)) (hs : List History) (first : State) → AreNamed (b ∷ rest) pairs →
          AreChained e pairs end → AreJournals pairs hs → AreLegalFrom part first hs →
          (m : RunEnd) × (t : IsRunFrom part m rest end)
          × (last_left part t.first t.histories ≡ last_left part first hs)
      by [] hs first n c j l = absurd n
      by (p ∷ pairs) [] first n c j l = absurd j
      by (p ∷ pairs) (g ∷ hs) first n c j l = (
        c.0,
        record {
          pairs = pairs;
          first = state_left part g;
          histories = hs;
          named = n.2;
          chained = c.2;
          journals = j.1;
          legal = l.2;
        },
        refl,
      )

  keeps : (before segments : List Segment) (s : State) → IsStateAfter part segments (Some s) →
      IsStateAfter part (before ++ segments) (Some s)
  keeps [] segments s h = h
  keeps (b ∷ before) segments s h = λ e end r.
      let t = tail_run e b (before ++ segments) end r in
      keeps before segments s h t.0 end t.1 ∙ t.2

pub keeps_state : KeepsState
keeps_state part = keeps part
