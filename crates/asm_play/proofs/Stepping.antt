-- Steps that were played, one after another.
use Rattle.std.proofs.Common.{◌≡◌, ◌≢◌, inl, inr, ℕ, zero, suc, ◌+◌, ◌*◌, ◌≤◌, List, [], ◌∷◌, ◌++◌, length}
use Rattle.std.proofs.Common.{map, All, append_assoc, append-nil, arith, refl, sym, ap, subst, ◌∙◌}
use Rattle.std.proofs.lemmas.List.Elements.{All-nil, All-append}
use Rattle.std.proofs.lemmas.List.{map-append, length-map}
use mathlib.Core.List.{IsPrefix}
use Rattle.asm_element.specs.Place.{Place}
use Rattle.asm_update.specs.Aggregator.{Meaning}
use Rattle.asm_update.specs.Move.{Move}
use Rattle.asm_update.specs.declared.clash.Clash.{Clash}
use Rattle.asm_storage.specs.Agents.{event_of, moves_seen}
use Rattle.asm_storage.specs.Limits.{offers_limit}
use Rattle.asm_storage.specs.Machine.{Machine}
use Rattle.asm_storage.specs.Storage.{AgentAt, StorageView, IsSameAgent, machine_of}
use Rattle.asm_storage.specs.declared.history.Event.{Event}
use Rattle.asm_storage.specs.declared.entry.Entry.{Entry}
use Rattle.asm_storage.specs.declared.receipt.Receipt.{Receipt}
use Rattle.asm_storage.proofs.Lists.{length-prefix}
use Rattle.asm_play.specs.AgentPlay.{AreProper, Plays}
use Rattle.asm_play.specs.StepEvents.{IsIdle, IsFiring, IsClashing, HasNoRoom}
use Rattle.asm_play.specs.StepEvents.{stale_fires, AreTries, IsEndedAfter, HasTriesOf, HasTries, EndsWith}
use Rattle.asm_play.specs.StepEvents.{IsTryOf, IsVainTry, AreStepEvents, AreStepsEvents}
use Rattle.asm_play.specs.Trying.{Adds, IsAgain, IsVain, Tried, IsStepPlayed}
use Rattle.asm_script.specs.declared.step.Step.{Step}
use Rattle.asm_play.specs.declared.step_end.StepEnd.{StepEnd}
use Rattle.asm_play.specs.declared.step_end.StepEnd.TheVariants as step_end
use Rattle.asm_play.proofs.ProperMoves.{proper_prefix}
use Rattle.asm_play.proofs.Counts.{stale_both}
use Rattle.asm_play.proofs.Adding.{prefix_mapped, adds_then, adds_none}
use Rattle.asm_play.proofs.Later.{are_tries_later, are_reported_later}

-- idle events in front change nothing
idle_front : (P : Event → Type 0) (xs es : List Event) → All IsIdle xs → EndsWith P es → EndsWith P (xs ++ es)
idle_front P xs es idle ends = (
  xs ++ ends.0,
  ends.1,
  ap (λ w. xs ++ w) ends.2 ∙ sym (append_assoc xs ends.0 (ends.1 ∷ [])),
  All-append IsIdle xs ends.0 idle ends.3,
  ends.4,
)

module _ (own : Meaning) (m : Machine) (q : List Move) (step : Step) where
  idle_before : (o : StepEnd) (xs es : List Event) → All IsIdle xs → AreStepEvents own m q step o es →
      AreStepEvents own m q step o (xs ++ es)
  idle_before (step_end.Fired k) xs es idle reported = idle_front (IsFiring own m q step k) xs es idle reported
  idle_before step_end.Full xs es idle reported = idle_front (HasNoRoom own m q step) xs es idle reported
  idle_before (step_end.Clash c) xs es idle (inl reported) = inl (idle_front (IsClashing own m q step c) xs es idle reported)
  idle_before (step_end.Clash c) xs es idle (inr reported) = inr (All-append IsIdle xs es idle reported.0, reported.1)
  idle_before step_end.GaveUp xs es idle reported = All-append IsIdle xs es idle reported
  idle_before o xs es idle reported = (All-append IsIdle xs es idle reported.0, reported.1)

-- one step more
are_reported_more : (own : Meaning) (m : Machine) (q : List Move) (ss : List Step) (os : List StepEnd)
    (es fs : List Event) (s : Step) (o : StepEnd) →
    AreStepsEvents own m q ss os es → AreStepEvents own m q s o fs × HasTries own m q s o fs →
    AreStepsEvents own m q (ss ++ s ∷ []) (os ++ o ∷ []) (es ++ fs)
are_reported_more own m q [] [] es fs s o reported last =
    (fs, [], ap (λ w. w ++ fs) reported ∙ sym (append-nil fs), last.0, last.1, refl)
are_reported_more own m q (t ∷ ss) (p ∷ os) es fs s o reported last = (
  reported.0,
  reported.1 ++ fs,
  ap (λ w. w ++ fs) reported.2 ∙ append_assoc reported.0 reported.1 fs,
  reported.3,
  reported.4,
  are_reported_more own m q ss os reported.1 fs s o reported.5 last,
)
are_reported_more own m q ss os es fs s o reported last = absurd reported

-- at most 1,000 tries in vain, and the last one
few_tries : (own : Meaning) (m : Machine) (q : List Move) (step : Step) (places : List Place) (o : StepEnd)
    (es : List Event) → o ≢ step_end.GaveUp → IsEndedAfter own m q step places es → HasTriesOf own m q step places o es
few_tries own m q step places step_end.GaveUp es ended has = absurd (ended refl)
few_tries own m q step places step_end.Many es ended has = inr has
few_tries own m q step places o es ended has = has

-- the receipts of so many tries that ended in nothing
record AddsIdle {A : Type 0} (meaning : A → Meaning) (own : Meaning) (step : Step) (places : List Place) (n : ℕ)
    (old new : AgentAt A) : Type 0 where
  more : List Receipt
  adds : Adds old new more
  idle : All IsIdle (map (event_of old.account.id) more)
  busy : ℕ
  lost : length old.account.seen + offers_limit * busy ≤ length new.account.seen
  counted : stale_fires (map (event_of old.account.id) more) + busy ≡ n
  tries : AreProper old.storage.init (moves_seen new.account.seen) → AreTries own (machine_of meaning old.storage)
      (moves_seen new.account.seen) step places n (map (event_of old.account.id) more)

-- the events of receipts that were added in turn
added_events : {A : Type 0} (old mid : AgentAt A) (xs ys : List Receipt) → IsSameAgent old mid →
    map (event_of old.account.id) (xs ++ ys) ≡ map (event_of old.account.id) xs ++ map (event_of mid.account.id) ys
added_events old mid xs ys same =
    map-append (event_of old.account.id) xs ys
    ∙ ap (λ (i : ℕ). map (event_of old.account.id) xs ++ map (event_of i) ys) (sym same.id)

module _ {A : Type 0} (meaning : A → Meaning) (own : Meaning) (step : Step) (places : List Place) where
  -- one try more
  adds_try : (n : ℕ) (old mid new : AgentAt A) → AddsIdle meaning own step places n old mid →
      IsAgain meaning own step places mid new → AddsIdle meaning own step places (suc n) old new
  adds_try n old mid new first again = record {
    more = first.more ++ again.more;
    adds = adds_then old mid new first.more again.more first.adds again.adds;
    idle = subst (All IsIdle) (sym events) (All-append IsIdle _ _ first.idle again.idle);
    busy = all.0;
    lost = all.1;
    counted = all.2;
    tries = λ proper. (
      map (event_of old.account.id) first.more,
      map (event_of mid.account.id) again.more,
      events,
      are_tries_later own (machine_of meaning old.storage) before after seen step places n
          (map (event_of old.account.id) first.more)
          (first.tries (proper_prefix old.storage.init before after seen proper)),
      vain proper,
    );
  } where
    before : List Move
    before = moves_seen mid.account.seen

    after : List Move
    after = moves_seen new.account.seen

    seen : IsPrefix before after
    seen = prefix_mapped (λ (x : Entry). x.instrs) mid.account.seen new.account.seen again.adds.begins

    vain : AreProper old.storage.init after → IsVainTry own (machine_of meaning old.storage) after step places
        (map (event_of mid.account.id) again.more)
    vain = subst (λ (s : StorageView A). AreProper s.init after → IsVainTry own (machine_of meaning s) after step places
        (map (event_of mid.account.id) again.more)) first.adds.same.storage again.once

    events : map (event_of old.account.id) (first.more ++ again.more)
        ≡ map (event_of old.account.id) first.more ++ map (event_of mid.account.id) again.more
    events = added_events old mid first.more again.more first.adds.same

    both : stale_fires (map (event_of old.account.id) (first.more ++ again.more))
        ≡ stale_fires (map (event_of old.account.id) first.more) + stale_fires (map (event_of mid.account.id) again.more)
    both = ap stale_fires events
        ∙ stale_both (map (event_of old.account.id) first.more) (map (event_of mid.account.id) again.more)

    by_cause : IsVain mid new again.more →
        (busy : ℕ) × (length old.account.seen + offers_limit * busy ≤ length new.account.seen)
        × (stale_fires (map (event_of old.account.id) (first.more ++ again.more)) + busy ≡ suc n)
    by_cause (inl (ends, one)) = (
      first.busy,
      omega (arith, first.lost, length-prefix mid.account.seen new.account.seen again.adds.begins),
      omega (arith, first.counted, both, one),
    )
    by_cause (inr (none, longer)) =
        (suc first.busy, omega (arith, first.lost, longer), omega (arith, first.counted, both, none))

    all : (busy : ℕ) × (length old.account.seen + offers_limit * busy ≤ length new.account.seen)
        × (stale_fires (map (event_of old.account.id) (first.more ++ again.more)) + busy ≡ suc n)
    all = by_cause again.cause

  tried_adds : (n : ℕ) (old new : AgentAt A) → Tried meaning own step places n old new →
      AddsIdle meaning own step places n old new
  tried_adds zero old new same = record {
    more = [];
    adds = subst (λ (a : AgentAt A). Adds old a []) same (adds_none old);
    idle = All-nil IsIdle;
    busy = 0;
    lost = omega (arith, ap (λ (a : AgentAt A). length a.account.seen) same);
    counted = refl;
    tries = λ proper. refl;
  }
  tried_adds (suc n) old new (mid, before, again) = adds_try n old mid new (tried_adds n old mid before) again

-- the receipts that the agent has more are those of all tries of a step, and tell how it ended
record HasEnded {A : Type 0} (meaning : A → Meaning) (own : Meaning) (old new : AgentAt A) (step : Step)
    (o : StepEnd) : Type 0 where
  more : List Receipt
  adds : Adds old new more
  tries : AreProper old.storage.init (moves_seen new.account.seen) → HasTries own (machine_of meaning old.storage)
      (moves_seen new.account.seen) step o (map (event_of old.account.id) more)
  reported : (meaning old.storage.agg).part ≡ own.part → AreProper old.storage.init (moves_seen new.account.seen) →
      AreStepEvents own (machine_of meaning old.storage) (moves_seen new.account.seen) step o
      (map (event_of old.account.id) more)

module _ {A : Type 0} (meaning : A → Meaning) (own : Meaning) where
  -- a step that was played ended
  step_ended : (old new : AgentAt A) (step : Step) (o : StepEnd) → IsStepPlayed meaning own old new step o →
      HasEnded meaning own old new step o
  step_ended old new step o (places, reads, inl (many, is, same)) =
      subst (HasEnded meaning own old new step) (sym is)
      (record {
        more = [];
        adds = subst (λ (a : AgentAt A). Adds old a []) same (adds_none old);
        tries = λ proper. (places, reads, inl (many, refl));
        reported = λ part proper. (All-nil IsIdle, inl (places, reads, many));
      })
  step_ended old new step o (places, reads, inr (few, inl (is, n, count, tried))) =
      let added = tried_adds meaning own step places n old new tried in
      subst (HasEnded meaning own old new step) (sym is)
      (record {
        more = added.more;
        adds = added.adds;
        tries = λ proper. (
          places,
          reads,
          record {
            few = few;
            tried = n;
            all = count;
            in_vain = record {
              tries = added.tries proper;
              busy = added.busy;
              lost = omega (arith, added.lost, length-map new.account.seen (λ (x : Entry). x.instrs));
              counted = added.counted;
            };
          },
        );
        reported = λ part proper. added.idle;
      })
  step_ended old new step o (places, reads, inr (few, inr (n, most, mid, tried, ended))) =
      let first = tried_adds meaning own step places n old mid tried in
      let last = ended.0 in
      let m = machine_of meaning old.storage in
      let before = moves_seen mid.account.seen in
      let q = moves_seen new.account.seen in
      let seen = prefix_mapped (λ (x : Entry). x.instrs) mid.account.seen new.account.seen last.adds.begins in
      let once = subst (λ (s : StorageView A). AreProper s.init q → IsTryOf own (machine_of meaning s) q step places
      (map (event_of mid.account.id) last.more)) first.adds.same.storage last.once in
      let events = added_events old mid first.more last.more first.adds.same in
      record {
        more = first.more ++ last.more;
        adds = adds_then old mid new first.more last.more first.adds last.adds;
        tries = λ proper. (
          places,
          reads,
          few_tries own m q step places o (map (event_of old.account.id) (first.more ++ last.more)) ended.1 (record {
            few = few;
            tried = n;
            most = most;
            first = map (event_of old.account.id) first.more;
            last = map (event_of mid.account.id) last.more;
            parts = events;
            in_vain = record {
              tries = are_tries_later own m before q seen step places n (map (event_of old.account.id) first.more)
                  (first.tries (proper_prefix old.storage.init before q seen proper));
              busy = first.busy;
              lost = omega (
                arith,
                first.lost,
                length-prefix mid.account.seen new.account.seen last.adds.begins,
                length-map new.account.seen (λ (x : Entry). x.instrs),
              );
              counted = first.counted;
            };
            once = once proper;
            fresh = last.fresh;
          }),
        );
        reported = λ same proper.
            let reported = subst (λ (s : StorageView A). (meaning s.agg).part ≡ own.part → AreProper s.init q →
            AreStepEvents own (machine_of meaning s) q step o (map (event_of mid.account.id) last.more))
            first.adds.same.storage
            last.reported same proper in
            subst (AreStepEvents own (machine_of meaning old.storage) q step o) (sym events)
            (idle_before own (machine_of meaning old.storage) q step o _ _ first.idle reported);
      }

  pub plays_none : (old : AgentAt A) → Plays meaning own old old [] []
  plays_none old = record {
    same = record { storage = refl; id = refl };
    begins = ([], append-nil old.account.seen);
    more = [];
    added = sym (append-nil old.account.receipts);
    reported = λ same proper. refl;
  }

  -- one step more was played
  pub plays_more : (old mid new : AgentAt A) (ss : List Step) (os : List StepEnd) (s : Step) (o : StepEnd) →
      Plays meaning own old mid ss os →
      IsStepPlayed meaning own mid new s o → Plays meaning own old new (ss ++ s ∷ []) (os ++ o ∷ [])
  plays_more old mid new ss os s o before played =
      let last = step_ended mid new s o played in
      let adds = adds_then old mid new before.more last.more
      (record { same = before.same; begins = before.begins; added = before.added }) last.adds in
      let q = moves_seen mid.account.seen in
      let r = moves_seen new.account.seen in
      let p = prefix_mapped (λ (x : Entry). x.instrs) mid.account.seen new.account.seen last.adds.begins in
      record {
        same = adds.same;
        begins = adds.begins;
        more = before.more ++ last.more;
        added = adds.added;
        reported = λ same proper.
            let m = machine_of meaning old.storage in
            let first = are_reported_later own m q r p ss os _
            (before.reported same (proper_prefix old.storage.init q r p proper)) in
            let reported = subst (λ (t : StorageView A). (meaning t.agg).part ≡ own.part → AreProper t.init r →
            AreStepEvents own (machine_of meaning t) r s o (map (event_of mid.account.id) last.more)) before.same.storage
            last.reported same proper in
            let tries = subst (λ (t : StorageView A). AreProper t.init r → HasTries own (machine_of meaning t) r s o
            (map (event_of mid.account.id) last.more)) before.same.storage last.tries proper in
            subst (AreStepsEvents own m r (ss ++ s ∷ []) (os ++ o ∷ []))
            (sym (added_events old mid before.more last.more before.same))
            (are_reported_more own m r ss os _ _ s o first (reported, tries));
      }
