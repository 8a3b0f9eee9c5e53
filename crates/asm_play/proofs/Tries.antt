-- One try of a step: what its read and its fire leave, and what its end tells.
use Rattle.std.proofs.Common.{◌≡◌, ◌≢◌, inl, inr, ℕ, ◌-◌, ◌≤◌, Bool, List}
use Rattle.std.proofs.Common.{[], ◌∷◌, ◌++◌, length, take, map, All, Option, Some, None, Ok, Err}
use Rattle.std.proofs.Common.{Contains, append-nil, length-append, arith, refl, sym, ap, subst, ◌∙◌}
use Rattle.std.proofs.lemmas.List.{take_at, take_all, map-append}
use Rattle.std.proofs.lemmas.List.Elements.{All-nil, All-cons, All-append}
use Rattle.asm_storage.proofs.Lists.{length-prefix}
use mathlib.Core.List.{IsPrefix}
use Rattle.asm_element.specs.Place.{Place}
use Rattle.asm_update.specs.Aggregator.{Meaning, AggregatorLaws}
use Rattle.asm_update.specs.Fire.{fire}
use Rattle.asm_update.specs.Move.{Move}
use Rattle.asm_update.specs.State.{val}
use Rattle.asm_update.specs.declared.clash.Clash.{Clash}
use Rattle.asm_state.specs.FollowsFrom.{after_move}
use Rattle.asm_state.specs.Verdict.{least_stale}
use Rattle.asm_state.specs.declared.named.Named.{Named}
use Rattle.asm_storage.specs.Agents.{event_of, moves_seen}
use Rattle.asm_storage.specs.Calls.{ReadingView, receipt_at, IsReplied}
use Rattle.asm_storage.specs.Machine.{Machine, machine_state, reply_to}
use Rattle.asm_storage.specs.Storage.{AgentAt, StorageView, machine_of, has_polled}
use Rattle.asm_storage.specs.declared.call.Answer.TheVariants as answer
use Rattle.asm_storage.specs.declared.call.Call.TheVariants as call
use Rattle.asm_storage.specs.declared.call.Reply.{Reply}
use Rattle.asm_storage.specs.declared.call.Reply.TheVariants as reply
use Rattle.asm_storage.specs.declared.history.Event.{Event}
use Rattle.asm_storage.specs.declared.entry.Entry.{Entry}
use Rattle.asm_storage.specs.declared.receipt.Receipt.{Receipt}
use Rattle.asm_storage.proofs.Run.{fired_reply}
use Rattle.asm_play.specs.AgentPlay.{AreProper}
use Rattle.asm_script.specs.StepReads.{AreReads}
use Rattle.asm_script.specs.Sequencing.{fired_or_stopped, fire_blocks, step_move_on, IsReadOf, IsMoveFor, IsStepMove}
use Rattle.asm_play.specs.StepEvents.{IsIdle, IsFiring, IsClashing, HasNoRoom, HasFault, EndsWith, AreStepEvents}
use Rattle.asm_play.specs.StepEvents.{stale_fire, stale_fires, IsTryOf, IsVainTry}
use Rattle.asm_play.specs.Trying.{value_among, read_value, names_of, HasRead, HasTried, end_of}
use Rattle.asm_play.specs.Trying.{IsEndOf, Adds, IsAgain, IsTry}
use Rattle.asm_script.specs.declared.step.Step.{Step}
use Rattle.asm_script.specs.declared.fault.StepFault.{StepFault}
use Rattle.asm_script.specs.declared.fault.StepFault.TheVariants as fault
use Rattle.asm_play.specs.declared.step_end.StepEnd.{StepEnd}
use Rattle.asm_play.specs.declared.step_end.StepEnd.TheVariants as step_end
use Rattle.asm_row.proofs.Prefixes.{IsPrefix-trans}
use Rattle.asm_play.proofs.ProperMoves.{proper_prefix}
use Rattle.asm_play.proofs.Properness.{moves_proper}
use Rattle.asm_play.proofs.Counts.{stale_both, try_without, try_with, vain_without, vain_with}
use Rattle.asm_play.proofs.Readings.{value_mapped}
use Rattle.asm_play.proofs.Adding.{prefix_mapped, taken_prefix, adds_then, idle_stale, fresh_value, clashed_by}
use Rattle.asm_play.proofs.Adding.{no_room_by, not_stale, AddsRead, read_adds, fire_adds}

-- a try of the same locations that ended, and one that is to be made again
pub try_ended : {A : Type 0} (meaning : A → Meaning) (own : Meaning) (old new : AgentAt A) (step : Step)
    (ps qs : List Place) (x : Option StepEnd) (o : StepEnd) → ps ≡ qs → x ≡ Some o →
    IsTry meaning own old new step ps x → IsTry meaning own old new step qs (Some o)
try_ended meaning own old new step ps qs x o same is tried =
    subst (λ rs. IsTry meaning own old new step rs (Some o)) same (subst (IsTry meaning own old new step ps) is tried)

pub try_again : {A : Type 0} (meaning : A → Meaning) (own : Meaning) (old new : AgentAt A) (step : Step)
    (ps qs : List Place) (x : Option StepEnd) → ps ≡ qs → x ≡ None → IsTry meaning own old new step ps x →
    IsAgain meaning own step qs old new
try_again meaning own old new step ps qs x same is tried =
    subst (λ rs. IsAgain meaning own step rs old new) same (subst (IsTry meaning own old new step ps) is tried)

module _ {A : Type 0} (meaning : A → Meaning) where
  module _ (own : Meaning) (old mid : AgentAt A) (laws : (a : A) → AggregatorLaws (meaning a)) (step : Step)
      (places : List Place) (reading : Option ReadingView) (reads : AreReads step places)
      (read : HasRead meaning old mid places reading) where
    abbrev m : Machine
    m = machine_of meaning old.storage

    abbrev here : List Move
    here = moves_seen mid.account.seen

    -- a state of more moves in which what was read is as it was is one that was read
    read_of : (q : List Move) → AreProper old.storage.init q →
        ((l : Place) → Contains places l → val (machine_state m q) l ≡ val (machine_state m here) l) →
        IsReadOf (machine_state m q) (read_value reading) step
    read_of q proper same = record {
      proper = moves_proper (laws old.storage.agg) old.storage.init q proper.state proper.moves;
      same = λ l there. by_reading reading read l ((reads.named l).1 there);
    } where
      by_reading : (o : Option ReadingView) → HasRead meaning old mid places o → (l : Place) → Contains places l →
          val (machine_state m q) l ≡ read_value o l
      by_reading None none l there = absurd (omega (arith, (subst (λ (ls : List Place). Contains ls l) none.0 there).1))
      by_reading (Some r) is l there =
          let values : r.values ≡ map (val (machine_state m here)) places = cc is.1.reply in
          same l there ∙ sym (value_mapped (val (machine_state m here)) places l there)
          ∙ (λ n. value_among (sym is.1.locations n) (sym values n) l)

    -- the state that was read has the fault
    fault_here : (f : StepFault) → IsStepMove own (read_value reading) step (Err f) → AreProper old.storage.init here →
        HasFault own m here step f
    fault_here f move proper = (
      length here,
      omega arith,
      subst (λ q. IsMoveFor own (machine_state m q) step (Err f)) (sym (take_all (length here) here (omega arith)))
          (move (machine_state m here) (read_of here proper (λ l there. refl))),
    )

    -- a step that has no move ends
    fault_reported : (f : StepFault) (o : StepEnd) (es : List Event) → IsEndOf f o → All IsIdle es →
        HasFault own m here step f → AreStepEvents own m here step o es
    fault_reported (fault.Clash c) o es is idle has = subst (λ p. AreStepEvents own m here step p es) (sym is) (inr (idle, has))
    fault_reported fault.Many o es is idle has = subst (λ p. AreStepEvents own m here step p es) (sym is) (idle, inr has)
    fault_reported fault.Memory o es is idle has = absurd is
    fault_reported f o es is idle has = subst (λ p. AreStepEvents own m here step p es) (sym is) (idle, has)

    not_given_up : (f : StepFault) (o : StepEnd) → IsEndOf f o → o ≢ step_end.GaveUp
    not_given_up fault.Memory o is bad = absurd is
    not_given_up f o is bad = let no = sym is ∙ bad in cc no

    -- the try of a step that has no move
    pub ended_by_fault : (f : StepFault) (o : StepEnd) → IsEndOf f o →
        IsStepMove own (read_value reading) step (Err f) →
        IsTry meaning own old mid step places (Some o)
    ended_by_fault f o is move =
        let had = read_adds meaning old mid places reading read in (
          record {
            more = had.more;
            adds = had.adds;
            fresh = had.fresh;
            once = λ proper. try_without own m here step places had.number (map (event_of old.account.id) had.more)
                (omega (arith, had.number_is)) had.calls;
            reported = λ same proper.
                fault_reported f o (map (event_of old.account.id) had.more) is had.idle (fault_here f move proper);
          },
          not_given_up f o is,
        )

    module _ (new : AgentAt A) (M : Move) (move : IsStepMove own (read_value reading) step (Ok M)) where
      abbrev reads_named : List Named
      reads_named = names_of reading

      had : AddsRead places reading old mid
      had = read_adds meaning old mid places reading read

      storage_is : mid.storage ≡ old.storage
      storage_is = had.adds.same.storage

      -- where no name is stale, what was read is as it was
      unchanged : (q : List Move) → IsPrefix here q → least_stale m.part m.init q reads_named ≡ None →
          (l : Place) → Contains places l → val (machine_state m q) l ≡ val (machine_state m here) l
      unchanged q p none l there = by_reading reading read none where
        by_reading : (o : Option ReadingView) → HasRead meaning old mid places o →
            least_stale m.part m.init q (names_of o) ≡ None →
            val (machine_state m q) l ≡ val (machine_state m here) l
        by_reading None empty none = absurd
            (omega (arith, (subst (λ (ls : List Place). Contains ls l) empty.0 there).1))
        by_reading (Some r) is none =
            let number : r.number ≡ length here = cc is.1.reply in
            let value = fresh_value m q r none (omega (arith, number, length-prefix here q p)) l
            (subst (λ (ls : List Place). Contains ls l) (sym is.1.locations) there) in
            sym value ∙ ap (λ w. val (machine_state m w) l) (taken_prefix here q r.number number p)

      -- and the move stands for the step
      stands : (q : List Move) → AreProper old.storage.init q → IsPrefix here q →
          least_stale m.part m.init q reads_named ≡ None → IsMoveFor own (machine_state m q) step (Ok M)
      stands q proper p none = move (machine_state m q) (read_of q proper (unchanged q p none))

      blocks_fire : (q : List Move) → m.part ≡ own.part → IsMoveFor own (machine_state m q) step (Ok M) →
          fire_blocks m.part (machine_state m q) step ≡ fired_or_stopped (fire m.part (machine_state m q) M)
      blocks_fire q same stands =
          subst (λ p. fire_blocks p (machine_state m q) step ≡ fired_or_stopped (fire p (machine_state m q) M)) (sym same) stands.1

      -- the events of the read, and then that of the fire
      events_of : (r : Receipt) →
          map (event_of old.account.id) (had.more ++ r ∷ []) ≡ map (event_of old.account.id) had.more ++ event_of
          old.account.id r ∷ []
      events_of r = map-append (event_of old.account.id) had.more (r ∷ [])

      ends : (P : Event → Type 0) (r : Receipt) → P (event_of old.account.id r) →
          EndsWith P (map (event_of old.account.id) (had.more ++ r ∷ []))
      ends P r holds = (map (event_of old.account.id) had.more, event_of old.account.id r, events_of r, had.idle, holds)

      all_idle : (r : Receipt) → IsIdle (event_of old.account.id r) →
          All IsIdle (map (event_of old.account.id) (had.more ++ r ∷ []))
      all_idle r idle = subst (All IsIdle) (sym (events_of r))
          (All-append IsIdle (map (event_of old.account.id) had.more) (event_of old.account.id r ∷ []) had.idle
          (All-cons IsIdle _ [] idle (All-nil IsIdle)))

      -- with the receipt of a fire that wasn't stale
      none_stale : (r : Receipt) → stale_fire r.answer ≡ 0 →
          stale_fires (map (event_of old.account.id) (had.more ++ r ∷ [])) ≡ 0
      none_stale r is = omega (
        arith,
        ap stale_fires (events_of r),
        stale_both (map (event_of old.account.id) had.more) (event_of old.account.id r ∷ []),
        had.fresh,
        is,
      )

      -- the number that was read is within what the agent has seen since
      number_within : (q : List Move) → IsPrefix here q → had.number ≤ length q
      number_within q p = omega (arith, had.number_is, length-prefix here q p)

      -- with the receipt of a fire of the move
      tried_once : (r : Receipt) (q : List Move) → r.call ≡ call.Fire reads_named M → IsPrefix here q →
          AreProper old.storage.init q → IsTryOf own m q step places (map (event_of old.account.id) (had.more ++ r ∷ []))
      tried_once r q is p proper =
          let there = proper_prefix old.storage.init here q p proper in
          let move_here = (move (machine_state m here) (read_of here there (λ l at. refl))).0 in
          try_with own m q step places had.number (map (event_of old.account.id) (had.more ++ r ∷ []))
          (map (event_of old.account.id) had.more) (event_of old.account.id r) M (number_within q p) (events_of r)
          had.calls (is ∙ ap (λ (ns : List Named). call.Fire ns M) had.names)
          (subst (λ w. step_move_on own (machine_state m w) None step ≡ Ok M)
          (sym (taken_prefix here q had.number had.number_is p)) move_here)

      replied : (r : Reply) (q : List Move) →
          answer.Fire r ≡ reply_to (machine_of meaning mid.storage) q (call.Fire reads_named M) →
          answer.Fire r ≡ reply_to m q (call.Fire reads_named M)
      replied r q is = is ∙ ap (λ (s : StorageView A). reply_to (machine_of meaning s) q (call.Fire reads_named M))
          storage_is

      -- the fire was answered Fired
      fired_reported : (k : ℕ) → IsReplied meaning mid new reads_named M (reply.Fired k) →
          IsTry meaning own old new step places (Some (step_end.Fired k))
      fired_reported k is =
          let agent = is.agent in
          let seen = take (k - 1) new.account.seen in
          let q = moves_seen seen in
          let all = moves_seen new.account.seen in
          let r = receipt_at (k - 1) (call.Fire reads_named M) (answer.Fire (reply.Fired k)) in
          let entry : Entry = record { agent = mid.account.id; instrs = M } in
          let longer : new.account.seen ≡ seen ++ entry ∷ [] = ap (λ (a : AgentAt A). a.account.seen) agent in
          let adds = fire_adds mid new reads_named M (k - 1) (reply.Fired k) seen
          (ap (λ (a : AgentAt A). a.storage) agent) (ap (λ (a : AgentAt A). a.account.id) agent)
          (ap (λ (a : AgentAt A). a.account.receipts) agent) is.begins (entry ∷ [], sym longer) in
          let moves_more : all ≡ q ++ M ∷ [] = ap moves_seen longer
          ∙ map-append (λ (x : Entry). x.instrs) seen (entry ∷ []) in
          let by = fired_reply m q reads_named M k (replied (reply.Fired k) q is.reply) in
          let B = after_move m.part (machine_state m q) M in
          let first : take (k - 1) all ≡ q = ap (take (k - 1)) moves_more
          ∙ take_at q (M ∷ []) (k - 1) (omega (arith, by.number)) in
          let whole : take k all ≡ take (k - 1) all ++ M ∷ [] =
          take_all k all (omega (arith, by.number, ap length moves_more, length-append q (M ∷ []))) ∙ moves_more
          ∙ ap (λ w. w ++ M ∷ []) (sym first) in
          let before = prefix_mapped (λ (x : Entry). x.instrs) mid.account.seen seen is.begins in (
            record {
              more = had.more ++ r ∷ [];
              adds = adds_then old mid new had.more (r ∷ []) had.adds adds;
              fresh = none_stale r refl;
              once = tried_once r all refl (prefix_mapped (λ (x : Entry). x.instrs) mid.account.seen new.account.seen
                  (IsPrefix-trans mid.account.seen seen new.account.seen is.begins (entry ∷ [], sym longer)));
              reported = λ same proper.
                  let proper_q = proper_prefix old.storage.init q all (M ∷ [], sym moves_more) proper in
                  let stands_q = stands q proper_q before by.fresh in
                  ends (IsFiring own m all step k) r (
                    reads_named,
                    M,
                    refl,
                    refl,
                    omega (arith, by.number),
                    whole,
                    subst (λ w. step_move_on own (machine_state m w) None step ≡ Ok M) (sym first) stands_q.0,
                    (
                      B,
                      subst (λ w. fire m.part (machine_state m w) M ≡ Ok B) (sym first) by.fires,
                      subst (λ w. fire_blocks m.part (machine_state m w) step ≡ Ok B) (sym first)
                          (blocks_fire q same stands_q ∙ ap fired_or_stopped by.fires),
                    ),
                  );
            },
            (λ bad. cc bad),
          )

      -- another answer keeps what was seen
      answered_adds : (r : Reply) → IsPrefix mid.account.seen new.account.seen →
          new ≡ record (has_polled mid new.account.seen new.misses new.number) {
            account = record (has_polled mid new.account.seen new.misses new.number).account {
              receipts = mid.account.receipts ++ receipt_at (length new.account.seen) (call.Fire reads_named M)
                  (answer.Fire r) ∷ [];
            };
          } → Adds old new (had.more ++ receipt_at (length new.account.seen) (call.Fire reads_named M)
          (answer.Fire r) ∷ [])
      answered_adds r begins agent =
          adds_then old mid new had.more _ had.adds
          (fire_adds mid new reads_named M (length new.account.seen) r new.account.seen
          (ap (λ (a : AgentAt A). a.storage) agent)
          (ap (λ (a : AgentAt A). a.account.id) agent) (ap (λ (a : AgentAt A). a.account.receipts) agent) begins
          ([], append-nil new.account.seen))

      -- where a fire was stale, something was read
      reads_some : (l : Place) → IsReplied meaning mid new reads_named M (reply.Stale l) → places ≢ []
      reads_some l is none =
          by_reading reading read (replied (reply.Stale l) (moves_seen new.account.seen) is.reply) where
            by_reading : (o : Option ReadingView) → HasRead meaning old mid places o →
                answer.Fire (reply.Stale l) ≡ reply_to m (moves_seen new.account.seen) (call.Fire (names_of o) M) → ⊥
            by_reading None read is = not_stale m (moves_seen new.account.seen) M l is
            by_reading (Some r) read is = read.0 none

      -- the fire was answered, or it was busy
      pub ended_by_fire : (o : Option Reply) → HasTried meaning mid new reads_named M o →
          IsTry meaning own old new step places (end_of o)
      ended_by_fire (Some (reply.Fired k)) is = fired_reported k is
      ended_by_fire (Some (reply.Clash c)) is =
          let all = moves_seen new.account.seen in
          let by = clashed_by m all reads_named M c (replied (reply.Clash c) all is.reply) in
          let before = prefix_mapped (λ (x : Entry). x.instrs) mid.account.seen new.account.seen is.begins in
          let r = receipt_at (length new.account.seen) (call.Fire reads_named M) (answer.Fire (reply.Clash c)) in (
            record {
              more = had.more ++ r ∷ [];
              adds = answered_adds (reply.Clash c) is.begins is.agent;
              fresh = none_stale r refl;
              once = tried_once r all refl before;
              reported = λ same proper.
                  let stands_here = stands all proper before by.0 in
                  let whole = take_all (length all) all (omega arith) in
                  inl (ends (IsClashing own m all step c) r (
                    reads_named,
                    M,
                    refl,
                    refl,
                    length all,
                    omega arith,
                    subst (λ q. step_move_on own (machine_state m q) None step ≡ Ok M) (sym whole) stands_here.0,
                    ap (λ q. fire_blocks m.part (machine_state m q) step) whole ∙ blocks_fire all same stands_here
                        ∙ ap fired_or_stopped by.1,
                  ));
            },
            (λ bad. cc bad),
          )
      ended_by_fire (Some reply.Full) is =
          let all = moves_seen new.account.seen in
          let by = no_room_by m all reads_named M (replied reply.Full all is.reply) in
          let before = prefix_mapped (λ (x : Entry). x.instrs) mid.account.seen new.account.seen is.begins in
          let r = receipt_at (length new.account.seen) (call.Fire reads_named M) (answer.Fire reply.Full) in (
            record {
              more = had.more ++ r ∷ [];
              adds = answered_adds reply.Full is.begins is.agent;
              fresh = none_stale r refl;
              once = tried_once r all refl before;
              reported = λ same proper.
                  let stands_here = stands all proper before by.fresh in
                  let whole = take_all (length all) all (omega arith) in
                  ends (HasNoRoom own m all step) r (
                    reads_named,
                    M,
                    refl,
                    refl,
                    length all,
                    omega arith,
                    by.many,
                    subst (λ q. step_move_on own (machine_state m q) None step ≡ Ok M) (sym whole) stands_here.0,
                    (
                      by.state,
                      ap (λ q. fire_blocks m.part (machine_state m q) step) whole ∙ blocks_fire all same stands_here
                          ∙ ap fired_or_stopped by.fires,
                    ),
                  );
            },
            (λ bad. cc bad),
          )
      ended_by_fire (Some (reply.Stale l)) is =
          let r = receipt_at (length new.account.seen) (call.Fire reads_named M) (answer.Fire (reply.Stale l)) in
          let one : stale_fire r.answer ≡ 1 = refl in
          let q = moves_seen new.account.seen in
          let before = prefix_mapped (λ (x : Entry). x.instrs) mid.account.seen new.account.seen is.begins in
          record {
            more = had.more ++ r ∷ [];
            adds = answered_adds (reply.Stale l) is.begins is.agent;
            idle = all_idle r (idle_stale old.account.id (length new.account.seen) reads_named M l);
            once = λ proper. vain_with own m q step places (map (event_of old.account.id) (had.more ++ r ∷ []))
                (reads_some l is) (tried_once r q refl before proper)
                (all_idle r (idle_stale old.account.id (length new.account.seen) reads_named M l));
            cause = inl (
              (had.more, r, l, refl, refl),
              omega (
                arith,
                ap stale_fires (events_of r),
                stale_both (map (event_of old.account.id) had.more) (event_of old.account.id r ∷ []),
                had.fresh,
                one,
              ),
            );
          }
      ended_by_fire None is = record {
        more = had.more ++ [];
        adds = adds_then old mid new had.more [] had.adds (record {
          same = record {
            storage = ap (λ (a : AgentAt A). a.storage) is.agent;
            id = ap (λ (a : AgentAt A). a.account.id) is.agent;
          };
          begins = is.begins;
          added = ap (λ (a : AgentAt A). a.account.receipts) is.agent ∙ sym (append-nil mid.account.receipts);
        });
        idle = subst (λ rs. All IsIdle (map (event_of old.account.id) rs)) (sym (append-nil had.more)) had.idle;
        once = λ proper. subst (λ rs. IsVainTry own m (moves_seen new.account.seen) step places
            (map (event_of old.account.id) rs)) (sym (append-nil had.more))
            (vain_without own m (moves_seen new.account.seen) step places had.number
            (map (event_of old.account.id) had.more)
            (number_within (moves_seen new.account.seen)
            (prefix_mapped (λ (x : Entry). x.instrs) mid.account.seen new.account.seen is.begins)) had.calls had.idle);
        cause = inr (
          subst (λ rs. stale_fires (map (event_of old.account.id) rs) ≡ 0) (sym (append-nil had.more)) had.fresh,
          omega (arith, is.longer, length-prefix old.account.seen mid.account.seen had.adds.begins),
        );
      }
