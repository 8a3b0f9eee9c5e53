use Rattle.std.proofs.Common.{◌≡◌, ◌+◌, Err, Ok, IfNone, IfSome, Option, None, Some, true, arith, refl, ap, sym, ◌∙◌, subst}
use Rattle.std.proofs.lemmas.Result.{err_from_is_err_and}
use Rattle.asm_storage.specs.declared.call.Reply.{Reply}
use Rattle.asm_storage.specs.declared.error.FireError.TheVariants as fire_error
use Rattle.asm_storage.specs.Calls.{HasOffered, IsFireOver, MadeOffers, Ran, IsVersionAfter, is_plain_over}
use Rattle.asm_storage.specs.Part.{agent_of, IsAsked, IsTurnOver, offers_in, misses_in}
use Rattle.asm_storage.specs.Scans.{with_found}
use Rattle.asm_row.proofs.Prefixes.{IsPrefix-trans}
use Rattle.asm_storage.proofs.FireTurns.{polled_follows, stands_later, answered_after, offered_then, offers_answered, offers_refused, polled_id, ran_then, asked_entry, of_asked, still_asked}
use Rattle.asm_storage.proofs.PartInvariant.{polls_then}
use Rattle.asm_storage.proofs.Scanning.{is_over}
use Rattle.asm_storage.proofs.part.AgentPart.fire.Goals as goal

-- memory was refused in a turn
pub returns-in_err-reply-clause-offers : goal.returns-in_err-reply-clause-offers
returns-in_err-reply-clause-offers g c =
    let s = c.args.storage.now in
    let old = agent_of s c.args.self.now in
    let mid = agent_of s c.loop-lost.self in
    let new = agent_of s c.turn.new.self in
    let lost = c.loop-lost.lost in
    let before = c.loop-lost.invariant in
    let reported = err_from_is_err_and c.from_residual.result c.from_residual.ensures.1 in
    let made = offers_refused old mid new lost before.counted c.loop-lost-test.true c.in_err-reply.ensures.counted in (
      lost + 0,
      subst (λ r. MadeOffers old new r (lost + 0)) (sym (reported.1 ∙ ap Err reported.2)) made,
      ran_then _ c.args.between.now c.loop-lost.between c.turn.new.between lost 0 before.calls c.in_err-reply.ensures.calls,
    )

-- a turn was answered
pub returns-in-Some-clause-offers : goal.returns-in-Some-clause-offers
returns-in-Some-clause-offers g c =
    let s = c.args.storage.now in
    let old = agent_of s c.args.self.now in
    let mid = agent_of s c.loop-lost.self in
    let new = agent_of s c.turn.new.self in
    let lost = c.loop-lost.lost in
    let reply = c.in-Some.reply in
    let before = c.loop-lost.invariant in
    let counted = subst (λ (o : Option Reply). HasOffered mid new (offers_in (Ok o)) (misses_in new (Ok o))) c.in-Some.is
    c.in_ok-reply.ensures.counted in
    let calls = subst (λ (o : Option Reply). Ran (λ p q. goal.F-step g p tt q) c.loop-lost.between (offers_in (Ok o)) c.turn.new.between)
    c.in-Some.is c.in_ok-reply.ensures.calls in (
      lost + offers_in (Ok (Some reply)),
      offers_answered old mid new lost before.counted reply c.loop-lost-test.true counted,
      ran_then _ c.args.between.now c.loop-lost.between c.turn.new.between lost _ before.calls calls,
    )

-- an offer was lost
pub loop-lost-preserved : goal.loop-lost-preserved
loop-lost-preserved g c =
    let meaning = g.A.Aggregator.meaning in
    let s = c.args.storage.now in
    let old = c.args.self.now in
    let mid = c.loop-lost.self in
    let new = c.turn.new.self in
    let lost = c.loop-lost.lost in
    let before = c.loop-lost.invariant in
    let pending = c.loop-lost.pending in
    let is = subst (λ (o : Option Reply). IsTurnOver meaning s mid new pending.reads c.args.scans.now pending.instrs o) c.in-None.is
    c.in_ok-reply.ensures.turn in
    let counted = subst (λ (o : Option Reply). HasOffered (agent_of s mid) (agent_of s new) (offers_in (Ok o))
    (misses_in (agent_of s new) (Ok o))) c.in-None.is c.in_ok-reply.ensures.counted in
    let same = polled_id meaning s old mid before.polls in
    record {
      callable = c.turn.ensures.callable;
      pending = still_asked mid.id old.id c.args.asked.reads c.args.asked.instrs pending c.turn.new.asked same before.pending
          (subst (λ (o : Option Reply). IfNone o (IsAsked mid.id pending.reads pending.instrs c.turn.new.asked)) c.in-None.is
          c.in_ok-reply.ensures.pending);
      polls = polls_then meaning s old mid new before.polls is;
      unmoved = λ plain. of_asked (λ rs m. is_plain_over rs c.args.scans.now m ≡ true → new.state.number ≡ mid.state.number)
          old.id c.args.asked.reads c.args.asked.instrs pending before.pending c.turn.ensures.unmoved plain ∙ before.unmoved plain;
      counted = offered_then (agent_of s old) (agent_of s mid) (agent_of s new) lost before.counted 1 1 counted;
      calls = ran_then _ c.args.between.now c.loop-lost.between c.turn.new.between lost 1 before.calls
          (subst (λ (o : Option Reply). Ran (λ p q. goal.F-step g p tt q) c.loop-lost.between (offers_in (Ok o)) c.turn.new.between) c.in-None.is
          c.in_ok-reply.ensures.calls);
    }

pub turn-requires-clause-pending : goal.turn-requires-clause-pending
turn-requires-clause-pending g c κs within =
    let old = c.args.self.now in
    let mid = c.loop-lost.self in
    let before = c.loop-lost.invariant in
    let same = polled_id g.A.Aggregator.meaning c.args.storage.now old mid before.polls in
    asked_entry mid.id old.id c.args.asked.reads c.args.asked.instrs c.loop-lost.pending (sym same) before.pending

pub returns-in_err-reply-clause-fire : goal.returns-in_err-reply-clause-fire
returns-in_err-reply-clause-fire g c =
    let meaning = g.A.Aggregator.meaning in
    let s = c.args.storage.now in
    let old = c.args.self.now in
    let new = c.turn.new.self in
    let is = polls_then meaning s old c.loop-lost.self new c.loop-lost.invariant.polls c.in_err-reply.ensures.err in
    let reported = err_from_is_err_and c.from_residual.result c.from_residual.ensures.1 in
    let refused = reported.1 ∙ ap Err reported.2 in
    let offers = returns-in_err-reply-clause-offers g c in
    subst (λ r. IsFireOver meaning (agent_of s old) (agent_of s new) c.args.asked.reads c.args.scans.now c.args.asked.instrs r) (sym refused)
    (is_over meaning (agent_of s old) (agent_of s new) c.args.asked.reads c.args.scans.now c.args.asked.instrs _ None offers.0
    (record { storage = refl; id = polled_id meaning s old new is }) is.seen tt tt is.agent tt
    (λ e. absurd cc, λ lt. absurd (omega (arith, lt, c.requires.few)))
    (subst (λ r. MadeOffers (agent_of s old) (agent_of s new) r offers.0) refused offers.1)
    (polled_follows meaning s old new is) tt)

pub returns-in-Some-clause-fire : goal.returns-in-Some-clause-fire
returns-in-Some-clause-fire g c =
    let meaning = g.A.Aggregator.meaning in
    let s = c.args.storage.now in
    let old = c.args.self.now in
    let mid = c.loop-lost.self in
    let new = c.turn.new.self in
    let polls = c.loop-lost.invariant.polls in
    let offers = returns-in-Some-clause-offers g c in
    let pending = c.loop-lost.pending in
    let (found, answered, depends) = subst (λ (o : Option Reply).
    IsTurnOver meaning s mid new c.args.asked.reads c.args.scans.now c.args.asked.instrs o) c.in-Some.is
    (of_asked (λ rs m. IsTurnOver meaning s mid new rs c.args.scans.now m c.in_ok-reply.field-0) old.id c.args.asked.reads c.args.asked.instrs
    pending c.loop-lost.invariant.pending c.in_ok-reply.ensures.turn) in
    is_over meaning (agent_of s old) (agent_of s new) c.args.asked.reads c.args.scans.now c.args.asked.instrs (Ok c.in-Some.reply) found offers.0
    (record { storage = refl; id = c.turn.ensures.id ∙ polled_id meaning s old mid polls })
    (IsPrefix-trans old.progress.seen mid.progress.seen new.progress.seen polls.seen c.turn.ensures.seen)
    (answered_after meaning (agent_of s old) (agent_of s mid) (with_found c.args.asked.reads found) c.args.asked.instrs (agent_of s new)
    c.in-Some.reply polls.agent polls.seen answered) depends
    tt tt (λ e. absurd cc, λ lt. absurd (omega (arith, lt, c.requires.few))) offers.1
    (record { onward = omega (arith, polls.onward, c.turn.ensures.onward); within = c.turn.ensures.part.following.within })
    (stands_later (agent_of s old) (agent_of s mid) (agent_of s new)
    (is_plain_over c.args.asked.reads c.args.scans.now c.args.asked.instrs) c.in-Some.reply c.loop-lost.invariant.unmoved
    (subst (λ (o : Option Reply). IfSome o (IsVersionAfter (agent_of s mid) (agent_of s new)
    (is_plain_over c.args.asked.reads c.args.scans.now c.args.asked.instrs))) c.in-Some.is
    (of_asked (λ rs m. IfSome c.in_ok-reply.field-0 (IsVersionAfter (agent_of s mid) (agent_of s new) (is_plain_over rs c.args.scans.now m)))
    old.id c.args.asked.reads c.args.asked.instrs pending c.loop-lost.invariant.pending c.in_ok-reply.ensures.stands)))

-- all attempts to append were lost
pub returns-clause-fire : goal.returns-clause-fire
returns-clause-fire g c =
    let meaning = g.A.Aggregator.meaning in
    let s = c.args.storage.now in
    let old = c.args.self.now in
    let new = c.loop-lost.self in
    let before = c.loop-lost.invariant in
    let polls = before.polls in
    is_over meaning (agent_of s old) (agent_of s new) c.args.asked.reads c.args.scans.now c.args.asked.instrs
    (Err (fire_error.Busy c.seen_len-from.result c.seen_len.result)) None c.loop-lost.lost
    (record { storage = refl; id = polled_id meaning s old new polls }) polls.seen tt tt polls.agent
    (c.seen_len-from.ensures.value, c.seen_len.ensures.value)
    (λ e. absurd cc, λ lt. absurd (omega (arith, lt, c.requires.few)))
    (omega (arith, c.loop-lost-test.false, c.loop-lost.auto.lost-end), before.counted)
    (polled_follows meaning s old new polls) tt
