use Rattle.std.proofs.Common.{◌≡◌, false, List, Option, ap, sym, ◌∙◌, subst}
use Rattle.std.proofs.lemmas.Result.{err_from_is_err_and}
use Rattle.asm_state.specs.declared.named.Named.{Named}
use Rattle.asm_storage.specs.declared.call.Reply.{Reply}
use Rattle.asm_storage.specs.Part.{agent_of, IsJudgedOver}
use Rattle.asm_storage.specs.Calls.{is_plain_over}
use Rattle.asm_storage.specs.Storage.{AgentAt}
use Rattle.asm_storage.proofs.FireTurns.{answered_quiet, attempt_counted, attempt_ran, attempt_seen, attempted, none_offered, polled_id, same_asked, same_entry}
use Rattle.asm_storage.proofs.Scanning.{turn_offered, turn_quiet}
use Rattle.asm_storage.proofs.SureFires.{polls_same, to_fire}
use Rattle.asm_storage.proofs.part.AgentPart.turn.Goals as goal

pub refusal-requires-clause-level : goal.refusal-requires-clause-level
refusal-requires-clause-level g c κs within = λ not.
    c.in_ok-make_ready.ensures.level
    (subst (λ (rs : List Named). is_plain_over rs c.args.scans.now c.args.asked.now.instrs ≡ false) (sym c.as_slice.ensures) not)

-- it was answered, and fired nothing
pub returns-in-Some-clause-turn : goal.returns-in-Some-clause-turn
returns-in-Some-clause-turn g c =
    let meaning = g.A.Aggregator.meaning in
    let s = c.args.storage.now in
    let M = c.args.asked.now.instrs in
    let reads = c.args.asked.now.reads in
    let scans = c.args.scans.now in
    let mid = c.make_ready.new.self in
    let new = c.refusal.new.self in
    let polls = c.make_ready.ensures.polls in
    let (named, over, replies, quiet, kept) = subst (λ (o : Option Reply). IsJudgedOver meaning s mid new reads scans M o)
    c.in-Some.is c.in_ok-reply.ensures.judged in
    let is = answered_quiet meaning (agent_of s c.args.self.now) (agent_of s mid) named M (agent_of s new) c.in-Some.reply
    polls.agent polls.seen replies quiet kept in
    turn_quiet meaning s c.args.self.now mid new reads scans M named c.in-Some.reply
    over replies quiet (ap (λ (a : AgentAt _). a.account.seen) kept) is

-- the reply to the fire that names its reads alone, where it is to fire
pub attempt-requires-clause-reply : goal.attempt-requires-clause-reply
attempt-requires-clause-reply g c κs within =
    let meaning = g.A.Aggregator.meaning in
    let s = c.args.storage.now in
    let mid = c.make_ready.new.self in
    let free = subst (λ (o : Option Reply). IsJudgedOver meaning s mid c.refusal.new.self c.args.asked.now.reads c.args.scans.now c.args.asked.now.instrs o)
    c.in-None.is c.in_ok-reply.ensures.judged in
    (to_fire meaning s c.args.self.now mid c.refusal.new.self c.make_ready.ensures.polls c.args.asked.now.reads
    c.args.scans.now c.args.asked.now.instrs c.refusal.ensures.part c.make_ready.ensures.missed free).replies

pub attempt-requires-clause-room : goal.attempt-requires-clause-room
attempt-requires-clause-room g c κs within =
    let meaning = g.A.Aggregator.meaning in
    let s = c.args.storage.now in
    let mid = c.make_ready.new.self in
    let free = subst (λ (o : Option Reply). IsJudgedOver meaning s mid c.refusal.new.self c.args.asked.now.reads c.args.scans.now c.args.asked.now.instrs o)
    c.in-None.is c.in_ok-reply.ensures.judged in
    (to_fire meaning s c.args.self.now mid c.refusal.new.self c.make_ready.ensures.polls c.args.asked.now.reads
    c.args.scans.now c.args.asked.now.instrs c.refusal.ensures.part c.make_ready.ensures.missed free).room

-- an offer was made, or memory was refused
pub returns-in-None-clause-turn : goal.returns-in-None-clause-turn
returns-in-None-clause-turn g c =
    let meaning = g.A.Aggregator.meaning in
    let s = c.args.storage.now in
    let M = c.args.asked.now.instrs in
    let reads = c.args.asked.now.reads in
    let scans = c.args.scans.now in
    let old = c.args.self.now in
    let mid = c.make_ready.new.self in
    let ready = c.refusal.new.self in
    let new = c.attempt.new.self in
    let free = subst (λ (o : Option Reply). IsJudgedOver meaning s mid ready reads scans M o)
    c.in-None.is c.in_ok-reply.ensures.judged in
    let is = to_fire meaning s old mid ready c.make_ready.ensures.polls reads scans M c.refusal.ensures.part
    c.make_ready.ensures.missed free in
    turn_offered meaning s old ready new reads scans M c.attempt.result is.unfound c.attempt.ensures.won
    (attempted meaning s old ready new reads M is.polls
    c.attempt.result c.attempt.ensures.part is.replies c.attempt.ensures.won c.attempt.ensures.lost)

pub returns-in-None-clause-seen : goal.returns-in-None-clause-seen
returns-in-None-clause-seen g c =
    let meaning = g.A.Aggregator.meaning in
    let s = c.args.storage.now in
    let old = c.args.self.now in
    let mid = c.make_ready.new.self in
    let ready = c.refusal.new.self in
    let free = subst (λ (o : Option Reply). IsJudgedOver meaning s mid ready c.args.asked.now.reads c.args.scans.now c.args.asked.now.instrs o)
    c.in-None.is c.in_ok-reply.ensures.judged in
    attempt_seen meaning s old ready c.attempt.new.self c.args.asked.now.reads c.args.asked.now.instrs
    (polls_same meaning s old mid ready c.make_ready.ensures.polls free.3 c.refusal.ensures.part) c.attempt.result
    c.attempt.ensures.won c.attempt.ensures.lost c.attempt.ensures.err

pub returns-in-None-clause-counted : goal.returns-in-None-clause-counted
returns-in-None-clause-counted g c =
    let meaning = g.A.Aggregator.meaning in
    let s = c.args.storage.now in
    let M = c.args.asked.now.instrs in
    let reads = c.args.asked.now.reads in
    let scans = c.args.scans.now in
    let old = c.args.self.now in
    let mid = c.make_ready.new.self in
    let ready = c.refusal.new.self in
    let free = subst (λ (o : Option Reply). IsJudgedOver meaning s mid ready reads scans M o)
    c.in-None.is c.in_ok-reply.ensures.judged in
    let is = to_fire meaning s old mid ready c.make_ready.ensures.polls reads scans M c.refusal.ensures.part
    c.make_ready.ensures.missed free in
    attempt_counted meaning s old ready c.attempt.new.self reads M is.polls c.attempt.result is.room is.missed
    c.attempt.ensures.won c.attempt.ensures.lost c.attempt.ensures.err

pub returns-in_err-reply-clause-counted : goal.returns-in_err-reply-clause-counted
returns-in_err-reply-clause-counted g c =
    let refused = err_from_is_err_and c.from_residual-in_err-reply.result c.from_residual-in_err-reply.ensures.1 in
    none_offered g.A.Aggregator.meaning c.args.storage.now c.args.self.now c.make_ready.new.self c.refusal.new.self
    c.args.asked.now.reads c.args.asked.now.instrs c.make_ready.ensures.polls c.from_residual-in_err-reply.result
    refused.0 refused.1 c.make_ready.ensures.missed c.in_err-reply.ensures.err

pub returns-in-None-clause-calls : goal.returns-in-None-clause-calls
returns-in-None-clause-calls g c =
    attempt_ran (λ p q. goal.F-step g p tt q) c.args.between.now c.attempt.new.between c.args.storage.now
    c.refusal.new.self c.attempt.new.self c.args.asked.now.reads c.args.asked.now.instrs c.attempt.result c.attempt.ensures.won
    c.attempt.ensures.called c.attempt.ensures.uncalled

-- the agent has the number that it had
pub attempt-requires-clause-pending : goal.attempt-requires-clause-pending
attempt-requires-clause-pending g c κs within =
    let old = c.args.self.now in
    let mid = c.make_ready.new.self in
    let ready = c.refusal.new.self in
    let same = c.refusal.ensures.id ∙ polled_id g.A.Aggregator.meaning c.args.storage.now old mid c.make_ready.ensures.polls in
    same_entry old.id ready.id c.args.asked.now (sym same) c.requires.pending

pub returns-in-None-clause-pending : goal.returns-in-None-clause-pending
returns-in-None-clause-pending g c =
    let old = c.args.self.now in
    let mid = c.make_ready.new.self in
    let ready = c.refusal.new.self in
    let same = c.refusal.ensures.id ∙ polled_id g.A.Aggregator.meaning c.args.storage.now old mid c.make_ready.ensures.polls in
    same_asked ready.id old.id c.args.asked.now.reads c.args.asked.now.instrs c.attempt.new.asked c.attempt.result same
    c.attempt.ensures.pending
