use Rattle.std.proofs.Common.{◌≡◌, ◌<◌, ◌∙◌, List, IfOk, subst, sym, length}
use Rattle.std.specs.Prelude.{MatchBool}
use Rattle.asm_update.specs.Move.{Move}
use Rattle.asm_update.specs.State.{State}
use Rattle.asm_state.specs.FollowsFrom.{FollowsFrom}
use Rattle.asm_storage.specs.Agents.{moves_seen}
use Rattle.asm_storage.specs.Part.{IsReplyAt}
use Rattle.asm_storage.specs.Storage.{machine_of}
use Rattle.asm_storage.proofs.PartInvariant.{stands_for_all}
use Rattle.asm_storage.proofs.FireTurns.{judged_result}
use Rattle.asm_storage.proofs.part.AgentPart.judge.Goals as goal

pub returns : goal.returns
returns g c =
    let p = c.args.self.now in
    let seen = p.progress.seen in
    let meaning = g.A.Aggregator.meaning in
    let m = machine_of meaning c.args.storage.now in
    let full = c.is_full-is_full.result in
    let stands = stands_for_all m seen p.state c.requires.part.following (c.requires.level (sym c.is_plain.ensures ∙ c.if-is_plain.false)) in
    let room = subst (λ row. MatchBool full (length seen ≡ length row) (length seen < length row))
    c.requires.part.row c.is_full-is_full.ensures in
    let reported = subst (λ agg. (init : State) (q : List Move) → FollowsFrom (meaning agg).part init p.state q →
    IfOk c.judged.result (IsReplyAt (meaning agg).part init q full c.args.reads.now c.args.instrs.now))
    c.aggregator-aggregator.ensures c.judged.ensures in
    judged_result m seen c.args.reads.now c.args.instrs.now full c.judged.result room (reported m.init (moves_seen seen) stands)

pub returns-then-is_plain : goal.returns-then-is_plain
returns-then-is_plain g c =
    let p = c.args.self.now in
    let seen = p.progress.seen in
    let m = machine_of g.A.Aggregator.meaning c.args.storage.now in
    let full = c.is_full-is_full.result in
    let room = subst (λ row. MatchBool full (length seen ≡ length row) (length seen < length row))
    c.requires.part.row c.is_full-is_full.ensures in
    judged_result m seen c.args.reads.now c.args.instrs.now full c.judged_plain.result room
    (c.judged_plain.ensures m.part m.init (moves_seen seen))
