use Rattle.std.proofs.Common.{◌≡◌, false, List, Option, refl, ap, ◌∙◌, subst}
use Rattle.asm_state.specs.declared.named.Named.{Named}
use Rattle.asm_storage.specs.declared.call.Call.TheVariants as call
use Rattle.asm_storage.specs.declared.call.Reply.{Reply}
use Rattle.asm_storage.specs.Agents.{moves_seen}
use Rattle.asm_storage.specs.Calls.{is_plain}
use Rattle.asm_storage.specs.Machine.{reply_to}
use Rattle.asm_storage.specs.Part.{IsJudged}
use Rattle.asm_storage.specs.Storage.{machine_of}
use Rattle.asm_storage.proofs.Scanning.{names_reads, plain_named, scans_level, unfound_over}
use Rattle.asm_storage.proofs.part.AgentPart.judge_over.Goals as goal

pub named_over-requires-clause-level : goal.named_over-requires-clause-level
named_over-requires-clause-level g c κs within = λ some.
    c.requires.level (scans_level c.args.reads.now c.args.scans.now c.args.instrs.now some)

pub judge-requires-clause-level : goal.judge-requires-clause-level
judge-requires-clause-level g c κs within = λ not.
    let m = machine_of g.A.Aggregator.meaning c.args.storage.now in
    let M = c.args.instrs.now in
    let plain = subst (λ (ns : List Named). is_plain ns M ≡ false) c.as_slice.ensures not in
    c.requires.level (plain_named m (moves_seen c.args.self.now.progress.seen) c.args.reads.now c.args.scans.now
    c.in_ok-named.named M c.in_ok-named.ensures plain)

-- it was answered, and fired nothing
pub returns-in-Some-clause-judged : goal.returns-in-Some-clause-judged
returns-in-Some-clause-judged g c =
    let m = machine_of g.A.Aggregator.meaning c.args.storage.now in
    let M = c.args.instrs.now in
    let named = c.in_ok-named.named in
    let seen = c.args.self.now.progress.seen in
    let judged = subst (λ (o : Option Reply). IsJudged m seen named M o)
    c.in-Some.is (subst (λ (rs : List Named). IsJudged m seen rs M c.in_ok-reply.field-0) c.as_slice.ensures c.in_ok-reply.ensures) in
    (named, c.in_ok-named.ensures, judged.0, judged.1, c.in_ok-keep_reply-in-Some.ensures.ok)

-- the reply to the fire that names its reads alone, where it is to fire
pub returns-clause-judged : goal.returns-clause-judged
returns-clause-judged g c =
    let m = machine_of g.A.Aggregator.meaning c.args.storage.now in
    let M = c.args.instrs.now in
    let named = c.in_ok-named.named in
    let seen = c.args.self.now.progress.seen in
    let reads = c.args.reads.now in
    let scans = c.args.scans.now in
    let judged = subst (λ (o : Option Reply). IsJudged m seen named M o)
    c.in-None.is (subst (λ (rs : List Named). IsJudged m seen rs M c.in_ok-reply.field-0) c.as_slice.ensures c.in_ok-reply.ensures) in (
      judged.0 ∙ ap (λ (ns : List Named). reply_to m (moves_seen seen) (call.Fire ns M))
          (names_reads m seen reads scans named M c.in_ok-named.ensures _ judged.0),
      judged.1,
      unfound_over m seen reads scans named M c.in_ok-named.ensures _ judged.0,
      refl,
    )
