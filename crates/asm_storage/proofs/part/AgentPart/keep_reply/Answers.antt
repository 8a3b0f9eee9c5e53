use Rattle.std.proofs.Common.{◌≡◌, take, ap, sym, ◌∙◌, subst}
use Rattle.asm_storage.specs.declared.call.Answer.TheVariants as answer
use Rattle.asm_storage.specs.declared.call.Call.{Call}
use Rattle.asm_storage.specs.declared.call.Call.TheVariants as call
use Rattle.asm_storage.specs.declared.call.Reply.{Reply}
use Rattle.asm_storage.specs.Agents.{moves_seen}
use Rattle.asm_storage.specs.Machine.{reply_to}
use Rattle.asm_storage.specs.Storage.{machine_of}
use Rattle.asm_storage.proofs.AgentInvariant.{take_seen}
use Rattle.asm_storage.proofs.part.AgentPart.keep_reply.Goals as goal

pub keep-requires-clause-reply : goal.keep-requires-clause-reply
keep-requires-clause-reply g c κs within =
    let m = machine_of g.A.Aggregator.meaning c.args.storage.now in
    let seen = c.args.self.now.progress.seen in
    let all = ap (λ n. take n (moves_seen seen)) c.seen_len-stood.ensures.value ∙ take_seen seen in
    let asked = call.Fire c.args.reads.now c.args.instrs.now in
    let reported = subst (λ (r : Reply). answer.Fire r ≡ reply_to m (moves_seen seen) asked) (sym c.in_ok-copy.ensures) c.requires.reply in
    subst (λ q. answer.Fire c.in_ok-copy.field-0 ≡ reply_to m q c.in_ok-call.call) (sym all)
    (subst (λ (k : Call). answer.Fire c.in_ok-copy.field-0 ≡ reply_to m (moves_seen seen) k) (sym c.in_ok-call.ensures) reported)
