use Rattle.std.proofs.Common.{sym, subst}
use Rattle.asm_storage.specs.declared.receipt.Receipt.{Receipt}
use Rattle.asm_storage.specs.Agents.{AgentView, IsAgent}
use Rattle.asm_storage.specs.Part.{account_of}
use Rattle.asm_storage.specs.Storage.{machine_of}
use Rattle.asm_storage.proofs.AgentInvariant.{quiet_kept}
use Rattle.asm_storage.proofs.part.AgentPart.keep.Goals as goal

pub returns-clause-part : goal.returns-clause-part
returns-clause-part g c =
    let m = machine_of g.A.Aggregator.meaning c.args.storage.now in
    let account : AgentView = account_of c.args.self.now in
    let r : Receipt = record { call = c.args.call; answer = c.args.answer; stood = c.args.stood } in
    let part = c.requires.part in
    let kept = quiet_kept m account r part.agent c.requires.seen c.requires.later c.requires.reply c.requires.quiet in
    record {
      row = part.row;
      few = part.few;
      counted = part.counted;
      agent = subst (λ rs. IsAgent m (record account { receipts = rs })) (sym c.in_ok-push.ensures.items) kept;
      following = part.following;
    }
