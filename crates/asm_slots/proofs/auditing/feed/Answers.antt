use Rattle.std.proofs.Common.{◌≡◌, Ok, rules}
use Rattle.asm_slots.proofs.FedAudits.{all_legal}
use Rattle.asm_slots.proofs.auditing.feed.Goals as goal

pub returns-in-Ok : goal.returns-in-Ok
returns-in-Ok c =
    let fed = c.feed-count in
    let ok : fed.result.1 ≡ Ok tt = search rules in
    all_legal c.args.bytes.now fed.result.0 c.of.result c.counts.result c.args.audit.now fed.new.self fed.result.1 ok
    fed.ensures.answer fed.ensures.first c.counts.ensures c.of.ensures
