use Rattle.std.proofs.Common.{◌≡◌, ◌+◌, Some, [], ◌∷◌, ◌++◌, ap, arith, sym, ◌∙◌, subst}
use Rattle.asm_row.specs.Seat.{SeatView}
use Rattle.asm_storage.specs.declared.call.Call.{Call}
use Rattle.asm_storage.specs.declared.call.Call.TheVariants as call
use Rattle.asm_storage.specs.declared.call.Answer.TheVariants as answer
use Rattle.asm_storage.specs.declared.call.Reply.TheVariants as reply
use Rattle.asm_storage.specs.declared.entry.Entry.{Entry}
use Rattle.asm_storage.specs.declared.receipt.Receipt.{Receipt}
use Rattle.asm_storage.specs.Agents.{AgentView, IsAgent}
use Rattle.asm_storage.specs.Part.{account_of}
use Rattle.asm_storage.specs.Storage.{machine_of}
use Rattle.asm_storage.proofs.PartInvariant.{following_more, seen_part}
use Rattle.asm_storage.proofs.AgentInvariant.{fired_kept, same_agent}
use Rattle.asm_storage.proofs.part.AgentPart.offer.Goals as goal

pub returns-in-Ok-clause-part : goal.returns-in-Ok-clause-part
returns-in-Ok-clause-part g c =
    let p = c.args.self.now in
    let seen = p.progress.seen in
    let entry = c.args.entry.value in
    let asked = call.Fire c.args.asked.now.reads c.args.asked.now.instrs in
    let m = machine_of g.A.Aggregator.meaning c.args.storage.now in
    let part = c.requires.part in
    let account : AgentView = account_of p in
    let r : Receipt = record { call = asked; answer = answer.Fire (reply.Fired c.args.number); stood = c.seen_len-stood.result } in
    let mine : Entry = record { agent = p.id; instrs = entry.instrs } in
    let entry_is : entry ≡ mine = ap (λ i. let e : Entry = record { agent = i; instrs = entry.instrs } in e) c.requires.mine in
    let won = c.in-Ok.ensures.won in
    let now = c.try_offer.new.self in
    let with_call : Call → Receipt = λ k. record r { call = k } in
    let pushed : c.push.new.self.items ≡ c.reserve.new.self.items ++ r ∷ [] =
    rw c.unwrap.ensures at c.push.ensures.items ∙ ap (λ k. c.reserve.new.self.items ++ with_call k ∷ []) c.take_call.ensures in
    let kept = fired_kept m account r entry.instrs part.agent c.seen_len-stood.ensures.value c.requires.reply (ap Some (sym c.requires.instrs)) in
    record {
      row = c.in-Ok.ensures.row ∙ part.row;
      few = part.few;
      counted = omega (arith, ap (λ (s : SeatView Entry). s.misses) won, part.counted);
      agent = same_agent m p.id (seen ++ mine ∷ []) now.seen (p.progress.won + 1) now.won (p.receipts.items ++ r ∷ [])
          c.push.new.self.items kept (ap (λ (s : SeatView Entry). s.seen) won ∙ ap (λ (e : Entry). seen ++ e ∷ []) entry_is)
          (ap (λ (s : SeatView Entry). s.won) won) (pushed ∙ ap (λ rs. rs ++ r ∷ []) c.in_ok-reserve.ensures.items);
      following = following_more m seen now.seen p.state (entry ∷ [], sym (ap (λ (s : SeatView Entry). s.seen) won)) part.following;
    }

pub returns-in-Err-clause-part : goal.returns-in-Err-clause-part
returns-in-Err-clause-part g c =
    let p = c.args.self.now in
    let m = machine_of g.A.Aggregator.meaning c.args.storage.now in
    let lost = c.in-Err.ensures.lost.1 in
    let now = c.try_offer.new.self in
    let misses = ap (λ (s : SeatView Entry). s.misses) lost in
    let seen = sym (ap (λ (s : SeatView Entry). s.seen) lost) in
    let part = seen_part g.A.Aggregator.meaning c.args.storage.now p now c.requires.part c.in-Err.ensures.row
    (ap (λ (s : SeatView Entry). s.won) lost) (omega (arith, misses, c.requires.part.counted))
    (c.in-Err.ensures.lost.0 ∷ [], seen) in
    let account : AgentView = record { id = p.id; seen = now.seen; won = now.won; receipts = p.receipts.items } in
    record {
      row = part.row;
      few = part.few;
      counted = part.counted;
      agent = subst (λ rs. IsAgent m (record account { receipts = rs })) (sym c.in_ok-reserve.ensures.items) part.agent;
      following = part.following;
    }
