use Rattle.std.proofs.Common.{◌≡◌, [], ap, arith, sym, ◌∙◌, subst}
use Rattle.asm_row.specs.Seat.{SeatView}
use Rattle.asm_state.specs.FollowsFrom.{FollowsFrom}
use Rattle.asm_storage.specs.declared.entry.Entry.{Entry}
use Rattle.asm_storage.specs.Part.{IsFollowing}
use Rattle.asm_storage.specs.Storage.{machine_of}
use Rattle.asm_storage.proofs.PartInvariant.{fresh_agent, fresh_following}
use Rattle.asm_storage.proofs.AgentInvariant.{same_agent}
use Rattle.asm_storage.proofs.part.AgentPart.at_start.Goals as goal

pub returns-clause-agent : goal.returns-clause-agent
returns-clause-agent g c =
    let m = machine_of g.A.Aggregator.meaning c.args.storage.now in
    let fresh = c.progress-progress.ensures in
    let number : c.in_ok-state.state.number ≡ 0 = (c.in_ok-state.ensures m.part).number in
    λ i. record {
      storage = c.args.storage.now;
      misses = (fresh i).misses;
      number = number i;
      account = record { id = c.args.id; seen = (fresh i).seen; won = (fresh i).won; receipts = c.new.ensures.items i };
    }

pub returns-clause-part : goal.returns-clause-part
returns-clause-part g c =
    let m = machine_of g.A.Aggregator.meaning c.args.storage.now in
    let progress = c.progress-progress.result in
    let fresh = c.progress-progress.ensures in
    let state = c.in_ok-state.state in
    let seen = ap (λ (p : SeatView Entry). p.seen) fresh in
    let stands : FollowsFrom m.part m.init state [] = c.in_ok-state.ensures m.part in
    record {
      row = ap (λ (p : SeatView Entry). p.row) fresh ∙ c.row.ensures;
      few = c.requires;
      counted = omega (arith, ap (λ (p : SeatView Entry). p.misses) fresh);
      agent = same_agent m c.args.id [] progress.seen 0 progress.won [] c.new.result.items (fresh_agent m c.args.id)
          seen (ap (λ (p : SeatView Entry). p.won) fresh) c.new.ensures.items;
      following = subst (λ q. IsFollowing m q state) (sym seen) (fresh_following m state stands);
    }
