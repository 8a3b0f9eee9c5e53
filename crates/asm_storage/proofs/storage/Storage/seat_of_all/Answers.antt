use Rattle.std.proofs.Common.{All, length, take, sym, ap, ◌∙◌, subst, arith}
use Rattle.std.proofs.lemmas.List.{take_all}
use Rattle.std.proofs.lemmas.List.Elements.{All-weaker}
use mathlib.Core.List.{IsPrefix}
use Rattle.asm_row.specs.Seat.{SeatView}
use Rattle.asm_row.specs.Mark.{MarkView}
use Rattle.asm_storage.specs.Agents.{AgentView, most_seen, IsAgent}
use Rattle.asm_storage.specs.Storage.{StorageView, IsOf, accounts, machine_of}
use Rattle.asm_storage.proofs.Accounts.{each_more, most_more}
use Rattle.asm_row.proofs.Prefixes.{IsPrefix-trans}
use Rattle.asm_storage.proofs.storage.Storage.seat_of_all.Goals as goal

pub learn-requires : goal.learn-requires
learn-requires g c =
    let mine : IsOf c.args.self.now c.agent-item.result = subst (IsOf c.args.self.now) (sym c.agent-item.is) (c.requires c.loop-agent.agent-index c.agent-item.result c.loop-agent-test.true) in
    ap (λ (m : MarkView _). m.row) c.in_ok-mark.ensures.holds ∙ ap (λ (s : StorageView _). s.row) mine ∙ sym c.loop-agent.invariant.same_row

pub loop-agent-preserved : goal.loop-agent-preserved
loop-agent-preserved g c =
    let all = c.args.agents.now in
    let i = c.loop-agent.agent-index in
    let agent = c.agent-item.result in
    let before = c.loop-agent.seat.seen in
    let after = c.learn.new.self.seen in
    let mine : IsOf c.args.self.now agent = subst (IsOf c.args.self.now) (sym c.agent-item.is) (c.requires i agent c.loop-agent-test.true) in
    let machine = machine_of g.A.Aggregator.meaning in
    let theirs : IsPrefix agent.account.seen after = subst (λ (m : MarkView _). IsPrefix m.seen after) c.in_ok-mark.ensures.holds c.learn.ensures.theirs in
    let len = ap (λ (m : MarkView _). length m.seen) c.in_ok-mark.ensures.holds in
    record {
      same_row = ap (λ (s : SeatView _). s.row) c.learn.ensures.kept ∙ c.loop-agent.invariant.same_row;
      each = each_more (IsAgent (machine c.args.self.now)) all i agent c.loop-agent-test.true c.agent-item.is c.loop-agent.invariant.each (subst (λ s. IsAgent (machine s) agent.account) mine c.mark.ensures.agent);
      prefixes = each_more (λ a. IsPrefix a.seen after) all i agent c.loop-agent-test.true c.agent-item.is
          (All-weaker (λ (a : AgentView). IsPrefix a.seen before) (λ (a : AgentView). IsPrefix a.seen after) (λ (a : AgentView) p. IsPrefix-trans a.seen before after p c.learn.ensures.mine) (accounts (take i all)) c.loop-agent.invariant.prefixes)
          theirs;
      longest = omega (arith, most_more all i agent c.loop-agent-test.true c.agent-item.is, c.learn.ensures.longest, c.loop-agent.invariant.longest, len);
    }

pub returns-clause-each : goal.returns-clause-each
returns-clause-each g c = subst (λ xs. All (IsAgent (machine_of g.A.Aggregator.meaning c.args.self.now)) (accounts xs)) (take_all c.loop-agent.agent-index c.args.agents.now c.loop-agent-test.false) c.loop-agent.invariant.each

pub returns-clause-longest : goal.returns-clause-longest
returns-clause-longest g c = c.loop-agent.invariant.longest ∙ ap (λ xs. most_seen (accounts xs)) (take_all c.loop-agent.agent-index c.args.agents.now c.loop-agent-test.false)

pub returns-clause-prefixes : goal.returns-clause-prefixes
returns-clause-prefixes g c = subst (λ xs. All (λ (a : AgentView). IsPrefix a.seen c.loop-agent.seat.seen) (accounts xs)) (take_all c.loop-agent.agent-index c.args.agents.now c.loop-agent-test.false) c.loop-agent.invariant.prefixes
