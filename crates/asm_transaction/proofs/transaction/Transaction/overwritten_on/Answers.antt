use Rattle.std.proofs.Common.{◌≡◌, Contains, rules, subst}
use Rattle.std.specs.Option.{option_copied}
use Rattle.asm_storage.specs.Agents.{moves_seen}
use Rattle.asm_transaction.specs.Standing.{FindsWritten}
use Rattle.asm_transaction.specs.View.{names_of, places_of}
use Rattle.asm_transaction.proofs.Standings.{follows_all, read_at, scans_stand}
use Rattle.asm_transaction.proofs.transaction.Transaction.overwritten_on.Goals as goal

pub returns-in-Some : goal.returns-in-Some
returns-in-Some g c = λ a b own following level.
    let meaning = g.A.Aggregator.meaning in
    let n = c.self.inside.number in
    let lent = c.as_slice.result.now in
    let follows = follows_all meaning b c.args.state.now following level in
    let is = c.first_written.ensures (meaning b.storage.agg).part b.storage.init (moves_seen b.account.seen) follows in
    let here = subst (λ o. FindsWritten (meaning b.storage.agg).part b.storage.init (moves_seen b.account.seen) n (Contains (places_of lent)) (option_copied o))
    c.in-Some.is is in
    let same : n ≡ c.args.self.now.number = search rules in
    let all : lent ≡ c.in_ok-reads.reads = search rules in
    read_at meaning a b c.args.self.now c.in_ok-reads.reads lent n c.in-Some.at.now c.in_ok-copy-in-Some.field-0 c.in_ok-reads.ensures own
    same all c.in_ok-copy-in-Some.ensures here

pub returns : goal.returns
returns g c =
    let n = c.self.inside.number in
    let lent = c.as_slice.result.now in
    let same : n ≡ c.args.self.now.number = search rules in
    let all : lent ≡ c.in_ok-reads.reads = search rules in
    let names : names_of c.deref.result.now ≡ c.args.self.now.scanned = search rules in
    scans_stand g.A.Aggregator.meaning c.args.self.now c.in_ok-reads.reads lent c.deref.result.now n c.args.state.now c.first_written_in.result
    c.in_ok-reads.ensures same all names
    (λ part init q follows. subst (λ o. FindsWritten part init q n (Contains (places_of lent)) (option_copied o)) c.in-None.is
    (c.first_written.ensures part init q follows)) c.first_written_in.ensures
