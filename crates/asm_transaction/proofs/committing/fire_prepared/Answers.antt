use Rattle.std.proofs.Common.{refl, subst}
use Rattle.asm_transaction.specs.Commit.{ScansAll}
use Rattle.asm_transaction.specs.View.{TransactionView, names_of, places_of}
use Rattle.asm_transaction.proofs.Committed.{committed, scans_all}
use Rattle.asm_transaction.proofs.committing.fire_prepared.Goals as goal

pub returns : goal.returns
returns g c =
    let fired = c.try_fire_over in
    let scans = c.deref.result.now in
    let inside : TransactionView = record {
      number = c.transaction.inside.number;
      layers = c.transaction.inside.step;
      tracked = places_of c.transaction.inside.tracked.items;
      scanned = names_of c.transaction.inside.scanned.items;
    } in
    let scanned : ScansAll c.args.transaction.now scans =
    subst (λ (x : TransactionView). ScansAll x scans) c.transaction.view_is
    (scans_all inside scans c.transaction.inside.scanned.items c.deref.ensures.value refl c.transaction.invariant.3) in
    record {
      commits = committed g.A.Aggregator.meaning c.args.agent.now fired.new.self
          c.args.transaction.now c.args.reads.now scans c.args.instrs.now fired.result
          (c.keeps_laws.ensures c.args.agent.now.storage.agg) c.requires.names scanned c.requires.stands
          fired.ensures;
      once = record { scans = scans; scanned = scanned; fire = fired.ensures };
    }
