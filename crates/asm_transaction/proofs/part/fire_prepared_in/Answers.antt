use Rattle.std.proofs.Common.{refl, subst}
use Rattle.asm_storage.specs.Part.{agent_of}
use Rattle.asm_transaction.specs.Commit.{ScansAll}
use Rattle.asm_transaction.specs.View.{TransactionView, names_of, places_of}
use Rattle.asm_transaction.proofs.Committed.{committed, scans_all}
use Rattle.asm_transaction.proofs.part.fire_prepared_in.Goals as goal

pub returns : goal.returns
returns g c =
    let fired = c.try_fire_owned in
    let scans = c.deref.result.now in
    let old = agent_of c.args.storage.now c.args.part.now in
    let new = agent_of c.args.storage.now fired.new.self in
    let inside : TransactionView = record {
      number = c.transaction.inside.number;
      layers = c.transaction.inside.step;
      tracked = places_of c.transaction.inside.tracked.items;
      scanned = names_of c.transaction.inside.scanned.items;
    } in
    let scanned : ScansAll c.args.transaction.now scans =
    subst (λ (x : TransactionView). ScansAll x scans) c.transaction.view_is
    (scans_all inside scans c.transaction.inside.scanned.items c.deref.ensures.value refl c.transaction.invariant.3) in
    record {
      part = fired.ensures.part;
      commits = committed g.A.Aggregator.meaning old new
          c.args.transaction.now c.args.reads scans c.args.instrs fired.result
          (c.keeps_laws.ensures c.args.storage.now.agg) c.requires.names scanned c.requires.stands
          fired.ensures.fire;
      once = record { scans = scans; scanned = scanned; fire = fired.ensures.fire };
    }
