use Rattle.std.proofs.Common.{◌∙◌, arith, sym}
use Rattle.asm_transaction.specs.View.{TransactionView, names_of, places_of}
use Rattle.asm_transaction.proofs.Scans.{few_scans}
use Rattle.asm_transaction.proofs.Shown.{is_scan}
use Rattle.asm_transaction.proofs.transaction.Transaction.scan_on.Goals as goal

pub invariant_of-self-2 : goal.invariant_of-self-2
invariant_of-self-2 g c =
    let few = few_scans c.self.inside.tracked.items c.self.inside.scanned.items c.scan_for.new.scans.items c.note_scan.new.scans.items
    c.args.name.now c.self.inside.number _ c.in_ok-scan.scan (omega (arith, c.self.invariant.1)) c.self.invariant.1 c.self.invariant.3
    c.in_ok-scan.ensures.kept c.in_ok-scan.ensures.scan c.note_scan.ensures.some c.note_scan.ensures.none in
    (c.self.invariant.0, few.0, c.self.invariant.2, few.1)

pub returns-clause-found : goal.returns-clause-found
returns-clause-found g c a own is =
    let inside : TransactionView = record {
      number = c.self.inside.number;
      layers = c.self.inside.step;
      tracked = places_of c.self.inside.tracked.items;
      scanned = names_of c.self.inside.scanned.items;
    } in
    is_scan g.A.Aggregator.meaning a c.args.state.now c.args.self.now inside c.args.name.now
    c.in_ok-below.below c.in_ok-found.found c.self.view_is own
    (sym c.number.ensures ∙ c.if-number-self.false) c.in_ok-below.ensures c.in_ok-found.ensures is
