use Rattle.std.proofs.Common.{arith}
use Rattle.asm_transaction.proofs.Scans.{few_scans}
use Rattle.asm_transaction.proofs.transaction.Transaction.track_name.Goals as goal

pub invariant_of-self-2 : goal.invariant_of-self-2
invariant_of-self-2 c =
    let few = few_scans c.self.inside.tracked.items c.self.inside.scanned.items c.scan_for.new.scans.items c.note_scan.new.scans.items
    c.args.name.now c.self.inside.number _ c.in_ok-scan.scan (omega (arith, c.self.invariant.1)) c.self.invariant.1 c.self.invariant.3
    c.in_ok-scan.ensures.kept c.in_ok-scan.ensures.scan c.note_scan.ensures.some c.note_scan.ensures.none in
    (c.self.invariant.0, few.0, c.self.invariant.2, few.1)
