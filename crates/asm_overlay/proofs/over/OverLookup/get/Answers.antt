use Rattle.std.proofs.Common.{unwrap_or, rules}
use Rattle.std.specs.Option.{option_copied}
use Rattle.asm_element.specs.Value.{undef}
use Rattle.asm_overlay.proofs.FrameLemmas.{stands_under}
use Rattle.asm_overlay.proofs.over.OverLookup.get.Goals as goal

pub returns-in-Held-clause-overwritten : goal.returns-in-Held-clause-overwritten
returns-in-Held-clause-overwritten g c =
    stands_under c.args.self.now.frames (g.L.Lookup.value_at c.args.self.now.below) c.args.at.now undef (search rules)

pub returns-in-Held-2-clause-overwritten : goal.returns-in-Held-2-clause-overwritten
returns-in-Held-2-clause-overwritten g c =
    stands_under c.args.self.now.frames (g.L.Lookup.value_at c.args.self.now.below) c.args.at.now c.in-Held.value.now (search rules)

pub returns-in-Below-clause-overwritten : goal.returns-in-Below-clause-overwritten
returns-in-Below-clause-overwritten g c =
    stands_under c.args.self.now.frames (g.L.Lookup.value_at c.args.self.now.below) c.args.at.now
    (unwrap_or (option_copied c.get-in-Below.result) undef) (search rules)
