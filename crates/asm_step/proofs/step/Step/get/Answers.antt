use Rattle.std.proofs.Common.{◌≡◌, unwrap_or, rules, ◌∙◌}
use Rattle.asm_overlay.specs.Frames.{seen_through}
use Rattle.std.specs.Option.{option_copied}
use Rattle.asm_element.specs.Value.{undef}
use Rattle.asm_overlay.proofs.FrameLemmas.{stands_under}
use Rattle.asm_step.specs.Layers.{frames_of}
use Rattle.asm_step.proofs.Standing.{reported_stands}
use Rattle.asm_step.proofs.step.Step.get.Goals as goal

pub returns-in-Some-clause-overwritten : goal.returns-in-Some-clause-overwritten
returns-in-Some-clause-overwritten g c =
    stands_under (frames_of c.args.self.now) (g.L.Lookup.value_at c.args.below.now) c.args.at.now undef (search rules)

pub returns-in-Some-2-clause-overwritten : goal.returns-in-Some-2-clause-overwritten
returns-in-Some-2-clause-overwritten g c =
    stands_under (frames_of c.args.self.now) (g.L.Lookup.value_at c.args.below.now) c.args.at.now c.in-Some.value.now
    (search rules)

pub returns-in-None-clause-overwritten : goal.returns-in-None-clause-overwritten
returns-in-None-clause-overwritten g c =
    stands_under (frames_of c.args.self.now) (g.L.Lookup.value_at c.args.below.now) c.args.at.now
    (unwrap_or (option_copied c.get.result) undef) (search rules)

pub returns-in-Some-clause-stands : goal.returns-in-Some-clause-stands
returns-in-Some-clause-stands g c a groups B D laws step has fired =
    (let reported : undef ≡ seen_through (frames_of c.args.self.now) (g.L.Lookup.value_at c.args.below.now) c.args.at.now = search rules in reported)
    ∙ reported_stands laws (g.L.Lookup.value_at c.args.below.now) c.args.self.now groups step B D c.args.at.now has fired

pub returns-in-Some-2-clause-stands : goal.returns-in-Some-2-clause-stands
returns-in-Some-2-clause-stands g c a groups B D laws step has fired =
    (let reported : c.in-Some.value.now ≡ seen_through (frames_of c.args.self.now) (g.L.Lookup.value_at c.args.below.now) c.args.at.now = search rules in reported)
    ∙ reported_stands laws (g.L.Lookup.value_at c.args.below.now) c.args.self.now groups step B D c.args.at.now has fired

pub returns-in-None-clause-stands : goal.returns-in-None-clause-stands
returns-in-None-clause-stands g c a groups B D laws step has fired =
    (let reported : (unwrap_or (option_copied c.get.result) undef) ≡ seen_through (frames_of c.args.self.now) (g.L.Lookup.value_at c.args.below.now) c.args.at.now = search rules in reported)
    ∙ reported_stands laws (g.L.Lookup.value_at c.args.below.now) c.args.self.now groups step B D c.args.at.now has fired
