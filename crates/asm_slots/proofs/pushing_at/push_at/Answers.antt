use Rattle.std.proofs.Common.{◌≡◌, ℤ, [], Some, rules, subst, w32, w64, to_z, of_z}
use Rattle.std.proofs.Math.Facts.{to_z-of_z}
use Rattle.asm_slots.specs.Kinds.{IsInstructed}
use Rattle.asm_slots.specs.Slots.{content_of}
use Rattle.asm_slots.specs.declared.content.Content.TheVariants as content
use Rattle.asm_slots.proofs.Growing.{pushed_at}
use Rattle.asm_slots.proofs.pushing_at.push_at.Goals as goal

pub returns-clause-answers : goal.returns-clause-answers
returns-clause-answers c =
    let at : content_of c.args.at.now ≡ Some (content.Location c.in-Location.at) = search rules in
    let l = c.in-Location.at in let M = c.in_ok-instrs.instrs in let bytes = c.args.bytes.now in let amount = c.args.amount in
    let made = subst (λ (v : ℤ). IsInstructed l v c.args.kind c.args.number bytes amount [] M) (to_z-of_z {w = w32} c.ranges.verb)
    (subst (λ (k : ℤ). IsInstructed l (to_z w32 (of_z w32 c.args.verb)) k c.args.number bytes amount [] M) (to_z-of_z {w = w32} c.ranges.kind)
    (subst (λ (n : ℤ). IsInstructed l (to_z w32 (of_z w32 c.args.verb)) (to_z w32 (of_z w32 c.args.kind)) n bytes amount [] M)
    (to_z-of_z {w = w64} c.ranges.number) c.in_ok-instrs.ensures.ok)) in
    pushed_at (content_of c.args.at.now) c.args.verb c.args.kind c.args.number bytes amount l M (content_of c.args.agent.now)
    (content_of c.args.step.now) (content_of c.grow_with.new.step) c.args.out.now c.grow_with.new.out c.grow_with.new.written
    c.grow_with.result at made c.grow_with.ensures.answers
