use Rattle.std.proofs.Common.{ℤ, subst, w32, w64, to_z, of_z}
use Rattle.std.proofs.Math.Facts.{to_z-of_z}
use Rattle.std.specs.Prelude.{MatchResult}
use Rattle.asm_slots.specs.PushAnswers.{DoesNotPushAt, PushesAt}
use Rattle.asm_slots.specs.Slots.{content_of}
use Rattle.asm_slots.proofs.Answered.{answered}
use Rattle.asm_c.proofs.pushing_at.asm_push_at.Goals as goal

pub returns-clause-answers : goal.returns-clause-answers
returns-clause-answers c =
    let P = λ (v : ℤ) (k : ℤ) (n : ℤ). MatchResult c.push_at.result
    (λ done. PushesAt (content_of c.args.at.now) v k n c.args.bytes.now c.args.amount (content_of c.args.agent.now)
    (content_of c.args.step.now) (content_of c.push_at.new.step) c.args.out.now c.push_at.new.out c.push_at.new.written)
    (DoesNotPushAt (content_of c.args.at.now) v k n c.args.bytes.now c.args.amount (content_of c.args.agent.now)
    (content_of c.args.step.now) (content_of c.push_at.new.step) c.args.out.now c.push_at.new.out c.push_at.new.written) in
    let answers = subst (λ (v : ℤ). P v c.args.kind c.args.number) (to_z-of_z {w = w32} c.ranges.verb)
    (subst (λ (k : ℤ). P (to_z w32 (of_z w32 c.args.verb)) k c.args.number) (to_z-of_z {w = w32} c.ranges.kind)
    (subst (λ (n : ℤ). P (to_z w32 (of_z w32 c.args.verb)) (to_z w32 (of_z w32 c.args.kind)) n) (to_z-of_z {w = w64} c.ranges.number)
    c.push_at.ensures.answers)) in
    answered _ _ c.push_at.result c.answer.result c.answer.ensures (record { sfits = c.answer.type_inv }) answers
