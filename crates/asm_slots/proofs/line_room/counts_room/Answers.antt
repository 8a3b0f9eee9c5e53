use Rattle.std.proofs.Common.{ap, arith, ◌∙◌, ◌+◌, map}
use Rattle.asm_journal.specs.Element.{element_json_of}
use Rattle.asm_journal.specs.Set.{count_json_of}
use Rattle.asm_journal.specs.Shape.{number_json_of}
use Rattle.asm_slots.specs.LongLines.{spelled, spelled_list}
use Rattle.asm_slots.proofs.LineRooms.{pair_is, room_end, room_step}
use Rattle.asm_slots.proofs.line_room.counts_room.Goals as goal

pub loop-element-preserved : goal.loop-element-preserved
loop-element-preserved c =
    let l = c.loop-element in
    let e = element_json_of c.in-Some.element.now in
    let n = number_json_of c.in-Some.count.now in
    room_step _ l.left _ _ (spelled (count_json_of (c.in-Some.element.now, c.in-Some.count.now)) + 1) (spelled e + spelled n + 4) _ _ l.invariant
    (ap (λ ys. spelled_list (map count_json_of ys)) c.in-Some.ensures.steps) (omega (arith, pair_is e n))
    (omega (arith, c.in_ok-less.ensures, c.in_ok-left.ensures))

pub returns : goal.returns
returns c =
    let l = c.loop-element in
    let start = c.into_iter-element-iterator.ensures.into_iter_gives ∙ c.iter-element-items.ensures.entries in
    let all = ap (λ ys. spelled_list (map count_json_of ys)) start in
    omega (arith, all, room_end _ l.left _ _ l.invariant (ap (λ ys. spelled_list (map count_json_of ys)) c.in-None.ensures.steps.0))
