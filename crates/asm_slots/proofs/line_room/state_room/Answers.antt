use Rattle.std.proofs.Common.{ap, arith, ◌∙◌, ◌+◌, map}
use Rattle.asm_journal.specs.Element.{location_json_of}
use Rattle.asm_journal.specs.Value.{pair_json_of, value_json_of}
use Rattle.asm_slots.specs.LongLines.{spelled, spelled_list}
use Rattle.asm_slots.proofs.LineRooms.{pair_is, room_end, room_step}
use Rattle.asm_slots.proofs.line_room.state_room.Goals as goal

pub loop-at-preserved : goal.loop-at-preserved
loop-at-preserved c =
    let l = c.loop-at in
    let a = location_json_of c.in-Some.at.now in
    let v = value_json_of c.in-Some.value.now in
    room_step _ l.left _ _ (spelled (pair_json_of (c.in-Some.at.now, c.in-Some.value.now)) + 1) (spelled a + spelled v + 4) _ _ l.invariant
    (ap (λ ys. spelled_list (map pair_json_of ys)) c.in-Some.ensures.steps) (omega (arith, pair_is a v))
    (omega (arith, c.in_ok-less.ensures, c.in_ok-take_room.ensures, c.in_ok-left.ensures))

pub returns : goal.returns
returns c =
    let l = c.loop-at in
    let start = c.into_iter-at-iterator.ensures.into_iter_gives ∙ c.iter-at-items.ensures.entries in
    let all = ap (λ ys. spelled_list (map pair_json_of ys)) start in
    omega (arith, all, room_end _ l.left _ _ l.invariant (ap (λ ys. spelled_list (map pair_json_of ys)) c.in-None.ensures.steps.0))
