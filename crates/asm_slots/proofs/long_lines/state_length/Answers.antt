use Rattle.std.proofs.Common.{ap, arith, refl, ◌∙◌, ◌+◌, map}
use Rattle.asm_journal.specs.Value.{pair_json_of}
use Rattle.asm_slots.specs.LongLines.{spelled, spelled_list}
use Rattle.asm_slots.proofs.LineRooms.{left_end, left_gone, left_none, left_some, left_step}
use Rattle.asm_slots.proofs.long_lines.state_length.Goals as goal

pub loop-at-preserved : goal.loop-at-preserved
loop-at-preserved c =
    let l = c.loop-at in
    left_step _ l.left _ _ (spelled (pair_json_of (c.in-Some.at.now, c.in-Some.value.now)) + 1) _ c.in-Some-2.rest _ l.invariant
    (ap (λ ys. spelled_list (map pair_json_of ys)) c.in-Some.ensures.steps) refl
    (left_some _ _ _ _ c.in-Some-2.is c.in_ok-rest.ensures)

pub returns-in-None-2 : goal.returns-in-None-2
returns-in-None-2 c =
    let l = c.loop-at in
    let start = c.into_iter-at-iterator.ensures.into_iter_gives ∙ c.iter-at-items.ensures.entries in
    let all = ap (λ ys. spelled_list (map pair_json_of ys)) start in
    omega (
      arith,
      all,
      left_none _ l.left _ _ (spelled (pair_json_of (c.in-Some.at.now, c.in-Some.value.now)) + 1) _ _ l.invariant
          (ap (λ ys. spelled_list (map pair_json_of ys)) c.in-Some.ensures.steps) refl
          (left_gone _ _ _ c.in-None-2.is c.in_ok-rest.ensures),
    )

pub returns : goal.returns
returns c =
    let l = c.loop-at in
    let start = c.into_iter-at-iterator.ensures.into_iter_gives ∙ c.iter-at-items.ensures.entries in
    let all = ap (λ ys. spelled_list (map pair_json_of ys)) start in
    left_end _ l.left _ _ l.invariant (ap (λ ys. spelled_list (map pair_json_of ys)) c.in-None.ensures.steps.0) ∙ ap (λ n. n + l.left) all
