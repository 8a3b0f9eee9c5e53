use Rattle.std.proofs.Common.{◌≡◌, ◌<◌, ◌++◌, ◌∷◌, [], length, refl, ap, subst, ◌∙◌, arith}
use Rattle.std.specs.Prelude.{Option}
use Rattle.asm_update.specs.Move.{Move}
use Rattle.asm_step.specs.Front.{IsExtendedInPlaceAt}
use Rattle.asm_step.specs.declared.front.Growth.{Growth}
use Rattle.asm_step.proofs.Insertions.{single_move}
use Rattle.asm_step.proofs.layer.OwnLayer.extend_in_place.Goals as goal

pub returns-in-Ok-Some-clause-ok : goal.returns-in-Ok-Some-clause-ok
returns-in-Ok-Some-clause-ok g c =
    let a = g.A.Aggregator.meaning c.args.aggregator.now in
    let M = c.args.instructions.now in
    let i = c.get-one.result.now in
    let old = c.args.self.now in
    let one : length M ≡ 1 = omega (arith, c.len.ensures.len, c.if-len-ne1.false) in
    let room : old.count < 4096 = omega (arith, c.if-self-ge-INSTRUCTIONS_LIMIT.false) in record {
      at = i.at;
      action = i.action;
      grown = c.in-Ok-Some.grown;
      one = single_move M i one c.get-one.ensures;
      proper = c.proper.ensures;
      own = subst (λ (o : Option Growth). IsExtendedInPlaceAt a i.at i.action old.own c.extend_in_place.new.self o) c.in-Ok-Some.field-0-is c.in-Ok-Some.ensures.ok;
      moves = c.in_ok-push.ensures.ok ∙ ap (λ (N : Move). old.moves ++ N ∷ []) c.in_ok-copy.ensures;
      alone = refl;
      count = c.saturating_sub-self.ensures;
      few = room;
    }
