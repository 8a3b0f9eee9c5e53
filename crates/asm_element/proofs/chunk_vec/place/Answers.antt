use Rattle.asm_element.specs.declared.element.Element.{Element}
use Rattle.std.proofs.Common.{◌≡◌, ◌<◌, ◌≤◌, ◌+◌, ◌-◌, ◌/◌, List, ℕ, suc, length, drop, subst, sym, ap, ◌∙◌, true, false, arith}
use Rattle.asm_element.specs.Element.{element_cmp}
use Rattle.std.specs.Ordering.{is_gt}
use Rattle.asm_element.specs.Slots.{joined, key_of, AllAbove}
use Rattle.std.specs.Map.{keys_of}
use Rattle.asm_element.proofs.Edits.{place_lower, place_upper}
use Rattle.asm_element.proofs.chunk_vec.place.Goals as goal

pub loop-low-preserved-then-is_above : goal.loop-low-preserved-then-is_above
loop-low-preserved-then-is_above g c =
    let mid : ℕ = c.loop-low.low + (c.loop-low.high - c.loop-low.low) / 2 in
    let end = c.loop-low.invariant.end in
    let in_range : mid < length c.args.chunks.now = omega arith in
    let order : is_gt (element_cmp (key_of c.index-chunks-mid.result 0) c.args.key.now) ≡ true =
    sym c.is_above.ensures ∙ c.if-is_above.true in
    record {
      range = omega arith;
      end = omega arith;
      below = c.loop-low.invariant.below;
      above = place_upper c.args.chunks.now c.requires.chunks mid c.index-chunks-mid.result in_range c.index-chunks-mid.is c.args.key.now order;
    }

pub loop-low-preserved : goal.loop-low-preserved
loop-low-preserved g c =
    let mid : ℕ = c.loop-low.low + (c.loop-low.high - c.loop-low.low) / 2 in
    let end = c.loop-low.invariant.end in
    let in_range : mid < length c.args.chunks.now = omega arith in
    let order : is_gt (element_cmp (key_of c.index-chunks-mid.result 0) c.args.key.now) ≡ false =
    sym c.is_above.ensures ∙ c.if-is_above.false in
    record {
      range = omega arith;
      end = c.loop-low.invariant.end;
      below = place_lower c.args.chunks.now c.requires.chunks mid c.index-chunks-mid.result in_range c.index-chunks-mid.is c.args.key.now order;
      above = c.loop-low.invariant.above;
    }

pub returns : goal.returns
returns g c =
    let range = c.loop-low.invariant.range in
    let end = c.loop-low.invariant.end in
    let next : c.loop-low.high ≡ suc c.loop-low.low = omega arith in
    record {
      in_range = omega arith;
      below = c.loop-low.invariant.below;
      above = subst (λ (n : ℕ). AllAbove c.args.key.now (keys_of (joined (drop n c.args.chunks.now)))) next c.loop-low.invariant.above;
    }
