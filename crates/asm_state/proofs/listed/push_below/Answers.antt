use Rattle.std.proofs.Common.{◌≡◌, ◌∷◌, ◌+◌, ◌++◌, Option, true, ap, slice_index_or, sym, ◌∙◌}
use Rattle.std.specs.Prelude.{drop, unwrap_or}
use Rattle.std.specs.Borrow.{Bor}
use Rattle.std.specs.Ordering.{is_lt}
use Rattle.std.proofs.lemmas.List.{drop_all, drop_more, get_or_default}
use Rattle.asm_element.specs.Place.{Place, location_cmp}
use Rattle.asm_element.specs.Value.{undef}
use Rattle.asm_element.specs.declared.value.Value.{Value}
use Rattle.asm_state.specs.declared.entries.WrittenValue.{WrittenValue}
use Rattle.asm_state.specs.Listed.{by_value}
use Rattle.asm_state.specs.Merging.{seen}
use Rattle.asm_state.proofs.Listing.{below_end, below_more, below_stop, from_end, from_more, from_stop, ge_not, not_ge}
use Rattle.asm_state.proofs.listed.push_below.Goals as goal

pub loop-next-preserved : goal.loop-next-preserved
loop-next-preserved c =
    let l = c.loop-next in
    let at = c.args.at.now in
    let ws = c.args.written.now in
    let d = c.index-written-next.result in
    let w = slice_index_or ws l.next d in
    let step : by_value (drop l.next ws) ≡ (w.0.now, w.1.now) ∷ by_value (drop (l.next + 1) ws) =
    ap by_value (drop_more ws l.next d c.loop-next-test.true) in
    let less : is_lt (location_cmp w.0.now at) ≡ true = not_ge (location_cmp w.0.now at) (sym c.ge.ensures ∙ c.if-ge.false) in
    let same = get_or_default ws l.next c.index-written-next-in-loop-next.result d c.loop-next-test.true in
    record {
      list = below_more at w.0.now w.1.now _ _ step _ _ _ less
          (c.in_ok-push_seen.ensures.list
          ∙ ap (λ (o : Option Value). by_value l.list.items ++ seen w.0.now (unwrap_or o undef)) c.as_ref.ensures.value
          ∙ ap (λ (x : Bor Place × Bor WrittenValue). by_value l.list.items ++ seen w.0.now (unwrap_or x.1.now.value undef)) same)
          l.invariant.list;
      left = from_more at w.0.now w.1.now _ _ step _ less l.invariant.left;
      listed = λ all. c.in_ok-push_seen.ensures.listed (l.invariant.listed all);
    }

pub returns-then-ge-clause-list : goal.returns-then-ge-clause-list
returns-then-ge-clause-list c =
    let l = c.loop-next in
    let at = c.args.at.now in
    let ws = c.args.written.now in
    let d = c.index-written-next.result in
    let w = slice_index_or ws l.next d in
    below_stop at w.0.now w.1.now (by_value (drop l.next ws)) (by_value (drop (l.next + 1) ws)) (ap by_value (drop_more ws l.next d c.loop-next-test.true))
    _ _ (ge_not (location_cmp w.0.now at) (sym c.ge.ensures ∙ c.if-ge.true)) l.invariant.list

pub returns-then-ge-clause-left : goal.returns-then-ge-clause-left
returns-then-ge-clause-left c =
    let l = c.loop-next in
    let at = c.args.at.now in
    let ws = c.args.written.now in
    let d = c.index-written-next.result in
    let w = slice_index_or ws l.next d in
    from_stop at w.0.now w.1.now (by_value (drop l.next ws)) (by_value (drop (l.next + 1) ws)) (ap by_value (drop_more ws l.next d c.loop-next-test.true))
    _ (ge_not (location_cmp w.0.now at) (sym c.ge.ensures ∙ c.if-ge.true)) l.invariant.left

pub returns-clause-list : goal.returns-clause-list
returns-clause-list c =
    let l = c.loop-next in
    below_end c.args.at.now (by_value (drop l.next c.args.written.now)) _ _ (ap by_value (drop_all l.next c.args.written.now c.loop-next-test.false)) l.invariant.list

pub returns-clause-left : goal.returns-clause-left
returns-clause-left c =
    let l = c.loop-next in
    from_end c.args.at.now (by_value (drop l.next c.args.written.now)) _ (ap by_value (drop_all l.next c.args.written.now c.loop-next-test.false)) l.invariant.left
