use Rattle.std.proofs.Common.{◌≡◌, ◌∷◌, ◌+◌, ◌++◌, Option, ap, slice_index_or, ◌∙◌}
use Rattle.std.specs.Prelude.{drop, unwrap_or}
use Rattle.std.specs.Borrow.{Bor}
use Rattle.std.proofs.lemmas.List.{drop_all, drop_more, get_or_default}
use Rattle.asm_element.specs.Place.{Place}
use Rattle.asm_element.specs.Value.{undef}
use Rattle.asm_element.specs.declared.value.Value.{Value}
use Rattle.asm_state.specs.declared.entries.WrittenValue.{WrittenValue}
use Rattle.asm_state.specs.Listed.{by_value}
use Rattle.asm_state.specs.Merging.{seen}
use Rattle.asm_state.proofs.Listing.{all_end, all_more}
use Rattle.asm_state.proofs.listed.push_rest.Goals as goal

pub loop-next-preserved : goal.loop-next-preserved
loop-next-preserved c =
    let l = c.loop-next in
    let ws = c.args.written.now in
    let d = c.index-written-next.result in
    let w = slice_index_or ws l.next d in
    let step : by_value (drop l.next ws) ≡ (w.0.now, w.1.now) ∷ by_value (drop (l.next + 1) ws) =
    ap by_value (drop_more ws l.next d c.loop-next-test.true) in
    let same = get_or_default ws l.next c.index-written-next-in-loop-next.result d c.loop-next-test.true in
    record {
      list = all_more w.0.now w.0.now w.1.now _ _ step _ _ _
          (c.in_ok-push_seen.ensures.list
          ∙ ap (λ (o : Option Value). by_value l.list.items ++ seen w.0.now (unwrap_or o undef)) c.as_ref.ensures.value
          ∙ ap (λ (x : Bor Place × Bor WrittenValue). by_value l.list.items ++ seen w.0.now (unwrap_or x.1.now.value undef)) same)
          l.invariant.list;
      listed = λ all. c.in_ok-push_seen.ensures.listed (l.invariant.listed all);
    }

pub returns-clause-list : goal.returns-clause-list
returns-clause-list c =
    let l = c.loop-next in
    all_end (by_value (drop l.next c.args.written.now)) _ _ (ap by_value (drop_all l.next c.args.written.now c.loop-next-test.false)) l.invariant.list
