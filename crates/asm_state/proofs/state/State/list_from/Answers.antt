use Rattle.std.proofs.Common.{◌≡◌, ap, ◌∙◌}
use Rattle.std.specs.BTreeMap.Range.{entries_between}
use Rattle.std.specs.FinMap as finite
use Rattle.std.specs.declared.ops.Bound.TheVariants.{Included, Unbounded}
use Rattle.asm_element.specs.Place.{location_cmp}
use Rattle.asm_update.specs.State.{State}
use Rattle.asm_state.specs.Listed.{by_value}
use Rattle.asm_state.specs.Merging.{front, listing}
use Rattle.asm_state.specs.View.{Entries, StateView}
use Rattle.asm_state.proofs.Listing.{Seen, is_listing}
use Rattle.asm_state.proofs.state.State.list_from.Goals as goal

pub returns : goal.returns
returns c =
    let s = c.args.self.now in
    let first = c.args.first.now in
    let opens = c.onward.ensures
    ∙ ap (λ (A : State). entries_between location_cmp (Included first) Unbounded (finite.entries A)) (c.deref.ensures ∙ ap (λ (t : StateView). t.base) c.self.view_is) in
    let writes = c.onward-2.ensures
    ∙ ap (λ (es : Entries). entries_between location_cmp (Included first) Unbounded (finite.entries es)) (ap (λ (t : StateView). t.entries) c.self.view_is) in
    let opening : by_value c.deref-2.result.now ≡ front first.name c.onward.result =
    ap by_value c.deref-2.ensures.value ∙ c.in_ok-opening.ensures ∙ ap (λ n. front n c.onward.result) c.name.ensures.name in
    let written : by_value c.deref-3.result.now ≡ front first.name c.onward-2.result =
    ap by_value c.deref-3.ensures.value ∙ c.in_ok-written.ensures ∙ ap (λ n. front n c.onward-2.result) c.name-2.ensures.name in
    is_listing s first c.requires c.onward.result opens c.onward-2.result writes (by_value c.in_ok-list.list.items)
    (c.in_ok-list.ensures.list ∙ ap (λ (es : Seen). listing es (by_value c.deref-3.result.now)) opening
    ∙ ap (listing (front first.name c.onward.result)) written)
    c.in_ok-list.ensures.listed
