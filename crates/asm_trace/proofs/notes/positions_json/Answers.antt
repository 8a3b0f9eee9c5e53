use Rattle.std.proofs.Common.{◌≡◌, map, take, length, ap, refl, sym, subst, ◌∙◌, ◌<◌}
use Rattle.std.proofs.lemmas.List.{take_all, length-map}
use Rattle.std.proofs.lemmas.List.FromFn.{length-range_with_len}
use Rattle.std.specs.List.{filter, range_with_len}
use Rattle.serde_json.specs.View.{view}
use Rattle.asm_state.specs.View.{value_at}
use Rattle.asm_journal.specs.Shape.{list_of, number_json_of}
use Rattle.asm_trace.specs.Text.{is_other_at}
use Rattle.asm_trace.proofs.Making.{positions_more}
use Rattle.asm_trace.proofs.notes.positions_json.Goals as goal

pub loop-i-init : goal.loop-i-init
loop-i-init c = rw c.new-list.ensures.items refl

pub loop-i-preserved : goal.loop-i-preserved
loop-i-preserved c =
    let l = c.loop-i in
    let right = map (value_at c.args.state.now) c.args.places.now in
    let within = subst (λ n. l.i < n) (sym (length-map c.args.places.now (value_at c.args.state.now))) c.loop-i-test.true in
    positions_more number_json_of (is_other_at c.args.given.now right) l.i (length right) (map view l.list.items) (map view c.push_other.new.list.items)
    within l.invariant c.in_ok-push_other.ensures

pub returns : goal.returns
returns c =
    let l = c.loop-i in
    let right = map (value_at c.args.state.now) c.args.places.now in
    let xs = range_with_len 0 (length right) in
    let all : take l.i xs ≡ xs = take_all l.i xs (rw (length-range_with_len 0 (length right), length-map c.args.places.now (value_at c.args.state.now)) c.loop-i-test.false) in
    c.array_of.ensures
    ∙ ap list_of (l.invariant ∙ ap (λ is. map number_json_of (filter (is_other_at c.args.given.now right) is)) all)
