use Rattle.std.proofs.Common.{ap, sym, ◌∙◌, ◌∷◌, ◌++◌, ◌+◌, string_bytes}
use Rattle.std.specs.Prelude.{drop}
use Rattle.std.proofs.lemmas.List.{drop_more, drop_all}
use Rattle.serde_json.specs.Data.{Data}
use Rattle.asm_element.specs.Place.{Place}
use Rattle.serde_json.specs.Written.{comma_if, compact_text}
use Rattle.asm_journal.specs.Shape.{list_of}
use Rattle.asm_journal.specs.Value.{value_json_of}
use Rattle.asm_journal.proofs.Spelt.{spelt_more, spelt_all, array_of_left, map_twice}
use Rattle.asm_journal.proofs.spelling.answer.push_each_seen.Goals as goal

pub loop-at-preserved : goal.loop-at-preserved
loop-at-preserved g c =
    let l = c.loop-at in
    let xs = c.args.locations.now in
    let x = c.at-item.result in
    let f : Place → Data = λ at. value_json_of (g.L.Lookup.value_at c.args.seen.now at) in
    let step = drop_more xs l.at-index x c.loop-at-test.true ∙ ap (λ y. y ∷ drop (l.at-index + 1) xs) (sym c.at-item.is) in
    spelt_more f _ _ _ l.later x _ _ l.invariant step
    (c.in_ok-push_seen.ensures ∙ ap (λ v. string_bytes l.text ++ (comma_if l.later ++ compact_text (value_json_of v))) c.get.ensures.value)

pub returns : goal.returns
returns g c =
    let l = c.loop-at in
    let xs = c.args.locations.now in
    let f : Place → Data = λ at. value_json_of (g.L.Lookup.value_at c.args.seen.now at) in
    let items = spelt_all f _ _ _ l.later _ l.invariant (drop_all l.at-index xs c.loop-at-test.false) c.in_ok-push_sign-2.ensures in
    array_of_left f _ _ _ xs c.in_ok-push_sign.ensures items
    ∙ ap (λ ds. string_bytes c.args.text.now ++ compact_text (list_of ds)) (map_twice value_json_of (g.L.Lookup.value_at c.args.seen.now) xs)
