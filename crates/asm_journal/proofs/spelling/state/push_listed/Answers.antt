use Rattle.std.proofs.Common.{Bor, ap, sym, ◌∙◌, ◌∷◌, ◌++◌, ◌+◌, string_bytes}
use Rattle.std.specs.Prelude.{drop}
use Rattle.std.proofs.lemmas.List.{drop_more, drop_all}
use Rattle.serde_json.specs.Data.{Data}
use Rattle.serde_json.specs.Written.{compact_text}
use Rattle.asm_element.specs.Place.{Place}
use Rattle.asm_element.specs.declared.value.Value.{Value}
use Rattle.asm_journal.specs.Shape.{list_of}
use Rattle.asm_journal.specs.Value.{pair_json_of}
use Rattle.asm_journal.proofs.Spelt.{spelt_more, spelt_all, two_pieces, array_of_left, map_twice}
use Rattle.asm_journal.proofs.spelling.state.push_listed.Goals as goal

pub loop-at-preserved : goal.loop-at-preserved
loop-at-preserved c =
    let l = c.loop-at in
    let xs = c.args.list.now in
    let x = c.loop-at-item.result in
    let f : Bor Place × Bor Value → Data = λ e. pair_json_of (e.0.now, e.1.now) in
    let step = drop_more xs l.at-index x c.loop-at-test.true ∙ ap (λ y. y ∷ drop (l.at-index + 1) xs) (sym c.loop-at-item.is) in
    spelt_more f _ _ _ l.later x _ _ l.invariant step
    (two_pieces _ _ _ _ _ c.in_ok-push_comma.ensures c.in_ok-push_pair.ensures)

pub returns : goal.returns
returns c =
    let l = c.loop-at in
    let xs = c.args.list.now in
    let f : Bor Place × Bor Value → Data = λ e. pair_json_of (e.0.now, e.1.now) in
    let items = spelt_all f _ _ _ l.later _ l.invariant (drop_all l.at-index xs c.loop-at-test.false) c.in_ok-push_sign-2.ensures in
    array_of_left f _ _ _ xs c.in_ok-push_sign.ensures items
    ∙ ap (λ ds. string_bytes c.args.text.now ++ compact_text (list_of ds)) (map_twice pair_json_of (λ (e : Bor Place × Bor Value). (e.0.now, e.1.now)) xs)
