use Rattle.std.proofs.Common.{◌≡◌, ◌+◌, ◌++◌, ◌∷◌, [], List, ℕ, suc, arith, take, sym, ap, ◌∙◌}
use Rattle.std.specs.List.{flat_map}
use Rattle.std.proofs.lemmas.List.{flat_map_more}
use Rattle.asm_storage.specs.declared.history.Event.{Event}
use Rattle.asm_storage.proofs.Lists.{take-slice_get}
use Rattle.asm_journal.specs.Event.{event_json_of}
use Rattle.asm_journal.specs.Text.{line, header_json_of}
use Rattle.asm_journal.proofs.writing.closing_text.Goals as goal

pub loop-number-preserved : goal.loop-number-preserved
loop-number-preserved c =
    let e : Event = c.in_ok-event.field-0 in
    let n = c.loop-number.number in
    let es = c.args.closing.now.events in
    let f : Event → List ℕ = λ x. line (event_json_of x) in
    let front = line (header_json_of c.args.closing.now) in
    let on : n + 1 ≡ suc n = omega arith in
    let taken : take (n + 1) es ≡ take n es ++ e ∷ [] = ap (λ k. take k es) on ∙ take-slice_get es n e c.in_ok-event.ensures in
    c.in_ok-push_event.ensures
    ∙ ap (λ (s : List ℕ). s ++ f e) c.loop-number.invariant
    ∙ flat_map_more f front (take n es) e
    ∙ ap (λ (xs : List Event). front ++ flat_map f xs) (sym taken)
