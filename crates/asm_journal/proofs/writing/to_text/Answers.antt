use Rattle.std.proofs.Common.{◌≡◌, ◌+◌, ◌<◌, ◌++◌, ◌∷◌, [], ℕ, List, length, get_or, take, sym, ap, ◌∙◌}
use Rattle.std.specs.List.{flat_map}
use Rattle.std.proofs.lemmas.List.{take_more, flat_map_more}
use Rattle.asm_storage.specs.declared.history.Event.{Event}
use Rattle.asm_journal.specs.Event.{event_json_of}
use Rattle.asm_journal.specs.Text.{line, header_json_of}
use Rattle.asm_journal.proofs.writing.to_text.Goals as goal

pub loop-event-preserved : goal.loop-event-preserved
loop-event-preserved c =
    let e : Event = c.event-item.result in
    let i = c.loop-event.event-index in
    let es = c.args.history.now.events in
    let same = c.as_slice-event-items.ensures in
    let within : i < length es = rw (← same) c.loop-event-test.true in
    let here : e ≡ get_or es i e = c.event-item.is ∙ ap (λ (xs : List Event). get_or xs i e) same in
    let taken : take (i + 1) es ≡ take i es ++ e ∷ [] = take_more es i e within ∙ ap (λ (x : Event). take i es ++ x ∷ []) (sym here) in
    let f : Event → List ℕ = λ x. line (event_json_of x) in
    let front = line (header_json_of c.args.history.now) in
    c.in_ok-push_event.ensures
    ∙ ap (λ (s : List ℕ). s ++ f e) c.loop-event.invariant
    ∙ flat_map_more f front (take i es) e
    ∙ ap (λ (xs : List Event). front ++ flat_map f xs) (sym taken)
