-- The moves of a history, one event at a time.
use Rattle.std.proofs.Common.{◌≡◌, ◌+◌, ℕ, List, [], ◌∷◌, ◌++◌, length, true, false, Option, Some, None, refl, sym, ap, ◌∙◌, append-nil, arith, length-append}
use Rattle.std.specs.Prelude.{is_some, min}
use Rattle.std.specs.Borrow.{Bor}
use Rattle.std.specs.List.{cons_option}
use Rattle.std.specs.Option.{option_copied}
use Rattle.std.proofs.lemmas.List.Elements.{filter_map-append}
use Rattle.asm_update.specs.Move.{Move}
use Rattle.asm_storage.specs.declared.history.Event.{Event}
use Rattle.asm_storage.specs.History.{move_of, fired_moves}
use Rattle.asm_storage.specs.Limits.{most_counted}

pub fired_moves-push_fired : (h : List Event) (e : Event) (M : Move) → move_of e ≡ Some M → fired_moves (h ++ e ∷ []) ≡ fired_moves h ++ M ∷ []
fired_moves-push_fired h e M is = filter_map-append move_of h (e ∷ []) ∙ ap (λ o. fired_moves h ++ cons_option o []) is

pub fired_moves-push_quiet : (h : List Event) (e : Event) → move_of e ≡ None → fired_moves (h ++ e ∷ []) ≡ fired_moves h
fired_moves-push_quiet h e is = filter_map-append move_of h (e ∷ []) ∙ ap (λ o. fired_moves h ++ cons_option o []) is ∙ append-nil (fired_moves h)

pub some_copied : {X : Type 0} (o : Option (Bor X)) → is_some (option_copied o) ≡ is_some o
some_copied None = refl
some_copied (Some x) = refl

some_value : (o : Option Move) → is_some o ≡ true → (M : Move) × (o ≡ Some M)
some_value (Some M) e = (M, refl)
some_value None e = absurd cc

none_value : (o : Option Move) → is_some o ≡ false → o ≡ None
none_value (Some M) e = cc
none_value None e = refl

pub count_fired : (h : List Event) (e : Event) (n : ℕ) → n ≡ min (length (fired_moves h)) most_counted → is_some (move_of e) ≡ true → min (n + 1) most_counted ≡ min (length (fired_moves (h ++ e ∷ []))) most_counted
count_fired h e n is fired =
    let M = some_value (move_of e) fired in
    let more : length (fired_moves (h ++ e ∷ [])) ≡ length (fired_moves h) + 1 = ap length (fired_moves-push_fired h e M.0 M.1) ∙ length-append (fired_moves h) (M.0 ∷ []) in
    omega arith

pub count_quiet : (h : List Event) (e : Event) (n : ℕ) → n ≡ min (length (fired_moves h)) most_counted → is_some (move_of e) ≡ false → n ≡ min (length (fired_moves (h ++ e ∷ []))) most_counted
count_quiet h e n is quiet = is ∙ ap (λ q. min (length q) most_counted) (sym (fired_moves-push_quiet h e (none_value (move_of e) quiet)))
