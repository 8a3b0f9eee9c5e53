use Rattle.asm_element.specs.declared.element.Element.{Element}
use Rattle.asm_element.specs.declared.element.Element.TheVariants.{Undef}
use Rattle.std.proofs.Common.{◌≡◌, ◌<◌, ◌≤◌, ◌+◌, [], ◌∷◌, ◌++◌, List, ℕ, zero, suc, take, drop, set, length, get_or, subst, sym, ap, ◌∙◌, arith, true, false, not, refl}
use Rattle.std.specs.Prelude.{Option, None, Some, is_some, IfNone}
use Rattle.std.specs.List.{insert}
use Rattle.std.proofs.lemmas.List.{get_or_default, take-append-drop, length-take, length-drop}
use Rattle.asm_element.specs.Tests.{on_err}
use Rattle.asm_element.specs.Slots.{key_of, count_of, IsGap}
use Rattle.asm_element.specs.Entries.{at, held, assigned}
use Rattle.asm_element.specs.Chunks.{there, AreChunks, IsPlace, IsEnd, Adds}
use Rattle.asm_element.proofs.Edits.{ordered_here, found_sides, missing_sides, sides_at, sides_insert, sides_length, sides_longer, sides_is, marked_sides, marked_chunks, with_count, same_read, end_at}
use Rattle.asm_element.proofs.chunk_vec.put_in.Goals as goal

some_held : (m : ℕ) → 0 < m → is_some (held m) ≡ true
some_held zero h = absurd (omega (arith, h))
some_held (suc m) h = refl

none_held : (m : ℕ) → m ≡ 0 → held m ≡ None
none_held zero h = refl
none_held (suc m) h = absurd (omega (arith, h))

pub find-requires : goal.find-requires
find-requires g c =
    let cs : List (List (Element × ℕ)) = c.args.chunks.now.items in
    let place : IsPlace cs c.args.key c.place-index.result = subst (λ (xs : List (List (Element × ℕ))). IsPlace xs c.args.key c.place-index.result) c.deref.ensures.value c.place-index.ensures in
    ordered_here cs c.requires.chunks c.place-index.result c.index.result.now place.in_range c.index.ensures

pub returns-then-count-gt0-clause-added : goal.returns-then-count-gt0-clause-added
returns-then-count-gt0-clause-added g c =
    let cs : List (List (Element × ℕ)) = c.args.chunks.now.items in
    let place : IsPlace cs c.args.key c.place-index.result = subst (λ (xs : List (List (Element × ℕ))). IsPlace xs c.args.key c.place-index.result) c.deref.ensures.value c.place-index.ensures in
    let same = same_read cs c.place-index.result c.index-in-Ok.result.now c.index.result.now place.in_range c.index-in-Ok.ensures c.index.ensures in
    let count = ap (λ (ss : List (Element × ℕ)). count_of ss c.in-Ok.at) (sym same) ∙ sym c.count.ensures.value in
    let s = found_sides cs c.requires.chunks c.args.key c.place-index.result place c.index.result.now c.index.ensures c.in-Ok.at c.in-Ok.ensures.found in
    ap not (sym (ap is_some (sides_at _ _ _ _ _ s) ∙ some_held _ (omega (arith, count, c.if-count-gt0.true))))

pub returns-else-count-gt0-clause-added : goal.returns-else-count-gt0-clause-added
returns-else-count-gt0-clause-added g c =
    let cs : List (List (Element × ℕ)) = c.args.chunks.now.items in
    let place : IsPlace cs c.args.key c.place-index.result = subst (λ (xs : List (List (Element × ℕ))). IsPlace xs c.args.key c.place-index.result) c.deref.ensures.value c.place-index.ensures in
    let same = same_read cs c.place-index.result c.index-in-Ok.result.now c.index.result.now place.in_range c.index-in-Ok.ensures c.index.ensures in
    let count = ap (λ (ss : List (Element × ℕ)). count_of ss c.in-Ok.at) (sym same) ∙ sym c.count.ensures.value in
    let s = found_sides cs c.requires.chunks c.args.key c.place-index.result place c.index.result.now c.index.ensures c.in-Ok.at c.in-Ok.ensures.found in
    ap not (sym (ap is_some (sides_at _ _ _ _ _ s ∙ none_held _ (omega (arith, count, c.if-count-gt0.false)))))

pub returns-else-count-gt0-clause-ok : goal.returns-else-count-gt0-clause-ok
returns-else-count-gt0-clause-ok g c =
    let cs : List (List (Element × ℕ)) = c.args.chunks.now.items in
    let place : IsPlace cs c.args.key c.place-index.result = subst (λ (xs : List (List (Element × ℕ))). IsPlace xs c.args.key c.place-index.result) c.deref.ensures.value c.place-index.ensures in
    let same2 = same_read cs c.place-index.result c.index-in-Ok.result.now c.index.result.now place.in_range c.index-in-Ok.ensures c.index.ensures in
    let count = ap (λ (ss : List (Element × ℕ)). count_of ss c.in-Ok.at) (sym same2) ∙ sym c.count.ensures.value in
    let none : count_of c.index.result.now c.in-Ok.at ≡ 0 = omega (arith, count, c.if-count-gt0.false) in
    let same = same_read cs c.place-index.result c.index_mut.result.now c.index.result.now place.in_range c.index_mut.ensures.value c.index.ensures in
    let new = c.set_count.ensures ∙ ap (λ (ss : List (Element × ℕ)). set ss c.in-Ok.at (key_of ss c.in-Ok.at, c.args.n)) same in
    let s = found_sides cs c.requires.chunks c.args.key c.place-index.result place c.index.result.now c.index.ensures c.in-Ok.at c.in-Ok.ensures.found in
    let t = marked_sides cs c.requires.chunks c.args.key c.place-index.result place c.index.result.now c.index.ensures c.in-Ok.at c.in-Ok.ensures.found c.args.n in
    ap (λ (x : List (Element × ℕ)). there (set cs c.place-index.result x)) new ∙ sides_is _ _ _ _ _ c.requires.positive t ∙ sym (sides_insert _ _ _ c.args.n _ _ none s)

pub returns-else-count-gt0-clause-count : goal.returns-else-count-gt0-clause-count
returns-else-count-gt0-clause-count g c =
    let cs : List (List (Element × ℕ)) = c.args.chunks.now.items in
    let place : IsPlace cs c.args.key c.place-index.result = subst (λ (xs : List (List (Element × ℕ))). IsPlace xs c.args.key c.place-index.result) c.deref.ensures.value c.place-index.ensures in
    let same2 = same_read cs c.place-index.result c.index-in-Ok.result.now c.index.result.now place.in_range c.index-in-Ok.ensures c.index.ensures in
    let count = ap (λ (ss : List (Element × ℕ)). count_of ss c.in-Ok.at) (sym same2) ∙ sym c.count.ensures.value in
    let none : count_of c.index.result.now c.in-Ok.at ≡ 0 = omega (arith, count, c.if-count-gt0.false) in
    let same = same_read cs c.place-index.result c.index_mut.result.now c.index.result.now place.in_range c.index_mut.ensures.value c.index.ensures in
    let new = c.set_count.ensures ∙ ap (λ (ss : List (Element × ℕ)). set ss c.in-Ok.at (key_of ss c.in-Ok.at, c.args.n)) same in
    let s = found_sides cs c.requires.chunks c.args.key c.place-index.result place c.index.result.now c.index.ensures c.in-Ok.at c.in-Ok.ensures.found in
    let t = marked_sides cs c.requires.chunks c.args.key c.place-index.result place c.index.result.now c.index.ensures c.in-Ok.at c.in-Ok.ensures.found c.args.n in
    ap (λ (x : List (Element × ℕ)). length (there (set cs c.place-index.result x))) new ∙ sides_longer _ _ _ _ _ c.requires.positive t ∙ ap (λ (n : ℕ). n + 1) (sym (sides_length _ _ _ _ _ none s))

pub returns-else-count-gt0-clause-chunks : goal.returns-else-count-gt0-clause-chunks
returns-else-count-gt0-clause-chunks g c =
    let cs : List (List (Element × ℕ)) = c.args.chunks.now.items in
    let place : IsPlace cs c.args.key c.place-index.result = subst (λ (xs : List (List (Element × ℕ))). IsPlace xs c.args.key c.place-index.result) c.deref.ensures.value c.place-index.ensures in
    let same = same_read cs c.place-index.result c.index_mut.result.now c.index.result.now place.in_range c.index_mut.ensures.value c.index.ensures in
    let new = c.set_count.ensures ∙ ap (λ (ss : List (Element × ℕ)). set ss c.in-Ok.at (key_of ss c.in-Ok.at, c.args.n)) same in
    subst (λ (x : List (Element × ℕ)). AreChunks (set cs c.place-index.result x)) (sym new)
    (marked_chunks cs c.requires.chunks c.args.key c.place-index.result place c.index.result.now c.index.ensures c.in-Ok.at c.in-Ok.ensures.found c.args.n)

pub returns-in_err-add-in-Err-clause-absent : goal.returns-in_err-add-in-Err-clause-absent
returns-in_err-add-in-Err-clause-absent g c =
    let cs : List (List (Element × ℕ)) = c.args.chunks.now.items in
    let place : IsPlace cs c.args.key c.place-index.result = subst (λ (xs : List (List (Element × ℕ))). IsPlace xs c.args.key c.place-index.result) c.deref.ensures.value c.place-index.ensures in
    let s = missing_sides cs c.requires.chunks c.args.key c.place-index.result place c.index.result.now c.index.ensures c.in-Err.at c.in-Err.ensures.absent in
    on_err c.from_residual-in_err-add-in-Err.result (sides_at _ _ _ _ _ s)

pub returns-in_ok-add-in-Err-clause-added : goal.returns-in_ok-add-in-Err-clause-added
returns-in_ok-add-in-Err-clause-added g c =
    let cs : List (List (Element × ℕ)) = c.args.chunks.now.items in
    let place : IsPlace cs c.args.key c.place-index.result = subst (λ (xs : List (List (Element × ℕ))). IsPlace xs c.args.key c.place-index.result) c.deref.ensures.value c.place-index.ensures in
    let s = missing_sides cs c.requires.chunks c.args.key c.place-index.result place c.index.result.now c.index.ensures c.in-Err.at c.in-Err.ensures.absent in
    ap not (sym (ap is_some (sides_at _ _ _ _ _ s)))

pub add-requires-clause-room : goal.add-requires-clause-room
add-requires-clause-room g c =
    let cs : List (List (Element × ℕ)) = c.args.chunks.now.items in
    let place : IsPlace cs c.args.key c.place-index.result = subst (λ (xs : List (List (Element × ℕ))). IsPlace xs c.args.key c.place-index.result) c.deref.ensures.value c.place-index.ensures in
    record {
      chunks = c.requires.chunks;
      place = place;
      gap = subst (λ (ss : List (Element × ℕ)). IsGap ss c.args.key c.in-Err.at) (c.index.ensures ∙ get_or_default cs c.place-index.result c.index.result.now [] place.in_range) c.in-Err.ensures.absent;
    }
