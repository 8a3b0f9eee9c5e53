use Rattle.asm_element.specs.declared.element.Element.{Element}
use Rattle.asm_element.specs.declared.element.Element.TheVariants.{Undef}
use Rattle.std.proofs.Common.{◌≡◌, ◌<◌, ◌≤◌, ◌+◌, [], ◌∷◌, ◌++◌, List, ℕ, zero, suc, take, drop, set, length, get_or, subst, sym, ap, ◌∙◌, arith, true, false, not, refl}
use Rattle.std.specs.Prelude.{Option, None, Some, is_some, IfNone}
use Rattle.std.specs.List.{insert}
use Rattle.std.proofs.lemmas.List.{get_or_default, take-append-drop, length-take, length-drop}
use Rattle.asm_element.specs.Tests.{on_err}
use Rattle.asm_element.specs.Slots.{key_of, count_of, IsGap}
use Rattle.asm_element.specs.Entries.{at, held, assigned}
use Rattle.asm_element.specs.Chunks.{there, AreChunks, IsPlace, IsEnd, Adds}
use Rattle.asm_element.proofs.Edits.{ordered_here, found_sides, missing_sides, sides_assign, sides_absent, sides_length, sides_longer, marked_sides, marked_chunks, with_count, same_read}
use Rattle.asm_element.proofs.chunk_vec.assign.Goals as goal

pub find-requires : goal.find-requires
find-requires g c =
    let cs : List (List (Element × ℕ)) = c.args.chunks.now.items in
    let place : IsPlace cs c.args.key.now c.place-index.result = subst (λ (xs : List (List (Element × ℕ))). IsPlace xs c.args.key.now c.place-index.result) c.deref.ensures.value c.place-index.ensures in
    ordered_here cs c.requires.chunks c.place-index.result c.index.result.now place.in_range c.index.ensures

pub returns-in_default-clause-new : goal.returns-in_default-clause-new
returns-in_default-clause-new g c =
    let cs : List (List (Element × ℕ)) = c.args.chunks.now.items in
    let place : IsPlace cs c.args.key.now c.place-index.result = subst (λ (xs : List (List (Element × ℕ))). IsPlace xs c.args.key.now c.place-index.result) c.deref.ensures.value c.place-index.ensures in
    let s = missing_sides cs c.requires.chunks c.args.key.now c.place-index.result place c.index.result.now c.index.ensures c.in_default.field-0 c.in_default.ensures.absent in
    sym (sides_absent _ _ 0 c.args.n _ _ refl s)

pub returns-then-count-eq0-clause-new : goal.returns-then-count-eq0-clause-new
returns-then-count-eq0-clause-new g c =
    let cs : List (List (Element × ℕ)) = c.args.chunks.now.items in
    let place : IsPlace cs c.args.key.now c.place-index.result = subst (λ (xs : List (List (Element × ℕ))). IsPlace xs c.args.key.now c.place-index.result) c.deref.ensures.value c.place-index.ensures in
    let same = same_read cs c.place-index.result c.index-2.result.now c.index.result.now place.in_range c.index-2.ensures c.index.ensures in
    let count : count_of c.index.result.now c.in-Ok.at ≡ 0 = ap (λ (ss : List (Element × ℕ)). count_of ss c.in-Ok.at) (sym same) ∙ sym c.count.ensures.value ∙ c.if-count-eq0.true in
    let s = found_sides cs c.requires.chunks c.args.key.now c.place-index.result place c.index.result.now c.index.ensures c.in-Ok.at c.in-Ok.ensures.found in
    sym (sides_absent _ _ _ c.args.n _ _ count s)

pub returns-then-n-gt0-clause-new : goal.returns-then-n-gt0-clause-new
returns-then-n-gt0-clause-new g c =
    let cs : List (List (Element × ℕ)) = c.args.chunks.now.items in
    let place : IsPlace cs c.args.key.now c.place-index.result = subst (λ (xs : List (List (Element × ℕ))). IsPlace xs c.args.key.now c.place-index.result) c.deref.ensures.value c.place-index.ensures in
    let same = same_read cs c.place-index.result c.index_mut.result.now c.index.result.now place.in_range c.index_mut.ensures.value c.index.ensures in
    let new = c.set_count.ensures ∙ ap (λ (ss : List (Element × ℕ)). set ss c.in-Ok.at (key_of ss c.in-Ok.at, c.args.n)) same in
    let same2 = same_read cs c.place-index.result c.index-2.result.now c.index.result.now place.in_range c.index-2.ensures c.index.ensures in
    let count = ap (λ (ss : List (Element × ℕ)). count_of ss c.in-Ok.at) (sym same2) ∙ sym c.count.ensures.value in
    let some : 0 < count_of c.index.result.now c.in-Ok.at = omega (arith, count, c.if-count-eq0.false) in
    let s = found_sides cs c.requires.chunks c.args.key.now c.place-index.result place c.index.result.now c.index.ensures c.in-Ok.at c.in-Ok.ensures.found in
    let t = marked_sides cs c.requires.chunks c.args.key.now c.place-index.result place c.index.result.now c.index.ensures c.in-Ok.at c.in-Ok.ensures.found c.args.n in
    ap (λ (x : List (Element × ℕ)). there (set cs c.place-index.result x)) new ∙ t.is ∙ sym (sides_assign _ _ _ c.args.n _ _ some s)

pub returns-then-n-gt0-clause-count : goal.returns-then-n-gt0-clause-count
returns-then-n-gt0-clause-count g c =
    let cs : List (List (Element × ℕ)) = c.args.chunks.now.items in
    let place : IsPlace cs c.args.key.now c.place-index.result = subst (λ (xs : List (List (Element × ℕ))). IsPlace xs c.args.key.now c.place-index.result) c.deref.ensures.value c.place-index.ensures in
    let same = same_read cs c.place-index.result c.index_mut.result.now c.index.result.now place.in_range c.index_mut.ensures.value c.index.ensures in
    let new = c.set_count.ensures ∙ ap (λ (ss : List (Element × ℕ)). set ss c.in-Ok.at (key_of ss c.in-Ok.at, c.args.n)) same in
    let same2 = same_read cs c.place-index.result c.index-2.result.now c.index.result.now place.in_range c.index-2.ensures c.index.ensures in
    let count = ap (λ (ss : List (Element × ℕ)). count_of ss c.in-Ok.at) (sym same2) ∙ sym c.count.ensures.value in
    let some : 0 < count_of c.index.result.now c.in-Ok.at = omega (arith, count, c.if-count-eq0.false) in
    let s = found_sides cs c.requires.chunks c.args.key.now c.place-index.result place c.index.result.now c.index.ensures c.in-Ok.at c.in-Ok.ensures.found in
    let t = marked_sides cs c.requires.chunks c.args.key.now c.place-index.result place c.index.result.now c.index.ensures c.in-Ok.at c.in-Ok.ensures.found c.args.n in
    let after = ap (λ (x : List (Element × ℕ)). length (there (set cs c.place-index.result x))) new ∙ sides_longer _ _ _ _ _ (omega (arith, c.if-n-gt0.true)) t in
    omega (arith, after, sides_longer _ _ _ _ _ some s)

pub returns-then-n-gt0-clause-chunks : goal.returns-then-n-gt0-clause-chunks
returns-then-n-gt0-clause-chunks g c =
    let cs : List (List (Element × ℕ)) = c.args.chunks.now.items in
    let place : IsPlace cs c.args.key.now c.place-index.result = subst (λ (xs : List (List (Element × ℕ))). IsPlace xs c.args.key.now c.place-index.result) c.deref.ensures.value c.place-index.ensures in
    let same = same_read cs c.place-index.result c.index_mut.result.now c.index.result.now place.in_range c.index_mut.ensures.value c.index.ensures in
    let new = c.set_count.ensures ∙ ap (λ (ss : List (Element × ℕ)). set ss c.in-Ok.at (key_of ss c.in-Ok.at, c.args.n)) same in
    subst (λ (x : List (Element × ℕ)). AreChunks (set cs c.place-index.result x)) (sym new)
    (marked_chunks cs c.requires.chunks c.args.key.now c.place-index.result place c.index.result.now c.index.ensures c.in-Ok.at c.in-Ok.ensures.found c.args.n)

pub sweep-requires-clause-chunks : goal.sweep-requires-clause-chunks
sweep-requires-clause-chunks g c =
    let cs : List (List (Element × ℕ)) = c.args.chunks.now.items in
    let place : IsPlace cs c.args.key.now c.place-index.result = subst (λ (xs : List (List (Element × ℕ))). IsPlace xs c.args.key.now c.place-index.result) c.deref.ensures.value c.place-index.ensures in
    let same = same_read cs c.place-index.result c.index_mut.result.now c.index.result.now place.in_range c.index_mut.ensures.value c.index.ensures in
    let new = c.set_count.ensures ∙ ap (λ (ss : List (Element × ℕ)). set ss c.in-Ok.at (key_of ss c.in-Ok.at, c.args.n)) same in
    subst (λ (x : List (Element × ℕ)). AreChunks (set cs c.place-index.result x)) (sym new)
    (marked_chunks cs c.requires.chunks c.args.key.now c.place-index.result place c.index.result.now c.index.ensures c.in-Ok.at c.in-Ok.ensures.found c.args.n)

pub returns-clause-new : goal.returns-clause-new
returns-clause-new g c =
    let cs : List (List (Element × ℕ)) = c.args.chunks.now.items in
    let place : IsPlace cs c.args.key.now c.place-index.result = subst (λ (xs : List (List (Element × ℕ))). IsPlace xs c.args.key.now c.place-index.result) c.deref.ensures.value c.place-index.ensures in
    let same = same_read cs c.place-index.result c.index_mut.result.now c.index.result.now place.in_range c.index_mut.ensures.value c.index.ensures in
    let new = c.set_count.ensures ∙ ap (λ (ss : List (Element × ℕ)). set ss c.in-Ok.at (key_of ss c.in-Ok.at, c.args.n)) same in
    let same2 = same_read cs c.place-index.result c.index-2.result.now c.index.result.now place.in_range c.index-2.ensures c.index.ensures in
    let count = ap (λ (ss : List (Element × ℕ)). count_of ss c.in-Ok.at) (sym same2) ∙ sym c.count.ensures.value in
    let some : 0 < count_of c.index.result.now c.in-Ok.at = omega (arith, count, c.if-count-eq0.false) in
    let s = found_sides cs c.requires.chunks c.args.key.now c.place-index.result place c.index.result.now c.index.ensures c.in-Ok.at c.in-Ok.ensures.found in
    let t = marked_sides cs c.requires.chunks c.args.key.now c.place-index.result place c.index.result.now c.index.ensures c.in-Ok.at c.in-Ok.ensures.found c.args.n in
    c.sweep.ensures.same ∙ ap (λ (x : List (Element × ℕ)). there (set cs c.place-index.result x)) new ∙ t.is ∙ sym (sides_assign _ _ _ c.args.n _ _ some s)

pub returns-clause-count : goal.returns-clause-count
returns-clause-count g c =
    let cs : List (List (Element × ℕ)) = c.args.chunks.now.items in
    let place : IsPlace cs c.args.key.now c.place-index.result = subst (λ (xs : List (List (Element × ℕ))). IsPlace xs c.args.key.now c.place-index.result) c.deref.ensures.value c.place-index.ensures in
    let same = same_read cs c.place-index.result c.index_mut.result.now c.index.result.now place.in_range c.index_mut.ensures.value c.index.ensures in
    let new = c.set_count.ensures ∙ ap (λ (ss : List (Element × ℕ)). set ss c.in-Ok.at (key_of ss c.in-Ok.at, c.args.n)) same in
    let same2 = same_read cs c.place-index.result c.index-2.result.now c.index.result.now place.in_range c.index-2.ensures c.index.ensures in
    let count = ap (λ (ss : List (Element × ℕ)). count_of ss c.in-Ok.at) (sym same2) ∙ sym c.count.ensures.value in
    let some : 0 < count_of c.index.result.now c.in-Ok.at = omega (arith, count, c.if-count-eq0.false) in
    let s = found_sides cs c.requires.chunks c.args.key.now c.place-index.result place c.index.result.now c.index.ensures c.in-Ok.at c.in-Ok.ensures.found in
    let t = marked_sides cs c.requires.chunks c.args.key.now c.place-index.result place c.index.result.now c.index.ensures c.in-Ok.at c.in-Ok.ensures.found c.args.n in
    let after = ap length c.sweep.ensures.same ∙ ap (λ (x : List (Element × ℕ)). length (there (set cs c.place-index.result x))) new ∙ sides_length _ _ _ _ _ (omega (arith, c.if-n-gt0.false)) t in
    omega (arith, after, sides_longer _ _ _ _ _ some s)
