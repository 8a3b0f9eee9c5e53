use Rattle.asm_element.specs.declared.element.Element.{Element}
use Rattle.asm_element.specs.declared.element.Element.TheVariants.{Undef}
use Rattle.std.proofs.Common.{◌≡◌, ◌<◌, ◌≤◌, ◌+◌, [], ◌∷◌, ◌++◌, List, ℕ, zero, suc, take, drop, set, length, get_or, subst, sym, ap, ◌∙◌, arith, true, false, not, refl}
use Rattle.std.specs.Prelude.{Option, None, Some, is_some, IfNone}
use Rattle.std.specs.List.{insert}
use Rattle.std.proofs.lemmas.List.{get_or_default, take-append-drop, length-take, length-drop}
use Rattle.asm_element.specs.Tests.{on_err}
use Rattle.asm_element.specs.Slots.{key_of, count_of, IsGap}
use Rattle.asm_element.specs.Entries.{at, held, assigned}
use Rattle.asm_element.specs.Chunks.{there, AreChunks, IsPlace, IsEnd, Adds}
use Rattle.asm_element.specs.Entries.{AllFit}
use Rattle.asm_element.proofs.Order.{all-left, all-right}
use Rattle.asm_element.proofs.Edits.{renewed_adds, split_adds}
use Rattle.asm_element.proofs.chunk_vec.renew.Goals as goal

pub returns-then-len-le-ROOM-clause-ok : goal.returns-then-len-le-ROOM-clause-ok
returns-then-len-le-ROOM-clause-ok g c =
    let cs = c.args.chunks.now.items in
    let room = c.requires.room in
    let x = c.index.result.now in
    let gap : IsGap x c.args.key c.args.at = subst (λ (ss : List (Element × ℕ)). IsGap ss c.args.key c.args.at) (sym (c.index.ensures ∙ get_or_default cs c.args.index x [] room.place.in_range)) room.gap in
    subst (λ (ss : List (Element × ℕ)). Adds cs (set cs c.args.index ss) c.args.key c.args.n) (sym c.in_ok-chunk.ensures)
    (renewed_adds cs room.chunks c.args.key c.args.index room.place x c.index.ensures c.args.at gap c.args.n c.in_ok-pairs.pairs.items c.requires.positive c.in_ok-pairs.ensures.items)

pub returns-clause-ok : goal.returns-clause-ok
returns-clause-ok g c =
    let cs = c.args.chunks.now.items in
    let room = c.requires.room in
    let x = c.index.result.now in
    let gap : IsGap x c.args.key c.args.at = subst (λ (ss : List (Element × ℕ)). IsGap ss c.args.key c.args.at) (sym (c.index.ensures ∙ get_or_default cs c.args.index x [] room.place.in_range)) room.gap in
    let xs : List (Element × ℕ) = c.in_ok-pairs.pairs.items in
    let low = c.in_ok-low.ensures ∙ c.in_ok-upper.ensures.items in
    let high = c.in_ok-high.ensures ∙ c.in_ok-upper.ensures.tail in
    let next : c.args.index + 1 ≡ suc c.args.index = omega arith in
    let more = c.in_ok-insert.ensures.items ∙ (λ i. insert cs (next i) (high i)) in
    let new : set c.insert.new.self.items c.args.index c.in_ok-low.low ≡ set (insert cs (suc c.args.index) (drop 32 xs)) c.args.index (take 32 xs) = λ i. set (more i) c.args.index (low i) in
    let long : 64 < length xs = omega (arith, c.len.ensures) in
    subst (λ (ys : List (List (Element × ℕ))). Adds cs ys c.args.key c.args.n) (sym new)
    (split_adds cs room.chunks c.args.key c.args.index room.place x c.index.ensures c.args.at gap c.args.n xs (take 32 xs) (drop 32 xs) c.requires.positive c.in_ok-pairs.ensures.items (sym (take-append-drop 32 xs)) (omega (arith, length-take 32 xs)) (omega (arith, length-drop 32 xs)))

pub of-requires-2-clause-fits : goal.of-requires-2-clause-fits
of-requires-2-clause-fits g c =
    let xs : List (Element × ℕ) = c.in_ok-pairs.pairs.items in
    let all : AllFit g.M.Marks.most (take 32 xs ++ drop 32 xs) = subst (AllFit g.M.Marks.most) (sym (take-append-drop 32 xs)) c.in_ok-pairs.ensures.fits in
    subst (AllFit g.M.Marks.most) (sym c.in_ok-upper.ensures.items) (all-left (λ (e : Element × ℕ). e.1 ≤ g.M.Marks.most) (take 32 xs) (drop 32 xs) all)

pub of-requires-3-clause-fits : goal.of-requires-3-clause-fits
of-requires-3-clause-fits g c =
    let xs : List (Element × ℕ) = c.in_ok-pairs.pairs.items in
    let all : AllFit g.M.Marks.most (take 32 xs ++ drop 32 xs) = subst (AllFit g.M.Marks.most) (sym (take-append-drop 32 xs)) c.in_ok-pairs.ensures.fits in
    subst (AllFit g.M.Marks.most) (sym c.in_ok-upper.ensures.tail) (all-right (λ (e : Element × ℕ). e.1 ≤ g.M.Marks.most) (take 32 xs) (drop 32 xs) all)
