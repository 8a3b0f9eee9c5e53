use Rattle.asm_element.specs.declared.element.Element.{Element}
use Rattle.asm_element.specs.declared.element.Element.TheVariants.{Undef}
use Rattle.std.proofs.Common.{◌≡◌, ◌<◌, ◌≤◌, ◌+◌, [], ◌∷◌, ◌++◌, List, ℕ, zero, suc, take, drop, set, length, get_or, subst, sym, ap, ◌∙◌, arith, true, false, not, refl}
use Rattle.std.specs.Prelude.{Option, None, Some, is_some, IfNone}
use Rattle.std.specs.List.{insert}
use Rattle.std.proofs.lemmas.List.{get_or_default, take-append-drop, length-take, length-drop}
use Rattle.asm_element.specs.Tests.{on_err}
use Rattle.asm_element.specs.Slots.{key_of, count_of, IsGap}
use Rattle.asm_element.specs.Entries.{at, held, assigned}
use Rattle.asm_element.specs.Chunks.{there, AreChunks, IsPlace, IsEnd, Adds}
use Rattle.asm_element.proofs.Edits.{appended_adds}
use Rattle.asm_element.proofs.chunk_vec.append.Goals as goal

pub returns-clause-ok : goal.returns-clause-ok
returns-clause-ok g c =
    let e : Element × ℕ = (c.args.key, c.args.n) in
    let pairs = c.in_ok-push.ensures.items ∙ ap (λ (xs : List (Element × ℕ)). xs ++ e ∷ []) c.new-pairs.ensures.items in
    let chunk = c.in_ok-chunk.ensures ∙ pairs in
    let new : c.push-2.new.self.items ≡ c.args.chunks.now.items ++ (e ∷ []) ∷ [] = c.in_ok-push-2.ensures.items ∙ ap (λ (x : List (Element × ℕ)). c.args.chunks.now.items ++ x ∷ []) chunk in
    subst (λ (ys : List (List (Element × ℕ))). Adds c.args.chunks.now.items ys c.args.key c.args.n) (sym new) (appended_adds c.args.chunks.now.items c.args.key c.args.n c.requires.positive c.requires.end)
