use Rattle.asm_element.specs.declared.element.Element.{Element}
use Rattle.std.proofs.Common.{◌≡◌, ◌<◌, ◌≤◌, ◌+◌, ◌∷◌, ◌++◌, [], List, length, ℕ, set, sym, ap, ◌∙◌, subst, arith}
use Rattle.std.proofs.lemmas.List.{append_assoc, length_push, length-set}
use Rattle.asm_element.specs.Slots.{slots}
use Rattle.asm_element.specs.Entries.{AllFit}
use Rattle.asm_element.proofs.Slots.{slots-push}
use Rattle.asm_element.proofs.chunk.parted.Goals as goal

pub loop-key-preserved : goal.loop-key-preserved
loop-key-preserved g c =
    let ks : List Element = c.loop-key.items.items in
    let ms : List ℕ = g.M.Marks.counts c.loop-key.marks in
    let rest : List (Element × ℕ) = c.next.new.self.rest.items in
    let e : Element × ℕ = (c.in-Some.key, c.in-Some.n) in
    let before = c.loop-key.invariant in
    let step : c.loop-key.key-iterator.rest.items ≡ e ∷ rest = c.in-Some.ensures.steps.0 in
    let long = ap length step in
    let room : length ks < length ms = omega (arith, before.few, before.long, long) in
    let len : c.len-in-loop-key.result ≡ length ks = omega (arith, c.len-in-loop-key.ensures) in
    let items : c.push.new.self.items ≡ ks ++ c.in-Some.key ∷ [] = c.in_ok-push.ensures.items in
    let marks : g.M.Marks.counts c.put.new.self ≡ set ms (length ks) c.in-Some.n = c.put.ensures ∙ ap (λ (i : ℕ). set ms i c.in-Some.n) len in
    record {
      so_far =
          (λ i. slots (items i) (marks i) ++ rest) ∙ ap (λ (xs : List (Element × ℕ)). xs ++ rest) (slots-push ks ms c.in-Some.key c.in-Some.n room)
          ∙ append_assoc (slots ks ms) (e ∷ []) rest ∙ ap (λ (xs : List (Element × ℕ)). slots ks ms ++ xs) (sym step) ∙ before.so_far;
      few = omega (arith, ap length items, length_push ks c.in-Some.key, long, before.few);
      long = ap length marks ∙ length-set ms (length ks) c.in-Some.n ∙ before.long;
      fits = (subst (AllFit g.M.Marks.most) step before.fits).1;
    }
