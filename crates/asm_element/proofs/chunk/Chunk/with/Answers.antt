use Rattle.asm_element.specs.declared.element.Element.{Element}
use Rattle.asm_element.specs.declared.element.Element.TheVariants.{Undef}
use Rattle.std.proofs.Common.{rules, ◌≡◌, ◌<◌, ◌≤◌, ◌+◌, ◌-◌, ◌∷◌, ◌++◌, [], true, false, Bool, List, length, take, drop, set, get_or, ℕ, zero, suc, refl, sym, ap, ◌∙◌, subst, arith}
use Rattle.std.specs.Arc.{arc_value}
use Rattle.std.specs.Map.{keys_of}
use Rattle.asm_element.specs.Slots.{slots, live, key_of, count_of}
use Rattle.asm_element.proofs.Slots.{length-slots, get_or-slots, slots-set, slots-insert, slots-push, keys-slots, live_more, live_same, live_none}
use Rattle.std.proofs.lemmas.List.{append_assoc, length_push, get_or-drop, length-drop}
use Rattle.asm_element.specs.Entries.{AllFit}
use Rattle.asm_element.proofs.Order.{all-append}
use Rattle.asm_element.proofs.chunk.Chunk.with.Goals.{then-count-gt0+in_ok-copied+in_ok-push, else-count-gt0, then-count-gt0-2+in_ok-copied-2+in_ok-push-3, else-count-gt0-2}
use Rattle.asm_element.proofs.chunk.Chunk.with.Goals as goal

pub loop-index-preserved : goal.loop-index-preserved
loop-index-preserved g c =
    let ss : List (Element × ℕ) = c.args.self.now in
    let i : ℕ = c.loop-index.index in
    let before = c.loop-index.invariant in
    let lt : i < length ss = omega arith in
    elim c.if-count-gt0.branch [
      | then-count-gt0+in_ok-copied+in_ok-push w ↦
          let e : c.if-count-gt0.pairs.items ≡ c.loop-index.pairs.items ++ w.in_ok-copied.field-0 ∷ [] = ap (λ v. v.items) w.pairs-is ∙ w.in_ok-push.ensures.items in
          record {
            so_far = e ∙ (λ j. before.so_far j ++ w.in_ok-copied.ensures.value j ∷ []) ∙ sym (live_more ss i lt (omega (arith, c.count.ensures.value, w.if-count-gt0.true)));
            few = omega (arith, ap length e, length_push c.loop-index.pairs.items w.in_ok-copied.field-0, before.few);
            fits = subst (AllFit g.M.Marks.most) (sym e) (all-append (λ (s : Element × ℕ). s.1 ≤ g.M.Marks.most) c.loop-index.pairs.items (w.in_ok-copied.field-0 ∷ []) before.fits (w.in_ok-copied.ensures.fits, tt));
            kept = before.kept;
          }
      | else-count-gt0 w ↦
          let e : c.if-count-gt0.pairs.items ≡ c.loop-index.pairs.items = ap (λ v. v.items) w.pairs-is in
          record {
            so_far = e ∙ before.so_far ∙ sym (live_same ss i lt (omega (arith, c.count.ensures.value, w.if-count-gt0.false)));
            few = omega (arith, ap length e, before.few);
            fits = subst (AllFit g.M.Marks.most) (sym e) before.fits;
            kept = before.kept;
          }
    ]

pub loop-index-2-preserved : goal.loop-index-2-preserved
loop-index-2-preserved g c =
    let ss : List (Element × ℕ) = drop c.args.at c.args.self.now in
    let i : ℕ = c.loop-index-2.index in
    let n : ℕ = i - c.args.at in
    let before = c.loop-index-2.invariant in
    let le : c.args.at ≤ i = c.loop-index-2.auto.index in
    let long = length-drop c.args.at c.args.self.now in
    let top = c.len-index-end.ensures.len in
    let here : c.args.at + n ≡ i = omega arith in
    let lt : n < length ss = omega arith in
    let there = get_or-drop c.args.at c.args.self.now n (Undef, 0) ∙ ap (λ (k : ℕ). get_or c.args.self.now k (Undef, 0)) here in
    let next : n + 1 ≡ i + 1 - c.args.at = omega arith in
    let front : List (Element × ℕ) = live (take c.args.at c.args.self.now) in
    let mine : Element × ℕ = (c.args.key, c.args.n) in
    elim c.if-count-gt0-2.branch [
      | then-count-gt0-2+in_ok-copied-2+in_ok-push-3 w ↦
          let e : c.if-count-gt0-2.pairs.items ≡ c.loop-index-2.pairs.items ++ w.in_ok-copied-2.field-0 ∷ [] = ap (λ v. v.items) w.pairs-is ∙ w.in_ok-push-3.ensures.items in
          record {
            so_far =
                e ∙ (λ j. before.so_far j ++ (w.in_ok-copied-2.ensures.value ∙ sym there) j ∷ [])
                ∙ append_assoc front (mine ∷ live (take n ss)) ((key_of ss n, count_of ss n) ∷ [])
                ∙ ap (λ (xs : List (Element × ℕ)). front ++ mine ∷ xs) (sym (live_more ss n lt (omega (arith, ap (λ s. s.1) there, c.count-in-loop-index-2.ensures.value, w.if-count-gt0-2.true))))
                ∙ ap (λ (k : ℕ). front ++ mine ∷ live (take k ss)) next;
            few = omega (arith, ap length e, length_push c.loop-index-2.pairs.items w.in_ok-copied-2.field-0, before.few);
            fits = subst (AllFit g.M.Marks.most) (sym e) (all-append (λ (s : Element × ℕ). s.1 ≤ g.M.Marks.most) c.loop-index-2.pairs.items (w.in_ok-copied-2.field-0 ∷ []) before.fits (w.in_ok-copied-2.ensures.fits, tt));
          }
      | else-count-gt0-2 w ↦
          let e : c.if-count-gt0-2.pairs.items ≡ c.loop-index-2.pairs.items = ap (λ v. v.items) w.pairs-is in
          record {
            so_far =
                e ∙ before.so_far
                ∙ ap (λ (xs : List (Element × ℕ)). front ++ mine ∷ xs) (sym (live_same ss n lt (omega (arith, ap (λ s. s.1) there, c.count-in-loop-index-2.ensures.value, w.if-count-gt0-2.false))))
                ∙ ap (λ (k : ℕ). front ++ mine ∷ live (take k ss)) next;
            few = omega (arith, ap length e, before.few);
            fits = subst (AllFit g.M.Marks.most) (sym e) before.fits;
          }
    ]

pub loop-index-2-init : goal.loop-index-2-init
loop-index-2-init g c =
    let ss : List (Element × ℕ) = c.args.self.now in
    let before = c.loop-index.invariant in
    let mine : Element × ℕ = (c.args.key, c.args.n) in
    let e : c.push-2.new.self.items ≡ c.loop-index.pairs.items ++ mine ∷ [] = c.in_ok-push-2.ensures.items ∙ ap (λ (k : Element). c.loop-index.pairs.items ++ (k, c.args.n) ∷ []) before.kept in
    let end = c.loop-index.auto.index-end in
    let same : c.loop-index.index ≡ c.args.at = omega arith in
    let none : 0 ≡ c.args.at - c.args.at = omega arith in
    record {
      so_far =
          e ∙ (λ j. before.so_far j ++ mine ∷ [])
          ∙ ap (λ (n : ℕ). live (take n ss) ++ mine ∷ []) same
          ∙ ap (λ (n : ℕ). live (take c.args.at ss) ++ mine ∷ live (take n (drop c.args.at ss))) none;
      few = omega (arith, ap length e, length_push c.loop-index.pairs.items mine, before.few);
      fits = subst (AllFit g.M.Marks.most) (sym e) (all-append (λ (s : Element × ℕ). s.1 ≤ g.M.Marks.most) c.loop-index.pairs.items (mine ∷ []) before.fits (c.requires.fits, tt));
    }
