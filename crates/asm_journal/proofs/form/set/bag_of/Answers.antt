use Rattle.std.proofs.Common.{◌≡◌, ◌<◌, ◌≤◌, ◌+◌, ℕ, [], ◌∷◌, sym, ap, subst, ◌∙◌, append-nil, arith}
use Rattle.std.proofs.lemmas.List.{map-append}
use Rattle.asm_element.specs.Bag as bag
use Rattle.asm_element.specs.declared.element.Element.{Element}
use Rattle.asm_journal.proofs.Elements.{counts_of}
use Rattle.asm_journal.proofs.EntriesKept.{one_back, none_distinct, bag-twice, bag-more}
use Rattle.asm_element.specs.Element.{element_cmp}
use Rattle.asm_journal.proofs.form.set.bag_of.Goals as goal

pub loop-element-init : goal.loop-element-init
loop-element-init c = record {
  done = [];
  whole = append-nil _;
  made = (none_distinct element_cmp, c.new-bag.ensures);
  positive = tt;
}

pub returns-then-count-gt0 : goal.returns-then-count-gt0
returns-then-count-gt0 c =
    let l = c.loop-element in
    let p : Element × ℕ = (c.in-Some.field-0.0, c.in-Some.field-0.1) in
    let popped = ap counts_of c.in-Some.ensures.items ∙ map-append _ c.pop.new.self.items _ in
    let whole = one_back _ p _ l.invariant.done _ l.invariant.whole popped in
    bag-twice _ p l.invariant.done _ l.bag whole l.invariant.made l.invariant.positive (subst (λ n. 0 < n) c.count.ensures c.if-count-gt0.true)

pub loop-element-preserved : goal.loop-element-preserved
loop-element-preserved c =
    let l = c.loop-element in
    let p : Element × ℕ = (c.in-Some.field-0.0, c.in-Some.field-0.1) in
    let popped = ap counts_of c.in-Some.ensures.items ∙ map-append _ c.pop.new.self.items _ in
    let whole = one_back _ p _ l.invariant.done _ l.invariant.whole popped in
    let none : bag.count l.bag p.0 ≡ 0 = omega (arith, c.count.ensures, c.if-count-gt0.false) in
    let put = c.in_ok-put.ensures.ok ∙ ap (λ n. bag.set_count l.bag p.0 (bag.count l.bag p.0 + n)) c.get.ensures.value in
    let positive = subst (λ n. 1 ≤ n) c.get.ensures.value (subst (λ n. 1 ≤ n) (sym c.get.ensures.value) c.get.ensures.positive) in
    record {
      done = p ∷ l.invariant.done;
      whole = whole;
      made = bag-more p l.invariant.done l.bag _ l.invariant.made l.invariant.positive none put;
      positive = (positive, l.invariant.positive);
    }
