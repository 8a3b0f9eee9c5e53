use Rattle.std.proofs.Common.{◌≡◌, ◌≤◌, List, ℕ, All, subst, sym, ap, ◌∙◌, arith}
use Rattle.std.specs.List.Sorted.{IsStrictlySortedBy}
use Rattle.std.specs.BTreeMap.{is_at}
use Rattle.std.specs.Map.{keys_of, values_of}
use Rattle.std.proofs.lemmas.Map.Views.{All-map-remove_entry, All-values-set_value}
use Rattle.asm_element.specs.declared.element.Element.{Element}
use Rattle.asm_element.specs.Element.{element_cmp}
use Rattle.asm_element.specs.Entries.{assigned}
use Rattle.asm_element.proofs.Trees.{assigned_none, assigned_some}
use Rattle.asm_element.proofs.tree.Tree.assign.Goals.{in-Some, in_default}
use Rattle.asm_element.proofs.tree.Tree.assign.Goals as goal

pub invariant_of-self : goal.invariant_of-self
invariant_of-self c =
    let es : List (Element × ℕ) = c.self.inside.entries.entries in
    let positive = All-map-remove_entry (is_at (element_cmp c.args.key.now)) (λ e. e.1) (λ n. 1 ≤ n) es c.self.invariant.1 in
    (c.remove.ensures.ordered, subst (λ (xs : List (Element × ℕ)). All (λ n. 1 ≤ n) (values_of xs)) (sym c.remove.ensures.entries) positive)

pub invariant_of-self-2 : goal.invariant_of-self-2
invariant_of-self-2 c =
    let es : List (Element × ℕ) = c.self.inside.entries.entries in
    elim c.match-get_mut.branch [
      | in-Some w ↦
          let wrote = c.get_mut.follows.holds c.args.n in
          let positive = All-values-set_value (is_at (element_cmp c.args.key.now)) (λ n. 1 ≤ n) es c.args.n c.self.invariant.1 (omega (arith, c.if-n-eq0.false)) in
          subst (λ (xs : List (Element × ℕ)). IsStrictlySortedBy element_cmp (keys_of xs) × All (λ n. 1 ≤ n) (values_of xs))
          (sym (ap (λ s. s.entries.entries) w.self-inside-is))
          (wrote.4, subst (λ (xs : List (Element × ℕ)). All (λ n. 1 ≤ n) (values_of xs)) (sym wrote.0) positive)
      | in_default w ↦
          subst (λ (xs : List (Element × ℕ)). IsStrictlySortedBy element_cmp (keys_of xs) × All (λ n. 1 ≤ n) (values_of xs))
          (sym (ap (λ s. s.entries.entries) w.self-inside-is ∙ ap (λ m. m.entries) c.get_mut.follows.holds-at-none)) c.self.invariant
    ]

pub returns : goal.returns
returns c =
    let es : List (Element × ℕ) = c.self.inside.entries.entries in
    let k : Element = c.args.key.now in
    elim c.match-get_mut.branch [
      | in-Some w ↦
          ap (λ s. s.entries.entries) w.self-inside-is ∙ (c.get_mut.follows.holds c.args.n).0 ∙ assigned_some es k c.args.n (omega (arith, c.if-n-eq0.false))
          ∙ ap (λ (xs : List (Element × ℕ)). assigned xs k c.args.n) c.self.view_is
      | in_default w ↦
          ap (λ s. s.entries.entries) w.self-inside-is ∙ ap (λ m. m.entries) c.get_mut.follows.holds-at-none
          ∙ assigned_none es k c.args.n (omega (arith, c.if-n-eq0.false)) (sym w.in_default.ensures.value)
          ∙ ap (λ (xs : List (Element × ℕ)). assigned xs k c.args.n) c.self.view_is
    ]
