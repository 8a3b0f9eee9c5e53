use Rattle.std.proofs.Common.{◌≡◌, ◌≤◌, ◌+◌, List, ℕ, All, length, nat_lt, if◌then◌else◌, subst, sym, ap, ◌∙◌}
use Rattle.std.specs.Prelude.{is_some, unwrap_or}
use Rattle.std.specs.List.Sorted.{IsStrictlySortedBy}
use Rattle.std.specs.BTreeMap.{insert_entry}
use Rattle.std.specs.Map.{keys_of, values_of}
use Rattle.std.proofs.lemmas.Map.Views.{All-values-insert_entry}
use Rattle.asm_element.specs.declared.element.Element.{Element}
use Rattle.asm_element.specs.Element.{element_cmp}
use Rattle.asm_element.specs.Entries.{at}
use Rattle.asm_element.proofs.Trees.{inserted, longer, kept_count}
use Rattle.asm_element.proofs.tree.Tree.insert.Goals as goal

pub invariant_of-self-2 : goal.invariant_of-self-2
invariant_of-self-2 c =
    let es : List (Element × ℕ) = c.self.inside.entries.entries in
    let w : ℕ = c.or_insert-count.result.now in
    let written = c.self-3-1.given.1 (sym c.in_ok-self-inside.ensures.same_map) in
    let put = c.in_ok-self-inside.ensures.update in
    let held = c.or_insert-count.ensures.value ∙ ap (λ o. unwrap_or o c.args.n) c.in_ok-self-inside.ensures.value in
    let some = subst (λ (m : ℕ). 1 ≤ m) (sym held) (kept_count es c.args.key c.args.n c.self.invariant.1 c.requires.positive) in
    subst (λ (xs : List (Element × ℕ)). IsStrictlySortedBy element_cmp (keys_of xs) × All (λ n. 1 ≤ n) (values_of xs))
    (sym (ap (λ m. m.entries) written ∙ put.1 w)) (
      subst (λ (xs : List (Element × ℕ)). IsStrictlySortedBy element_cmp (keys_of xs)) (put.1 w) (put.2 w),
      All-values-insert_entry element_cmp c.args.key w (λ n. 1 ≤ n) es c.self.invariant.1 some,
    )

pub returns-clause-ok : goal.returns-clause-ok
returns-clause-ok c =
    let es : List (Element × ℕ) = c.self.inside.entries.entries in
    let k : Element = c.args.key in
    let w : ℕ = c.or_insert-count.result.now in
    let written = ap (λ m. m.entries) (c.self-3-1.given.1 (sym c.in_ok-self-inside.ensures.same_map)) in
    let held = c.or_insert-count.ensures.value ∙ ap (λ o. unwrap_or o c.args.n) c.in_ok-self-inside.ensures.value in
    let more : c.len.result ≡ c.len-before.result + (if is_some (at es k) then 0 else 1) =
    c.len.ensures.len ∙ ap length written ∙ c.in_ok-self-inside.ensures.len w
    ∙ ap (λ o. length es + (if is_some o then 0 else 1)) c.in_ok-self-inside.ensures.value
    ∙ ap (λ (n : ℕ). n + (if is_some (at es k) then 0 else 1)) (sym c.len-before.ensures.len) in
    let added = longer (is_some (at es k)) c.len-before.result c.len.result more in
    inserted es _ k c.args.n w (nat_lt c.len-before.result c.len.result) c.self.invariant.0 added held (written ∙ c.in_ok-self-inside.ensures.update.1 w)
    ∙ ap (λ (xs : List (Element × ℕ)). if nat_lt c.len-before.result c.len.result then insert_entry element_cmp xs k c.args.n else xs) c.self.view_is
