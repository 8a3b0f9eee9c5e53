use Rattle.asm_element.specs.declared.element.Element.{Element}
use Rattle.asm_element.specs.declared.element.Element.TheVariants.{Undef}
use Rattle.std.proofs.Common.{rules, ◌≡◌, ◌<◌, ◌≤◌, ◌+◌, ◌-◌, ◌∷◌, ◌++◌, [], true, false, Bool, List, length, take, drop, set, get_or, ℕ, zero, suc, refl, sym, ap, ◌∙◌, subst, arith}
use Rattle.std.specs.Arc.{arc_value}
use Rattle.std.specs.Map.{keys_of}
use Rattle.asm_element.specs.Slots.{slots, live, key_of, count_of}
use Rattle.asm_element.proofs.Slots.{length-slots, get_or-slots, slots-set, slots-insert, slots-push, keys-slots, live_more, live_same, live_none}
use Rattle.asm_element.specs.Element.{element_cmp}
use Rattle.std.specs.List.Sorted.{IsSearchInRange, IsBinarySearchResult}
use Rattle.asm_element.proofs.Search.{Searched, searched}
use Rattle.asm_element.proofs.chunk.Chunk.find.Goals as goal

pub returns-clause-found : goal.returns-clause-found
returns-clause-found g c =
    let ks = (arc_value c.self.inside.items).items in
    let same : c.deref.result.now ≡ arc_value c.self.inside.items = c.deref.ensures in
    let items : c.deref-2.result.now ≡ keys_of c.args.self.now =
    c.deref-2.ensures.value ∙ ap (λ v. v.items) same ∙ sym (keys-slots ks (g.M.Marks.counts c.self.inside.marks) (omega arith)) ∙ ap keys_of c.self.view_is in
    let position : IsBinarySearchResult (λ y. element_cmp y c.args.key.now) c.deref-2.result.now c.binary_search.result = c.binary_search.ensures.position in
    (searched c.args.self.now c.requires c.args.key.now c.binary_search.result
    (subst (λ (xs : List Element). IsSearchInRange c.binary_search.result (length xs)) items c.binary_search.ensures.bound)
    (subst (λ (xs : List Element). IsBinarySearchResult (λ y. element_cmp y c.args.key.now) xs c.binary_search.result) items position)).found

pub returns-clause-absent : goal.returns-clause-absent
returns-clause-absent g c =
    let ks = (arc_value c.self.inside.items).items in
    let same : c.deref.result.now ≡ arc_value c.self.inside.items = c.deref.ensures in
    let items : c.deref-2.result.now ≡ keys_of c.args.self.now =
    c.deref-2.ensures.value ∙ ap (λ v. v.items) same ∙ sym (keys-slots ks (g.M.Marks.counts c.self.inside.marks) (omega arith)) ∙ ap keys_of c.self.view_is in
    let position : IsBinarySearchResult (λ y. element_cmp y c.args.key.now) c.deref-2.result.now c.binary_search.result = c.binary_search.ensures.position in
    (searched c.args.self.now c.requires c.args.key.now c.binary_search.result
    (subst (λ (xs : List Element). IsSearchInRange c.binary_search.result (length xs)) items c.binary_search.ensures.bound)
    (subst (λ (xs : List Element). IsBinarySearchResult (λ y. element_cmp y c.args.key.now) xs c.binary_search.result) items position)).absent
