use Rattle.std.proofs.Common.{◌≡◌, ◌%◌, ◌∙◌, sym, ap, w64, of_z}
use Rattle.std.specs.Ordering.{nat_cmp, int_cmp}
use Rattle.asm_element.specs.Held.{held_place}
use Rattle.asm_element.specs.Place.{location_cmp}
use Rattle.asm_element.specs.Head.{place_head, place_number}
use Rattle.asm_element.proofs.Heads.{by_heads, by_numbers, by_both, same_number}
use Rattle.asm_element.proofs.location.LocationOrd.cmp.Goals as goal

pub returns-then-self-other : goal.returns-then-self-other
returns-then-self-other c =
    let k = held_place c.self.inside.held in
    let l = held_place c.other.inside.held in
    let left = c.self.invariant in
    let right = c.other.invariant in
    c.cmp.ensures
    ∙ (λ i. nat_cmp (left.1 i) (right.1 i))
    ∙ by_heads k l left.0 right.0 (λ e. c.if-self-other.true (left.1 ∙ e ∙ sym right.1))
    ∙ (λ i. location_cmp (c.self.view_is i) (c.other.view_is i))

pub returns-then-self-other-2 : goal.returns-then-self-other-2
returns-then-self-other-2 c =
    let k = held_place c.self.inside.held in
    let l = held_place c.other.inside.held in
    let left = c.self.invariant in
    let right = c.other.invariant in
    c.cmp-then-self-other-2.ensures
    ∙ (λ i. int_cmp (left.2 i) (right.2 i))
    ∙ by_numbers k l left.0 right.0 (sym left.1 ∙ c.if-self-other.false ∙ right.1) (λ e. c.if-self-other-2.true (ap (of_z w64) (left.2 ∙ e ∙ sym right.2)))
    ∙ (λ i. location_cmp (c.self.view_is i) (c.other.view_is i))

pub returns-then-self-eq1 : goal.returns-then-self-eq1
returns-then-self-eq1 c =
    let k = held_place c.self.inside.held in
    let l = held_place c.other.inside.held in
    let left = c.self.invariant in
    let right = c.other.invariant in
    let heads : place_head k ≡ place_head l = sym left.1 ∙ c.if-self-other.false ∙ right.1 in
    let numbers : place_number k ≡ place_number l = same_number k l left.0 right.0 (ap (of_z w64) (sym left.2) ∙ c.if-self-other-2.false ∙ ap (of_z w64) right.2) in
    by_both k l left.0 right.0 heads numbers (ap (λ n. n % 2) (sym left.1) ∙ c.if-self-eq1.true)
    ∙ (λ i. location_cmp (c.self.view_is i) (c.other.view_is i))
