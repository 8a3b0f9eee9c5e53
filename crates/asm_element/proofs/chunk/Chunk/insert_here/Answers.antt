use Rattle.asm_element.specs.declared.element.Element.{Element}
use Rattle.asm_element.specs.declared.element.Element.TheVariants.{Undef}
use Rattle.std.proofs.Common.{rules, ◌≡◌, ◌<◌, ◌≤◌, ◌+◌, ◌-◌, ◌∷◌, ◌++◌, [], true, false, Bool, List, length, take, drop, set, get_or, ℕ, zero, suc, refl, sym, ap, ◌∙◌, subst, arith}
use Rattle.std.specs.Arc.{arc_value}
use Rattle.std.specs.Map.{keys_of}
use Rattle.asm_element.specs.Slots.{slots, first_number, live, key_of, count_of}
use Rattle.asm_element.proofs.Slots.{length-slots, get_or-slots, slots-set, slots-insert, slots-push, keys-slots, live_more, live_same, live_none}
use Rattle.std.proofs.lemmas.List.{length-append, length-take, length-drop}
use Rattle.std.specs.List.{insert}
use Rattle.asm_element.proofs.chunk.Chunk.insert_here.Goals as goal

pub insert-requires : goal.insert-requires
insert-requires g c =
    let long = length-slots (arc_value c.self.inside.items).items (g.M.Marks.counts c.self.inside.marks) (omega arith) in
    let value = c.in-Some.ensures.value in
    omega (arith, ap length c.self.view_is, ap (λ v. length v.items) value)

pub invariant_of-self-2 : goal.invariant_of-self-2
invariant_of-self-2 g c =
    let ms = g.M.Marks.counts c.self.inside.marks in
    let long = length-slots (arc_value c.self.inside.items).items ms (omega arith) in
    let value = c.in-Some.ensures.value in
    let more = c.in_ok-insert.ensures.len in
    let same = ap length c.self.view_is in
    let new = ap length c.open.ensures ∙ length-append (take c.args.at ms) (c.args.n ∷ take (63 - c.args.at) (drop c.args.at ms)) in
    let front = length-take c.args.at ms in
    let back = length-take (63 - c.args.at) (drop c.args.at ms) in
    let rest = length-drop c.args.at ms in
    ((omega (arith, same, ap (λ v. length v.items) value, c.requires.room), omega (arith, new, front, back, rest, c.self.invariant.0.1, c.requires.room, c.requires.place)), c.first_of-first.ensures ∙ ap first_number c.deref.ensures.value)

pub returns-clause-added : goal.returns-clause-added
returns-clause-added g c =
    let ks = (arc_value c.self.inside.items).items in
    let ms = g.M.Marks.counts c.self.inside.marks in
    let long = length-slots ks ms (omega arith) in
    let same = ap length c.self.view_is in
    let value = c.in-Some.ensures.value in
    let items = c.in_ok-insert.ensures.items ∙ ap (λ v. insert v.items c.args.at c.args.key) value in
    (λ i. slots (items i) (c.open.ensures i))
    ∙ slots-insert ks ms c.args.at (63 - c.args.at) c.args.key c.args.n (omega (arith, c.requires.room)) (omega (arith, c.requires.place)) (omega arith)
    ∙ ap (λ (ss : List (Element × ℕ)). insert ss c.args.at (c.args.key, c.args.n)) c.self.view_is
