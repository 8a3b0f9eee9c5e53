use Rattle.asm_element.specs.declared.element.Element.{Element}
use Rattle.asm_element.specs.declared.element.Element.TheVariants.{Undef}
use Rattle.std.proofs.Common.{rules, ◌≡◌, ◌<◌, ◌≤◌, ◌+◌, ◌-◌, ◌∷◌, ◌++◌, [], true, false, Bool, List, length, take, drop, set, get_or, ℕ, zero, suc, refl, sym, ap, ◌∙◌, subst, arith}
use Rattle.std.specs.Arc.{arc_value}
use Rattle.std.specs.Map.{keys_of}
use Rattle.asm_element.specs.Slots.{slots, live, key_of, count_of}
use Rattle.asm_element.proofs.Slots.{length-slots, get_or-slots, slots-set, slots-insert, slots-push, keys-slots, live_more, live_same, live_none}
use Rattle.std.proofs.lemmas.List.{length-set}
use Rattle.asm_element.proofs.chunk.Chunk.set_count.Goals as goal

pub put-requires-clause-in_range : goal.put-requires-clause-in_range
put-requires-clause-in_range g c =
    let long = length-slots (arc_value c.self.inside.items).items (g.M.Marks.counts c.self.inside.marks) (omega arith) in
    omega (arith, ap length c.self.view_is, c.requires.place)

pub invariant_of-self : goal.invariant_of-self
invariant_of-self g c = ((c.self.invariant.0.0, ap length c.put.ensures ∙ length-set (g.M.Marks.counts c.self.inside.marks) c.args.at c.args.n ∙ c.self.invariant.0.1), c.self.invariant.1)

pub returns : goal.returns
returns g c =
    let ks = (arc_value c.self.inside.items).items in
    let ms = g.M.Marks.counts c.self.inside.marks in
    let long = length-slots ks ms (omega arith) in
    let lt : c.args.at < length ks = omega (arith, ap length c.self.view_is, c.requires.place) in
    let is = get_or-slots ks ms c.args.at Undef 0 (omega arith) lt in
    ap (slots ks) c.put.ensures
    ∙ slots-set ks ms c.args.at Undef c.args.n (omega arith) lt
    ∙ ap (λ k. set (slots ks ms) c.args.at (k, c.args.n)) (ap (λ s. s.0) (sym is))
    ∙ ap (λ (ss : List (Element × ℕ)). set ss c.args.at (key_of ss c.args.at, c.args.n)) c.self.view_is
