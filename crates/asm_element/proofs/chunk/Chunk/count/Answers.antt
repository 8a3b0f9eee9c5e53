use Rattle.asm_element.specs.declared.element.Element.{Element}
use Rattle.asm_element.specs.declared.element.Element.TheVariants.{Undef}
use Rattle.std.proofs.Common.{rules, ◌≡◌, ◌<◌, ◌≤◌, ◌+◌, ◌-◌, ◌∷◌, ◌++◌, [], true, false, Bool, List, length, take, drop, set, get_or, ℕ, zero, suc, refl, sym, ap, ◌∙◌, subst, arith}
use Rattle.std.specs.Arc.{arc_value}
use Rattle.std.specs.Map.{keys_of}
use Rattle.asm_element.specs.Slots.{slots, live, key_of, count_of}
use Rattle.asm_element.proofs.Slots.{length-slots, get_or-slots, slots-set, slots-insert, slots-push, keys-slots, live_more, live_same, live_none}
use Rattle.asm_element.proofs.chunk.Chunk.count.Goals as goal

pub at-requires : goal.at-requires
at-requires g c =
    let long = length-slots (arc_value c.self.inside.items).items (g.M.Marks.counts c.self.inside.marks) (omega arith) in
    omega (arith, ap length c.self.view_is)

pub returns-clause-value : goal.returns-clause-value
returns-clause-value g c =
    let ks = (arc_value c.self.inside.items).items in
    let ms = g.M.Marks.counts c.self.inside.marks in
    let long = length-slots ks ms (omega arith) in
    let is = get_or-slots ks ms c.args.at Undef 0 (omega arith) (omega (arith, ap length c.self.view_is)) in
    c.at.ensures.value ∙ ap (λ s. s.1) (sym is) ∙ ap (λ (ss : List (Element × ℕ)). count_of ss c.args.at) c.self.view_is
