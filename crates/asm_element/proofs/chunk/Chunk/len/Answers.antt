use Rattle.asm_element.specs.declared.element.Element.{Element}
use Rattle.asm_element.specs.declared.element.Element.TheVariants.{Undef}
use Rattle.std.proofs.Common.{rules, ◌≡◌, ◌<◌, ◌≤◌, ◌+◌, ◌-◌, ◌∷◌, ◌++◌, [], true, false, Bool, List, length, take, drop, set, get_or, ℕ, zero, suc, refl, sym, ap, ◌∙◌, subst, arith}
use Rattle.std.specs.Arc.{arc_value}
use Rattle.std.specs.Map.{keys_of}
use Rattle.asm_element.specs.Slots.{slots, live, key_of, count_of}
use Rattle.asm_element.proofs.Slots.{length-slots, get_or-slots, slots-set, slots-insert, slots-push, keys-slots, live_more, live_same, live_none}
use Rattle.asm_element.proofs.chunk.Chunk.len.Goals as goal

pub returns-clause-len : goal.returns-clause-len
returns-clause-len g c =
    let long = length-slots (arc_value c.self.inside.items).items (g.M.Marks.counts c.self.inside.marks) (omega arith) in
    let same : c.deref.result.now ≡ arc_value c.self.inside.items = c.deref.ensures in
    omega (arith, long, ap length c.self.view_is, ap (λ v. length v.items) same)
