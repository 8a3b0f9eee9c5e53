use Rattle.asm_element.specs.declared.element.Element.{Element}
use Rattle.asm_element.specs.declared.element.Element.TheVariants.{Undef}
use Rattle.std.proofs.Common.{rules, ◌≡◌, ◌<◌, ◌≤◌, ◌+◌, ◌-◌, ◌∷◌, ◌++◌, [], true, false, Bool, List, length, take, drop, set, get_or, ℕ, zero, suc, refl, sym, ap, ◌∙◌, subst, arith}
use Rattle.std.specs.Arc.{arc_value}
use Rattle.std.specs.Map.{keys_of}
use Rattle.asm_element.specs.Slots.{slots, live, key_of, count_of}
use Rattle.asm_element.proofs.Slots.{length-slots, get_or-slots, slots-set, slots-insert, slots-push, keys-slots, live_more, live_same, live_none}
use Rattle.std.proofs.lemmas.List.{get_or_default}
use Rattle.asm_element.proofs.chunk.Chunk.key.Goals as goal

pub index-requires : goal.index-requires
index-requires g c =
    let long = length-slots (arc_value c.self.inside.items).items (g.M.Marks.counts c.self.inside.marks) (omega arith) in
    let same : c.deref.result.now ≡ arc_value c.self.inside.items = c.deref.ensures in
    omega (arith, ap length c.self.view_is, ap (λ v. length v.items) same)

pub returns : goal.returns
returns g c =
    let ks = (arc_value c.self.inside.items).items in
    let ms = g.M.Marks.counts c.self.inside.marks in
    let long = length-slots ks ms (omega arith) in
    let lt : c.args.at < length ks = omega (arith, ap length c.self.view_is) in
    let same : c.deref.result.now ≡ arc_value c.self.inside.items = c.deref.ensures in
    let is = get_or-slots ks ms c.args.at Undef 0 (omega arith) lt in
    c.index.ensures
    ∙ ap (λ v. get_or v.items c.args.at c.index.result.now) same
    ∙ get_or_default ks c.args.at c.index.result.now Undef lt
    ∙ ap (λ s. s.0) (sym is)
    ∙ ap (λ (ss : List (Element × ℕ)). key_of ss c.args.at) c.self.view_is
