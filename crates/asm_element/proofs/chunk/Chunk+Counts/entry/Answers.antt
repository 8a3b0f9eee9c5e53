use Rattle.asm_element.specs.declared.element.Element.{Element}
use Rattle.asm_element.specs.declared.element.Element.TheVariants.{Undef}
use Rattle.std.proofs.Common.{◌≡◌, ◌<◌, ◌≤◌, List, length, get_or, ℕ, sym, ap, ◌∙◌, arith}
use Rattle.std.specs.Arc.{arc_value}
use Rattle.std.proofs.lemmas.List.{get_or_default}
use Rattle.asm_element.specs.Slots.{slots, key_of, count_of}
use Rattle.asm_element.proofs.Slots.{length-slots, get_or-slots}
use Rattle.asm_element.proofs.chunk.Chunk+Counts.entry.Goals as goal

pub index-requires : goal.index-requires
index-requires c =
    let long = length-slots (arc_value c.self.inside.items).items c.self.inside.marks.counts.value (omega (arith, c.self.invariant.0.0, c.self.invariant.0.1)) in
    let same : c.deref.result.now ≡ arc_value c.self.inside.items = c.deref.ensures in
    omega (arith, ap length c.self.view_is, ap (λ v. length v.items) same)

pub entry-requires : goal.entry-requires
entry-requires c =
    let long = length-slots (arc_value c.self.inside.items).items c.self.inside.marks.counts.value (omega (arith, c.self.invariant.0.0, c.self.invariant.0.1)) in
    omega (arith, ap length c.self.view_is, c.self.invariant.0.0)

pub returns-clause-key : goal.returns-clause-key
returns-clause-key c =
    let ks = (arc_value c.self.inside.items).items in
    let ms : List ℕ = c.self.inside.marks.counts.value in
    let few : length ks ≤ length ms = omega (arith, c.self.invariant.0.0, c.self.invariant.0.1) in
    let long = length-slots ks ms few in
    let lt : c.args.at < length ks = omega (arith, ap length c.self.view_is) in
    let same : c.deref.result.now ≡ arc_value c.self.inside.items = c.deref.ensures in
    let is = get_or-slots ks ms c.args.at Undef 0 few lt in
    c.index.ensures
    ∙ ap (λ v. get_or v.items c.args.at c.index.result.now) same
    ∙ get_or_default ks c.args.at c.index.result.now Undef lt
    ∙ ap (λ s. s.0) (sym is)
    ∙ ap (λ (ss : List (Element × ℕ)). key_of ss c.args.at) c.self.view_is

pub returns-clause-count : goal.returns-clause-count
returns-clause-count c =
    let ks = (arc_value c.self.inside.items).items in
    let ms : List ℕ = c.self.inside.marks.counts.value in
    let few : length ks ≤ length ms = omega (arith, c.self.invariant.0.0, c.self.invariant.0.1) in
    let long = length-slots ks ms few in
    let lt : c.args.at < length ks = omega (arith, ap length c.self.view_is) in
    let is = get_or-slots ks ms c.args.at Undef 0 few lt in
    c.entry.ensures ∙ ap (λ s. s.1) (sym is) ∙ ap (λ (ss : List (Element × ℕ)). count_of ss c.args.at) c.self.view_is
