use Rattle.std.proofs.Common.{◌≡◌, ◌++◌, ◌+◌, ◌<◌, All, List, Some, length, map, take, drop, subst, sym, ap, ◌∙◌}
use Rattle.std.specs.Prelude.{slice_get}
use Rattle.std.specs.List.Sorted.{IsStrictlyIncreasing}
use Rattle.std_alloc.specs.Arc.{arc_value}
use Rattle.asm_storage.specs.declared.part.AgentPart.{AgentPart}
use Rattle.asm_storage.specs.Part.{agent_of, IsPartOf}
use Rattle.asm_storage.specs.Storage.{StorageView}
use Rattle.asm_slots.specs.Standard.{Standard, meaning}
use Rattle.asm_slots.specs.Store.{StoreView, IsPutIn}
use Rattle.asm_slots.specs.declared.shared.Shared.{Shared}
use Rattle.asm_slots.proofs.Ascending.{all_out, tracked, placed, rises_out}
use Rattle.asm_slots.proofs.GivenAgents.{no_number, number_at, put_out, the_store}
use Rattle.asm_slots.proofs.store.Store.take_back.Goals as goal

pub returns-in_default-clause-err : goal.returns-in_default-clause-err
returns-in_default-clause-err c =
    no_number (arc_value c.self.inside.shared).storage c.deref.result.now c.args.number c.args.self.now
    (ap (λ (v : StoreView). v.agents) (sym c.self.view_is)
    ∙ ap (map (agent_of (arc_value c.self.inside.shared).storage)) (sym c.deref.ensures.value)) c.in_default.ensures.none

pub returns-in_default-try_clone-clause-err : goal.returns-in_default-try_clone-clause-err
returns-in_default-try_clone-clause-err c =
    number_at (arc_value c.self.inside.shared).storage c.deref.result.now c.in-Some.at c.args.number c.args.self.now
    (ap (λ (v : StoreView). v.agents) (sym c.self.view_is)
    ∙ ap (map (agent_of (arc_value c.self.inside.shared).storage)) (sym c.deref.ensures.value))
    c.in-Some.ensures.within c.in-Some.ensures.there

pub returns-in_default-new-clause-err : goal.returns-in_default-new-clause-err
returns-in_default-new-clause-err c =
    number_at (arc_value c.self.inside.shared).storage c.deref.result.now c.in-Some.at c.args.number c.args.self.now
    (ap (λ (v : StoreView). v.agents) (sym c.self.view_is)
    ∙ ap (map (agent_of (arc_value c.self.inside.shared).storage)) (sym c.deref.ensures.value))
    c.in-Some.ensures.within c.in-Some.ensures.there

pub invariant_of-self : goal.invariant_of-self
invariant_of-self c =
    let s = (arc_value c.self.inside.shared).storage in
    let old = c.self.inside.parts.items in
    let new = c.remove-part.new.self.items in
    let at = c.in-Some.at in
    let part = c.remove-part.result in
    let lt : at < length old = subst (λ (l : List AgentPart). at < length l) c.deref.ensures.value c.in-Some.ensures.within in
    let whole : new ≡ take at old ++ drop (at + 1) old = c.remove-part.ensures.by_index.2 in (
      subst (All (IsPartOf meaning s)) (sym whole) (all_out (IsPartOf meaning s) old at c.self.invariant.0),
      subst (λ (l : List AgentPart). IsStrictlyIncreasing (map (λ p. p.id) l)) (sym whole)
          (rises_out old part at (placed old at part lt c.remove-part.ensures.value) c.self.invariant.1),
    )

pub returns-clause-lost : goal.returns-clause-lost
returns-clause-lost c =
    let s = (arc_value c.self.inside.shared).storage in
    let old = c.self.inside.parts.items in
    let new = c.remove-part.new.self.items in
    let at = c.in-Some.at in
    let part = c.remove-part.result in
    let lt : at < length old = subst (λ (l : List AgentPart). at < length l) c.deref.ensures.value c.in-Some.ensures.within in
    let same : (arc_value c.in-Ok.shared).storage ≡ s = ap (λ (x : Shared). x.storage) c.in-Ok.ensures in (
      ap (λ (v : StoreView). the_store v.storage v.numbers (map (agent_of s) new)) c.self.view_is,
      subst (λ (x : StorageView Standard). IsPutIn (agent_of x part) (map (agent_of s) new) c.args.self.now.agents) (sym same)
          (put_out s old new part at c.args.self.now.agents c.remove-part.ensures.by_index.2
          (placed old at part lt c.remove-part.ensures.value) (ap (λ (v : StoreView). v.agents) (sym c.self.view_is))),
    )

pub returns-clause-numbered : goal.returns-clause-numbered
returns-clause-numbered c =
    let old = c.self.inside.parts.items in
    let at = c.in-Some.at in
    let part = c.remove-part.result in
    let lt : at < length old = subst (λ (l : List AgentPart). at < length l) c.deref.ensures.value c.in-Some.ensures.within in
    let is : (p : AgentPart) → slice_get old at ≡ Some p → p.id ≡ c.args.number =
    subst (λ (l : List AgentPart). (p : AgentPart) → slice_get l at ≡ Some p → p.id ≡ c.args.number) c.deref.ensures.value
    c.in-Some.ensures.there in
    is part (tracked old at part lt c.remove-part.ensures.value)
