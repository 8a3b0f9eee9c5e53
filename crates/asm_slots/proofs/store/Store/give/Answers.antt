use Rattle.std.proofs.Common.{◌≡◌, ◌++◌, ◌∷◌, All, List, ℕ, map, take, drop, subst, sym, ap, ◌∙◌}
use Rattle.std.specs.List.Sorted.{IsStrictlyIncreasing}
use Rattle.std_alloc.specs.Arc.{arc_value}
use Rattle.asm_storage.specs.declared.part.AgentPart.{AgentPart}
use Rattle.asm_storage.specs.Part.{agent_of, IsPartOf}
use Rattle.asm_storage.specs.Storage.{AgentAt, StorageView}
use Rattle.asm_slots.specs.InsertPoint.{IsAmong, IsInsertPoint}
use Rattle.asm_slots.specs.Standard.{Standard, meaning}
use Rattle.asm_slots.specs.Store.{StoreView}
use Rattle.asm_slots.proofs.Ascending.{all_in, rises_in}
use Rattle.asm_slots.proofs.GivenAgents.{number_among, put_in, the_store}
use Rattle.asm_slots.proofs.store.Store.give.Goals as goal

pub returns-in_default-clause-err : goal.returns-in_default-clause-err
returns-in_default-clause-err c =
    let s = (arc_value c.self.inside.shared).storage in
    let parts = c.self.inside.parts.items in
    let among : IsAmong parts c.id-id.result = subst (λ (l : List AgentPart). IsAmong l c.id-id.result) c.deref.ensures.value c.in_default.ensures.none in
    number_among s parts c.id-id.result c.args.agent.account.id c.args.self.now (ap (λ (v : StoreView). v.agents) (sym c.self.view_is)) c.id-id.ensures.id among

pub invariant_of-self-2 : goal.invariant_of-self-2
invariant_of-self-2 c =
    let s = (arc_value c.self.inside.shared).storage in
    let old = c.self.inside.parts.items in
    let new = c.insert.new.self.items in
    let mid = c.reserve.new.self.items in
    let part = c.part_of.result in
    let at = c.in-Some.at in
    let added : new ≡ take at mid ++ part ∷ drop at mid = rw c.unwrap.ensures at c.insert.ensures.items in
    let whole : new ≡ take at old ++ part ∷ drop at old = added ∙ ap (λ (l : List AgentPart). take at l ++ part ∷ drop at l) c.reserve.ensures.items in
    let here : c.args.agent.storage ≡ s = c.requires ∙ sym (ap (λ (v : StoreView). v.storage) c.self.view_is) in
    let id_is : part.id ≡ c.id-id.result =
    ap (λ (a : AgentAt Standard). a.account.id) c.part_of.ensures.agent ∙ sym c.id-id.ensures.id in
    let placed : IsInsertPoint old c.id-id.result at = subst (λ (l : List AgentPart). IsInsertPoint l c.id-id.result at) c.deref.ensures.value c.in-Some.ensures.some in
    let point : IsInsertPoint old part.id at = subst (λ (n : ℕ). IsInsertPoint old n at) (sym id_is) placed in
    let is_part : IsPartOf meaning s part = subst (λ (x : StorageView Standard). IsPartOf meaning x part) here c.part_of.ensures.part in (
      subst (All (IsPartOf meaning s)) (sym whole) (all_in (IsPartOf meaning s) old part at c.self.invariant.0 is_part),
      subst (λ (l : List AgentPart). IsStrictlyIncreasing (map (λ p. p.id) l)) (sym whole) (rises_in old part at c.self.invariant.1 point),
    )

pub returns-clause-given : goal.returns-clause-given
returns-clause-given c =
    let s = (arc_value c.self.inside.shared).storage in
    let old = c.self.inside.parts.items in
    let new = c.insert.new.self.items in
    let mid = c.reserve.new.self.items in
    let part = c.part_of.result in
    let at = c.in-Some.at in
    let added : new ≡ take at mid ++ part ∷ drop at mid = rw c.unwrap.ensures at c.insert.ensures.items in
    let whole : new ≡ take at old ++ part ∷ drop at old = added ∙ ap (λ (l : List AgentPart). take at l ++ part ∷ drop at l) c.reserve.ensures.items in
    let here : c.args.agent.storage ≡ s = c.requires ∙ sym (ap (λ (v : StoreView). v.storage) c.self.view_is) in
    let is : agent_of s part ≡ c.args.agent =
    ap (λ (x : StorageView Standard). agent_of x part) (sym here) ∙ c.part_of.ensures.agent in (
      ap (λ (v : StoreView). the_store v.storage v.numbers (map (agent_of s) new)) c.self.view_is,
      put_in s old new part at c.args.agent c.args.self.now.agents whole is (ap (λ (v : StoreView). v.agents) (sym c.self.view_is)),
    )
