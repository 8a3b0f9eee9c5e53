use Rattle.std.proofs.Common.{rules, List, All, subst, sym, ap, ◌∙◌}
use Rattle.std.proofs.lemmas.List.Elements.{All-map}
use Rattle.asm_storage.specs.Part.{agent_of, IsPartOf}
use Rattle.std.specs.List.Sorted.{IsStrictlyIncreasing}
use Rattle.asm_storage.specs.Agents.{ids}
use Rattle.asm_storage.specs.Storage.{AgentAt, StorageView, IsOf, accounts}
use Rattle.asm_slots.specs.Standard.{Standard, meaning}
use Rattle.asm_slots.specs.declared.shared.Shared.{Shared}
use Rattle.asm_slots.proofs.PartsAndAgents.{ids_of, rises_again, reported_of_store}
use Rattle.asm_slots.specs.ClosedStore.{IsJournalOf}
use Rattle.asm_slots.specs.Store.{StoreView}
use Rattle.asm_slots.specs.ClosedStore.{IsUnclosed}
use Rattle.asm_slots.proofs.store.Store.close.Goals as goal

pub journal_of-closed-requires-clause-of_this : goal.journal_of-closed-requires-clause-of_this
journal_of-closed-requires-clause-of_this c =
    let of = IsOf c.deref-2.result.now.storage in
    subst (All of) (sym (c.as_slice.ensures.value ∙ c.agents_of-agents.ensures))
    (All-map of (agent_of c.deref.result.now.storage) c.self.inside.parts.items (λ k d lt. ap (λ (s : Shared). s.storage) (c.deref.ensures ∙ sym c.deref-2.ensures)))

pub parts_of-parts-requires-clause-storage : goal.parts_of-parts-requires-clause-storage
parts_of-parts-requires-clause-storage c =
    let of = IsOf c.deref-3.result.now.storage in
    subst (All of) (sym c.agents_of-agents.ensures)
    (All-map of (agent_of c.deref.result.now.storage) c.self.inside.parts.items (λ k d lt. ap (λ (s : Shared). s.storage) (c.deref.ensures ∙ sym c.deref-3.ensures)))

pub journal_of-closed-requires-clause-ascending : goal.journal_of-closed-requires-clause-ascending
journal_of-closed-requires-clause-ascending c =
    let s = c.deref.result.now.storage in
    let parts = c.self.inside.parts.items in
    subst (λ (l : List (AgentAt Standard)). IsStrictlyIncreasing (ids (accounts l))) (sym (c.as_slice.ensures.value ∙ c.agents_of-agents.ensures))
    (subst IsStrictlyIncreasing (sym (ids_of s parts)) c.self.invariant.1)

pub invariant_of-store : goal.invariant_of-store
invariant_of-store c =
    let new = c.parts_of-parts.result.items in (
      subst (λ (x : StorageView Standard). All (IsPartOf meaning x) new) (ap (λ (s : Shared). s.storage) c.deref-3.ensures) c.parts_of-parts.ensures.parts,
      rises_again c.deref-3.result.now.storage c.deref.result.now.storage new c.self.inside.parts.items (c.parts_of-parts.ensures.agents ∙ c.agents_of-agents.ensures) c.self.invariant.1,
    )

pub invariant_of-store-in-Err : goal.invariant_of-store-in-Err
invariant_of-store-in-Err c =
    let new = c.parts_of-parts.result.items in (
      subst (λ (x : StorageView Standard). All (IsPartOf meaning x) new) (ap (λ (s : Shared). s.storage) c.deref-3.ensures) c.parts_of-parts.ensures.parts,
      rises_again c.deref-3.result.now.storage c.deref.result.now.storage new c.self.inside.parts.items (c.parts_of-parts.ensures.agents ∙ c.agents_of-agents.ensures) c.self.invariant.1,
    )

pub returns-in-Err-clause-err : goal.returns-in-Err-clause-err
returns-in-Err-clause-err c =
    let reported = reported_of_store (λ s all. IsUnclosed s all c.in-Err.error) _ c.deref.result.now c.deref-2.result.now c.self.inside.parts.items
    c.as_slice.result.now c.deref.ensures c.deref-2.ensures (c.as_slice.ensures.value ∙ c.agents_of-agents.ensures) c.in-Err.ensures.err in
    subst (λ (v : StoreView). IsUnclosed v.storage v.agents c.in-Err.error) c.self.view_is reported

pub returns-in-Ok-clause-closed : goal.returns-in-Ok-clause-closed
returns-in-Ok-clause-closed c =
    let reported = reported_of_store (λ s all. IsJournalOf s all c.in-Ok.kept) _ c.deref.result.now c.deref-2.result.now
    c.self.inside.parts.items c.as_slice.result.now c.deref.ensures c.deref-2.ensures
    (c.as_slice.ensures.value ∙ c.agents_of-agents.ensures) c.in-Ok.ensures.ok in
    (search rules, subst (λ (v : StoreView). IsJournalOf v.storage v.agents c.in-Ok.kept) c.self.view_is reported)
