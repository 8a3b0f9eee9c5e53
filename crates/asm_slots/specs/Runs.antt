-- Slots that hold a run.
use Rattle.std.specs.Prelude.{◌≡◌, ◌⊎◌, Option, Some}
use Rattle.asm_slots.specs.declared.content.Content.{Content}
use Rattle.asm_slots.specs.declared.content.Content.TheVariants as content
use Rattle.asm_slots.specs.RunView.{RunView}

-- the slot holds a run with this property
abbrev pub HoldsRun : Option Content → (RunView → Type 0) → Type 0
HoldsRun (Some (content.Run x)) P = P x
HoldsRun _ P = ⊥

-- the slot holds no run
abbrev pub HoldsNoRun : Option Content → Type 0
HoldsNoRun (Some (content.Run x)) = ⊥
HoldsNoRun _ = Unit {0}

-- the slot holds a run before and after, and this relation holds between the two; or it holds none and is unchanged, and
-- that holds
abbrev pub ChangesRun : Option Content → Option Content → Type 0 → (RunView → RunView → Type 0) → Type 0
ChangesRun old new Else P = HoldsRun old (λ a. HoldsRun new (P a)) ⊎ (HoldsNoRun old × (new ≡ old) × Else)

-- the slot holds a run with this property, or holds none, and that holds
abbrev pub IfHoldsRun : Option Content → Type 0 → (RunView → Type 0) → Type 0
IfHoldsRun old Else P = HoldsRun old P ⊎ (HoldsNoRun old × Else)
