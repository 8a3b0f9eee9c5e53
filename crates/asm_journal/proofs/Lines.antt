-- The lines of a journal text, one at a time.
use Rattle.std.proofs.Common.{◌≡◌, ◌≢◌, ◌⊎◌, ℕ, List, [], ◌∷◌, ◌++◌, inl, inr, subst, sym, refl}
use Rattle.serde_json.specs.Data.{Data}
use Rattle.asm_storage.specs.declared.history.Event.{Event}
use Rattle.asm_journal.specs.declared.error.JournalError.{JournalError}
use Rattle.asm_journal.specs.declared.error.JournalError.TheVariants.{NotJson, Memory}
use Rattle.asm_journal.specs.Event.{IsEventBelow}
use Rattle.asm_journal.specs.Reading.{IsJson, BeginsWithLine, HasLine, HasEvents}
use Rattle.asm_journal.specs.Fault.{BreaksLine}

-- a line that isn't JSON
pub breaks_line : (k : ℕ) (text body : List ℕ) (e : JournalError) → BeginsWithLine text body → text ≢ [] → (e ≡ Memory) ⊎ ((e ≡ NotJson k) × ((d : Data) → IsJson body d → ⊥)) → BreaksLine k text e
breaks_line k text body e begins some (inl is) = subst (BreaksLine k text) (sym is) tt
breaks_line k text body e begins some (inr is) = subst (BreaksLine k text) (sym is.0) (refl, some, (body, begins, is.1))

-- one more event
pub HasEvents-push : (v agents : ℕ) (text : List ℕ) (es : List Event) (rest : List ℕ) (d : Data) (e : Event) (after : List ℕ) → HasEvents v agents text es rest → HasLine rest d after → IsEventBelow v agents e d → HasEvents v agents text (es ++ e ∷ []) after
HasEvents-push v agents text [] rest d e after h k b = (d, after, subst (λ t. HasLine t d after) (sym h) k, b, refl)
HasEvents-push v agents text (x ∷ es) rest d e after h k b = (h.0, h.1, h.2, h.3, HasEvents-push v agents h.1 es rest d e after h.4 k b)
