use Rattle.std.proofs.Common.{codes, ◌≡◌, ℕ, List, sym, ◌∙◌}
use Rattle.serde_json.specs.Data.{Data, string}
use Rattle.serde_json.specs.View.{view}
use Rattle.asm_update.specs.declared.clash.Cause.{Cause}
use Rattle.asm_update.specs.declared.clash.Cause.TheVariants as cause
use Rattle.asm_journal.specs.Event.{IsCauseForm}
use Rattle.asm_journal.proofs.Arrays.{string_is, same_text}
use Rattle.asm_journal.proofs.form.answer.read_cause.Goals as goal

no_word : (d : Data) (s : List ℕ) → d ≡ string s
    → (s ≡ codes "Two" → ⊥) → (s ≡ codes "Mixed" → ⊥) → (s ≡ codes "Kind" → ⊥) → (s ≡ codes "Both" → ⊥)
    → (s ≡ codes "Against" → ⊥) → (s ≡ codes "Short" → ⊥) → (s ≡ codes "Large" → ⊥)
    → (x : Cause) → IsCauseForm x d → ⊥
no_word d s is two mixed kind both against short large cause.Two h = two (same_text s _ (sym is ∙ h))
no_word d s is two mixed kind both against short large cause.Mixed h = mixed (same_text s _ (sym is ∙ h))
no_word d s is two mixed kind both against short large cause.Kind h = kind (same_text s _ (sym is ∙ h))
no_word d s is two mixed kind both against short large cause.Both h = both (same_text s _ (sym is ∙ h))
no_word d s is two mixed kind both against short large cause.Against h = against (same_text s _ (sym is ∙ h))
no_word d s is two mixed kind both against short large cause.Short h = short (same_text s _ (sym is ∙ h))
no_word d s is two mixed kind both against short large cause.Large h = large (same_text s _ (sym is ∙ h))

pub returns-in_default : goal.returns-in_default
returns-in_default c =
    let d = view c.args.json.now in
    let s = c.in_ok-as_str.field-0.now in
    let n = c.in_default in
    no_word d s (string_is d s c.in_ok-as_str.ensures) n.not-Two n.not-Mixed n.not-Kind n.not-Both n.not-Against n.not-Short n.not-Large
