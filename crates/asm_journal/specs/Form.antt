-- What reading JSON answers: a value, or why there is none.
use Rattle.std.specs.Prelude.{[], ◌∷◌, ◌++◌, ◌≡◌, Result, Ok, Err}
use Rattle.asm_journal.specs.declared.form.fault.FormCause.{FormCause}
use Rattle.asm_journal.specs.declared.form.fault.FormError.{FormError}
use Rattle.asm_journal.specs.declared.form.fault.FormError.TheVariants.{Form, Memory}
use Rattle.asm_journal.specs.declared.form.fault.PathStep.{PathStep}

-- the error is a fault of the JSON, and not that memory was refused
abbrev pub IsFault : FormError → Type 0
IsFault (Form fault) = Unit {0}
IsFault Memory = ⊥

-- a value was read that has this form; a fault: no value has it; refused memory says nothing
abbrev pub IsRead : {X J : Type 0} → (X → J → Type 0) → J → Result X FormError → Type 0
IsRead IsForm d (Ok x) = IsForm x d
IsRead {X} IsForm d (Err e) = IsFault e → (x : X) → IsForm x d → ⊥

-- the complete value is at fault, for this cause
abbrev pub IsFaultOf : FormCause → FormError → Type 0
IsFaultOf cause (Form fault) = (fault.path.items ≡ []) × (fault.cause ≡ cause)
IsFaultOf cause Memory = ⊥

-- the part's fault, as one of the value that has the part behind this step
abbrev pub IsFaultIn : PathStep → FormError → FormError → Type 0
IsFaultIn at (Form part) (Form whole) = (whole.path.items ≡ part.path.items ++ (at ∷ [])) × (whole.cause ≡ part.cause)
IsFaultIn at Memory (Form whole) = ⊥
IsFaultIn at part Memory = Unit {0}

-- the same value, or a fault only where there was one
abbrev pub IsCarried : {X : Type 0} → Result X FormError → Result X FormError → Type 0
IsCarried (Ok x) r = r ≡ Ok x
IsCarried (Err e) (Ok x) = ⊥
IsCarried (Err e) (Err f) = IsFault f → IsFault e

-- and then the fault's path is longer by this step
abbrev pub IsPlaced : {X : Type 0} → PathStep → Result X FormError → Result X FormError → Type 0
IsPlaced at (Err e) (Err f) = IsFaultIn at e f
IsPlaced at r s = Unit {0}
