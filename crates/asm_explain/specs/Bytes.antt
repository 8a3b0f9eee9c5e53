-- What bytes read as, and why they don't.
use Rattle.std.specs.Prelude.{ℕ, List}
use Rattle.serde_json.specs.Data.{Data}
use Rattle.asm_element.specs.Place as element
use Rattle.asm_update.specs.Move.{Move}
use Rattle.asm_state.specs.declared.named.Named.{Named}
use Rattle.asm_storage.specs.declared.call.Call.TheVariants as call
use Rattle.asm_journal.specs.Shape.{IsListForm}
use Rattle.asm_journal.specs.Element.{IsLocationForm}
use Rattle.asm_journal.specs.Event.{IsCallForm}
use Rattle.asm_journal.specs.Reading.{IsJson}
use Rattle.asm_explain.specs.declared.reading.TextError.{TextError}
use Rattle.asm_explain.specs.declared.reading.TextError.TheVariants as error

-- the bytes are JSON of a value with this form
abbrev pub ReadAs : {X : Type 0} → (X → Data → Type 0) → List ℕ → X → Type 0
ReadAs IsForm bytes x = (d : Data) × IsJson bytes d × IsForm x d

-- the locations [LOC, ..]
abbrev pub AreLocations : List element.Place → Data → Type 0
AreLocations = IsListForm IsLocationForm

-- declared reads and a move, {"fire":[INSTR, ..],"reads":[NAMED, ..]}
abbrev pub IsFireForm : List Named × Move → Data → Type 0
IsFireForm fire d = IsCallForm (call.Fire fire.0 fire.1) d

-- the bytes are JSON of a move with these declared reads, {"fire":[INSTR, ..],"reads":[NAMED, ..]}
abbrev pub ReadAsFire : List ℕ → List Named → Move → Type 0
ReadAsFire bytes reads M = ReadAs IsFireForm bytes (reads, M)

-- the bytes are no JSON
abbrev pub IsNoJson : List ℕ → Type 0
IsNoJson bytes = (d : Data) → ¬ IsJson bytes d

-- the bytes are JSON of no value with this form
abbrev pub IsOtherJson : {X : Type 0} → (X → Data → Type 0) → List ℕ → Type 0
IsOtherJson {X} IsForm bytes = (d : Data) × IsJson bytes d × ((x : X) → ¬ IsForm x d)

-- why the bytes weren't read as JSON; that memory was refused says nothing of them
abbrev pub IsUnread : List ℕ → TextError → Type 0
IsUnread bytes error.NotJson = IsNoJson bytes
IsUnread bytes error.Shape = ⊥
IsUnread bytes error.Memory = Unit {0}

-- why the bytes weren't read as a value with this form; that memory was refused says nothing of them
abbrev pub IsMisread : {X : Type 0} → (X → Data → Type 0) → List ℕ → TextError → Type 0
IsMisread IsForm bytes error.NotJson = IsNoJson bytes
IsMisread IsForm bytes error.Shape = IsOtherJson IsForm bytes
IsMisread IsForm bytes error.Memory = Unit {0}
