-- The forms of texts that are explained, and what accepts and refuses a text of each.
use Rattle.std.specs.Prelude.{◌⊎◌, ℕ, List}
use Rattle.asm_element.specs.Place as element
use Rattle.asm_update.specs.Move.{Move}
use Rattle.asm_update.specs.State.{State}
use Rattle.asm_state.specs.declared.named.Named.{Named}
use Rattle.asm_storage.specs.declared.history.Event.{Event}
use Rattle.asm_journal.specs.Event.{IsEventForm}
use Rattle.asm_journal.specs.Value.{IsStateForm}
use Rattle.asm_script.specs.Plan.{Plan}
use Rattle.asm_script.specs.Script.{IsRefusedScript, IsScriptOf}
use Rattle.asm_script.specs.declared.script.ScriptCause.{ScriptCause}
use Rattle.asm_script.specs.declared.script.ScriptError.TheVariants.{BadScript}
use Rattle.asm_explain.specs.Bytes.{AreLocations, IsFireForm, IsNoJson, IsOtherJson, ReadAs, ReadAsFire}
use Rattle.asm_explain.specs.declared.explaining.Form.{Form}
use Rattle.asm_explain.specs.declared.explaining.Form.TheVariants as form

-- the bytes are JSON of a value of this form; of a script, one within its limits
abbrev pub IsOfForm : Form → List ℕ → Type 0
IsOfForm form.Locations bytes = (x : List element.Place) × ReadAs AreLocations bytes x
IsOfForm form.Move bytes = (reads : List Named) × (M : Move) × ReadAsFire bytes reads M
IsOfForm form.State bytes = (x : State) × ReadAs IsStateForm bytes x
IsOfForm form.Event bytes = (x : Event) × ReadAs IsEventForm bytes x
IsOfForm form.Script bytes = (x : Plan) × IsScriptOf bytes x

-- the bytes are no JSON, or JSON of no value of this form; of a script, maybe of one beyond its limits
abbrev pub IsOfNoForm : Form → List ℕ → Type 0
IsOfNoForm form.Locations bytes = IsNoJson bytes ⊎ IsOtherJson AreLocations bytes
IsOfNoForm form.Move bytes = IsNoJson bytes ⊎ IsOtherJson IsFireForm bytes
IsOfNoForm form.State bytes = IsNoJson bytes ⊎ IsOtherJson IsStateForm bytes
IsOfNoForm form.Event bytes = IsNoJson bytes ⊎ IsOtherJson IsEventForm bytes
IsOfNoForm form.Script bytes = (cause : ScriptCause) × IsRefusedScript bytes (BadScript cause)
