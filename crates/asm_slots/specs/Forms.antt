-- The forms of texts that are explained.
use Rattle.std.specs.Prelude.{◌≡◌, ◌≢◌, ◌⊎◌, ◌<◌, ◌≤◌, ℕ, ℤ, pos, List, [], length}
use Rattle.asm_journal.specs.Reading.{HasNoLineFeed}
use Rattle.asm_explain.specs.Forms.{IsOfForm, IsOfNoForm}
use Rattle.asm_explain.specs.Limits.{sentence_limit}
use Rattle.asm_explain.specs.declared.explaining.Form.{Form}
use Rattle.asm_explain.specs.declared.explaining.Form.TheVariants as form
use Rattle.asm_slots.specs.Answers.{IsMemory}
use Rattle.asm_slots.specs.WrittenText.{HasText, WritesNothing}
use Rattle.asm_slots.specs.declared.codes.Code.{Code}
use Rattle.asm_slots.specs.declared.codes.Code.TheVariants as code

-- the locations [LOC, ..]
abbrev pub ASM_FORM_LOCATIONS : ℤ
ASM_FORM_LOCATIONS = pos 0

-- a move with its declared reads, {"fire":[INSTR, ..],"reads":[NAMED, ..]}
abbrev pub ASM_FORM_MOVE : ℤ
ASM_FORM_MOVE = pos 1

-- a state, [PAIR, ..]
abbrev pub ASM_FORM_STATE : ℤ
ASM_FORM_STATE = pos 2

-- an event, as in a journal's lines after the first
abbrev pub ASM_FORM_EVENT : ℤ
ASM_FORM_EVENT = pos 3

-- a script
abbrev pub ASM_FORM_SCRIPT : ℤ
ASM_FORM_SCRIPT = pos 4

-- the number of a form
abbrev pub form_code : Form → ℤ
form_code form.Locations = ASM_FORM_LOCATIONS
form_code form.Move = ASM_FORM_MOVE
form_code form.State = ASM_FORM_STATE
form_code form.Event = ASM_FORM_EVENT
form_code form.Script = ASM_FORM_SCRIPT

-- no form has this number
abbrev pub IsNoForm : ℤ → Type 0
IsNoForm number = (f : Form) → form_code f ≢ number

-- the bytes are JSON of a value of the form with this number
abbrev pub HasForm : ℤ → List ℕ → Type 0
HasForm number bytes = (f : Form) × (form_code f ≡ number) × IsOfForm f bytes

-- the bytes aren't JSON, or are JSON of no value of the form with this number
abbrev pub LacksForm : ℤ → List ℕ → Type 0
LacksForm number bytes = (f : Form) × (form_code f ≡ number) × IsOfNoForm f bytes

-- the bytes aren't of the form, and this is a sentence about it, in one line
abbrev pub IsSentence : ℤ → List ℕ → List ℕ → Type 0
IsSentence form bytes text =
    LacksForm form bytes × (text ≢ []) × HasNoLineFeed text × (length text ≤ sentence_limit)

-- the bytes are of the form, and nothing is written; or a sentence is
abbrev pub Explains : ℤ → List ℕ → List ℕ → List ℕ → ℕ → Type 0
Explains form bytes out after written =
    (HasForm form bytes × WritesNothing out after written) ⊎ HasText (IsSentence form bytes) out after written

-- the bytes aren't of the form, and the buffer may lack room for a sentence: any fits into what is asked for
abbrev pub LacksSentenceRoom : ℤ → List ℕ → ℕ → ℕ → Code → Type 0
LacksSentenceRoom form bytes room written c =
    (c ≡ code.Small) × LacksForm form bytes × (written ≡ sentence_limit) × (room < sentence_limit)

-- the buffer is unchanged: there is no such form, or it lacks room for a sentence
abbrev pub DoesNotExplain : ℤ → List ℕ → List ℕ → List ℕ → ℕ → Code → Type 0
DoesNotExplain form bytes out after written c =
    (after ≡ out) × (LacksSentenceRoom form bytes (length out) written c
    ⊎ ((written ≡ 0) × (IsMemory c ⊎ ((c ≡ code.NoForm) × IsNoForm form))))
