-- Scripts: an opening state, and the steps of each agent; how a text reads as one, and why it is refused.
use Rattle.std.specs.Prelude.{◌≡◌, ◌⊎◌, ◌+◌, ◌++◌, ◌||◌, ℕ, List, [], ◌∷◌, length, map, Bool, true, false, codes, nat_lt}
use Rattle.std.specs.Prelude.{Result, Ok, Err}
use Rattle.std.specs.Ordering.{eq_by_cmp}
use Rattle.std.specs.Set.{distinct_count}
use Rattle.serde_json.specs.Data.{Data}
use Rattle.asm_element.specs.Place.{location_cmp}
use Rattle.asm_journal.specs.Form.{IsFault}
use Rattle.asm_journal.specs.Reading.{IsJson}
use Rattle.asm_journal.specs.Shape.{IsListForm, two_of}
use Rattle.asm_journal.specs.Value.{IsStateForm}
use Rattle.asm_journal.specs.declared.form.fault.FormCause.{FormCause}
use Rattle.asm_journal.specs.declared.form.fault.FormCause.TheVariants.{Many, ManyAgents, BlockCount, ManyReads}
use Rattle.asm_journal.specs.declared.form.fault.FormError.{FormError}
use Rattle.asm_journal.specs.declared.form.fault.FormError.TheVariants as form_error
use Rattle.asm_journal.specs.declared.form.fault.FormError.TheVariants.{Form}
use Rattle.asm_journal.specs.declared.form.fault.PathStep.{PathStep}
use Rattle.asm_journal.specs.declared.form.fault.PathStep.TheVariants.{Index, Key}
use Rattle.asm_storage.specs.Limits.{agents_limit, reads_limit}
use Rattle.asm_update.specs.Limits.{instructions_limit}
use Rattle.asm_script.specs.Limits.{blocks_limit}
use Rattle.asm_script.specs.Plan.{Plan}
use Rattle.asm_script.specs.StepReads.{named}
use Rattle.asm_script.specs.TermForm.{IsInstructionForm}
use Rattle.asm_script.specs.declared.block.Block.{Block}
use Rattle.asm_script.specs.declared.step.Step.{Step}
use Rattle.asm_script.specs.declared.parsing.UncheckedScript.{UncheckedScript}
use Rattle.asm_script.specs.declared.script.ScriptCause.{ScriptCause}
use Rattle.asm_script.specs.declared.script.ScriptCause.TheVariants.{NotJson, Shape, Agents, Blocks, Instructions}
use Rattle.asm_script.specs.declared.script.ScriptCause.TheVariants.{Reads}
use Rattle.asm_script.specs.declared.script.ScriptError.{ScriptError}
use Rattle.asm_script.specs.declared.script.ScriptError.TheVariants.{BadScript, Memory}

-- ---- what is written in a script

-- a list of steps, a step a list of blocks, a block a list of instructions
abbrev pub IsAgentForm : List Step → Data → Type 0
IsAgentForm = IsListForm (IsListForm (IsListForm IsInstructionForm))

-- {"agents":[AGENT, ..],"init":[PAIR, ..]}
abbrev pub IsScriptForm : UncheckedScript → Data → Type 0
IsScriptForm w d =
    (agents init : Data) × (d ≡ two_of (codes "agents") agents (codes "init") init)
    × IsListForm IsAgentForm w.agents agents × IsStateForm w.init init

-- the bytes are JSON of this form
abbrev pub HasForm : List ℕ → UncheckedScript → Type 0
HasForm bytes w = (d : Data) × IsJson bytes d × IsScriptForm w d

-- ---- the limits

-- the steps to a part that is beyond a limit, from the innermost one on, and why
abbrev pub Fault : Type 0
Fault = List PathStep × FormCause

-- the cause where it holds, and none where it doesn't
abbrev pub when : Bool → FormCause → List Fault
when true cause = ([], cause) ∷ []
when false cause = []

-- the faults of a part, as those of what has the part behind this step
abbrev pub behind : PathStep → List Fault → List Fault
behind at = map (λ f. (f.0 ++ at ∷ [], f.1))

-- the faults of each of the items, which count from this number on
abbrev pub each_from : {X : Type 0} → (X → List Fault) → ℕ → List X → List Fault
each_from faults n [] = []
each_from faults n (x ∷ xs) = behind (Index n) (faults x) ++ each_from faults (n + 1) xs

-- the faults of each item of an array, item by item
abbrev pub each : {X : Type 0} → (X → List Fault) → List X → List Fault
each faults = each_from faults 0

-- a block has more than 4,096 instructions
abbrev pub block_faults : Block → List Fault
block_faults block = when (nat_lt instructions_limit (length block)) (Many (length block))

-- how many locations a step reads: those that it names, each counted once
abbrev pub reads_count : Step → ℕ
reads_count step = distinct_count (eq_by_cmp location_cmp) (named step)

-- why a step is refused, in order: it has no block, or more than 65; a block has more than 4,096 instructions; the
-- step reads more than 256 locations
abbrev pub step_faults : Step → List Fault
step_faults step =
    when (nat_lt (length step) 1 || nat_lt blocks_limit (length step)) (BlockCount (length step))
    ++ (each block_faults step ++ when (nat_lt reads_limit (reads_count step)) ManyReads)

-- the faults of an agent's steps
abbrev pub agent_faults : List Step → List Fault
agent_faults = each step_faults

-- more than 256 agents, and then the faults of the steps, agent by agent
abbrev pub faults : List (List Step) → List Fault
faults agents = when (nat_lt agents_limit (length agents)) (ManyAgents (length agents)) ++ each agent_faults agents

-- the error is the first of these faults; an allocation failure says nothing
abbrev pub IsFirst : List Fault → FormError → Type 0
IsFirst causes (Form fault) = (rest : List Fault) × (causes ≡ (fault.path.items, fault.cause) ∷ rest)
IsFirst causes form_error.Memory = Unit {0}

-- what is made of a form without fault, or the first of its faults
abbrev pub IsChecked : {X : Type 0} → (X → Type 0) → List Fault → Result X FormError → Type 0
IsChecked IsMade causes (Ok x) = IsMade x × (causes ≡ [])
IsChecked IsMade causes (Err e) = IsFirst causes e

-- ---- a script

-- the plan that is written
abbrev pub plan_of : UncheckedScript → Plan
plan_of w = record { init = w.init; agents = w.agents }

-- this is the plan that is written, and it is without fault
abbrev pub IsPlanOf : UncheckedScript → Plan → Type 0
IsPlanOf w p = (p ≡ plan_of w) × (faults w.agents ≡ [])

-- the bytes are a script of this plan
abbrev pub IsScriptOf : List ℕ → Plan → Type 0
IsScriptOf bytes p = (w : UncheckedScript) × HasForm bytes w × IsPlanOf w p

-- the step to the member with this key
abbrev pub IsKey : List ℕ → PathStep → Type 0
IsKey name (Index n) = ⊥
IsKey name (Key k) = k.now ≡ name

-- What reading JSON as a script answers: the plan; or a fault: the JSON has another shape, or this is the first fault of
-- the agents, behind the step to them. An allocation failure says nothing.
abbrev pub IsReadScript : Data → Result Plan FormError → Type 0
IsReadScript d (Ok p) = (w : UncheckedScript) × IsScriptForm w d × IsPlanOf w p
IsReadScript d (Err e) =
    IsFault e → ((w : UncheckedScript) → ¬ IsScriptForm w d)
    ⊎ ((w : UncheckedScript) × (at : PathStep) × IsScriptForm w d × IsKey (codes "agents") at
    × IsFirst (behind at (faults w.agents)) e)

-- the cause that a fault of the agents is reported as
abbrev pub limit_of : FormCause → ScriptCause
limit_of (ManyAgents n) = Agents
limit_of (BlockCount n) = Blocks
limit_of (Many n) = Instructions
limit_of ManyReads = Reads
limit_of _ = Shape

-- the first of these faults is reported as this cause
abbrev pub IsFirstLimit : List Fault → ScriptCause → Type 0
IsFirstLimit causes cause =
    (first : Fault) × (rest : List Fault) × (causes ≡ first ∷ rest) × (cause ≡ limit_of first.1)

-- Why the bytes are no script: they are not JSON; or JSON of another shape; or the first fault of what is written.
-- Want of memory says nothing.
abbrev pub IsRefusedScript : List ℕ → ScriptError → Type 0
IsRefusedScript bytes (BadScript cause) =
    ((cause ≡ NotJson) × ((d : Data) → ¬ IsJson bytes d))
    ⊎ ((cause ≡ Shape) × ((d : Data) × IsJson bytes d × ((w : UncheckedScript) → ¬ IsScriptForm w d)))
    ⊎ ((w : UncheckedScript) × HasForm bytes w × IsFirstLimit (faults w.agents) cause)
IsRefusedScript bytes Memory = Unit {0}

-- the bytes are not JSON; an allocation failure says nothing
abbrev pub IsNotJson : List ℕ → ScriptError → Type 0
IsNotJson bytes (BadScript cause) = (cause ≡ NotJson) × ((d : Data) → ¬ IsJson bytes d)
IsNotJson bytes Memory = Unit {0}
