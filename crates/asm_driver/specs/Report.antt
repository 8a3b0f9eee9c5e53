-- The report of a played script: its lines, and their order.
use Rattle.std.specs.Prelude.{◌≡◌, ◌+◌, ℕ, List, [], ◌∷◌, ◌++◌, length, min, codes}
use Rattle.std.specs.List.{flat_map, enumerate_from}
use Rattle.std.specs.Fmt.{decimal}
use Rattle.std.specs.FinMap as finite
use Rattle.serde_json.specs.Written.{compact_text}
use Rattle.asm_element.specs.Place.{Place}
use Rattle.asm_element.specs.declared.value.Value.{Value}
use Rattle.asm_update.specs.State.{State}
use Rattle.asm_update.specs.Fire.{Part, state_of}
use Rattle.asm_storage.specs.History.{fired_moves}
use Rattle.asm_journal.specs.Element.{location_json_of}
use Rattle.asm_journal.specs.Value.{pair_json_of}
use Rattle.asm_journal.specs.Event.{word_of_cause}
use Rattle.asm_play.specs.declared.outcome.Outcome.{Outcome}
use Rattle.asm_play.specs.declared.outcome.Outcome.TheVariants.{Fired, Clash, Full, Term, Large, Many, GaveUp}
use Rattle.asm_play.specs.declared.outcome.Played.{Played}
use Rattle.asm_play.specs.declared.outcome.StepTerm.{StepTerm}

-- a line and its line feed
abbrev pub line : List ℕ → List ℕ
line text = text ++ 10 ∷ []

-- [LOC,VALUE]
abbrev pub entry_line : Place × Value → List ℕ
entry_line e = line (compact_text (pair_json_of e))

-- one line for each location of the state, in ascending order
abbrev pub state_lines : State → List ℕ
state_lines A = flat_map entry_line (finite.entries A)

-- moves N
abbrev pub moves_line : ℕ → List ℕ
moves_line n = line (codes "moves " ++ decimal n)

-- agent A step S
abbrev pub step_name : ℕ → ℕ → List ℕ
step_name agent step = codes "agent " ++ decimal agent ++ codes " step " ++ decimal step

-- why a step didn't fire
abbrev pub reason : Outcome → List ℕ
reason (Fired k) = []
reason (Clash c) = codes " clash " ++ compact_text (location_json_of c.at) ++ codes " " ++ word_of_cause c.cause
reason Full = codes " full"
reason Term = codes " term"
reason (Large l) = codes " large " ++ compact_text (location_json_of l)
reason Many = codes " many"
reason GaveUp = codes " gave up"

-- the line of a step that didn't fire, or no text for one that fired
abbrev pub outcome_line : ℕ → ℕ → Outcome → List ℕ
outcome_line agent step (Fired k) = []
outcome_line agent step o = line (step_name agent step ++ reason o)

-- an agent's lines, step by step
abbrev pub agent_lines : ℕ × List Outcome → List ℕ
agent_lines a = flat_map (λ s. outcome_line a.0 s.0 s.1) (enumerate_from 0 a.1)

-- the lines of the agents, in order
abbrev pub outcome_lines : List (List Outcome) → List ℕ
outcome_lines outcomes = flat_map agent_lines (enumerate_from 0 outcomes)

-- the report with this meaning of partial updates: the final state, the number of moves, and the steps that didn't
-- fire
abbrev pub report_of : Part → Played → List ℕ
report_of part p =
    state_lines (state_of part p.history.init (fired_moves p.history.events))
    ++ moves_line (min (length (fired_moves p.history.events)) 4294967295)
    ++ outcome_lines p.outcomes

-- the line of a step that a term without a value ended: which instruction has the term, and why it has no value
abbrev pub term_line : ℕ → StepTerm → List ℕ → List ℕ
term_line agent t why =
    line (step_name agent t.step ++ codes " block " ++ decimal t.term.block ++ codes " instruction "
    ++ decimal t.term.instruction ++ codes ": " ++ why)

-- the text is one line for each of these steps of an agent, in order
abbrev pub AreTermLines : ℕ → List StepTerm → List ℕ → Type 0
AreTermLines agent [] text = text ≡ []
AreTermLines agent (t ∷ ts) text =
    (why rest : List ℕ) × (text ≡ term_line agent t why ++ rest) × AreTermLines agent ts rest

-- the text is the lines of these agents, from this number on
abbrev pub AreAgentsTermLines : ℕ → List (List StepTerm) → List ℕ → Type 0
AreAgentsTermLines agent [] text = text ≡ []
AreAgentsTermLines agent (ts ∷ tss) text =
    (mine rest : List ℕ) × (text ≡ mine ++ rest) × AreTermLines agent ts mine × AreAgentsTermLines (agent + 1) tss rest
