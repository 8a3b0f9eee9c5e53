-- What playing a script leaves: its history, and how each step ended.
use Rattle.std.specs.Prelude.{◌≡◌, ◌≤◌, ◌+◌, ℕ, List, [], ◌∷◌, length, map}
use Rattle.asm_storage.specs.Machine.{Machine}
use Rattle.asm_storage.specs.History.{fired_moves, events_of, IsLegal}
use Rattle.asm_storage.specs.declared.history.Event.{Event}
use Rattle.asm_script.specs.Plan.{Plan}
use Rattle.asm_aggregate.specs.Standard.{standard_meaning, standard_part}
use Rattle.asm_play.specs.Ends.{outcome_in, terms_in}
use Rattle.asm_play.specs.StepEvents.{AreStepsEvents}
use Rattle.asm_script.specs.declared.step.Step.{Step}
use Rattle.asm_play.specs.declared.step_end.StepEnd.{StepEnd}
use Rattle.asm_play.specs.declared.outcome.Played.{Played}
use Rattle.asm_play.specs.declared.outcome.PlayedWithTerms.{PlayedWithTerms}

-- the storage of one thread that the script opens
abbrev pub machine_of : Plan → ℕ → Machine
machine_of plan capacity = record { part = standard_part; init = plan.init; capacity = capacity }

-- from this agent on, the events of each are those of its steps, each step's according to how it ended
abbrev pub AreAgentsEvents : Machine → List Event → ℕ → List (List Step) → List (List StepEnd) → Type 0
AreAgentsEvents m h id [] [] = Unit {0}
AreAgentsEvents m h id [] (os ∷ oss) = ⊥
AreAgentsEvents m h id (ss ∷ sss) [] = ⊥
AreAgentsEvents m h id (ss ∷ sss) (os ∷ oss) =
    AreStepsEvents standard_meaning m (fired_moves h) ss os (events_of h id) × AreAgentsEvents m h (id + 1) sss oss

-- What a script's playing leaves: a legal history from the script's opening state and with the given capacity, with
-- one end for each step of each agent, which determines the events of that step, and no event of another agent. The
-- move of a step that fired leaves what the step's blocks in turn leave on the state before it. The outcomes are
-- those of the ends.
pub record IsPlayOf (plan : Plan) (capacity : ℕ) (p : Played) : Type 0 where
  pub opened : p.history.init ≡ plan.init
  pub capacity_is : p.history.capacity ≡ capacity
  pub agents : p.history.agents ≡ length plan.agents
  pub legal : IsLegal (machine_of plan capacity) p.history.events
  pub ends : List (List StepEnd)
  pub reported : AreAgentsEvents (machine_of plan capacity) p.history.events 0 plan.agents ends
  pub outcomes : p.outcomes ≡ map (map outcome_in) ends
  pub others : (i : ℕ) → length plan.agents ≤ i → events_of p.history.events i ≡ []

-- what a script's playing leaves, and beside it, for each agent, the terms without a value that ended its steps
abbrev pub IsPlayWithTerms : Plan → ℕ → PlayedWithTerms → Type 0
IsPlayWithTerms plan capacity p =
    (play : IsPlayOf plan capacity p.played) × (p.terms ≡ map terms_in play.ends)
