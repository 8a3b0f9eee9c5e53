-- How steps ended, as their outcomes and, of those that a term ended, where and why.
use Rattle.std.specs.Prelude.{◌+◌, ℕ, List, [], ◌∷◌, ◌++◌, Option, Some, None}
use Rattle.asm_script.specs.declared.fault.FaultyTerm.{FaultyTerm}
use Rattle.asm_play.specs.declared.outcome.Outcome.{Outcome}
use Rattle.asm_play.specs.declared.outcome.Outcome.TheVariants as outcome
use Rattle.asm_play.specs.declared.outcome.StepTerm.{StepTerm}
use Rattle.asm_play.specs.declared.step_end.StepEnd.{StepEnd}
use Rattle.asm_play.specs.declared.step_end.StepEnd.TheVariants.{Fired, Clash, Full, Term, Large, Many, GaveUp}

-- the outcome of a step that ended so
abbrev pub outcome_in : StepEnd → Outcome
outcome_in (Fired k) = outcome.Fired k
outcome_in (Clash clash) = outcome.Clash clash
outcome_in Full = outcome.Full
outcome_in (Term term) = outcome.Term
outcome_in (Large l) = outcome.Large l
outcome_in Many = outcome.Many
outcome_in GaveUp = outcome.GaveUp

-- the term without a value that ended a step, if one did
abbrev pub term_in : StepEnd → Option FaultyTerm
term_in (Term term) = Some term
term_in _ = None

-- a step with this number that such a term ended
abbrev pub terms_of_end : ℕ → Option FaultyTerm → List StepTerm
terms_of_end n (Some term) = record { step = n; term = term } ∷ []
terms_of_end n None = []

-- the steps, counted from this number on, that a term without a value ended, each with its term
abbrev pub terms_from : ℕ → List StepEnd → List StepTerm
terms_from n [] = []
terms_from n (e ∷ es) = terms_of_end n (term_in e) ++ terms_from (n + 1) es

-- the steps of an agent that a term without a value ended, each with its term
abbrev pub terms_in : List StepEnd → List StepTerm
terms_in ends = terms_from 0 ends
