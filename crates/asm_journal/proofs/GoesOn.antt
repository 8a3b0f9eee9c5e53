-- A run that goes on in another storage is one run.
use Rattle.std.proofs.Common.{◌≡◌, ℕ, List, [], ◌∷◌, ◌++◌, Option, Some, None, refl, ap, subst}
use Rattle.std.specs.List.{cons_option}
use Rattle.asm_update.specs.Move.{Move}
use Rattle.asm_update.specs.State.{State}
use Rattle.asm_update.specs.Fire.{state_of}
use Rattle.asm_state.specs.FollowsFrom.{after_move}
use Rattle.asm_storage.specs.declared.history.Event.{Event}
use Rattle.asm_storage.specs.History.{move_of, fired_moves, IsRun, RunStep, steps_from, step_and}
use Rattle.asm_storage.specs.Machine.{Machine, machine_state}
use Rattle.asm_journal.specs.Next.{RunContinues}

module _ (m : Machine) (init : State) (capacity : ℕ) where
  abbrev other : Machine
  other = record { part = m.part; init = init; capacity = capacity }

  -- steps and runs rest on what partial updates mean alone
  same_steps : (A : State) (h : List Event) → steps_from other A h ≡ steps_from m A h
  same_steps A [] = refl
  same_steps A (e ∷ h) = by_move (move_of e) (λ B. same_steps B h) where
    by_move : (o : Option Move) → ((B : State) → steps_from other B h ≡ steps_from m B h) →
        step_and other A e.agent o (λ B. steps_from other B h) ≡ step_and m A e.agent o (λ B. steps_from m B h)
    by_move None rest = rest A
    by_move (Some M) rest = ap (λ (ss : List RunStep). record { agent = e.agent; move = M; state = after_move m.part A M } ∷ ss) (rest (after_move m.part A M))

  same_run : (A : State) (ss : List RunStep) → IsRun other A ss → IsRun m A ss
  same_run A [] run = tt
  same_run A (s ∷ ss) run = (run.0, same_run s.state ss run.1)

  other_run : (A : State) (h : List Event) → IsRun other A (steps_from other A h) → IsRun m A (steps_from m A h)
  other_run A h run = subst (IsRun m A) (same_steps A h) (same_run A (steps_from other A h) run)

-- a run from the state that the first moves leave is the rest of a run
rest_of_run : (m : Machine) (A : State) (first second : List Event) → IsRun m A (steps_from m A first) →
    IsRun m (state_of m.part A (fired_moves first)) (steps_from m (state_of m.part A (fired_moves first)) second) →
    IsRun m A (steps_from m A (first ++ second))
rest_of_run m A [] second run rest = rest
rest_of_run m A (e ∷ first) second run rest = by_move (move_of e) (λ B. rest_of_run m B first second) run rest where
  by_move : (o : Option Move) →
      ((B : State) → IsRun m B (steps_from m B first) →
      IsRun m (state_of m.part B (fired_moves first)) (steps_from m (state_of m.part B (fired_moves first)) second) →
      IsRun m B (steps_from m B (first ++ second))) →
      IsRun m A (step_and m A e.agent o (λ B. steps_from m B first)) →
      IsRun m (state_of m.part A (cons_option o (fired_moves first))) (steps_from m (state_of m.part A (cons_option o (fired_moves first))) second) →
      IsRun m A (step_and m A e.agent o (λ B. steps_from m B (first ++ second)))
  by_move None shorter run rest = shorter A run rest
  by_move (Some M) shorter run rest = (run.0, shorter (after_move m.part A M) run.1 rest)

pub run_continues : RunContinues
run_continues m capacity first second run more =
    let A = machine_state m (fired_moves first) in
    rest_of_run m m.init first second run (other_run m A capacity A second more)
