-- Closing the agents that played a script: their history is a play of it.
use Rattle.std.proofs.Common.{◌≡◌, ◌≢◌, ℕ, ◌+◌, ◌≤◌, max, All, List, [], ◌∷◌, length, map}
use Rattle.std.proofs.Common.{arith, refl, ap, sym, ◌∙◌, subst}
use Rattle.std.proofs.lemmas.List.Elements.{All-nil, All-cons, All-head, All-tail}
use Rattle.std.proofs.lemmas.List.FromFn.{length-range_with_len, get_or-range_with_len}
use Rattle.std.specs.List.{range_with_len}
use Rattle.std.specs.List.Sorted.{IsStrictlyIncreasing}
use mathlib.Core.List.{IsPrefix}
use Rattle.asm_update.specs.Aggregator.{Meaning}
use Rattle.asm_storage.specs.Agents.{AgentView, IsHistoryOf, event_of, id_bound, ids, moves_seen}
use Rattle.asm_storage.specs.History.{fired_moves, events_of, IsLegal}
use Rattle.asm_storage.specs.Storage.{StorageView, AgentAt, IsMissing, IsOf, accounts, at_start}
use Rattle.asm_storage.specs.Storage as storage
use Rattle.asm_storage.specs.declared.error.CloseError.{CloseError}
use Rattle.asm_storage.specs.declared.error.CloseError.TheVariants as close_error
use Rattle.asm_storage.specs.declared.history.Event.{Event}
use Rattle.asm_play.proofs.Later.{are_reported_later}
use Rattle.asm_play.proofs.ProperMoves.{proper_prefix}
use Rattle.asm_script.specs.Plan.{Plan}
use Rattle.asm_play.specs.Play as play
use Rattle.asm_play.specs.Play.{AreAgentsEvents, IsPlayWithTerms}
use Rattle.asm_play.specs.AgentPlay.{AreProper, Plays}
use Rattle.asm_aggregate.specs.Standard.{standard_meaning, standard_part}
use Rattle.asm_play.specs.Ends.{outcome_in, terms_in}
use Rattle.asm_play.specs.StepEvents.{AreStepsEvents}
use Rattle.asm_play.specs.PlayedAgents.{run_error_of_close, ArePlayed, IsNotClosed}
use Rattle.asm_script.specs.declared.step.Step.{Step}
use Rattle.asm_play.specs.declared.step_end.StepEnd.{StepEnd}
use Rattle.asm_play.specs.declared.outcome.PlayedWithTerms.{PlayedWithTerms}
use Rattle.asm_play.specs.declared.outcome.RunError.{RunError}
use Rattle.asm_play.specs.declared.outcome.RunError.TheVariants as run_error

module _ {A : Type 0} (meaning : A → Meaning) (s : StorageView A) where
  -- each of them is of the storage
  pub of_storage : (id : ℕ) (sss : List (List Step)) (agents : List (AgentAt A)) (oss : List (List StepEnd)) →
      ArePlayed meaning standard_meaning s id sss agents oss → All (IsOf s) agents
  of_storage id [] [] [] played = All-nil (IsOf s)
  of_storage id (ss ∷ sss) (a ∷ agents) (os ∷ oss) played =
      All-cons (IsOf s) a agents played.0.same.storage (of_storage (id + 1) sss agents oss played.1)
  of_storage id sss agents oss played = absurd played

  -- they have the numbers from id up
  pub ids_are : (id : ℕ) (sss : List (List Step)) (agents : List (AgentAt A)) (oss : List (List StepEnd)) →
      ArePlayed meaning standard_meaning s id sss agents oss → ids (accounts agents) ≡ range_with_len id (length sss)
  ids_are id [] [] [] played = refl
  ids_are id (ss ∷ sss) (a ∷ agents) (os ∷ oss) played =
      let mine : a.account.id ≡ id = played.0.same.id in
      let rest = ids_are (id + 1) sss agents oss played.1 in
      λ i. mine i ∷ rest i
  ids_are id sss agents oss played = absurd played

  -- one more than the greatest is how many there are
  pub bound_is : (id : ℕ) (sss : List (List Step)) (agents : List (AgentAt A)) (oss : List (List StepEnd)) →
      ArePlayed meaning standard_meaning s id sss agents oss → max id (id_bound (accounts agents)) ≡ id + length sss
  bound_is id [] [] [] played = omega arith
  bound_is id (ss ∷ sss) (a ∷ agents) (os ∷ oss) played =
      let mine : a.account.id ≡ id = played.0.same.id in
      let rest = bound_is (id + 1) sss agents oss played.1 in
      omega (arith, mine, rest)
  bound_is id sss agents oss played = absurd played

  -- none of them has a number from there on
  pub none_beyond : (id : ℕ) (sss : List (List Step)) (agents : List (AgentAt A)) (oss : List (List StepEnd)) (i : ℕ) →
      ArePlayed meaning standard_meaning s id sss agents oss → id + length sss ≤ i →
      All (λ a. a.id ≢ i) (accounts agents)
  none_beyond id [] [] [] i played le = All-nil (λ (a : AgentView). a.id ≢ i)
  none_beyond id (ss ∷ sss) (a ∷ agents) (os ∷ oss) i played le =
      let mine : a.account.id ≡ id = played.0.same.id in
      All-cons (λ (b : AgentView). b.id ≢ i) a.account (accounts agents)
      (λ same. absurd (omega (arith, mine, le, same)))
      (none_beyond (id + 1) sss agents oss i played.1 (omega (arith, le)))
  none_beyond id sss agents oss i played le = absurd played

  -- what is told of one agent in a history that tells its receipts, and whose moves begin with what it saw
  agent_reported : (id : ℕ) (ss : List Step) (a : AgentAt A) (os : List StepEnd) (h : List Event) →
      (meaning s.agg).part ≡ standard_part → AreProper s.init (fired_moves h) →
      Plays meaning standard_meaning (at_start s id) a ss os →
      events_of h a.account.id ≡ map (event_of a.account.id) a.account.receipts →
      IsPrefix (moves_seen a.account.seen) (fired_moves h) →
      AreStepsEvents standard_meaning (storage.machine_of meaning s) (fired_moves h) ss os (events_of h id)
  agent_reported id ss a os h same proper played mine begins =
      let m = storage.machine_of meaning s in
      let seen = moves_seen a.account.seen in
      let proper_seen = proper_prefix s.init seen (fired_moves h) begins proper in
      let reported = are_reported_later standard_meaning m seen (fired_moves h) begins ss os _ (played.reported same proper_seen) in
      let number : a.account.id ≡ id = played.same.id in
      let events : events_of h id ≡ map (event_of id) played.more =
      ap (events_of h) (sym number) ∙ mine ∙ ap (λ i. map (event_of i) a.account.receipts) number
      ∙ ap (map (event_of id)) played.added in
      subst (AreStepsEvents standard_meaning m (fired_moves h) ss os) (sym events) reported

  -- and so of each
  pub agents_reported : (id : ℕ) (sss : List (List Step)) (agents : List (AgentAt A)) (oss : List (List StepEnd))
      (h : List Event) → (meaning s.agg).part ≡ standard_part → AreProper s.init (fired_moves h) →
      ArePlayed meaning standard_meaning s id sss agents oss →
      All (λ a. events_of h a.id ≡ map (event_of a.id) a.receipts) (accounts agents) →
      All (λ a. IsPrefix (moves_seen a.seen) (fired_moves h)) (accounts agents) →
      AreAgentsEvents (storage.machine_of meaning s) h id sss oss
  agents_reported id [] [] [] h same proper played own_ones begins = tt
  agents_reported id (ss ∷ sss) (a ∷ agents) (os ∷ oss) h same proper played own_ones begins =
      let P : AgentView → Type 0 = λ b. events_of h b.id ≡ map (event_of b.id) b.receipts in
      let Q : AgentView → Type 0 = λ b. IsPrefix (moves_seen b.seen) (fired_moves h) in (
        agent_reported id ss a os h same proper played.0 (All-head P a.account (accounts agents) own_ones)
            (All-head Q a.account (accounts agents) begins),
        agents_reported (id + 1) sss agents oss h same proper played.1 (All-tail P a.account (accounts agents) own_ones)
            (All-tail Q a.account (accounts agents) begins),
      )
  agents_reported id sss agents oss h same proper played own_ones begins = absurd played

-- numbers from one up rise
pub range_rises : (id n : ℕ) (xs : List ℕ) → xs ≡ range_with_len id n → IsStrictlyIncreasing xs
range_rises id n xs is = subst IsStrictlyIncreasing (sym is) (λ k lt.
    let less = length-range_with_len id n in
    let here = get_or-range_with_len id n k 0 (omega (arith, lt, less)) in
    let next = get_or-range_with_len id n (k + 1) 0 (omega (arith, lt, less)) in
    omega (arith, here, next))

-- an error of closing, as one of the run
close_error_kept : (agents : List AgentView) (e : CloseError) → IsMissing agents e → IsNotClosed agents (run_error_of_close e)
close_error_kept agents (close_error.Missing k) missing = missing
close_error_kept agents close_error.Memory missing = tt

-- the error of closing what was lent
pub not_closed : {A : Type 0} (lent agents : List (AgentAt A)) (e : CloseError) (r : RunError) → lent ≡ agents →
    IsMissing (accounts lent) e → r ≡ run_error_of_close e → IsNotClosed (accounts agents) r
not_closed lent agents e r same missing reported =
    subst (λ q. IsNotClosed (accounts q) r) same
    (subst (IsNotClosed (accounts lent)) (sym reported) (close_error_kept (accounts lent) e missing))

-- no error of closing is that of a capacity
pub reported_later : (e : CloseError) (r : RunError) → r ≡ run_error_of_close e → r ≢ run_error.BadCapacity
reported_later (close_error.Missing k) r reported bad =
    let no : run_error.Missing k ≡ run_error.BadCapacity = sym reported ∙ bad in cc no
reported_later close_error.Memory r reported bad =
    let no : run_error.Memory ≡ run_error.BadCapacity = sym reported ∙ bad in cc no

-- the history that the agents of a script close to is a play of it
pub closes : {A : Type 0} (meaning : A → Meaning) (s : StorageView A) (plan : Plan) (lent agents : List (AgentAt A))
    (oss : List (List StepEnd)) (p : PlayedWithTerms) → lent ≡ agents → (meaning s.agg).part ≡ standard_part →
    s.init ≡ plan.init →
    ArePlayed meaning standard_meaning s 0 plan.agents agents oss →
    IsHistoryOf (storage.machine_of meaning s) (accounts lent) p.played.history.events →
    p.played.history.init ≡ s.init → p.played.history.capacity ≡ length s.row → p.played.history.agents ≡ id_bound (accounts lent) →
    p.played.outcomes ≡ map (map outcome_in) oss → p.terms ≡ map terms_in oss →
    AreProper p.played.history.init (fired_moves p.played.history.events) → IsPlayWithTerms plan (length s.row) p
closes meaning s plan lent agents oss p same part init played closed_lent opened capacity bound_lent outcomes terms proper_h =
    let m = storage.machine_of meaning s in
    let closed = subst (λ q. IsHistoryOf m (accounts q) p.played.history.events) same closed_lent in
    let bound = bound_lent ∙ ap (λ q. id_bound (accounts q)) same in
    let h = p.played.history.events in
    let capacity_of = length s.row in
    let machine : storage.machine_of meaning s ≡ play.machine_of plan capacity_of =
    λ i. record { part = part i; init = init i; capacity = capacity_of } in
    let proper = subst (λ A. AreProper A (fired_moves h)) opened proper_h in
    let reported = agents_reported meaning s 0 plan.agents agents oss h part proper played closed.own_receipts
    closed.seen_first in
    let all = bound_is meaning s 0 plan.agents agents oss played in (
      record {
        opened = opened ∙ init;
        capacity_is = capacity;
        agents = omega (arith, bound, all);
        legal = subst (λ m. IsLegal m h) machine closed.legal;
        ends = oss;
        reported = subst (λ m. AreAgentsEvents m h 0 plan.agents oss) machine reported;
        outcomes = outcomes;
        others = λ i le. closed.no_others i
            (none_beyond meaning s 0 plan.agents agents oss i played (omega (arith, le)));
      },
      terms,
    )
