-- What the agents played, put together to the play of a script.
use Rattle.std.proofs.Common.{◌≡◌, ◌≤◌, ℕ, ◌+◌, Result, Err, IfErr, IsErrAnd, Vec, Global, vec_len, List, [], ◌∷◌, ◌++◌, length, map}
use Rattle.std.proofs.Common.{arith, get_or, refl, ap, sym, ◌∙◌, subst, length-append}
use Rattle.std.proofs.Math.Seq.{get_or-append_seam}
use Rattle.std.proofs.lemmas.List.{append_assoc, length-map}
use Rattle.std.proofs.lemmas.List.FromFn.{length-range_with_len}
use Rattle.std.specs.List.{range_with_len}
use Rattle.asm_update.specs.Aggregator.{Meaning}
use Rattle.asm_storage.specs.Agents.{AgentView}
use Rattle.asm_storage.specs.Storage.{StorageView, AgentAt, at_start}
use Rattle.asm_play.specs.AgentPlay.{Plays}
use Rattle.asm_play.specs.PlayedAgents.{steps_at, ArePlayed, IsNotClosed}
use Rattle.asm_play.specs.Jobs.{GivesEach}
use Rattle.asm_play.specs.declared.outcome.RunError.{RunError}
use Rattle.asm_play.specs.declared.outcome.RunError.TheVariants as run_error
use Rattle.asm_script.specs.declared.step.Step.{Step}
use Rattle.asm_play.specs.declared.step_end.StepEnd.{StepEnd}

-- what each agent gave is what agents that had made no call played with their steps
agents_from : {X A : Type 0} (meaning : A → Meaning) (own : Meaning) (s : StorageView A) (steps : AgentAt A → List Step)
    (xa : X → AgentAt A) (xo : X → List StepEnd) (id : ℕ) (agents : List (AgentAt A)) (played_agents : List X)
    (sss : List (List Step)) → GivesEach (λ a t. Plays meaning own a (xa t) (steps a) (xo t)) agents played_agents →
    agents ≡ map (at_start s) (range_with_len id (length sss)) → map steps agents ≡ sss →
    ArePlayed meaning own s id sss (map xa played_agents) (map xo played_agents)
agents_from meaning own s steps xa xo id [] [] [] given first theirs = tt
agents_from meaning own s steps xa xo id [] [] (ss ∷ sss) given first theirs = absurd (cc theirs)
agents_from meaning own s steps xa xo id [] (t ∷ ts) sss given first theirs = absurd given
agents_from meaning own s steps xa xo id (a ∷ agents) [] sss given first theirs = absurd given
agents_from meaning own s steps xa xo id (a ∷ agents) (t ∷ ts) [] given first theirs = absurd (cc theirs)
agents_from meaning own s steps xa xo id (a ∷ agents) (t ∷ ts) (ss ∷ sss) given first theirs =
    let agent : a ≡ at_start s id = cc first in
    let others : agents ≡ map (at_start s) (range_with_len (id + 1) (length sss)) = cc first in
    let mine : steps a ≡ ss = cc theirs in
    let rest : map steps agents ≡ sss = cc theirs in (
      subst (λ b. Plays meaning own b (xa t) ss (xo t)) agent
          (subst (λ p. Plays meaning own a (xa t) p (xo t)) mine given.0),
      agents_from meaning own s steps xa xo (id + 1) agents ts sss given.1 others rest,
    )

-- the steps at the numbers of agents that made no call, from the number of those that are done
steps_from : {A : Type 0} (s : StorageView A) (done sss : List (List Step)) →
    map (steps_at (done ++ sss)) (map (at_start s) (range_with_len (length done) (length sss))) ≡ sss
steps_from s done [] = refl
steps_from s done (ss ∷ sss) =
    let all : (done ++ ss ∷ []) ++ sss ≡ done ++ ss ∷ sss = append_assoc done (ss ∷ []) sss in
    let long : length (done ++ ss ∷ []) ≡ length done + 1 = length-append done (ss ∷ []) in
    let more = subst (λ (xs : List (List Step)).
    map (steps_at xs) (map (at_start s) (range_with_len (length (done ++ ss ∷ [])) (length sss))) ≡ sss) all
    (steps_from s (done ++ ss ∷ []) sss) in
    let rest = subst (λ (n : ℕ).
    map (steps_at (done ++ ss ∷ sss)) (map (at_start s) (range_with_len n (length sss))) ≡ sss) long more in
    let mine : get_or (done ++ ss ∷ sss) (length done) [] ≡ ss = get_or-append_seam done ss sss [] in
    λ i. mine i ∷ rest i

-- so each agent plays its steps
steps_of_all : {A : Type 0} (s : StorageView A) (sss : List (List Step)) →
    map (steps_at sss) (map (at_start s) (range_with_len 0 (length sss))) ≡ sss
steps_of_all s sss = steps_from s [] sss

-- what each of the agents of a storage gave with the steps at its number, where agents and ends were told apart:
-- by the aggregator that the player has, which is the storage's
pub agents_ended : {X A : Type 0} (meaning : A → Meaning) (mine theirs : A) (other : Meaning) (s : StorageView A)
    (xa : X → AgentAt A) (xo : X → List StepEnd) (first : List (AgentAt A)) (played_agents : List X)
    (written sss : List (List Step)) (agents : List (AgentAt A)) (oss : List (List StepEnd)) → mine ≡ theirs →
    meaning theirs ≡ other → written ≡ sss →
    GivesEach (λ a t. Plays meaning (meaning mine) a (xa t) (steps_at written a) (xo t)) first played_agents →
    first ≡ map (at_start s) (range_with_len 0 (length written)) →
    agents ≡ map xa played_agents → oss ≡ map xo played_agents → ArePlayed meaning other s 0 sss agents oss
agents_ended {A = A} meaning mine theirs other s xa xo first played_agents written sss agents oss same means is given
    begun left reported =
    let all : map (steps_at written) first ≡ written = ap (map (steps_at written)) begun ∙ steps_of_all s written in
    let played =
    agents_from meaning (meaning mine) s (steps_at written) xa xo 0 first played_agents written given begun all in
    subst (λ (p : List (List Step)). ArePlayed meaning other s 0 p agents oss) is
    (subst (λ (p : Meaning). ArePlayed meaning p s 0 written agents oss) (ap meaning same ∙ means)
    (subst (λ (p : List (AgentAt A)). ArePlayed meaning (meaning mine) s 0 written p oss) (sym left)
    (subst (λ (p : List (List StepEnd)). ArePlayed meaning (meaning mine) s 0 written (map xa played_agents) p)
    (sym reported) played)))

-- a worker whose thread is missing is one of several, and so is its agent
pub missing_of_several : {A X : Type 0} (s : StorageView A) (agents : Vec (AgentAt A) Global)
    (written sss : List (List Step)) (e : RunError) (r : Result X RunError) →
    agents.items ≡ map (at_start s) (range_with_len 0 (length written)) → written ≡ sss →
    (e ≡ run_error.NoThread → 2 ≤ vec_len agents) → IsErrAnd r (λ f. f ≡ e) → r ≡ Err run_error.NoThread →
    2 ≤ length sss
missing_of_several s agents written sss e r begun same several reported is =
    let first = map (at_start s) (range_with_len 0 (length written)) in
    let count : length first ≡ length written =
    length-map (range_with_len 0 (length written)) (at_start s) ∙ length-range_with_len 0 (length written) in
    let items : length agents.items ≡ length first = ap length begun in
    let all : length written ≡ length sss = ap length same in
    let long : vec_len agents ≡ length agents.items = agents.ok.0 in
    let two : 2 ≤ vec_len agents = several (sym (subst (λ q. IsErrAnd q (λ f. f ≡ e)) is reported)) in
    omega (arith, two, long, items, count, all)

-- closing starts no thread
pub closed_alone : {X : Type 0} (agents : List AgentView) (r : Result X RunError) (n : ℕ) →
    IfErr r (IsNotClosed agents) → r ≡ Err run_error.NoThread → 2 ≤ n
closed_alone agents r n why is = absurd (subst (λ q. IfErr q (IsNotClosed agents)) is why)
