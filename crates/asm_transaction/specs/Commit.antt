-- What the commit of a transaction does.
use Rattle.std.specs.Prelude.{◌≡◌, ◌≤◌, ◌⊎◌, ◌+◌, ◌-◌, None, List, ◌++◌, All, true, length, Ok, Err, Result, ℕ, [], unwrap_or}
use Rattle.asm_element.specs.Place.{Place}
use Rattle.asm_state.specs.FollowsFrom.{is_stale}
use Rattle.asm_state.specs.declared.named.Named.{Named}
use Rattle.asm_state.specs.declared.scanned.Scanned.{Scanned}
use Rattle.asm_update.specs.Aggregator.{AggregatorLaws, Meaning}
use Rattle.asm_update.specs.Fire.{Old, fire}
use Rattle.asm_update.specs.Move.{Move}
use Rattle.asm_update.specs.State.{State, IsProper, val}
use Rattle.asm_storage.specs.Agents.{moves_seen}
use Rattle.asm_storage.specs.Calls.{IsFireOver}
use Rattle.asm_storage.specs.Storage.{AgentAt}
use Rattle.asm_storage.specs.declared.call.Reply.{Reply}
use Rattle.asm_storage.specs.declared.call.Reply.TheVariants.{Fired, Stale, Clash, Full}
use Rattle.asm_storage.specs.declared.call.Call.{Call}
use Rattle.asm_storage.specs.declared.call.Call.TheVariants as call
use Rattle.asm_storage.specs.declared.error.FireError.{FireError}
use Rattle.asm_storage.specs.declared.error.FireError.TheVariants as fire_error
use Rattle.asm_step.specs.Dependencies.{AgreesAtDependencies, depends, left_by, sees_below}
use Rattle.asm_step.specs.InTurn.{fire_all}
use Rattle.asm_step.specs.Layers.{IsStepOf, Layer, all_moves, dependencies_of, one_move}
use Rattle.asm_step.specs.Places.{AreEach}
use Rattle.asm_transaction.specs.Reading.{HasRead, state_at}
use Rattle.asm_transaction.specs.View.{TransactionView, moves_of, names_of, places_of}

-- its commit depends on the location: it has read it; or the first of its moves that writes there has partial updates
-- alone, and another of them writes there too
abbrev pub DependsOn : TransactionView → Place → Type 0
DependsOn t l = HasRead t l ⊎ (depends (moves_of t) l ≡ true)

-- move k is the transaction
pub record HasFired {A : Type 0} (meaning : A → Meaning) (old new : AgentAt A) (t : TransactionView) (k : ℕ) : Type 0
  where
    -- the agent has fired one move more, and it is the last one that it has seen
    pub won : new.account.won ≡ old.account.won + 1
    pub last : k ≡ length new.account.seen
    -- what the transaction has read is, in the state before the move, as it was at its version
    pub unchanged : (l : Place) → HasRead t l →
        val (state_at meaning new (k - 1)) l ≡ val (state_at meaning old t.number) l
    -- so what it was shown through some moves is what these leave there, if they fire there
    pub shown : (Ms : List Move) (l : Place) (S B : State) →
        fire_all (meaning old.storage.agg).part (Ok (state_at meaning old t.number)) Ms ≡ Ok S →
        fire_all (meaning old.storage.agg).part (Ok (state_at meaning new (k - 1))) Ms ≡ Ok B →
        (sees_below Ms l ≡ true → HasRead t l) → val B l ≡ val S l
    -- and all its moves fire there in turn, if that state is well-formed; what they leave is the state after the move
    pub leaves : IsProper (state_at meaning new (k - 1)) →
        fire_all (meaning old.storage.agg).part (Ok (state_at meaning new (k - 1))) (moves_of t)
        ≡ Ok (state_at meaning new k)

-- the agent has fired nothing more
abbrev pub HasFiredNothing : {A : Type 0} → AgentAt A → AgentAt A → Type 0
HasFiredNothing old new = new.account.won ≡ old.account.won

-- the location is one on which the commit depends, and a move after the transaction's version has written it
pub record IsOverwritten {A : Type 0} (meaning : A → Meaning) (new : AgentAt A) (t : TransactionView) (l : Place) : Type 0
  where
    pub depends : DependsOn t l
    pub written : is_stale (meaning new.storage.agg).part new.storage.init (moves_seen new.account.seen) l t.number ≡ true

-- its moves don't fire in turn on the last state that the agent has seen, if that is well-formed
abbrev pub HasClashed : {A : Type 0} → (A → Meaning) → AgentAt A → TransactionView → Type 0
HasClashed meaning new t =
    IsProper (state_at meaning new (length new.account.seen)) →
    left_by (fire_all (meaning new.storage.agg).part (Ok (state_at meaning new (length new.account.seen))) (moves_of t)) ≡ None

-- the agent has seen as many moves as the storage has room for
abbrev pub HasFoundFull : {A : Type 0} → AgentAt A → Type 0
HasFoundFull new = length new.storage.row ≤ length new.account.seen

-- THE COMMIT. Fired(k): move k is the transaction. Stale(l): a move after its version has written l, on which it
-- depends. Clash: its moves don't fire in turn on the last state. Full: there is no room. With every answer but Fired,
-- nothing was fired
abbrev pub Commits : {A : Type 0} → (A → Meaning) → AgentAt A → AgentAt A → TransactionView → Result Reply FireError → Type 0
Commits meaning old new t (Ok (Fired k)) = HasFired meaning old new t k
Commits meaning old new t (Ok (Stale l)) = IsOverwritten meaning new t l × HasFiredNothing old new
Commits meaning old new t (Ok (Clash c)) = HasClashed meaning new t × HasFiredNothing old new
Commits meaning old new t (Ok Full) = HasFoundFull new × HasFiredNothing old new
Commits meaning old new t (Err e) = HasFiredNothing old new

-- ---- the one fire that it is

-- a read at the transaction's version is declared for each location that it tracks, and for each on which its moves
-- depend
pub record NamesAll (t : TransactionView) (reads : List Named) : Type 0 where
  pub locations : AreEach (t.tracked ++ dependencies_of t.layers) (places_of reads)
  pub numbers : All (λ r. r.number ≡ t.number) reads

-- the scans are of the functions that it scanned, each at its version
pub record ScansAll (t : TransactionView) (scans : List Scanned) : Type 0 where
  pub names : names_of scans ≡ t.scanned
  pub numbers : All (λ x. x.number ≡ t.number) scans

-- the move does what the layers' moves do in turn, on each state that agrees with the one below where they depend on it
abbrev pub IsMoveOf : List Layer → Move → Type 0
IsMoveOf layers M =
    (m : Meaning) (old : Old) (groups : List (List Move)) (B : State) → AggregatorLaws m → IsStepOf m.part old layers groups →
    IsProper B → AgreesAtDependencies B old (all_moves groups) →
    left_by (fire m.part B M) ≡ left_by (fire_all m.part (Ok B) (all_moves groups))

-- one fire of the move, with these reads and all scans of the transaction, has this answer
pub record FiresOnce {A : Type 0} (meaning : A → Meaning) (old new : AgentAt A) (t : TransactionView) (reads : List Named)
    (M : Move) (r : Result Reply FireError) : Type 0 where
  pub scans : List Scanned
  pub scanned : ScansAll t scans
  pub fire : IsFireOver meaning old new reads scans M r

-- the one move of its pushed moves, with all that its commit declares, is fired once, with this answer; or memory was
-- refused before that, and nothing has changed
abbrev pub IsOneFire : {A : Type 0} → (A → Meaning) → AgentAt A → AgentAt A → TransactionView → Result Reply FireError → Type 0
IsOneFire meaning old new t r =
    ((reads : List Named) × (M : Move) × NamesAll t reads × (M ≡ unwrap_or (one_move t.layers) []) × IsMoveOf t.layers M
    × FiresOnce meaning old new t reads M r)
    ⊎ ((new ≡ old) × (r ≡ Err fire_error.Memory))

-- the call is the fire that its commit makes
abbrev pub IsPreview : TransactionView → Call → Type 0
IsPreview t (call.Fire reads M) = NamesAll t reads × (M ≡ unwrap_or (one_move t.layers) []) × IsMoveOf t.layers M
IsPreview t (call.Read locations) = ⊥
