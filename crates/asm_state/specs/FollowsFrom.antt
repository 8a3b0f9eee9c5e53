-- States that have followed a list of moves: which move wrote a location last, and which reads are stale.
use Rattle.std.specs.Prelude.{◌≡◌, ◌↔◌, ℕ, zero, suc, ◌+◌, ◌<◌, nat_lt, Bool, true, false, ◌&&◌, ◌||◌}
use Rattle.std.specs.Prelude.{List, [], ◌∷◌, length, take, slice_get, Some, is_ok, if◌then◌else◌}
use Rattle.asm_element.specs.Place.{Place}
use Rattle.asm_update.specs.Move.{Move, writes}
use Rattle.asm_update.specs.State.{State, val}
use Rattle.asm_update.specs.Fire.{Part, fire, state_or, state_of}
use Rattle.asm_state.specs.View.{StateView, value_at, writer_at}

-- whether a move fires on the state and writes the location
abbrev pub overwrites : Part → State → Move → Place → Bool
overwrites part A M l = is_ok (fire part A M) && writes M l

-- the state after a move; one that clashes changes nothing
abbrev pub after_move : Part → State → Move → State
after_move part A M = state_or A (fire part A M)

-- the number of the last of the moves that overwrites the location, or w where none does;
-- the first of them has the number n + 1
abbrev pub writer_from : Part → State → ℕ → List Move → Place → ℕ → ℕ
writer_from part A n [] l w = w
writer_from part A n (M ∷ q) l w =
    writer_from part (after_move part A M) (n + 1) q l (if overwrites part A M l then n + 1 else w)

-- the greatest n such that the n-th move fires in its place and writes the location, or 0
abbrev pub writer : Part → State → List Move → Place → ℕ
writer part A q l = writer_from part A 0 q l 0

-- whether, from the state A, one of the moves after the first `number` overwrites the location
abbrev pub is_stale : Part → State → List Move → Place → ℕ → Bool
is_stale part A [] l number = false
is_stale part A (M ∷ q) l zero = overwrites part A M l || is_stale part (after_move part A M) q l zero
is_stale part A (M ∷ q) l (suc number) = is_stale part (after_move part A M) q l number

-- the move with the number k + 1, which is above the given one, fires on the state that the moves before it leave,
-- and writes the location
pub record IsOverwrittenBy (part : Part) (A : State) (q : List Move) (l : Place) (number k : ℕ) (M : Move) : Type 0
  where
    pub above : number < k + 1
    pub move : slice_get q k ≡ Some M
    pub fires : is_ok (fire part (state_of part A (take k q)) M) ≡ true
    pub writes_it : writes M l ≡ true

-- a read of the location at that number is stale: some move above it fires in its place and writes the location
abbrev pub IsStale : Part → State → List Move → Place → ℕ → Type 0
IsStale part A q l number = (k : ℕ) × (M : Move) × IsOverwrittenBy part A q l number k M

-- the number is that of the location's last writer, or 0: the reads below it are the stale ones,
-- by the test along the moves as by the plain statement
pub record IsLastWriter (part : Part) (A : State) (q : List Move) (l : Place) (writer : ℕ) : Type 0 where
  pub tested : (number : ℕ) → is_stale part A q l number ≡ nat_lt number writer
  pub stated : (number : ℕ) → (number < writer) ↔ IsStale part A q l number

-- the state follows from the opening state A by these moves
pub record FollowsFrom (part : Part) (A : State) (s : StateView) (q : List Move) : Type 0 where
  pub number : s.number ≡ length q
  pub values : (l : Place) → value_at s l ≡ val (state_of part A q) l
  pub writers : (l : Place) → writer_at s l ≡ writer part A q l
