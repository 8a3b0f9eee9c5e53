-- An agent that takes the state of another one.
use Rattle.std.specs.Prelude.{◌≡◌, max, min, length}
use mathlib.Core.List.{IsPrefix}
use Rattle.asm_storage.specs.Storage.{AgentAt, has_polled}

-- the agent has learnt what the other one has seen, and has the state that had followed more moves; the other one has the
-- state that had followed fewer, and nothing else of the two has changed
pub record HasTaken {A : Type 0} (old other new left : AgentAt A) : Type 0 where
  pub mine : IsPrefix old.account.seen new.account.seen
  pub theirs : IsPrefix other.account.seen new.account.seen
  pub longest : length new.account.seen ≡ max (length old.account.seen) (length other.account.seen)
  pub taker : new ≡ has_polled old new.account.seen old.misses (max old.number other.number)
  pub giver : left ≡ record other { number = min old.number other.number }
