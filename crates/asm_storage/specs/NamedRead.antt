-- What a read of declared reads does: it validates them, and reads their locations if none of them is stale.
use Rattle.std.specs.Prelude.{◌≡◌, List, map, Some, None}
use mathlib.Core.List.{IsPrefix}
use Rattle.asm_state.specs.declared.named.Named.{Named}
use Rattle.asm_update.specs.Aggregator.{Meaning}
use Rattle.asm_storage.specs.Calls.{IsRead, IsStaleRead}
use Rattle.asm_storage.specs.Storage.{AgentAt, IsUpToDate, has_polled}
use Rattle.asm_storage.specs.declared.reading.NamedReading.{NamedReading}
use Rattle.asm_storage.specs.declared.reading.NamedReading.TheVariants.{Read, Stale}

-- the agent has polled, and its own state has followed all that it has then seen; nothing else of it has changed, so it
-- has no further receipt
pub record HasFollowed {A : Type 0} (old new : AgentAt A) : Type 0 where
  pub begins : IsPrefix old.account.seen new.account.seen
  pub agent : new ≡ has_polled old new.account.seen new.misses new.number
  pub level : IsUpToDate new

-- `Read r`: after what the agent has then seen, none of the declared reads is stale, and r is the answer to a read of
-- their locations, of which it has a receipt. `Stale l`: l is the smallest location of a stale one, and it read nothing
abbrev pub IsNamedRead : {A : Type 0} → (A → Meaning) → AgentAt A → AgentAt A → List Named → NamedReading → Type 0
IsNamedRead meaning old new reads (Read r) =
    IsStaleRead meaning new reads None × IsRead meaning old new (map (λ x. x.at) reads) r
IsNamedRead meaning old new reads (Stale l) = IsStaleRead meaning new reads (Some l) × HasFollowed old new
