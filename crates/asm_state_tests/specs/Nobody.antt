-- The aggregator that owns no family: every group and every join is `Mixed`.
use Rattle.std.specs.Prelude.{false, Err}
use Rattle.asm_update.specs.Aggregator.{Meaning, Refused}
use Rattle.asm_update.specs.declared.clash.Cause.TheVariants.{Mixed}

-- it has no result and no join
abbrev pub nobody_meaning : Meaning
nobody_meaning = record { owns = λ _. false; part = λ _ _ _. Err Mixed; joins = λ _ _. Err (Refused Mixed) }
