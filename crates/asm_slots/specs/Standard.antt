-- What partial updates mean to C.
use Rattle.asm_update.specs.Aggregator.{Meaning}
pub use Rattle.asm_aggregate.specs.Standard.{Standard, standard_meaning as standard, standard_part as part}

-- what the standard aggregator computes, in the form for which contracts ask
abbrev pub meaning : Standard → Meaning
meaning _ = standard
