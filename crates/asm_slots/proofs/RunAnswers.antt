-- What calls on runs answer.
use Rattle.std.proofs.Common.{Result, Ok, Err, OnErr}

-- what holds with an error implies something else
pub on_err : {A E : Type 0} {P Q : Type 0} (r : Result A E) → (P → Q) → OnErr r P → OnErr r Q
on_err (Ok a) implies holds = tt
on_err (Err e) implies holds = implies holds
