-- Tables of causes that give a value.
use Rattle.std.proofs.Common.{◌≡◌, Bool, true, false, cond, refl}
use Rattle.std.specs.Prelude.{Result, Ok, Err}

-- a test of the table failed, where it gives a value
pub passed : {A E : Type 0} (b : Bool) (cause : E) (rest : Result A E) (w : A) → cond b (Err cause) rest ≡ Ok w →
    (b ≡ false) × (rest ≡ Ok w)
passed true cause rest w h = cc
passed false cause rest w h = (refl, h)
