-- Bytes that aren't read as a fire.
use Rattle.std.proofs.Common.{List, ℕ}
use Rattle.asm_storage.specs.declared.call.Call.TheVariants as call
use Rattle.asm_journal.specs.Event.{IsCallForm}
use Rattle.asm_explain.specs.Bytes.{IsFireForm, IsMisread}
use Rattle.asm_explain.specs.declared.reading.TextError.{TextError}
use Rattle.asm_explain.specs.declared.reading.TextError.TheVariants as error

-- what isn't read as a call isn't read as a fire
pub misread_fire : (bytes : List ℕ) (e : TextError) → IsMisread IsCallForm bytes e → IsMisread IsFireForm bytes e
misread_fire bytes error.NotJson m = m
misread_fire bytes error.Shape m = (m.0, m.1, λ fire. m.2 (call.Fire fire.0 fire.1))
misread_fire bytes error.Memory m = tt
