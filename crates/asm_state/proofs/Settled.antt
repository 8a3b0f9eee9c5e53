-- Entries stay settled under the updates of a move.
use Rattle.std.proofs.Common.{◌≡◌, ℕ, ◌<◌, ◌==◌, Bool, true, false, cond, Option, Some, None, refl, ap, ◌∙◌, arith}
use Rattle.std.proofs.lemmas.Bool.Decides.{nat_tests}
use Rattle.std.specs.Option.{option_map_or}
use Rattle.std.specs.FinMap as finite
use Rattle.asm_element.specs.Place.{Place}
use Rattle.asm_element.specs.Value.{is_undef}
use Rattle.asm_element.specs.declared.value.Value.{Value}
use Rattle.asm_update.specs.State.{Updates}
use Rattle.asm_state.specs.declared.entries.WrittenValue.{WrittenValue}
use Rattle.asm_state.specs.View.{Entries, holds_undef, is_unwritten, AreSettled}
use Rattle.asm_state.specs.Follow.{written_by, entry_after}

written_holds : (n : ℕ) (v : Value) → holds_undef (written_by n v) ≡ false
written_holds n v = by_test (is_undef v) refl where
  by_test : (b : Bool) → is_undef v ≡ b → option_map_or is_undef (cond b None (Some v)) false ≡ false
  by_test true e = refl
  by_test false e = e

written_by_move : (n : ℕ) (v : Value) → 0 < n → is_unwritten (written_by n v) ≡ false
written_by_move n v lt = let no : (n == 0) ≡ false = grind (arith, nat_tests) in no

after_holds : (n : ℕ) (u : Option Value) (x : Option WrittenValue) → option_map_or holds_undef x false ≡ false → option_map_or holds_undef (entry_after n u x) false ≡ false
after_holds n (Some v) x h = written_holds n v
after_holds n None x h = h

after_written : (n : ℕ) (u : Option Value) (x : Option WrittenValue) → 0 < n → option_map_or is_unwritten x false ≡ false → option_map_or is_unwritten (entry_after n u x) false ≡ false
after_written n (Some v) x lt h = written_by_move n v lt
after_written n None x lt h = h

-- entries after updates are settled, if they were so before
pub settled_after : (n : ℕ) (U : Updates) (old new : Entries) → 0 < n → AreSettled old → ((l : Place) → finite.get new l ≡ entry_after n (finite.get U l) (finite.get old l)) → AreSettled new
settled_after n U old new lt s after = record {
  no_undef = λ l. ap (λ o. option_map_or holds_undef o false) (after l) ∙ after_holds n (finite.get U l) (finite.get old l) (s.no_undef l);
  all_written = λ l. ap (λ o. option_map_or is_unwritten o false) (after l) ∙ after_written n (finite.get U l) (finite.get old l) lt (s.all_written l);
}
