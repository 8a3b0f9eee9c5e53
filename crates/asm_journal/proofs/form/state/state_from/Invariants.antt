use Rattle.std.proofs.Common.{◌≡◌, ◌++◌, List, vec_len}
use Rattle.asm_element.specs.Place.{Place}
use Rattle.asm_element.specs.declared.value.Value.{Value}
use Rattle.asm_journal.specs.Value.{IsStateOf}
use Rattle.asm_journal.proofs.EntriesKept.{AreRead}
use Rattle.asm_journal.proofs.Values.{pairs_seen}
use Rattle.asm_journal.proofs.form.state.state_from.Given as goal

abbrev pub decreases-loop-at : goal.decreases-loop-at
decreases-loop-at l = vec_len l.pairs

-- the state is that of the last pairs, whose locations are those that were read
abbrev pub invariant-loop-at : goal.invariant-loop-at
invariant-loop-at l = record {
  done : List (Place × Value);
  whole : pairs_seen l.pairs.items ++ done ≡ pairs_seen l.fn.pairs.items;
  made : IsStateOf l.state done;
  read : AreRead l.state l.undefined done;
}
