-- Storages that are opened, and that continue where others ended.
use Rattle.std.proofs.Common.{◌≡◌, ◌∙◌, ℕ, List, length, subst, sym}
use Rattle.asm_update.specs.Fire.{state_of}
use Rattle.asm_update.specs.State.{State}
use Rattle.asm_storage.specs.History.{fired_moves}
use Rattle.asm_storage.specs.Storage.{StorageView}
use Rattle.asm_storage.specs.declared.history.History.{History}
use Rattle.asm_journal.specs.Reading.{ReadsAs}
use Rattle.asm_journal.specs.Text.{text_of}
use Rattle.asm_slots.specs.LongLines.{IsLongState}
use Rattle.asm_slots.specs.NextStore.{HasOpened}
use Rattle.asm_slots.specs.ClosedJournal.{Leaves}
use Rattle.asm_slots.specs.Standard.{Standard, part}

-- a text reads back as the history that it is of, so it leaves what the history's moves leave
pub leaves : (text : List ℕ) (S : State) (h : History) → text ≡ text_of h → ReadsAs (text_of h) h →
    S ≡ state_of part h.init (fired_moves h.events) → Leaves text S
leaves text S h same reads left = record {
  history = h;
  reads = subst (λ (t : List ℕ). ReadsAs t h) (sym same) reads;
  left = left;
}

-- a storage that opens with what is retained
pub has_opened : (s : StorageView Standard) (bytes text : List ℕ) (S T : State) (most : ℕ) → text ≡ bytes → T ≡ S → Leaves text S →
    s.init ≡ T → length s.row ≡ most → HasOpened bytes most s
has_opened s bytes text S T most same kept leaves init room = record {
  init = subst (Leaves bytes) (sym (init ∙ kept)) (subst (λ (t : List ℕ). Leaves t S) same leaves);
  capacity = room;
}

pub still_short : (init S T D : State) → init ≡ T → T ≡ S → D ≡ S → ¬ IsLongState D → ¬ IsLongState init
still_short init S T D opens kept same short = subst (λ (x : State). ¬ IsLongState x) (same ∙ sym (opens ∙ kept)) short
