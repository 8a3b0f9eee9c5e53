-- What becomes of a slot once a borrow of what it holds ends.
use Rattle.std.specs.Prelude.{Option, Some, true, refl}
use Rattle.std.specs.Borrow.{MutBor, Fml, Lends, LendsIf}
use Rattle.asm_slots.specs.declared.content.Content.{Content}
use Rattle.asm_slots.specs.contracts.content.Content.{the_row as content_row}
use Rattle.asm_slots.specs.declared.handle.Handle.{Handle}
use Rattle.asm_slots.specs.contracts.handle.Handle.{the_row as handle_row}
use Rattle.asm_slots.specs.declared.slot.Slot.{Slot}
use Rattle.asm_slots.specs.contracts.slot.Slot.{the_row as slot_row}

-- the handle with w in its box
abbrev pub with_value : Handle → Content → Handle
with_value h w = record { at = h.at; alloc = h.alloc; value = Some w }

-- once the borrow r ends, the box behind h holds the last value written through r
abbrev pub handle_follows : MutBor Handle → MutBor Content → Fml
handle_follows h r = Lends handle_row content_row h r (with_value h.now)

-- the slot with w in it
abbrev pub slot_with : Slot → Content → Slot
slot_with s w = record { full = true; handle = with_value s.handle w; tag = refl }

-- once the borrow r ends, the slot holds the last value written through r
abbrev pub slot_follows : MutBor Slot → MutBor Content → Fml
slot_follows s r = Lends slot_row content_row s r (slot_with s.now)

-- the same where there is one; else the slot is as it was
abbrev pub slot_follows_if : MutBor Slot → Option (MutBor Content) → Fml
slot_follows_if s r = LendsIf slot_row content_row s r (slot_with s.now) s.now
