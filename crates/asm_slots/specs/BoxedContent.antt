-- What a handle owns beside its fields.
use Rattle.std.specs.Prelude.{Option, None, Some}
use mathlib.Core.Bool.{Bool, true, false}
use mir.Syntax.{Ty}
use base.Fml.{Fml, ftrue}
use denote.RawPtr.{Ptr}
use Rattle.std_alloc.specs.Box.Ownership.{box_owns}
use Rattle.asm_slots.specs.declared.content.Content.{Content}
use Rattle.asm_slots.specs.contracts.content.Content.{the_row}

-- the box behind the pointer, if there is one
abbrev pub option_box_owns : (Ty → Ptr → Fml) → Ptr → Option Content → Fml
option_box_owns token at None = ftrue
option_box_owns token at (Some v) = box_owns token the_row at v

-- whether there is one
abbrev pub is_some : Option Content → Bool
is_some None = false
is_some (Some v) = true
