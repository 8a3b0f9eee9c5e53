-- What a stack of frames shows at a location.
use Rattle.std.specs.Prelude.{Option, Some, None}
use Rattle.asm_element.specs.declared.value.Value.{Value}
use Rattle.asm_overlay.specs.declared.overlay.Seen.{Seen}
use Rattle.asm_overlay.specs.declared.overlay.Seen.TheVariants.{Held, Below}

-- the value that is held, if one is
abbrev pub held_value : Seen → Option Value
held_value (Held v) = Some v.now
held_value Below = None
