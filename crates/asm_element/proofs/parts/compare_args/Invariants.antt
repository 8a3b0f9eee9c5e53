use Rattle.std.proofs.Common.{◌≡◌, length}
use Rattle.std.specs.Cmp.Lexicographic.{slice_cmp}
use Rattle.asm_element.specs.Element.{element_cmp}
use Rattle.asm_element.proofs.parts.compare_args.Given as goal

-- what is left decides, and both sides have as much left
abbrev pub invariant-loop-arg : goal.invariant-loop-arg
invariant-loop-arg l =
    (length l.arg-iterator.a.rest.now ≡ length l.arg-iterator.b.rest.now)
    × (slice_cmp element_cmp l.arg-iterator.a.rest.now l.arg-iterator.b.rest.now ≡ slice_cmp element_cmp l.args l.others)
