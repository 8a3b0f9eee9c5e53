use Rattle.std.proofs.Common.{◌≡◌, ◌∙◌, [], ap, refl, sym, w32, w64, to_z, length}
use borrow.Author.Tests.{eqb-true}
use Rattle.std.proofs.lemmas.List.{nil_from_length}
use Rattle.std.proofs.Math.Facts.{to_z-of_z}
use Rattle.asm_slots.specs.Kinds.{ASM_KIND_NUM}
use Rattle.asm_slots.proofs.operands.increment_of.Goals as goal

pub returns-clause-ok : goal.returns-clause-ok
returns-clause-ok c =
    let kind : c.args.kind ≡ ASM_KIND_NUM = sym (to_z-of_z {w = w32} c.ranges.kind) ∙ ap (to_z w32) c.if-kind-ne-NUM.false in
    let none : c.args.bytes.now ≡ [] = nil_from_length c.args.bytes.now (eqb-true (length c.args.bytes.now) 0 (sym c.is_empty.ensures ∙ c.if-not-is_empty.false)) in (
      refl,
      c.if-amount-ne0.false,
      (kind, sym (to_z-of_z {w = w64} c.ranges.number), none),
    )
