use Rattle.std.proofs.Common.{ap, ◌∙◌, ◌++◌, string_bytes}
use Rattle.std.specs.Fmt.{signed_decimal}
use Rattle.std.specs.Int.{w64}
use Rattle.std.proofs.Math.Facts.{to_z-of_z}
use Rattle.asm_journal.proofs.Spelt.{integer_text}
use Rattle.asm_journal.proofs.spelling.scalars.push_integer.Goals as goal

pub returns : goal.returns
returns c =
    let same = to_z-of_z {w = w64} c.ranges.number in
    c.in_ok-push_str.ensures.bytes
    ∙ ap (λ l. string_bytes c.args.text.now ++ l) (c.format.ensures.text ∙ ap signed_decimal same ∙ integer_text c.args.number)
