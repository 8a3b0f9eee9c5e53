use Rattle.std.proofs.Common.{ap, sym, ◌∙◌, ◌++◌, string_bytes}
use Rattle.asm_journal.proofs.Spelt.{quoted_plain}
use Rattle.asm_journal.proofs.spelling.scalars.push_quoted.Goals as goal

pub returns-then-are_own : goal.returns-then-are_own
returns-then-are_own c =
    c.in_ok-push_plain.ensures
    ∙ ap (λ l. string_bytes c.args.text.now ++ l) (quoted_plain c.args.body.now (sym c.are_own.ensures ∙ c.if-are_own.true))
