use Rattle.asm_journal.proofs.Spelt.{three_pieces}
use Rattle.asm_journal.proofs.spelling.items.push_key.Goals as goal

pub returns : goal.returns
returns c =
    three_pieces _ _ _ _ _ _ _ c.in_ok-push_comma.ensures c.in_ok-push_quoted.ensures c.in_ok-push_sign.ensures
