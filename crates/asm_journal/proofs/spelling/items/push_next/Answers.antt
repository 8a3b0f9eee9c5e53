use Rattle.asm_journal.proofs.Spelt.{two_pieces}
use Rattle.asm_journal.proofs.spelling.items.push_next.Goals as goal

pub returns : goal.returns
returns g c =
    two_pieces _ _ _ _ _ c.in_ok-push_comma.ensures c.in_ok-push_text.ensures
