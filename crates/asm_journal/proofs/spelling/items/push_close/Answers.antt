use Rattle.asm_journal.proofs.Spelt.{two_pieces}
use Rattle.asm_journal.proofs.spelling.items.push_close.Goals as goal

pub returns : goal.returns
returns c = two_pieces _ _ _ _ _ c.in_ok-push_sign.ensures c.in_ok-push_sign-2.ensures
