use Rattle.asm_journal.proofs.Spelt.{two_pieces}
use Rattle.asm_journal.proofs.writing.push_event.Goals as goal

pub returns : goal.returns
returns c = two_pieces _ _ _ _ _ c.in_ok-push_text.ensures c.in_ok-push_sign.ensures
