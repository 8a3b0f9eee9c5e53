use Rattle.asm_journal.proofs.FrontObjects.{whole_text, no_rest}
use Rattle.asm_journal.proofs.front.read_compact.Goals as goal

pub returns-then-is_empty : goal.returns-then-is_empty
returns-then-is_empty g c =
    whole_text g.T.FromJson.is_form g.T.FromFront.nests g.met.T.FromFront.clean c.requires c.args.bytes.now c.in_ok-found.found c.in_ok-found.rest.now
    c.in_ok-found.ensures (no_rest c.in_ok-found.rest.now c.if-is_empty.ensures)
