use Rattle.std.proofs.Common.{Ok, ap, ◌∙◌}
use Rattle.asm_journal.specs.Value.{IsPairForm, IsStateOf}
use Rattle.asm_journal.proofs.FrontObjects.{made_begins, made_of}
use Rattle.asm_journal.proofs.Elements.{list_seen}
use Rattle.asm_journal.proofs.Values.{pair_seen, pairs_seen}
use Rattle.asm_journal.proofs.front.state.PlainStateFromFront.from_front.Goals as goal

pub returns : goal.returns
returns c =
    let state = c.in-Ok-Some.state in
    let pairs = c.in_ok-pairs.pairs in
    let b = c.in_ok-pairs.ensures in
    made_begins IsPairForm IsStateOf c.args.text.now c.in_ok-pairs.rest.now (pairs_seen pairs) state
    (b.0, b.1, list_seen pair_seen IsPairForm pairs b.0 b.2)
    (made_of IsStateOf pairs_seen c.into_vec.result.items pairs c.state_from.result state c.into_vec.ensures c.state_from.ensures
    (c.in-Ok-Some.is ∙ ap Ok c.in-Ok-Some.field-0-is))
