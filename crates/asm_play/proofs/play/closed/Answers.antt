use Rattle.std.proofs.Common.{◌∙◌, ap, sym, subst, All}
use Rattle.asm_storage.specs.Agents.{ids}
use Rattle.asm_update.specs.Aggregator.{Meaning}
use Rattle.asm_storage.specs.Storage.{accounts, IsOf}
use Rattle.asm_play.proofs.ClosedPlay.{closes, ids_are, not_closed, of_storage, range_rises, reported_later}
use Rattle.asm_play.proofs.ProperMoves.{history_proper}
use Rattle.asm_play.proofs.play.closed.Goals as goal

pub close-requires-clause-of_this : goal.close-requires-clause-of_this
close-requires-clause-of_this c κs =
    let s = c.args.storage.now in
    subst (All (IsOf s)) (sym c.as_slice.ensures.value) (of_storage _ s 0 _ _ _ c.requires.agents.1)

pub close-requires-clause-ascending : goal.close-requires-clause-ascending
close-requires-clause-ascending c κs =
    let s = c.args.storage.now in
    range_rises 0 _ _
    (ap (λ agents. ids (accounts agents)) c.as_slice.ensures.value ∙ ids_are _ s 0 _ _ _ c.requires.agents.1)

pub returns-in-Ok-clause-played : goal.returns-in-Ok-clause-played
returns-in-Ok-clause-played c =
    let s = c.args.storage.now in
    closes _ s _ _ _ _ _ c.as_slice.ensures.value (ap (λ (m : Meaning). m.part) c.requires.meaning)
    c.requires.init c.requires.agents.1 c.in-Ok.ensures.history c.in-Ok.ensures.init c.in-Ok.ensures.capacity c.in-Ok.ensures.agents
    (c.new.ensures ∙ c.requires.agents.2) (c.new-in-Ok.ensures ∙ c.requires.agents.3)
    (history_proper c.in-Ok.history c.proper.ensures)

pub returns-clause-later : goal.returns-clause-later
returns-clause-later c = reported_later _ _ c.from.ensures

pub returns-clause-missing : goal.returns-clause-missing
returns-clause-missing c =
    not_closed _ _ _ _ c.as_slice.ensures.value c.in-Err.ensures.missing c.from.ensures
