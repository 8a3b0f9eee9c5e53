use Rattle.std.proofs.Common.{◌≡◌, ◌∷◌, ap, ◌∙◌, rules}
use Rattle.asm_journal.proofs.FrontObjects.{compact_line}
use Rattle.asm_journal.proofs.parsing.compact_event.Goals as goal

pub returns : goal.returns
returns c =
    let rest = c.in_ok-byte.rest.now in
    let two : c.args.limits.version ≡ 2 = search rules in
    let feed : c.in_ok-byte.byte.now ≡ 10 = search rules in
    compact_line c.args.text.now c.in_ok-event.left.now rest c.args.limits.version c.args.limits.agents c.in_ok-event.event c.in_ok-event.ensures
    (c.in_ok-byte.ensures.cases.0 ∙ ap (λ b. b ∷ rest) feed) two (c.fits.ensures.0 c.if-not-fits.false)
