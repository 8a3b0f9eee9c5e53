use Rattle.std.proofs.Common.{◌≡◌, sym, ap, ◌∙◌}
use Rattle.asm_element.specs.Place.{Place}
use Rattle.asm_element.specs.Same.{location_eq-same}
use Rattle.asm_storage.specs.declared.call.Reply.TheVariants as reply
use Rattle.asm_journal.specs.Check.{objection_reply}
use Rattle.asm_journal.proofs.checking.reports.Goals as goal

same_stale : (k l : Place) → reply.Stale k ≡ reply.Stale l → k ≡ l
same_stale k l e = cc

pub returns-in-Stale-Stale : goal.returns-in-Stale-Stale
returns-in-Stale-Stale c =
    let at = c.in-Stale-Stale.at in
    let reported = c.in-Stale-Stale.reported in
    let same = location_eq-same at reported in
    let wanted = ap objection_reply c.in-Stale-Stale.is-0 in (
      λ t. c.in-Stale-Stale.is-1 ∙ ap reply.Stale (sym (same.0 (sym c.eq.ensures ∙ t))) ∙ sym wanted,
      λ e. c.eq.ensures ∙ same.1 (sym (same_stale _ _ (sym c.in-Stale-Stale.is-1 ∙ e ∙ wanted))),
    )
