use Rattle.std.proofs.Common.{refl, subst}
use Rattle.serde_json.specs.View.{view}
use Rattle.asm_storage.specs.History.{EventFits}
use Rattle.asm_journal.specs.Event.{IsEventForm}
use Rattle.asm_journal.proofs.Parsed.{IsParsed-some, IsParsed-none, true_and_false}
use Rattle.asm_journal.proofs.Events.{event_once}
use Rattle.asm_journal.proofs.parsing.event_by_tree.Goals as goal
use Rattle.asm_journal.proofs.parsing.event_by_tree.Goals.{in_default-via-in-Some+else-fits, in_default-via-in_default}

pub returns-in-Some-clause-ok : goal.returns-in-Some-clause-ok
returns-in-Some-clause-ok c =
    let d = view c.in_ok-json.json in
    let some = IsParsed-some IsEventForm d _ c.in-Some.event c.in-Some.is c.in_ok-event.ensures in
    (d, c.in_ok-json.ensures.ok, (some, c.fits.ensures.0 c.if-fits.true, c.is_of_version.ensures.0 c.if-not-is_of_version.false))

pub returns-clause-err : goal.returns-clause-err
returns-clause-err c =
    let d = view c.in_ok-json.json in (
      refl,
      (
        d,
        c.in_ok-json.rest.now,
        c.in_ok-json.ensures.ok,
        elim c.in_default.branch [
          | in_default-via-in-Some+else-fits w ↦ λ e h.
              let some = IsParsed-some IsEventForm d _ w.in-Some.event w.in-Some.is c.in_ok-event.ensures in
              let same = event_once e w.in-Some.event d h.0 some in
              true_and_false w.fits.result (w.fits.ensures.1 (subst (EventFits c.args.limits.agents) same h.1)) w.if-fits.false
          | in_default-via-in_default w ↦ λ e h. IsParsed-none IsEventForm d _ w.in_default.is c.in_ok-event.ensures e h.0
        ],
      ),
    )

pub returns-then-not-is_of_version-clause-err : goal.returns-then-not-is_of_version-clause-err
returns-then-not-is_of_version-clause-err c = (
  refl,
  (
    view c.in_ok-json.json,
    c.in_ok-json.rest.now,
    c.in_ok-json.ensures.ok,
    λ e h. true_and_false c.is_of_version.result (c.is_of_version.ensures.1 h.2) c.if-not-is_of_version.true,
  ),
)
