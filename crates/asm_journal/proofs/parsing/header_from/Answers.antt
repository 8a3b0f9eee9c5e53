use Rattle.std.proofs.Common.{sym, subst, ◌∙◌}
use Rattle.serde_json.specs.View.{view}
use Rattle.asm_journal.specs.Value.{IsStateForm}
use Rattle.asm_journal.proofs.Parsed.{IsParsed-some, IsParsed-none, true_and_false}
use Rattle.asm_journal.proofs.Arrays.{same_number}
use Rattle.asm_journal.proofs.OneHistory.{header_parts}
use Rattle.asm_journal.proofs.parsing.header_from.Goals as goal

pub returns-in_default : goal.returns-in_default
returns-in_default c = λ x h. c.in_default.ensures.none h.0 h.1 h.2 h.3 h.4 h.5

pub returns-in-Some-2 : goal.returns-in-Some-2
returns-in-Some-2 c =
    let p = c.in-Some in
    let init = view p.init.now in
    let state = IsParsed-some IsStateForm init _ c.in-Some-2.init c.in-Some-2.is c.in_ok-init.ensures in
    (view p.agents.now, view p.capacity.now, view p.events.now, init, view p.version.now, p.ensures.some, c.in-Some-limits_of.ensures.some, state, c.is_of_version.ensures.0 c.if-not-is_of_version.false)

pub returns-in-None : goal.returns-in-None
returns-in-None c = λ x h.
    let init = view c.in-Some.init.now in
    let parts = header_parts _ _ _ _ _ _ _ _ _ _ (sym h.5 ∙ c.in-Some.ensures.some) in
    IsParsed-none IsStateForm init _ c.in-None.is c.in_ok-init.ensures x.init (subst (IsStateForm x.init) parts.3 h.7)

pub returns-then-not-is_of_version : goal.returns-then-not-is_of_version
returns-then-not-is_of_version c = λ x h.
    let parts = header_parts _ _ _ _ _ _ _ _ _ _ (sym h.5 ∙ c.in-Some.ensures.some) in
    let same = same_number _ _ (sym h.6.3 ∙ parts.4 ∙ c.in-Some-limits_of.ensures.some.3) in
    true_and_false c.is_of_version.result (c.is_of_version.ensures.1 (λ e. h.8 (same ∙ e))) c.if-not-is_of_version.true

pub returns-in_default-limits_of : goal.returns-in_default-limits_of
returns-in_default-limits_of c = λ x h.
    let parts = header_parts _ _ _ _ _ _ _ _ _ _ (sym h.5 ∙ c.in-Some.ensures.some) in
    let n = x.limits in
    c.in_default-limits_of.ensures.none n.version n.agents n.capacity n.events
    (sym parts.0 ∙ h.6.0, sym parts.1 ∙ h.6.1, sym parts.2 ∙ h.6.2, sym parts.4 ∙ h.6.3, h.6.4, h.6.5)
