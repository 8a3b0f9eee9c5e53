use Rattle.std.proofs.Common.{ℕ, ◌<◌, ◌≤◌, sym, subst, ◌∙◌, inl, inr, arith}
use Rattle.std.specs.Prelude.{◌^◌}
use Rattle.asm_row.specs.Limits.{capacity_limit}
use Rattle.asm_storage.specs.Limits.{agents_limit, events_limit}
use Rattle.asm_journal.specs.Shape.{IsVersion}
use Rattle.asm_journal.proofs.Parsed.{true_and_false}
use Rattle.asm_journal.proofs.Arrays.{same_number, none_gives}
use Rattle.asm_journal.proofs.parsing.limits_of.Goals as goal

few : (n : ℕ) → n ≤ events_limit → n < 2 ^ 32
few n h = omega (arith, h)

small : (v : ℕ) → IsVersion v → v ≤ events_limit
small v (inl one) = omega (arith, one)
small v (inr two) = omega (arith, two)

pub returns-in_err-agents-clause-none : goal.returns-in_err-agents-clause-none
returns-in_err-agents-clause-none c =
    none_gives c.from_residual.result _ (λ v a k n h. c.in_err-agents.ensures a (few a (omega (arith, h.5.0)), h.0))

pub returns-in_err-capacity-clause-none : goal.returns-in_err-capacity-clause-none
returns-in_err-capacity-clause-none c =
    none_gives c.from_residual-in_err-capacity.result _ (λ v a k n h. c.in_err-capacity.ensures k (few k (omega (arith, h.5.2)), h.1))

pub returns-in_err-events-clause-none : goal.returns-in_err-events-clause-none
returns-in_err-events-clause-none c =
    none_gives c.from_residual-in_err-events.result _ (λ v a k n h. c.in_err-events.ensures n (few n h.5.3, h.2))

pub returns-in_err-version-clause-none : goal.returns-in_err-version-clause-none
returns-in_err-version-clause-none c =
    none_gives c.from_residual-in_err-version.result _ (λ v a k n h. c.in_err-version.ensures v (few v (small v h.4), h.3))

pub returns-clause-some : goal.returns-clause-some
returns-clause-some c =
    let taken = c.are_supported.ensures.0 c.if-not-are_supported.false in
    let events : c.in_ok-events.events ≤ events_limit = omega (arith, c.in_ok-events.ensures.0) in
    (c.in_ok-agents.ensures.1, c.in_ok-capacity.ensures.1, c.in_ok-events.ensures.1, c.in_ok-version.ensures.1, taken.0, (taken.1, taken.2, taken.3, events))

pub returns-then-not-are_supported-clause-none : goal.returns-then-not-are_supported-clause-none
returns-then-not-are_supported-clause-none c = λ v a k n h.
    let agents = same_number _ _ (sym h.0 ∙ c.in_ok-agents.ensures.1) in
    let capacity = same_number _ _ (sym h.1 ∙ c.in_ok-capacity.ensures.1) in
    let version = same_number _ _ (sym h.3 ∙ c.in_ok-version.ensures.1) in
    let taken : IsVersion c.in_ok-version.version × (c.in_ok-agents.agents ≤ agents_limit) × (1 ≤ c.in_ok-capacity.capacity) × (c.in_ok-capacity.capacity ≤ capacity_limit) =
    (subst IsVersion version h.4, subst (λ m. m ≤ agents_limit) agents h.5.0, subst (λ m. 1 ≤ m) capacity h.5.1, subst (λ m. m ≤ capacity_limit) capacity h.5.2) in
    true_and_false c.are_supported.result (c.are_supported.ensures.1 taken) c.if-not-are_supported.true
