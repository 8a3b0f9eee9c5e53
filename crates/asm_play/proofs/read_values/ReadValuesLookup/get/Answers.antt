use Rattle.std.proofs.Common.{Option, Bor, refl, sym, ap, ◌∙◌, arith}
use Rattle.std.specs.Option.{option_copied}
use Rattle.asm_storage.specs.Calls.{ReadingView}
use Rattle.asm_play.specs.Trying.{read_value}
use Rattle.asm_play.proofs.Readings.{reports_here, reports_later, reports_none}
use Rattle.asm_play.proofs.read_values.ReadValuesLookup.get.Goals as goal

pub loop-i-init : goal.loop-i-init
loop-i-init c = refl

pub returns-then-eq-clause-value : goal.returns-then-eq-clause-value
returns-then-eq-clause-value c =
    let r = c.in_ok-reading.reading.now in
    let here = reports_here r c.args.at.now c.loop-i.i c.loop-i.invariant c.at.result.now c.value-value.result.now
    c.at.ensures c.value-value.ensures (sym c.eq.ensures ∙ c.if-eq.true) in
    c.unless_undef.ensures.value ∙ sym here
    ∙ ap (λ (o : Option (Bor ReadingView)). read_value (option_copied o) c.args.at.now) (sym c.in_ok-reading.was)

pub returns-then-eq-clause-none : goal.returns-then-eq-clause-none
returns-then-eq-clause-none c =
    let r = c.in_ok-reading.reading.now in
    let here = reports_here r c.args.at.now c.loop-i.i c.loop-i.invariant c.at.result.now c.value-value.result.now
    c.at.ensures c.value-value.ensures (sym c.eq.ensures ∙ c.if-eq.true) in
    let is = ap (λ (o : Option (Bor ReadingView)). read_value (option_copied o) c.args.at.now) c.in_ok-reading.was
    ∙ here in (
      (λ none. is ∙ c.unless_undef.ensures.none.0 none),
      (λ none. c.unless_undef.ensures.none.1 (sym is ∙ none)),
    )

pub loop-i-preserved : goal.loop-i-preserved
loop-i-preserved c =
    reports_later c.in_ok-reading.reading.now c.args.at.now c.loop-i.i c.loop-i.invariant c.at.result.now
    c.value-value.result.now c.at.ensures c.value-value.ensures
    (sym c.eq.ensures ∙ c.if-eq.false)

pub returns-clause-value : goal.returns-clause-value
returns-clause-value c =
    let r = c.in_ok-reading.reading.now in
    sym (ap (λ (o : Option (Bor ReadingView)). read_value (option_copied o) c.args.at.now) c.in_ok-reading.was
    ∙ reports_none r c.args.at.now c.loop-i.i c.loop-i.invariant
    (omega (arith, c.loop-i-test.false, c.len-i-end.ensures)))

pub returns-clause-none : goal.returns-clause-none
returns-clause-none c =
    let r = c.in_ok-reading.reading.now in (
      (λ _. ap (λ (o : Option (Bor ReadingView)). read_value (option_copied o) c.args.at.now) c.in_ok-reading.was
          ∙ reports_none r c.args.at.now c.loop-i.i c.loop-i.invariant
          (omega (arith, c.loop-i-test.false, c.len-i-end.ensures))),
      (λ _. refl),
    )
