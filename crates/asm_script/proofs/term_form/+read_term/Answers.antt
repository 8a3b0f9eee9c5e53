use Rattle.std.proofs.Common.{arith, sym, subst}
use Rattle.serde_json.specs.View.{view}
use Rattle.asm_journal.specs.Element.{IsLocationForm}
use Rattle.asm_journal.specs.Form.{IsFault}
use Rattle.asm_journal.proofs.Carried.{carried, carried_err, refused}
use Rattle.asm_script.specs.TermForm.{IsTermForm}
use Rattle.asm_script.proofs.TermForms.{no_val, no_keys, no_first, no_second, first_depth, second_depth}
use Rattle.asm_script.proofs.term_form.+read_term.Goals as goal

pub returns-in_err-at : goal.returns-in_err-at
returns-in_err-at t c =
    let d = view c.args.json.now in
    let plain = c.in-Err-Form.ensures (subst IsFault (sym c.in-Err-Form.field-0-is) tt) in
    let at = view c.in-Some.at.now in
    refused IsTermForm d _ c.in_err-at.field-0.0 c.from_residual.ensures.1
    (λ fault. no_val d plain at c.in-Some.ensures.some
    (carried_err IsLocationForm at _ _ c.from_json-in-Some.ensures c.in_err-at.ensures.carried fault))

pub returns-in_default-terms_of : goal.returns-in_default-terms_of
returns-in_default-terms_of t c =
    let d = view c.args.json.now in
    let plain = c.in-Err-Form.ensures (subst IsFault (sym c.in-Err-Form.field-0-is) tt) in
    λ fault. no_keys d plain c.in_default.ensures.none c.in_default-terms_of.ensures.none

pub read_term-requires : goal.read_term-requires
read_term-requires t c =
    let d = view c.args.json.now in
    (omega (arith, c.decreases, first_depth d _ _ c.in-Some-terms_of.ensures.some), tt)

pub returns-in_err-first : goal.returns-in_err-first
returns-in_err-first t c =
    let d = view c.args.json.now in
    let plain = c.in-Err-Form.ensures (subst IsFault (sym c.in-Err-Form.field-0-is) tt) in
    let a = view c.in-Some-terms_of.first.now in
    let read = carried IsTermForm a _ _ c.read_term.ensures c.within.ensures.carried in
    refused IsTermForm d _ c.in_err-first.field-0.0 c.from_residual-in_err-first.ensures.1
    (λ fault. no_first d plain a _ c.in-Some-terms_of.ensures.some
    (carried_err IsTermForm a _ _ read c.in_err-first.ensures.carried fault))

pub read_term-requires-2 : goal.read_term-requires-2
read_term-requires-2 t c =
    let d = view c.args.json.now in
    (omega (arith, c.decreases, second_depth d _ _ c.in-Some-terms_of.ensures.some), tt)

pub returns-in_err-second : goal.returns-in_err-second
returns-in_err-second t c =
    let d = view c.args.json.now in
    let plain = c.in-Err-Form.ensures (subst IsFault (sym c.in-Err-Form.field-0-is) tt) in
    let b = view c.in-Some-terms_of.second.now in
    let read = carried IsTermForm b _ _ c.read_term-2.ensures c.within-2.ensures.carried in
    refused IsTermForm d _ c.in_err-second.field-0.0 c.from_residual-in_err-second.ensures.1
    (λ fault. no_second d plain _ b c.in-Some-terms_of.ensures.some
    (carried_err IsTermForm b _ _ read c.in_err-second.ensures.carried fault))
