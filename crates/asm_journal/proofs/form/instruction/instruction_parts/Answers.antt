use Rattle.std.proofs.Common.{sym, ap, length, ◌∙◌}
use Rattle.serde_json.specs.View.{view}
use Rattle.asm_journal.proofs.Arrays.{none_gives, no_array_parts, no_word_parts, no_location_parts, no_text_parts, parts_are}
use Rattle.asm_journal.proofs.form.instruction.instruction_parts.Goals as goal

pub returns-in_err-as_array-clause-none : goal.returns-in_err-as_array-clause-none
returns-in_err-as_array-clause-none c =
    none_gives c.from_residual.result _ (no_array_parts (view c.args.json.now) c.in_err-as_array.ensures)

pub returns-in_err-word-clause-none : goal.returns-in_err-word-clause-none
returns-in_err-word-clause-none c =
    let items = c.in_ok-as_array.field-0.now.items in
    none_gives c.from_residual-in_err-word.result _ (no_word_parts (view c.args.json.now) items c.in_ok-as_array.ensures (ap length (sym c.deref.ensures.value) ∙ c.in_err-word.ensures.cases))

pub returns-in_err-at-clause-none : goal.returns-in_err-at-clause-none
returns-in_err-at-clause-none c =
    let items = c.in_ok-as_array.field-0.now.items in
    let first = sym c.deref.ensures.value ∙ c.in_ok-word.ensures.cases.0 in
    none_gives c.from_residual-in_err-at.result _ (no_location_parts (view c.args.json.now) items c.in_ok-word.rest.now c.in_ok-word.word.now c.in_ok-as_array.ensures first c.in_err-at.ensures.cases)

pub returns-in_err-as_str-clause-none : goal.returns-in_err-as_str-clause-none
returns-in_err-as_str-clause-none c =
    let items = c.in_ok-as_array.field-0.now.items in
    let first = sym c.deref.ensures.value ∙ c.in_ok-word.ensures.cases.0 in
    none_gives c.from_residual-in_err-as_str.result _ (no_text_parts (view c.args.json.now) items c.in_ok-word.rest.now c.in_ok-word.word.now c.in_ok-as_array.ensures first c.in_err-as_str.ensures)

pub returns-clause-some : goal.returns-clause-some
returns-clause-some c =
    let items = c.in_ok-as_array.field-0.now.items in
    let first = sym c.deref.ensures.value ∙ c.in_ok-word.ensures.cases.0 in
    parts_are (view c.args.json.now) items c.in_ok-word.rest.now c.in_ok-at.operands.now c.in_ok-word.word.now c.in_ok-at.at.now c.in_ok-as_str.field-0.now c.in_ok-as_array.ensures first c.in_ok-at.ensures.cases.0 c.in_ok-as_str.ensures
