use Rattle.std.proofs.Common.{List, ap, map, string_bytes, ◌∙◌}
use Rattle.serde_json.specs.Written.{compact_text}
use Rattle.asm_element.specs.Place.{Place}
use Rattle.asm_element.specs.declared.value.Value.{Value}
use Rattle.asm_journal.specs.Shape.{list_of}
use Rattle.asm_journal.specs.Value.{pair_json_of}
use Rattle.asm_state.specs.Listed.{by_value}
use Rattle.asm_slots.proofs.OwnStates.{own_of_name}
use Rattle.asm_slots.proofs.own_state.own_of_name.Goals as goal

pub returns : goal.returns
returns c =
    let found = rw c.in-Some.is at c.in_ok-list.ensures in
    own_of_name c.args.agent.now c.state-state.result.now found.0 c.args.name.now c.number.result (string_bytes c.in_ok-text.text)
    c.state-state.ensures.following c.state-state.ensures.number c.number.ensures found.1 found.2
    (c.in_ok-text.ensures
    ∙ ap (λ (es : List (Place × Value)). compact_text (list_of (map pair_json_of es))) (ap by_value c.deref.ensures.value ∙ found.3))
