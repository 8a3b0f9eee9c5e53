use Rattle.std.proofs.Common.{List, ap, map, ◌∙◌}
use Rattle.serde_json.specs.Written.{compact_text}
use Rattle.asm_aggregate.specs.Standard.{standard_meaning}
use Rattle.asm_element.specs.Place.{Place}
use Rattle.asm_element.specs.declared.value.Value.{Value}
use Rattle.asm_journal.specs.Shape.{list_of}
use Rattle.asm_journal.specs.Value.{pair_json_of}
use Rattle.asm_state.specs.Listed.{by_value}
use Rattle.asm_slots.proofs.getting_all.found_text.Goals as goal

pub returns-clause-text : goal.returns-clause-text
unfolding standard_meaning
returns-clause-text c =
    let found = rw c.in-Some.is at c.in_ok-list.ensures.found in (
      found.0,
      found.1,
      (λ own. found.2 c.args.agent.now c.state.ensures.following own),
      c.in_ok-list_text.ensures
          ∙ ap (λ (es : List (Place × Value)). compact_text (list_of (map pair_json_of es))) (ap by_value c.deref.ensures.value ∙ found.3),
    )
