use Rattle.std.proofs.Common.{List, ℕ, string_bytes, subst}
use Rattle.asm_element.specs.Place.{Place}
use Rattle.asm_slots.specs.StepCalls.{AreSeen}
use Rattle.asm_slots.specs.WrittenText.{IsCopied}
use Rattle.asm_slots.proofs.steps.get_in.Goals as goal

pub returns-clause-text : goal.returns-clause-text
returns-clause-text c = (
  string_bytes c.in_ok-text.text,
  (
    c.in_ok-text.ensures.reached,
    (
      c.in_ok-locations.locations.items,
      c.in_ok-locations.ensures.ok,
      subst (λ (ls : List Place). AreSeen ls c.args.agent.now c.args.step.now (string_bytes c.in_ok-text.text)) c.deref.ensures.value
          c.in_ok-text.ensures.text,
    ),
  ),
  subst (λ (t : List ℕ). IsCopied t c.args.out.now c.copy_into.new.out c.copy_into.new.written) c.as_bytes-2.ensures.value c.copy_into.ensures.copied,
)
