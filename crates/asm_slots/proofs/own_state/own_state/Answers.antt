use Rattle.std.proofs.Common.{◌≡◌, Option, Some, rules, string_bytes, subst, sym}
use Rattle.asm_slots.specs.Answers.{EmptyOr, IsMemory}
use Rattle.asm_slots.specs.OwnState.{IsOwnState}
use Rattle.asm_slots.specs.Slots.{Holds, Lacks, an_agent, content_of}
use Rattle.asm_slots.specs.declared.content.Content.{Content}
use Rattle.asm_slots.specs.declared.content.Content.TheVariants as content
use Rattle.asm_slots.proofs.WrittenTexts.{written}
use Rattle.asm_slots.proofs.own_state.own_state.Goals as goal

pub returns-clause-text : goal.returns-clause-text
returns-clause-text c =
    let own = c.in_ok-own.own in
    let agent : content_of c.args.agent.now ≡ Some (content.Agent c.in-Agent.inner) = search rules in
    written (λ text. Holds an_agent (content_of c.args.agent.now) (λ a. IsOwnState a own.number text))
    (λ k. (own.number ≡ 0) × EmptyOr (Lacks an_agent (content_of c.args.agent.now)) IsMemory k)
    c.as_bytes.result.now (string_bytes own.text) c.args.out.now c.write.new.out c.write.new.written c.write.result
    c.as_bytes.ensures.value
    (subst (λ (x : Option Content). Holds an_agent x (λ a. IsOwnState a own.number (string_bytes own.text))) (sym agent) c.in_ok-own.ensures)
    c.write.ensures.written c.write.ensures.copied c.write.ensures.small c.write.ensures.room c.write.ensures.unwritten
