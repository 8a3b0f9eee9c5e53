use Rattle.std.proofs.Common.{◌≡◌, Option, Some, rules, string_bytes, subst, sym}
use Rattle.asm_slots.specs.Answers.{EmptyOr}
use Rattle.asm_slots.specs.RunReads.{IsNoRunState, IsRunState}
use Rattle.asm_slots.specs.Runs.{HoldsNoRun, HoldsRun}
use Rattle.asm_slots.specs.Slots.{content_of}
use Rattle.asm_slots.specs.declared.content.Content.{Content}
use Rattle.asm_slots.specs.declared.content.Content.TheVariants as content
use Rattle.asm_slots.proofs.WrittenTexts.{written}
use Rattle.asm_slots.proofs.running.state.Goals as goal

pub returns-clause-text : goal.returns-clause-text
returns-clause-text c =
    let run : content_of c.args.slot.now ≡ Some (content.Run c.in-Run.run') = search rules in
    let slot = content_of c.args.slot.now in
    written (λ text. HoldsRun slot (λ x. IsRunState x text))
    (EmptyOr (HoldsNoRun slot) (λ k. HoldsRun slot (λ x. IsNoRunState x k)))
    c.as_bytes.result.now (string_bytes c.in_ok-text.text) c.args.out.now c.write.new.out c.write.new.written c.write.result
    c.as_bytes.ensures.value
    (subst (λ (x : Option Content). HoldsRun x (λ a. IsRunState a (string_bytes c.in_ok-text.text))) (sym run) c.in_ok-text.ensures.ok)
    c.write.ensures.written c.write.ensures.copied c.write.ensures.small c.write.ensures.room c.write.ensures.unwritten
