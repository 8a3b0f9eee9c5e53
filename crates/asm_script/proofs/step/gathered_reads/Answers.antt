use Rattle.std.proofs.Common.{List, ◌++◌, ◌∷◌, [], sym, ap, ◌∙◌}
use Rattle.std.proofs.lemmas.List.{take_all}
use Rattle.asm_element.specs.Place.{Place}
use Rattle.asm_script.specs.StepReads.{taken}
use Rattle.asm_script.proofs.Gathering.{gathered, named-gathered, reads_from}
use Rattle.asm_script.proofs.step.gathered_reads.Goals as goal

pub returns : goal.returns
returns c =
    let blocks = c.args.earlier.now in
    let last = c.args.last.now in
    let earlier = ap gathered (take_all c.loop-block.block-index blocks c.loop-block-test.false) in
    let all = c.in_ok-push_terms-2.ensures
    ∙ ap (λ (ls : List Place). ls ++ taken last) (c.loop-block.invariant ∙ earlier) in
    reads_from (blocks ++ last ∷ []) c.push_terms-2.new.places.items c.sort_unstable.new.self.items
    c.dedup.new.self.items (all ∙ sym (named-gathered blocks last)) c.sort_unstable.ensures.permutation
    c.sort_unstable.ensures.sorted c.dedup.ensures.filtered
