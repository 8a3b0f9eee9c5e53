use Rattle.std.proofs.Common.{List, ap, ◌∙◌}
use Rattle.std.specs.FinMap as finite
use Rattle.std.specs.Option.{option_map}
use Rattle.asm_step.specs.Layers.{Layer, alone_in, top_of}
use Rattle.asm_step.specs.declared.layer.OwnLayer.{OwnLayer}
use Rattle.asm_step.proofs.Prefixes.{own_by_index, own_top, top_alone, top_count, top_moves}
use Rattle.asm_step.proofs.step.Step.top.Goals as goal

pub returns-clause-moves : goal.returns-clause-moves
returns-clause-moves c =
    ap (option_map (λ (y : OwnLayer). y.moves)) (c.last.ensures.value ∙ own_by_index c.as_slice.result.now ∙ ap own_top c.as_slice.ensures.value)
    ∙ top_moves finite.empty c.self.inside.layers.items
    ∙ ap (λ (s : List Layer). option_map (λ (y : Layer). y.moves) (top_of s)) c.self.view_is

pub returns-clause-alone : goal.returns-clause-alone
returns-clause-alone c =
    ap (option_map alone_in) (c.last.ensures.value ∙ own_by_index c.as_slice.result.now ∙ ap own_top c.as_slice.ensures.value)
    ∙ top_alone finite.empty c.self.inside.layers.items
    ∙ ap (λ (s : List Layer). option_map (λ (y : Layer). y.alone) (top_of s)) c.self.view_is

pub returns-clause-count : goal.returns-clause-count
returns-clause-count c =
    ap (option_map (λ (y : OwnLayer). y.count)) (c.last.ensures.value ∙ own_by_index c.as_slice.result.now ∙ ap own_top c.as_slice.ensures.value)
    ∙ top_count finite.empty c.self.inside.layers.items
    ∙ ap (λ (s : List Layer). option_map (λ (y : Layer). y.count) (top_of s)) c.self.view_is
