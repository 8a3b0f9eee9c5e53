use Rattle.std.proofs.Common.{◌≡◌, ap, sym, ◌∙◌, rules}
use Rattle.std.proofs.lemmas.List.{nil_from_length}
use Rattle.std.specs.Option.{option_or}
use Rattle.asm_overlay.specs.Frames.{Frames, topmost}
use Rattle.asm_overlay.proofs.FrameLemmas.{topmost-append}
use Rattle.asm_overlay.proofs.overlay.Overlay.get.Goals as goal

pub loop-frame-init : goal.loop-frame-init
loop-frame-init c =
    ap (λ (frames : Frames). topmost frames c.args.at.now)
    (let rest : c.into_iter-frame-iterator.result.iter.rest.now ≡ c.args.self.now = search rules in rest)

pub returns-in-Some-get : goal.returns-in-Some-get
returns-in-Some-get c =
    let frame_on_top = ap (λ (frames : Frames). topmost frames c.args.at.now) c.in-Some.ensures.steps
    ∙ topmost-append c.next.new.self.iter.rest.now c.in-Some.frame.now c.args.at.now
    ∙ ap (λ x. option_or x (topmost c.next.new.self.iter.rest.now c.args.at.now)) (sym c.in-Some-get.ensures) in
    sym frame_on_top ∙ c.loop-frame.invariant

pub loop-frame-preserved : goal.loop-frame-preserved
loop-frame-preserved c =
    let frame_on_top = ap (λ (frames : Frames). topmost frames c.args.at.now) c.in-Some.ensures.steps
    ∙ topmost-append c.next.new.self.iter.rest.now c.in-Some.frame.now c.args.at.now
    ∙ ap (λ x. option_or x (topmost c.next.new.self.iter.rest.now c.args.at.now)) (sym c.in_default.ensures) in
    sym frame_on_top ∙ c.loop-frame.invariant

pub returns : goal.returns
returns c =
    sym (ap (λ (frames : Frames). topmost frames c.args.at.now) (nil_from_length c.loop-frame.frame-iterator.iter.rest.now c.in-None.ensures.steps.0)) ∙ c.loop-frame.invariant
