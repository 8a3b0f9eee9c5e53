use Rattle.std.proofs.Common.{◌≡◌, ◌++◌, ◌∷◌, [], string_bytes, sym, ap, ◌∙◌, append_assoc}
use Rattle.asm_driver.specs.Report.{step_name, reason}
use Rattle.asm_driver.proofs.Lines.{not_fired}
use Rattle.asm_driver.proofs.reporting.push_outcome.Goals as goal

pub returns : goal.returns
returns c =
    let text = string_bytes c.args.text.now in
    let name = step_name c.args.agent c.args.step in
    let why = reason c.args.outcome.now in
    let formatted : c.as_str.result.now ≡ name = c.as_str.ensures.value ∙ c.in_ok-format.ensures.ok
    ∙ sym (simp append_assoc) in
    let named = c.in_ok-push_str.ensures.bytes ∙ ap (λ t. text ++ t) formatted in
    let reasoned = c.in_ok-push_reason.ensures ∙ ap (λ t. t ++ why) named in
    let ended = c.in_ok-push_str-2.ensures.bytes ∙ ap (λ t. t ++ 10 ∷ []) (reasoned ∙ append_assoc text name why)
    ∙ append_assoc text (name ++ why) (10 ∷ []) in
    ended ∙ ap (λ t. text ++ t) (sym (not_fired c.args.agent c.args.step c.args.outcome.now c.in_default.not-Fired))
