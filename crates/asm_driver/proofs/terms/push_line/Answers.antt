use Rattle.std.proofs.Common.{◌≡◌, ◌++◌, ◌∷◌, [], ℕ, List, string_bytes, codes, sym, ap, ap₂, ◌∙◌, append_assoc}
use Rattle.std.specs.Fmt.{decimal}
use Rattle.asm_driver.specs.Report.{step_name}
use Rattle.asm_driver.proofs.terms.push_line.Goals as goal

pub returns : goal.returns
returns c =
    let text = string_bytes c.args.text.now in
    let reported = c.args.reported.now in
    let place : List ℕ =
    step_name c.args.agent reported.step ++ codes " block " ++ decimal reported.term.block ++ codes " instruction "
    ++ decimal reported.term.instruction ++ codes ": " in
    let why = string_bytes c.in_ok-why.why in
    let formatted : c.as_str.result.now ≡ place = c.as_str.ensures.value ∙ c.in_ok-place.ensures.ok
    ∙ sym (simp append_assoc) in
    let placed = c.in_ok-push_str.ensures.bytes ∙ ap (λ t. text ++ t) formatted in
    let reasoned = c.in_ok-push_str-2.ensures.bytes ∙ ap₂ (λ a b. a ++ b) placed c.as_str-2.ensures.value in (
      why,
      c.in_ok-push_str-3.ensures.bytes ∙ ap (λ t. t ++ 10 ∷ []) reasoned ∙ simp append_assoc,
    )
