use Rattle.std.proofs.Common.{◌≡◌, ◌++◌, [], ◌∷◌, map, length, sym, ap, append_assoc, ◌∙◌, Ok, Err, arith}
use Rattle.std.proofs.lemmas.List.{length-map, map-append}
use Rattle.asm_script.specs.Script.{each}
use Rattle.asm_script.proofs.Faults.{carried, refused, first_more, none_more}
use Rattle.asm_script.proofs.parsing.each_checked.Goals as goal

pub returns-in_err-part : goal.returns-in_err-part
returns-in_err-part g c =
    let l = c.loop-form.invariant in
    let so_far = map g.T.Checked.written c.loop-form.done.items in
    let count : c.len.result ≡ length so_far = omega (arith, length-map c.loop-form.done.items g.T.Checked.written) in
    let first = carried _ _ _ _ (Err c.in_err-part.field-0.0) c.checked.ensures c.in_err-part.ensures.carried
    c.in_err-part.ensures.placed in
    refused _ _ _ _ c.from_residual.ensures.1
    (first_more g.T.Checked.faults _ so_far c.in-Some.form _ _ _ _ count l.0 c.in-Some.ensures.steps.0 l.1 first)

pub loop-form-preserved : goal.loop-form-preserved
loop-form-preserved g c =
    let l = c.loop-form.invariant in
    let so_far = map g.T.Checked.written c.loop-form.done.items in
    let count : c.len.result ≡ length so_far = omega (arith, length-map c.loop-form.done.items g.T.Checked.written) in
    let made = carried _ _ _ _ (Ok c.in_ok-part.part) c.checked.ensures c.in_ok-part.ensures.carried
    c.in_ok-part.ensures.placed in
    let all = ap (map g.T.Checked.written) c.in_ok-push.ensures.items
    ∙ map-append g.T.Checked.written c.loop-form.done.items (c.in_ok-part.part ∷ [])
    ∙ ap (λ w. so_far ++ w ∷ []) made.0 in (
      ap (λ l. l ++ c.next.new.self.rest.items) all ∙ append_assoc so_far (c.in-Some.form ∷ []) _
          ∙ ap (λ l. so_far ++ l) (sym c.in-Some.ensures.steps.0) ∙ l.0,
      ap (each g.T.Checked.faults) all ∙ none_more g.T.Checked.faults _ so_far c.in-Some.form count l.1 made.1,
    )
