use Rattle.std.proofs.Common.{◌≡◌, ◌++◌, ◌∷◌, [], string_bytes, ap, ◌∙◌, append_assoc}
use Rattle.serde_json.specs.Written.{compact_text}
use Rattle.asm_element.specs.Place.{Place}
use Rattle.asm_element.specs.declared.value.Value.{Value}
use Rattle.asm_journal.specs.Value.{pair_json_of}
use Rattle.asm_driver.specs.Report.{entry_line}
use Rattle.asm_driver.proofs.Lines.{left_more}
use Rattle.asm_journal.proofs.Floats.{pair_no_float}
use Rattle.asm_driver.proofs.reporting.push_state.Goals as goal

pub push_json-requires : goal.push_json-requires
push_json-requires c = rw c.in_ok-pair_json.ensures (pair_no_float (c.in-Some.location.now, c.in-Some.value.now))

pub loop-location-preserved : goal.loop-location-preserved
loop-location-preserved c =
    let l = c.loop-location in
    let e : Place × Value = (c.in-Some.location.now, c.in-Some.value.now) in
    let added : string_bytes c.push_str.new.self ≡ string_bytes l.text ++ entry_line e =
    c.in_ok-push_str.ensures.bytes
    ∙ ap (λ t. t ++ 10 ∷ [])
    (c.in_ok-push_json.ensures ∙ ap (λ d. string_bytes l.text ++ compact_text d) c.in_ok-pair_json.ensures)
    ∙ append_assoc (string_bytes l.text) (compact_text (pair_json_of e)) (10 ∷ []) in
    left_more entry_line (string_bytes l.text) (string_bytes c.push_str.new.self) _ e c.next.new.self
    l.location-iterator c.in-Some.ensures.steps l.invariant added
