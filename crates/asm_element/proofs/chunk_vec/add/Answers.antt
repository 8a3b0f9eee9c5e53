use Rattle.asm_element.specs.declared.element.Element.{Element}
use Rattle.std.proofs.Common.{◌≡◌, ◌≤◌, ◌+◌, [], List, ℕ, length, subst, sym, ap, ◌∙◌, arith}
use Rattle.std.proofs.lemmas.List.{get_or_default}
use Rattle.asm_element.specs.Slots.{IsGap}
use Rattle.asm_element.proofs.Edits.{last_end}
use Rattle.asm_element.proofs.chunk_vec.add.Goals as goal

pub append-requires-clause-end : goal.append-requires-clause-end
append-requires-clause-end g c =
    let cs = c.args.chunks.now.items in
    let room = c.requires.room in
    let x = c.index.result.now in
    let gap : IsGap x c.args.key c.args.at = subst (λ (ss : List (Element × ℕ)). IsGap ss c.args.key c.args.at) (sym (c.index.ensures ∙ get_or_default cs c.args.index x [] room.place.in_range)) room.gap in
    last_end cs c.args.key c.args.index c.args.at room.chunks room.place x c.index.ensures gap (omega (arith, c.if-index-len.true, c.len-2.ensures)) (omega (arith, c.len.ensures.len, c.len.ensures.few, c.if-at-eq-ROOM.true))
