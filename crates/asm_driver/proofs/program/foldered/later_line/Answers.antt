use Rattle.std.proofs.Common.{[], ◌∷◌, ◌++◌, codes, append_assoc, ap, sym, ◌∙◌}
use Rattle.std.specs.Fmt.{decimal}
use Rattle.asm_driver.proofs.program.foldered.later_line.Goals as goal

pub returns : goal.returns
returns c =
    let a = c.args.audited in
    let calls = decimal a.counts.calls in
    let moves = decimal a.counts.moves in
    let parts = decimal a.counts.parts in
    let first = decimal a.from.segments in
    let before = decimal a.from.moves in
    let with_moves = calls ++ codes " " ++ moves in
    let with_parts = with_moves ++ codes " " ++ parts in
    let with_first = with_parts ++ codes " from segment " ++ first in
    let end = before ++ 10 ∷ [] in
    let move = codes " move " ++ end in
    let segment = codes " from segment " ++ (first ++ move) in
    let part = codes " " ++ (parts ++ segment) in
    let text = sym (append_assoc calls (codes " ") (moves ++ part))
    ∙ sym (append_assoc (calls ++ codes " ") moves part)
    ∙ sym (append_assoc with_moves (codes " ") (parts ++ segment))
    ∙ sym (append_assoc (with_moves ++ codes " ") parts segment)
    ∙ sym (append_assoc with_parts (codes " from segment ") (first ++ move))
    ∙ sym (append_assoc (with_parts ++ codes " from segment ") first move)
    ∙ sym (append_assoc with_first (codes " move ") end)
    ∙ sym (append_assoc (with_first ++ codes " move ") before (10 ∷ [])) in
    c.in_ok-format.ensures.ok ∙ ap (λ t. codes "legal " ++ t) text
