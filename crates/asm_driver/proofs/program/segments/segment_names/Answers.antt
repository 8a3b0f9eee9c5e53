use Rattle.std.proofs.Common.{ap, sym, ◌∙◌, ◌++◌, ◌∷◌, [], map, filter, take, length, string_bytes, subst, rules}
use Rattle.std.proofs.lemmas.List.{take_all}
use Rattle.asm_driver.specs.Folder.{has_segment_name}
use Rattle.asm_driver.proofs.Folders.{name_more}
use Rattle.asm_driver.proofs.program.segments.segment_names.Goals as goal

pub loop-name-preserved : goal.loop-name-preserved
loop-name-preserved c =
    let l = c.loop-name in
    name_more c.args.names.now l.name-index c.name-item.result _ _ c.loop-name-test.true c.name-item.is l.invariant
    (rw c.as_str.ensures.value at c.in_ok-push_name.ensures)
