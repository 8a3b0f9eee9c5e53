use Rattle.std.proofs.Common.{◌≡◌, map, filter, take, string_bytes}
use Rattle.asm_driver.specs.Folder.{has_segment_name}
use Rattle.asm_driver.proofs.program.segments.segment_names.Given as goal

-- the names that were chosen so far
abbrev pub invariant-loop-name : goal.invariant-loop-name
invariant-loop-name l =
    map string_bytes l.files.items ≡ filter has_segment_name (map string_bytes (take l.name-index l.names))
