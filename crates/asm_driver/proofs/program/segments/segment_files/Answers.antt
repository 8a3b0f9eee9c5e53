use Rattle.std.proofs.Common.{List, string_bytes, subst}
use Rattle.std.proofs.lemmas.List.Sorted.{IsPermutation-map}
use Rattle.std.specs.Prelude.{IsPermutation, map}
use Rattle.asm_driver.proofs.program.segments.segment_files.Goals as goal

pub returns-clause-files : goal.returns-clause-files
returns-clause-files c =
    subst (λ (l : List (List _)). IsPermutation l (map string_bytes c.sort.new.self.items)) c.in_ok-files.ensures
    (IsPermutation-map string_bytes c.in_ok-files.files.items c.sort.new.self.items c.sort.ensures.permutation)
