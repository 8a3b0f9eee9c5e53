use Rattle.std.proofs.Common.{map, string_bytes, rules}
use Rattle.asm_driver.proofs.Folders.{folder_over}
use Rattle.asm_driver.proofs.program.foldered.run_folder.Goals as goal

pub returns : goal.returns
returns g c = record {
  runs = folder_over (map string_bytes c.args.words.now) c.args.names.now (g.F.Folder.files c.args.folder.now)
      (g.F.Folder.failed c.run_folder_noted.new.folder) _ _ _ _ _ _ c.run_folder_noted.result (search rules) (search rules)
      c.run_folder_noted.ensures.runs;
}
