use Rattle.std.proofs.Common.{inl}
use Rattle.asm_driver.proofs.program.foldered.run_folder_noted.Goals as goal

pub returns-in-Ok-clause-runs : goal.returns-in-Ok-clause-runs
returns-in-Ok-clause-runs g c = inl (
  c.in-Ok.every,
  c.in-Ok.files.items,
  c.in-Ok.ensures.ok,
  c.in-Ok.ensures.files,
  c.in-Ok.ensures.sorted,
  rw c.as_slice.ensures.value at c.audit_files.ensures.audits,
)
