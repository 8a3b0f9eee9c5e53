use Rattle.std.specs.Str.Parse.{ParsesUnsigned, ExplainsUnsignedError, HasUnsignedDigitsIfOk}
use Rattle.clap.specs.Words.{found_of}
use Rattle.std.proofs.Common.{codes, refl}
use Rattle.asm_driver.proofs.Asking.{number_asked}
use Rattle.asm_driver.proofs.program.words.audit_asked.Goals as goal

pub returns : goal.returns
returns c = (
  c.get_one.result,
  number_asked (λ bs r. ParsesUnsigned 32 10 bs r × ExplainsUnsignedError 10 bs r × HasUnsignedDigitsIfOk bs r)
      (found_of c.args.options.now) (codes "every") c.get_one.result (λ t r g. g.0) c.get_one.ensures.none
      c.get_one.ensures.value c.get_one.result refl,
  c.unwrap_or.ensures,
)
