use Rattle.std.proofs.lemmas.Result.{IfOk-weaker}
use Rattle.asm_driver.specs.Words.{commands, bare_program}
use Rattle.asm_driver.proofs.Grammar.{commands_added}
use Rattle.asm_driver.proofs.program.grammar.program_command.Goals as goal

pub returns : goal.returns
returns c = record {
  app = IfOk-weaker c.subcommands-2.result _ _
      (λ m added. commands_added _ m commands _ bare_program c.bare_program.ensures c.in_ok-subcommands.ensures added) c.subcommands-2.ensures;
}
