use Rattle.std.proofs.Common.{ap, ◌∙◌}
use Rattle.std.proofs.lemmas.Result.{IfOk-weaker}
use Rattle.clap.specs.Simple.{app_of_fields}
use Rattle.clap.specs.Words.{new_app}
use Rattle.asm_driver.specs.Words.{IsCommand}
use Rattle.asm_driver.proofs.Grammar.{options_added}
use Rattle.asm_driver.proofs.program.grammar.command.Goals as goal

pub returns : goal.returns
returns c = λ rules each.
    let named : IsCommand (new_app c.args.name.now) c.about.result = (ap app_of_fields c.about.ensures ∙ c.new.ensures.app, ap (λ f. f.has_globals) c.about.ensures ∙ c.new.ensures.local) in
    IfOk-weaker c.args-2.result _ _ (λ m added. options_added _ m rules c.args.options.items _ named each added) c.args-2.ensures
