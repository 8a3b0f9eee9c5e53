-- What a command is after its options and its commands were added in turn.
use Rattle.std.proofs.Common.{List, [], ◌∷◌, ◌≡◌, ◌∙◌, ◌||◌, ap, ap₂, subst}
use Rattle.clap.specs.Words.{AddsArg, AddsInTurn, AddsSubcommand, App, Rule, app_of, with_rule, with_subcommand}
use Rattle.clap.specs.declared.builder.arg.Arg.{Arg}
use Rattle.clap.specs.declared.builder.command.Command.{Command}
use Rattle.asm_driver.specs.Words.{AreCommands, AreOptions, IsCommand, with_commands, with_rules}

pub options_added : (a b : Command) (rules : List Rule) (os : List Arg) (x : App) → IsCommand x a → AreOptions rules os →
    AddsInTurn AddsArg a os b → IsCommand (with_rules x rules) b
options_added a b [] [] x is each e = subst (IsCommand x) e is
options_added a b [] (o ∷ os) x is each added = absurd each
options_added a b (rule ∷ rules) [] x is each added = absurd each
options_added a b (rule ∷ rules) (o ∷ os) x is each added =
    let one = added.1 in
    let same = one.shape each.1 ∙ ap₂ with_rule is.0 each.0 in
    let local = one.globals ∙ ap₂ (λ p q. p || q) is.1 each.1 in
    options_added added.0 b rules os (with_rule x rule) (same, local) each.2 added.2

pub commands_added : (a b : Command) (apps : List App) (cs : List Command) (x : App) → app_of a ≡ x → AreCommands apps cs →
    AddsInTurn AddsSubcommand a cs b → app_of b ≡ with_commands x apps
commands_added a b [] [] x is each e = subst (λ c. app_of c ≡ x) e is
commands_added a b [] (c ∷ cs) x is each added = absurd each
commands_added a b (app ∷ apps) [] x is each added = absurd each
commands_added a b (app ∷ apps) (c ∷ cs) x is each added =
    let one = added.1 in
    let same = one.shape each.0.1 ∙ ap₂ with_subcommand is (ap (λ (y : App). y.top) each.0.0) in
    commands_added added.0 b apps cs (with_subcommand x app.top) same each.1 added.2
