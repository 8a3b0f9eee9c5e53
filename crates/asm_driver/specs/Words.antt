-- The words that the program accepts, what they ask for, and how others are refused.
use Rattle.std.specs.Prelude.{◌≡◌, ◌<◌, ◌≤◌, ◌^◌, ◌⊎◌, ℕ, Bool, pos, true, false, List, [], ◌∷◌, Option, Some, None}
use Rattle.std.specs.Prelude.{IfSome, unwrap_or, codes}
use Rattle.std.specs.Str.Parse.{IsNumeral, digits_value, without_leading_plus}
use Rattle.clap.specs.Words.{App, Row, Rule, Text, Kinds, IsAmong, app_of, fault_of, first_of, new_app, new_rule, one_of}
use Rattle.clap.specs.Words.{rule_of, subcommand_of}
use Rattle.clap.specs.declared.builder.arg.Arg.{Arg}
use Rattle.clap.specs.declared.builder.command.Command.{Command}
use Rattle.clap.specs.declared.builder.command.Command.TheViews.{out-Command}
use Rattle.clap.specs.Words.{with_rule, with_subcommand}
use Rattle.clap.specs.declared.builder.action.ArgAction.TheVariants.{Set, SetTrue}
use Rattle.clap.specs.declared.builder.value_parser.ValueParser.TheVariants.{Signed}
use Rattle.clap.specs.declared.error.kind.ErrorKind.{ErrorKind}
use Rattle.clap.specs.declared.error.kind.ErrorKind.TheVariants as kind
use Rattle.asm_row.specs.Limits.{capacity_limit}
use Rattle.asm_driver.specs.Limits.{default_capacity}
use Rattle.asm_driver.specs.declared.program.words.Request.{Request}
use Rattle.asm_driver.specs.declared.program.words.Request.TheVariants.{Run, Terms, Check, Rewrite, Trace, Show, Audit, Explain}
use Rattle.asm_driver.specs.declared.program.words.Window.{Window}
use Rattle.asm_driver.specs.declared.program.words.TextKind.{TextKind}
use Rattle.asm_driver.specs.declared.program.words.TextKind.TheVariants.{Script, Journal}
use Rattle.asm_driver.specs.declared.program.words.WordsError.{WordsError}
use Rattle.asm_driver.specs.declared.program.words.WordsError.TheVariants.{Help, Version, Bad, Memory}

-- --capacity N, with N from 1 to 1,048,576; 4,096 if it isn't given
abbrev pub capacity : Rule
capacity = record (new_rule (codes "capacity")) {
  long = Some (codes "capacity");
  action = Some Set;
  parser = Some (Signed (pos 1) (pos capacity_limit));
  defaults = codes "4096" ∷ [];
  value_names = 1;
}

-- --journal, which has no value
abbrev pub journal : Rule
journal = record (new_rule (codes "journal")) { long = Some (codes "journal"); action = Some SetTrue }

-- --terms, which has no value
abbrev pub terms : Rule
terms = record (new_rule (codes "terms")) { long = Some (codes "terms"); action = Some SetTrue }

-- the options of run
abbrev pub run_rules : List Rule
run_rules = capacity ∷ journal ∷ terms ∷ []

-- --NAME N, with N from 0 to 4,294,967,295
abbrev pub number_rule : Text → Rule
number_rule name = record (new_rule name) {
  long = Some name;
  action = Some Set;
  parser = Some (Signed (pos 0) (pos 4294967295));
  value_names = 1;
}

-- the options of trace, which say which calls are its window
abbrev pub trace_rules : List Rule
trace_rules = number_rule (codes "part") ∷ number_rule (codes "from") ∷ number_rule (codes "to") ∷ []

-- --every N, with N from 1 to 4,294,967,295
abbrev pub every : Rule
every = record (new_rule (codes "every")) {
  long = Some (codes "every");
  action = Some Set;
  parser = Some (Signed (pos 1) (pos 4294967295));
  value_names = 1;
}

-- the kind of text that is explained, which must be given
abbrev pub kind_rule : Rule
kind_rule = record (new_rule (codes "kind")) { action = Some Set; value_names = 1; required = true }

-- the command with these options too
abbrev pub with_rules : App → List Rule → App
with_rules a [] = a
with_rules a (rule ∷ rules) = with_rules (with_rule a rule) rules

-- the command with these commands too
abbrev pub with_commands : App → List App → App
with_commands a [] = a
with_commands a (c ∷ cs) = with_commands (with_subcommand a c.top) cs

-- the commands, with their options
abbrev pub commands : List App
commands =
    with_rules (new_app (codes "run")) run_rules ∷ new_app (codes "check") ∷ new_app (codes "rewrite")
    ∷ with_rules (new_app (codes "trace")) trace_rules ∷ with_rules (new_app (codes "explain")) (kind_rule ∷ [])
    ∷ with_rules (new_app (codes "audit")) (every ∷ []) ∷ []

-- the program, before its commands: one of them must be given unless help or the version is asked for
abbrev pub bare_program : App
bare_program =
    let named = new_app (codes "asm_driver") in
    record named { top = record named.top { has_version = true; subcommand_required = true } }

-- the program
abbrev pub program : App
program = with_commands bare_program commands

-- the options have these rules, and none is one of the subcommands too
abbrev pub AreOptions : List Rule → List Arg → Type 0
AreOptions [] [] = Unit {0}
AreOptions (rule ∷ rules) (o ∷ os) = (rule_of o ≡ rule) × (o.global ≡ false) × AreOptions rules os
AreOptions rules os = ⊥

-- the command is this one, and none of its options is one of its subcommands too
abbrev pub IsCommand : App → Command → Type 0
IsCommand a c = (app_of c ≡ a) × ((out-Command c).has_globals ≡ false)

-- they are these commands, one by one
abbrev pub AreCommands : List App → List Command → Type 0
AreCommands [] [] = Unit {0}
AreCommands (a ∷ apps) (c ∷ cs) = IsCommand a c × AreCommands apps cs
AreCommands apps cs = ⊥

-- the words, each with its bytes
abbrev pub Words : Type 0
Words = List Text

-- what clap may find: the kinds of fault, including help and the version that are asked for; none if it accepts the
-- words
unfoldable pub faults : Words → Kinds
faults words = fault_of program words

-- the number is the value of the option, or 4,096 if the option has none
abbrev pub AsksCapacity : List Row → ℕ → Type 0
AsksCapacity rows number =
    ((t : Text) → one_of (codes "capacity") rows ≡ Some t → IsNumeral 10 (without_leading_plus t) →
    digits_value 10 (without_leading_plus t) < 2 ^ 32 → number ≡ digits_value 10 (without_leading_plus t))
    × (one_of (codes "capacity") rows ≡ None → number ≡ default_capacity)

-- true if the option with this name is given, and else false
abbrev pub AsksFlag : Text → List Row → Bool → Type 0
AsksFlag name rows asked =
    (one_of name rows ≡ Some (codes "true") → asked ≡ true) × (one_of name rows ≡ Some (codes "false") → asked ≡ false)

-- what the options of run ask for; with --journal, --terms asks for nothing more
abbrev pub AsksRun : List Row → Request → Type 0
AsksRun rows (Run number asked) =
    AsksCapacity rows number × AsksFlag (codes "journal") rows asked
    × (asked ≡ false → AsksFlag (codes "terms") rows false)
AsksRun rows (Terms number) =
    AsksCapacity rows number × AsksFlag (codes "journal") rows false × AsksFlag (codes "terms") rows true
AsksRun rows r = ⊥

-- the text is a number of 32 bits
abbrev pub IsNumber : Text → Type 0
IsNumber t = IsNumeral 10 (without_leading_plus t) × (digits_value 10 (without_leading_plus t) < 2 ^ 32)

-- the number that the option has, if it has one
abbrev pub AsksNumber : Text → List Row → Option ℕ → Type 0
AsksNumber name rows None = (t : Text) → one_of name rows ≡ Some t → ¬ IsNumber t
AsksNumber name rows (Some n) =
    (t : Text) × (one_of name rows ≡ Some t) × IsNumber t × (n ≡ digits_value 10 (without_leading_plus t))

-- what the option of audit asks for: if --every has a number, to write the progress after each so many calls; else 0,
-- for never
abbrev pub AsksAudit : List Row → Request → Type 0
AsksAudit rows (Audit n) = (asked : Option ℕ) × AsksNumber (codes "every") rows asked × (n ≡ unwrap_or asked 0)
AsksAudit rows r = ⊥

-- the window doesn't end before it begins
abbrev pub IsForward : Window → Type 0
IsForward w = IfSome w.to (λ to. w.from ≤ to)

-- no option of trace has a number
abbrev pub AsksNone : Option ℕ → Option ℕ → Option ℕ → Type 0
AsksNone part from to = (part ≡ None) × (from ≡ None) × (to ≡ None)

-- what the options of trace ask for: a window if one of them has a number, which begins with the first segment and
-- its first call if these have none
abbrev pub AsksTrace : List Row → Request → Type 0
AsksTrace rows Trace =
    AsksNumber (codes "part") rows None × AsksNumber (codes "from") rows None × AsksNumber (codes "to") rows None
AsksTrace rows (Show w) =
    (part from : Option ℕ) × AsksNumber (codes "part") rows part × AsksNumber (codes "from") rows from
    × AsksNumber (codes "to") rows w.to × ¬ AsksNone part from w.to × (w.part ≡ unwrap_or part 0)
    × (w.from ≡ unwrap_or from 0) × IsForward w
AsksTrace rows r = ⊥

-- the word of a kind of text
abbrev pub kind_word : TextKind → Text
kind_word Script = codes "script"
kind_word Journal = codes "journal"

-- the word behind explain is that of this kind
abbrev pub AsksKind : List Row → TextKind → Type 0
AsksKind rows t = first_of (codes "kind") rows ≡ Some (kind_word t)

-- the command with its options asks for this
abbrev pub Asks : Option (Text × List Row) → Request → Type 0
Asks None r = ⊥
Asks (Some p) (Run number asked) = (p.0 ≡ codes "run") × AsksRun p.1 (Run number asked)
Asks (Some p) (Terms number) = (p.0 ≡ codes "run") × AsksRun p.1 (Terms number)
Asks (Some p) Check = p.0 ≡ codes "check"
Asks (Some p) Rewrite = p.0 ≡ codes "rewrite"
Asks (Some p) Trace = (p.0 ≡ codes "trace") × AsksTrace p.1 Trace
Asks (Some p) (Show w) = (p.0 ≡ codes "trace") × AsksTrace p.1 (Show w)
Asks (Some p) (Audit n) = (p.0 ≡ codes "audit") × AsksAudit p.1 (Audit n)
Asks (Some p) (Explain t) = (p.0 ≡ codes "explain") × AsksKind p.1 t

-- clap accepts the words, and they ask for this
abbrev pub AsksFor : Words → Request → Type 0
AsksFor words r = (faults words ≡ []) × Asks (subcommand_of program words) r

-- the words ask for help
abbrev pub AsksForHelp : Words → Type 0
AsksForHelp words = IsAmong kind.DisplayHelp (faults words)

-- the words ask for the version
abbrev pub AsksForVersion : Words → Type 0
AsksForVersion words = IsAmong kind.DisplayVersion (faults words)

-- what clap found is no mistake: help or the version is written
abbrev pub IsHelpOrVersion : ErrorKind → Type 0
IsHelpOrVersion k = (k ≡ kind.DisplayHelp) ⊎ (k ≡ kind.DisplayVersion)

-- there is another command, or none, or one that explains another text or traces a window that ends before it begins
abbrev pub IsNoCommand : Option (Text × List Row) → Type 0
IsNoCommand None = Unit {0}
IsNoCommand (Some p) =
    ¬ (p.0 ≡ codes "run") × ¬ (p.0 ≡ codes "check") × ¬ (p.0 ≡ codes "rewrite")
    × ((r : Request) → p.0 ≡ codes "trace" → ¬ AsksTrace p.1 r) × ¬ (p.0 ≡ codes "audit")
    × ((t : TextKind) → ¬ Asks (Some p) (Explain t))

-- the words have a mistake: one that clap may find, or clap accepts them and they are no command of the program's
abbrev pub HasMistake : Words → Type 0
HasMistake words =
    ((k : ErrorKind) × IsAmong k (faults words) × ¬ IsHelpOrVersion k)
    ⊎ ((faults words ≡ []) × IsNoCommand (subcommand_of program words))

-- why the words are refused; nothing is claimed of an allocation failure
abbrev pub IsRefusal : Words → WordsError → Type 0
IsRefusal words (Help text) = AsksForHelp words
IsRefusal words Version = AsksForVersion words
IsRefusal words Bad = HasMistake words
IsRefusal words Memory = Unit {0}

-- what an error of clap becomes: its text if help was asked for, which needs memory; the version needs none
abbrev pub IsMadeOf : ErrorKind → WordsError → Type 0
IsMadeOf k (Help text) = k ≡ kind.DisplayHelp
IsMadeOf k Version = k ≡ kind.DisplayVersion
IsMadeOf k Bad = ¬ (k ≡ kind.OutOfMemory) × ¬ IsHelpOrVersion k
IsMadeOf k Memory = (k ≡ kind.OutOfMemory) ⊎ (k ≡ kind.DisplayHelp)
