use Rattle.std.proofs.Common.{[], ◌∷◌}
use Rattle.asm_driver.specs.Words.{AreOptions, every, kind_rule, run_rules, trace_rules}
use Rattle.asm_driver.proofs.program.grammar.subcommands.Goals as goal

pub returns : goal.returns
returns c =
    let check : AreOptions [] c.new.result.items = rw (c.new.ensures.items) tt in
    let rewrite : AreOptions [] c.new-2.result.items = rw (c.new-2.ensures.items) tt in
    let explain : AreOptions (kind_rule ∷ []) c.in_ok-kind.kind.items =
    rw (c.in_ok-kind.ensures.items) (c.kind_word.ensures.rule, c.kind_word.ensures.local, tt) in
    let audit : AreOptions (every ∷ []) c.in_ok-every.every.items =
    rw (c.in_ok-every.ensures.items) (c.every_option.ensures.rule, c.every_option.ensures.local, tt) in
    rw (c.in_ok-vec.ensures.items) (
      c.in_ok-command.ensures run_rules c.in_ok-run_options.ensures,
      (
        c.in_ok-command-2.ensures [] check,
        (
          c.in_ok-command-3.ensures [] rewrite,
          (
            c.in_ok-command-4.ensures trace_rules c.in_ok-trace_options.ensures,
            (c.in_ok-command-5.ensures (kind_rule ∷ []) explain, (c.in_ok-command-6.ensures (every ∷ []) audit, tt)),
          ),
        ),
      ),
    )
