use Rattle.std.proofs.Common.{◌≡◌, true, map, string_bytes, refl, subst}
use Rattle.clap.specs.Words.{App, FailsBy, fault_of, is_simple_and_free}
use Rattle.asm_driver.specs.Words.{faults}
use Rattle.asm_driver.proofs.program.words.parse.Goals as goal

pub returns-clause-kinds : goal.returns-clause-kinds
unfolding faults
returns-clause-kinds c =
    let words = map string_bytes c.args.words.now in
    let parse = c.try_get_matches_from in
    subst (λ (a : App). is_simple_and_free a ≡ true → FailsBy (fault_of a words) parse.result)
    c.in_ok-command.ensures.app parse.ensures.kinds refl
