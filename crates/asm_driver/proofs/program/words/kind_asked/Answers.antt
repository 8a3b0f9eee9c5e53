use Rattle.clap.specs.Words.{found_of}
use Rattle.asm_driver.specs.declared.program.words.TextKind.TheVariants.{Script, Journal}
use Rattle.asm_driver.proofs.Asking.{no_word, word_asked, other_word}
use Rattle.asm_driver.proofs.program.words.kind_asked.Goals as goal

pub returns-in_default-clause-none : goal.returns-in_default-clause-none
returns-in_default-clause-none c = no_word (found_of c.args.options.now) c.get_str.result c.get_str.ensures c.in_default.is

pub returns-then-eq-clause-some : goal.returns-then-eq-clause-some
returns-then-eq-clause-some c =
    word_asked (found_of c.args.options.now) c.get_str.result c.get_str.ensures c.in-Some.word c.in-Some.is Script
    c.eq.result c.eq.ensures c.if-eq.true

pub returns-then-eq-2-clause-some : goal.returns-then-eq-2-clause-some
returns-then-eq-2-clause-some c =
    word_asked (found_of c.args.options.now) c.get_str.result c.get_str.ensures c.in-Some.word c.in-Some.is Journal
    c.eq-2.result c.eq-2.ensures c.if-eq-2.true

pub returns-else-eq-2-clause-none : goal.returns-else-eq-2-clause-none
returns-else-eq-2-clause-none c =
    other_word (found_of c.args.options.now) c.get_str.result c.get_str.ensures c.in-Some.word c.in-Some.is c.eq.result
    c.eq-2.result c.eq.ensures c.if-eq.false c.eq-2.ensures c.if-eq-2.false
