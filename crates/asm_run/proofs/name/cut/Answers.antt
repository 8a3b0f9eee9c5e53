use Rattle.std.proofs.Common.{lit<}
use Rattle.std.proofs.lemmas.Str.Pattern.{split_parts}
use Rattle.asm_run.proofs.Cuts.{if_some, if_none}
use Rattle.asm_run.proofs.name.cut.Goals as goal

pub returns-clause-some : goal.returns-clause-some
returns-clause-some c = if_some _ _ c.split_once.result
    (split_parts 45 c.args.text.now c.split_once.result c.split_once.ensures.cases (lit< tt))

pub returns-clause-none : goal.returns-clause-none
returns-clause-none c = λ e. if_none _ _ c.split_once.result e
    (split_parts 45 c.args.text.now c.split_once.result c.split_once.ensures.cases (lit< tt))
