use Rattle.std.proofs.Common.{ap, sym, subst, ◌∙◌}
use Rattle.std.specs.Prelude.{All}
use Rattle.std.proofs.lemmas.List.Elements.{All-push}
use Rattle.asm_state.specs.Listed.{by_value}
use Rattle.asm_state.specs.Merging.{IsListed}
use Rattle.asm_state.proofs.Listing.{values_more}
use Rattle.asm_state.proofs.listed.push_seen.Goals as goal

pub returns-clause-listed : goal.returns-clause-listed
returns-clause-listed c = λ all.
    subst (All IsListed) (sym (ap by_value c.in_ok-push.ensures.items ∙ values_more c.args.list.now.items c.args.at c.in-Some.value))
    (All-push IsListed (by_value c.args.list.now.items) (c.args.at.now, c.in-Some.value.now) all
    (c.proper.ensures, c.proper-2.ensures, sym c.is_undef.ensures.test ∙ c.if-is_undef.false))
