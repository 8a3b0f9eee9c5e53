use Rattle.std.proofs.Common.{◌≡◌, ap, length, arith, rules}
use Rattle.std.proofs.lemmas.Bool.Decides.{nat_tests}
use Rattle.asm_state_tests.proofs.aggregate.groups.group_of.Goals as goal

pub new-requires : goal.new-requires
new-requires c = record {
  some = λ none. (let zero : length c.args.partials.items ≡ 0 = ap length none in absurd (grind (arith, nat_tests)));
  partial = search rules;
}
