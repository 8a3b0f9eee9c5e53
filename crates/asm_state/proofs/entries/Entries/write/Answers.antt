use Rattle.std.proofs.Common.{◌≡◌, ap, sym, ◌∙◌, arith, rules}
use Rattle.std.proofs.lemmas.List.{nil_from_length}
use Rattle.std.specs.FinMap as finite
use Rattle.asm_aggregate.specs.Bundle.{by_place}
use Rattle.asm_state.specs.Follow.{written_by}
use Rattle.asm_state.proofs.Insertions.{only_one, not_one}
use Rattle.asm_state.proofs.entries.Entries.write.Goals as goal

pub returns-in-Some-clause-ok : goal.returns-in-Some-clause-ok
returns-in-Some-clause-ok c =
    let start : c.into_iter.result.rest.items ≡ c.into_vec.result.items = search rules in
    only_one (written_by c.args.writer) c.args.results (by_place c.into_iter.result.rest.items) (ap by_place start ∙ c.into_vec.ensures)
    (by_place c.next.new.self.rest.items) c.in-Some.at.now c.in-Some.value c.args.self.now c.write_at.new.self
    (ap by_place c.in-Some.ensures.items) (omega (arith, c.len.ensures, c.if-len-gt1.false))
    (c.in_ok-write_at-in-Some.ensures.ok ∙ ap (finite.insert c.args.self.now c.in-Some.at.now) c.by.ensures)

pub returns-clause-ok : goal.returns-clause-ok
returns-clause-ok c =
    let start : c.into_iter.result.rest.items ≡ c.into_vec.result.items = search rules in
    not_one (written_by c.args.writer) c.args.results (by_place c.into_iter.result.rest.items) (ap by_place start ∙ c.into_vec.ensures)
    c.args.self.now
    (ap by_place (nil_from_length c.into_iter.result.rest.items (sym c.into_iter.result.rest.ok.0 ∙ c.in-None.ensures.cases.0)))
