use Rattle.std.proofs.Common.{Some, IsSome, ap, subst, refl, ◌∙◌}
use Rattle.std.specs.FinMap as map
use Rattle.std.specs.BTreeMap.{BTreeMap, get_by}
use Rattle.std.proofs.lemmas.Result.{on_ok_weaker, on_err_weaker}
use Rattle.asm_element.specs.Place.{Place, location_cmp, location_cmp_total, location_cmp-IsAntisymmetric}
use Rattle.asm_element.proofs.Ordered.{insert_same}
use Rattle.asm_state.specs.declared.entries.WrittenValue.{WrittenValue}
use Rattle.asm_state.specs.Follow.{written_by}
use Rattle.asm_state.specs.View.{Entries}
use Rattle.asm_state.proofs.InTree.{held_there, written_there}
use Rattle.asm_state.proofs.entries.Entries.put_value.Goals as goal

pub returns-in-Some-clause-ok : goal.returns-in-Some-clause-ok
returns-in-Some-clause-ok c =
    let wrote = c.get_mut.follows.holds c.put.new.self in
    let there : IsSome (get_by (location_cmp c.args.at.now) c.self.inside.tree) = subst IsSome c.in-Some.ensures.value refl in
    let is = written_there c.self.inside.tree c.args.self.now c.args.at.now c.self.view_is (c.get_mut.follows.lender c.put.new.self) c.put.new.self (wrote.3 there).0 in
    on_ok_weaker c.put.result (λ put. is ∙ ap (map.insert c.args.self.now c.args.at.now) put) c.put.ensures.ok

pub returns-in-Some-clause-err : goal.returns-in-Some-clause-err
returns-in-Some-clause-err c =
    let wrote = c.get_mut.follows.holds c.put.new.self in
    let there : IsSome (get_by (location_cmp c.args.at.now) c.self.inside.tree) = subst IsSome c.in-Some.ensures.value refl in
    let is = written_there c.self.inside.tree c.args.self.now c.args.at.now c.self.view_is (c.get_mut.follows.lender c.put.new.self) c.put.new.self (wrote.3 there).0 in
    let old = held_there c.self.inside.tree c.args.self.now c.args.at.now c.self.view_is (Some c.in-Some.written.now) c.in-Some.ensures.value in
    on_err_weaker c.put.result
    (λ same. is ∙ ap (map.insert c.args.self.now c.args.at.now) same
    ∙ insert_same location_cmp_total location_cmp-IsAntisymmetric c.args.self.now c.args.at.now c.in-Some.written.now old)
    c.put.ensures.err

pub returns-in-None-clause-ok : goal.returns-in-None-clause-ok
returns-in-None-clause-ok c =
    let same = ap (λ (t : BTreeMap Place WrittenValue). map.from_entries {R = location_cmp} t.entries) c.get_mut.follows.holds-at-none ∙ c.self.view_is in
    on_ok_weaker c.put_first.result
    (λ put. put ∙ ap (λ (m : Entries). map.insert m c.args.at.now (written_by c.args.writer c.args.value.now)) same)
    c.put_first.ensures.ok
