use Rattle.std.proofs.Common.{◌≡◌, Option, Some, None, IsSome, ap, sym, subst, refl, ◌∙◌}
use Rattle.std.specs.Prelude.{Err, IfErr}
use Rattle.std.specs.FinMap as map
use Rattle.std.specs.BTreeMap.{BTreeMap, get_by}
use Rattle.std.proofs.lemmas.Result.{on_ok_weaker, on_err_weaker}
use Rattle.asm_element.specs.Place.{Place, location_cmp, location_cmp_total, location_cmp-IsAntisymmetric}
use Rattle.asm_element.proofs.Ordered.{insert_same}
use Rattle.asm_update.specs.Aggregator.{IsOutcome}
use Rattle.asm_state.specs.declared.entries.WrittenValue.{WrittenValue}
use Rattle.asm_update.specs.State.{val}
use Rattle.asm_state.specs.View.{Entries, value_over}
use Rattle.asm_state.specs.Change.{IsChanged}
use Rattle.asm_state.proofs.InTree.{held_there, written_there}
use Rattle.asm_state.proofs.entries.Entries.change_at.Goals as goal

pub returns-in-Some-clause-ok : goal.returns-in-Some-clause-ok
returns-in-Some-clause-ok g c =
    let wrote = c.get_mut.follows.holds c.change.new.self in
    let there : IsSome (get_by (location_cmp c.args.at.now) c.self.inside.tree) = subst IsSome c.in-Some.ensures.value refl in
    let old = held_there c.self.inside.tree c.args.self.now c.args.at.now c.self.view_is (Some c.in-Some.written.now) c.in-Some.ensures.value in
    let is = written_there c.self.inside.tree c.args.self.now c.args.at.now c.self.view_is (c.get_mut.follows.lender c.change.new.self) c.change.new.self (wrote.3 there).0 in
    on_ok_weaker c.change.result
    (λ p. (c.change.new.self, is, subst (λ (o : Option WrittenValue). IsChanged (g.A.Aggregator.meaning c.args.aggregator.now).part (value_over (val c.args.base.now c.args.at.now) o) c.args.group.now c.args.writer c.change.new.self) (sym old) p))
    c.change.ensures.ok

pub returns-in-Some-clause-cause : goal.returns-in-Some-clause-cause
returns-in-Some-clause-cause g c =
    let old = held_there c.self.inside.tree c.args.self.now c.args.at.now c.self.view_is (Some c.in-Some.written.now) c.in-Some.ensures.value in
    subst (λ (o : Option WrittenValue). IfErr c.change.result (λ e. IsOutcome (Err e) ((g.A.Aggregator.meaning c.args.aggregator.now).part (value_over (val c.args.base.now c.args.at.now) o) c.args.group.now.regular c.args.group.now.partials))) (sym old) c.change.ensures.cause

pub returns-in-Some-clause-err : goal.returns-in-Some-clause-err
returns-in-Some-clause-err g c =
    let wrote = c.get_mut.follows.holds c.change.new.self in
    let there : IsSome (get_by (location_cmp c.args.at.now) c.self.inside.tree) = subst IsSome c.in-Some.ensures.value refl in
    let old = held_there c.self.inside.tree c.args.self.now c.args.at.now c.self.view_is (Some c.in-Some.written.now) c.in-Some.ensures.value in
    let is = written_there c.self.inside.tree c.args.self.now c.args.at.now c.self.view_is (c.get_mut.follows.lender c.change.new.self) c.change.new.self (wrote.3 there).0 in
    on_err_weaker c.change.result
    (λ same. is ∙ ap (map.insert c.args.self.now c.args.at.now) same ∙ insert_same location_cmp_total location_cmp-IsAntisymmetric c.args.self.now c.args.at.now c.in-Some.written.now old)
    c.change.ensures.err

pub returns-in-None-clause-ok : goal.returns-in-None-clause-ok
returns-in-None-clause-ok g c =
    let none = held_there c.self.inside.tree c.args.self.now c.args.at.now c.self.view_is None c.in-None.ensures.value in
    let same = ap (λ (t : BTreeMap Place WrittenValue). map.from_entries {R = location_cmp} t.entries) c.get_mut.follows.holds-at-none ∙ c.self.view_is in
    on_ok_weaker c.open_at.result
    (λ p. let (w, is, changed) = p in (w, is ∙ ap (λ (m : Entries). map.insert m c.args.at.now w) same, subst (λ (o : Option WrittenValue). IsChanged (g.A.Aggregator.meaning c.args.aggregator.now).part (value_over (val c.args.base.now c.args.at.now) o) c.args.group.now c.args.writer w) (sym none) changed))
    c.open_at.ensures.ok

pub returns-in-None-clause-cause : goal.returns-in-None-clause-cause
returns-in-None-clause-cause g c =
    let none = held_there c.self.inside.tree c.args.self.now c.args.at.now c.self.view_is None c.in-None.ensures.value in
    subst (λ (o : Option WrittenValue). IfErr c.open_at.result (λ e. IsOutcome (Err e) ((g.A.Aggregator.meaning c.args.aggregator.now).part (value_over (val c.args.base.now c.args.at.now) o) c.args.group.now.regular c.args.group.now.partials))) (sym none) c.open_at.ensures.cause
