use Rattle.std.proofs.Common.{◌≡◌, [], ◌∷◌, sym, ap, ◌∙◌, append-nil}
use Rattle.std.proofs.lemmas.List.{map-append}
use Rattle.asm_element.specs.Place.{Place, location_cmp}
use Rattle.asm_element.specs.declared.value.Value.{Value}
use Rattle.asm_update.specs.State.{write}
use Rattle.asm_journal.proofs.EntriesKept.{one_back, none_distinct, none_read, read-more, state-twice, state-more}
use Rattle.asm_journal.proofs.Values.{pairs_seen}
use Rattle.asm_journal.proofs.form.state.state_from.Goals as goal

pub loop-at-init : goal.loop-at-init
loop-at-init c = record {
  done = [];
  whole = append-nil _;
  made = (none_distinct location_cmp, c.new-state.ensures);
  read = none_read _ _ c.new-state.ensures c.new-undefined.ensures;
}

pub returns-then-is_read : goal.returns-then-is_read
returns-then-is_read c =
    let l = c.loop-at in
    let p : Place × Value = (c.in-Some.field-0.0, c.in-Some.field-0.1) in
    let popped = ap pairs_seen c.in-Some.ensures.items ∙ map-append _ c.pop.new.self.items _ in
    let whole = one_back _ p _ l.invariant.done _ l.invariant.whole popped in
    state-twice _ p l.invariant.done _ l.state l.undefined whole l.invariant.read (sym c.is_read.ensures ∙ c.if-is_read.true)

pub loop-at-preserved : goal.loop-at-preserved
loop-at-preserved c =
    let l = c.loop-at in
    let p : Place × Value = (c.in-Some.field-0.0, c.in-Some.field-0.1) in
    let popped = ap pairs_seen c.in-Some.ensures.items ∙ map-append _ c.pop.new.self.items _ in
    let whole = one_back _ p _ l.invariant.done _ l.invariant.whole popped in
    let new = sym c.is_read.ensures ∙ c.if-is_read.false in
    let written : c.set.new.self ≡ write l.state p.0 p.1 =
    c.in_ok-set.ensures.ok ∙ ap (λ (at : Place). write l.state at p.1) c.in_ok-shared.ensures in
    record {
      done = p ∷ l.invariant.done;
      whole = whole;
      made = state-more p l.invariant.done l.state _ l.undefined l.invariant.made l.invariant.read new written;
      read = read-more p l.invariant.done l.state _ l.undefined _ l.invariant.read written c.in_ok-note_undef.ensures;
    }
