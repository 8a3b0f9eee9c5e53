use Rattle.std.proofs.Common.{[], ◌∷◌, sym, ◌∙◌, append-nil}
use Rattle.asm_element.specs.Element.{element_cmp}
use Rattle.asm_journal.proofs.EntriesKept.{one_back, none_distinct, set-twice, set-more}
use Rattle.asm_journal.proofs.form.set.set_of.Goals as goal

pub loop-element-init : goal.loop-element-init
loop-element-init c = record { done = []; whole = append-nil _; made = (none_distinct element_cmp, c.new-set.ensures) }

pub returns-then-not-branch : goal.returns-then-not-branch
returns-then-not-branch c =
    let l = c.loop-element in
    let e = c.in-Some.element in
    let whole = one_back _ e _ l.invariant.done _ l.invariant.whole c.in-Some.ensures.items in
    set-twice _ e l.invariant.done _ l.set whole l.invariant.made (sym c.in_ok-insert.ensures.added ∙ c.if-not-branch.true)

pub loop-element-preserved : goal.loop-element-preserved
loop-element-preserved c =
    let l = c.loop-element in
    let e = c.in-Some.element in
    let whole = one_back _ e _ l.invariant.done _ l.invariant.whole c.in-Some.ensures.items in
    record {
      done = e ∷ l.invariant.done;
      whole = whole;
      made =
          set-more e l.invariant.done l.set _ l.invariant.made
          (sym c.in_ok-insert.ensures.added ∙ c.if-not-branch.false) c.in_ok-insert.ensures.ok;
    }
