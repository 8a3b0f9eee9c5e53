use Rattle.std.proofs.Common.{◌≡◌, T, List, ap, sym, ◌∙◌, subst, rules}
use Rattle.std.specs.FinMap as finite
use Rattle.asm_element.specs.Place.{Place, location_cmp}
use Rattle.asm_element.specs.Ascending.{rising_rest}
use Rattle.asm_state.specs.declared.entries.WrittenValue.{WrittenValue}
use Rattle.asm_state.specs.Scans.{is_newer}
use Rattle.asm_state.specs.View.{writer_of}
use Rattle.asm_state.proofs.Insertions.{rising_start}
use Rattle.asm_state.proofs.WrittenAbove.{newer_rest, newer_end, newer_found}
use Rattle.asm_state.proofs.entries.Entries.least_of_all.Goals as goal

pub loop-at-init : goal.loop-at-init
loop-at-init c =
    let s = c.args.self.now in
    let start : c.into_iter-at-iterator.result ≡ finite.entries s = search rules in
    record {
      rising = rising_start s c.into_iter-at-iterator.result start;
      same = λ q. ap (λ o. is_newer c.args.name.now c.args.number q (writer_of o))
          (ap (λ (es : List (Place × WrittenValue)). finite.find location_cmp q es) start ∙ sym (finite.get-entries s q));
    }

pub loop-at-preserved : goal.loop-at-preserved
loop-at-preserved c =
    let before = c.loop-at.invariant in
    let name = c.args.name.now in
    let k = c.in-Some.at.now in
    let w = c.in-Some.written.now in
    let rest = c.next.new.self in
    let step = c.in-Some.ensures.steps in
    let sorted = subst (λ (es : List (Place × WrittenValue)). T (finite.is_sorted location_cmp es)) step before.rising in
    record {
      rising = rising_rest location_cmp k w rest sorted;
      same = λ q. newer_rest name c.args.number k w rest q sorted (sym c.is_newer.ensures ∙ c.if-is_newer.false)
          ∙ ap (λ (es : List (Place × WrittenValue)). is_newer name c.args.number q (writer_of (finite.find location_cmp q es))) (sym step)
          ∙ before.same q;
    }

pub returns-then-is_newer : goal.returns-then-is_newer
returns-then-is_newer c =
    let before = c.loop-at.invariant in
    let name = c.args.name.now in
    let k = c.in-Some.at.now in
    let w = c.in-Some.written.now in
    let rest = c.next.new.self in
    let step = c.in-Some.ensures.steps in
    let sorted = subst (λ (es : List (Place × WrittenValue)). T (finite.is_sorted location_cmp es)) step before.rising in
    newer_found name c.args.number (λ l. is_newer name c.args.number l (writer_of (finite.get c.args.self.now l))) k w rest sorted
    (sym c.is_newer.ensures ∙ c.if-is_newer.true)
    (λ q. ap (λ (es : List (Place × WrittenValue)). is_newer name c.args.number q (writer_of (finite.find location_cmp q es))) (sym step)
    ∙ before.same q)

pub returns : goal.returns
returns c =
    let name = c.args.name.now in
    newer_end name c.args.number (λ l. is_newer name c.args.number l (writer_of (finite.get c.args.self.now l)))
    (λ q. ap (λ (es : List (Place × WrittenValue)). is_newer name c.args.number q (writer_of (finite.find location_cmp q es)))
    (sym c.in-None.ensures.steps.0) ∙ c.loop-at.invariant.same q)
