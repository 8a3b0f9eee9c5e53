use Rattle.std.proofs.Common.{◌≡◌, ◌∙◌, ℕ, List, ap, refl, sym, subst}
use Rattle.asm_element.specs.Place.{Place}
use Rattle.asm_overlay.specs.Frames.{OverView, seen_through}
use Rattle.asm_state.specs.Shown.{IsCountOf, shown_there}
use Rattle.asm_state.specs.View.{StateView, value_at}
use Rattle.asm_step.specs.Layers.{frames_of, scanned}
use Rattle.asm_update.specs.State.{State, empty, val}
use Rattle.asm_transaction.specs.View.{TransactionView, names_of, places_of}
use Rattle.asm_transaction.proofs.Counts.{count_by_own, none_below}
use Rattle.asm_transaction.proofs.Shown.{shows_all}
use Rattle.asm_transaction.proofs.transaction.Transaction.count_from.Goals as goal

pub returns-clause-count : goal.returns-clause-count
returns-clause-count g c a own is =
    let inside : TransactionView = record {
      number = c.self.inside.number;
      layers = c.self.inside.step;
      tracked = places_of c.self.inside.tracked.items;
      scanned = names_of c.self.inside.scanned.items;
    } in
    let s = c.args.state.now in
    let name = c.args.first.now.name in
    let F = frames_of c.self.inside.step in
    let o = c.over-seen.result in
    let over : o ≡ record { frames = F; below = s } = c.over-seen.ensures in
    let shows = shows_all g.A.Aggregator.meaning a s c.args.self.now inside (record { frames = F; below = s }) c.self.view_is refl own
    (sym c.number.ensures ∙ c.if-number-self.false) is in
    let own_at : (l : Place) → val c.in_ok-own.own l ≡ scanned F (val empty) name l =
    (λ l. c.in_ok-own.ensures l
    ∙ ap (λ (n : List ℕ). scanned F (val c.new.result) n l) c.name.ensures.name ∙ ap (λ (A : State). scanned F (val A) name l) c.new.ensures) in
    let counted : IsCountOf (shown_there s name (seen_through F (value_at s))) c.count_shown-counted.result =
    subst (λ (x : OverView StateView). IsCountOf (shown_there s name (seen_through x.frames (value_at x.below))) c.count_shown-counted.result) over
    c.count_shown-counted.ensures in
    count_by_own g.A.Aggregator.meaning a c.args.self.now name c.args.first.now F s c.in_ok-own.own c.count_beside.result shows own_at c.proper.ensures
    (c.count_beside.ensures (shown_there s name (seen_through F (value_at s))) counted (none_below F s name c.in_ok-own.own own_at))
