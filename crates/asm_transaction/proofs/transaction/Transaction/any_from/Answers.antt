use Rattle.std.proofs.Common.{◌≡◌, ◌∙◌, ℕ, List, ap, refl, sym, subst}
use Rattle.std.specs.Bool.{OnFalse, OnTrue}
use Rattle.asm_element.specs.Place.{Place}
use Rattle.asm_overlay.specs.Frames.{OverView, seen_through}
use Rattle.asm_state.specs.Shown.{IsNoneShown, IsOneShown}
use Rattle.asm_state.specs.View.{StateView, value_at}
use Rattle.asm_step.specs.Layers.{frames_of, scanned}
use Rattle.asm_update.specs.State.{State, empty, val}
use Rattle.asm_transaction.specs.View.{TransactionView, names_of, places_of}
use Rattle.asm_transaction.proofs.Counts.{any_by_own, any_here}
use Rattle.asm_transaction.proofs.Shown.{shows_all}
use Rattle.asm_transaction.proofs.transaction.Transaction.any_from.Goals as goal

pub returns-then-shows_one-clause-any : goal.returns-then-shows_one-clause-any
returns-then-shows_one-clause-any g c a own is =
    let inside : TransactionView = record {
      number = c.self.inside.number;
      layers = c.self.inside.step;
      tracked = places_of c.self.inside.tracked.items;
      scanned = names_of c.self.inside.scanned.items;
    } in
    let s = c.args.state.now in
    let o = c.over-seen.result in
    let shows = shows_all g.A.Aggregator.meaning a s c.args.self.now inside o c.self.view_is c.over-seen.ensures own
    (sym c.number.ensures ∙ c.if-number-self.false) is in
    any_here g.A.Aggregator.meaning a c.args.self.now c.args.first.now.name (seen_through o.frames (value_at o.below)) shows
    (subst (λ b. OnTrue b (IsOneShown c.args.first.now.name (seen_through o.frames (value_at o.below)))) c.if-shows_one.true c.shows_one.ensures.some)

pub returns-clause-any : goal.returns-clause-any
returns-clause-any g c a own is =
    let inside : TransactionView = record {
      number = c.self.inside.number;
      layers = c.self.inside.step;
      tracked = places_of c.self.inside.tracked.items;
      scanned = names_of c.self.inside.scanned.items;
    } in
    let s = c.args.state.now in
    let name = c.args.first.now.name in
    let F = frames_of c.self.inside.step in
    let o = c.over-seen.result in
    let over : o ≡ record { frames = F; below = s } = c.over-seen.ensures in
    let shows = shows_all g.A.Aggregator.meaning a s c.args.self.now inside (record { frames = F; below = s }) c.self.view_is refl own
    (sym c.number.ensures ∙ c.if-number-self.false) is in
    let hidden : IsNoneShown s name (seen_through F (value_at s)) =
    subst (λ (x : OverView StateView). IsNoneShown s name (seen_through x.frames (value_at x.below))) over
    (subst (λ b. OnFalse b (IsNoneShown s name (seen_through o.frames (value_at o.below)))) c.if-shows_one.false c.shows_one.ensures.none) in
    let own_at : (l : Place) → val c.in_ok-own.own l ≡ scanned F (val empty) name l =
    (λ l. c.in_ok-own.ensures l
    ∙ ap (λ (n : List ℕ). scanned F (val c.new.result) n l) c.name.ensures.name ∙ ap (λ (A : State). scanned F (val A) name l) c.new.ensures) in
    any_by_own g.A.Aggregator.meaning a c.args.self.now name F s c.in_ok-own.own c.lists_any.result shows own_at hidden
    c.lists_any.ensures.some c.lists_any.ensures.none
