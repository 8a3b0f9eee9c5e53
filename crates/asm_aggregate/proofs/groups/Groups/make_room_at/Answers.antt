use Rattle.std.proofs.Common.{[], Some, cond, is_some, ap, sym, ◌∙◌}
use Rattle.std.specs.BTreeMap as tree
use Rattle.std.specs.BTreeMap.{is_at}
use Rattle.std.specs.Ordering.{eq_by_cmp}
use Rattle.std.specs.FinMap as finite
use Rattle.asm_element.specs.Place.{Place, location_cmp}
use Rattle.asm_aggregate.specs.Bundle.{Bundle, bundle_of}
use Rattle.asm_aggregate.proofs.Grouped.{get-shown, put_in, ref_cmp, room_there, room_made}
use Rattle.asm_aggregate.proofs.groups.Groups.make_room_at.Goals as goal

pub returns-then-contains_key : goal.returns-then-contains_key
returns-then-contains_key c =
    room_there c.args.self.now c.args.at.now
    (ap (λ (m : finite.FinMap location_cmp Bundle). is_some (finite.get m c.args.at.now)) (sym c.self.view_is)
    ∙ ap is_some (get-shown c.self.inside.tree c.args.at)
    ∙ sym c.contains_key.ensures ∙ c.if-contains_key.true)

pub returns : goal.returns
returns c =
    let shown_as = λ (l : Place). ap (λ (m : finite.FinMap location_cmp Bundle). finite.get m l) c.self.view_is in
    room_made c.args.self.now c.args.at.now _
    (ap is_some (sym (shown_as c.args.at.now)) ∙ ap is_some (get-shown c.self.inside.tree c.args.at)
    ∙ sym c.contains_key.ensures ∙ c.if-contains_key.false)
    (λ l. put_in c.self.inside.tree c.insert.new.self c.args.at (bundle_of [])
    (λ q. c.in_ok-insert.ensures.updates.0 q
    ∙ ap (λ b. cond (is_at (ref_cmp c.args.at) q) (Some b) (tree.get ref_cmp c.self.inside.tree q)) c.new.ensures) l
    ∙ ap (cond (eq_by_cmp location_cmp l c.args.at.now) (Some (bundle_of []))) (shown_as l))
