use Rattle.std.proofs.Common.{◌≡◌, ◌∷◌, ◌+◌, ◌++◌, [], Bool, cond, ap, append-nil, subst, sym, ◌∙◌}
use Rattle.std.specs.Prelude.{All, drop}
use Rattle.std.proofs.lemmas.List.{drop_all, drop_more}
use Rattle.asm_state.specs.Listed.{by_value}
use Rattle.asm_state.specs.Merging.{IsListed, seen}
use Rattle.asm_state.proofs.Listing.{listing_end, listing_more}
use Rattle.asm_state.proofs.listed.merged.Goals.{then-not-starts_at+in_ok-push_seen, else-not-starts_at}
use Rattle.asm_state.proofs.listed.merged.Goals as goal

pub loop-at-preserved : goal.loop-at-preserved
loop-at-preserved c =
    let l = c.loop-at in
    let es = c.args.opening.now in
    let ws = c.args.written.now in
    let e = c.loop-at-item.result in
    let k = e.0.now in
    let mid = by_value c.push_below.new.list.items in
    let step : by_value (drop l.at-index es) ≡ (k, e.1.now) ∷ by_value (drop (l.at-index + 1) es) =
    ap by_value (drop_more es l.at-index e c.loop-at-test.true ∙ ap (λ y. y ∷ drop (l.at-index + 1) es) (sym c.loop-at-item.is)) in
    let pushed : by_value c.if-not-starts_at.list.items ≡ mid ++ cond c.starts_at.result [] (seen k e.1.now) =
    elim c.if-not-starts_at.branch [
      | then-not-starts_at+in_ok-push_seen w ↦
          ap (λ v. by_value v.items) w.list-is ∙ w.in_ok-push_seen.ensures.list
          ∙ ap (λ (b : Bool). mid ++ cond b [] (seen k e.1.now)) (sym w.if-not-starts_at.true)
      | else-not-starts_at w ↦
          ap (λ v. by_value v.items) w.list-is ∙ sym (append-nil mid)
          ∙ ap (λ (b : Bool). mid ++ cond b [] (seen k e.1.now)) (sym w.if-not-starts_at.false)
    ] in
    let listed : All IsListed mid = c.in_ok-next.ensures.listed l.invariant.listed in
    record {
      list = listing_more k e.1.now _ _ (by_value (drop l.next ws)) (by_value (drop c.in_ok-next.next ws)) (by_value l.list.items) mid _ _
          c.starts_at.result step c.in_ok-next.ensures.left c.in_ok-next.ensures.list c.starts_at.ensures pushed l.invariant.list;
      listed = elim c.if-not-starts_at.branch [
        | then-not-starts_at+in_ok-push_seen w ↦
            subst (All IsListed) (sym (ap (λ v. by_value v.items) w.list-is)) (w.in_ok-push_seen.ensures.listed listed)
        | else-not-starts_at w ↦ subst (All IsListed) (sym (ap (λ v. by_value v.items) w.list-is)) listed
      ];
    }

pub returns-clause-list : goal.returns-clause-list
returns-clause-list c =
    let l = c.loop-at in
    listing_end (by_value (drop l.at-index c.args.opening.now)) (by_value (drop l.next c.args.written.now)) (by_value l.list.items) _ _
    (ap by_value (drop_all l.at-index c.args.opening.now c.loop-at-test.false)) c.in_ok-push_rest.ensures.list l.invariant.list
