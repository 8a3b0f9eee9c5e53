use Rattle.std.proofs.Common.{◌≡◌, ◌≤◌, ◌<◌, ◌+◌, ◌∙◌, true, Contains, List, [], ◌∷◌, All, length, string_bytes, arith, ap, refl, rules, subst, sym}
use Rattle.std.specs.List.{insert}
use Rattle.std.specs.List.Sorted.{IsStrictlySortedBy}
use Rattle.std.proofs.lemmas.List.{length-map}
use Rattle.asm_element.specs.Place.{Place, location_cmp}
use Rattle.asm_state.specs.declared.named.Named.{Named}
use Rattle.asm_state.specs.declared.scanned.Scanned.{Scanned}
use Rattle.asm_step.specs.Layers.{shows_below}
use Rattle.asm_storage.specs.Limits.{reads_limit}
use Rattle.asm_transaction.specs.Reading.{HasTracked}
use Rattle.asm_transaction.specs.Tracked.{IsPlaceFor}
use Rattle.asm_transaction.specs.View.{TransactionView, names_of, places_of}
use Rattle.asm_transaction.proofs.Scans.{few_places}
use Rattle.asm_transaction.proofs.TrackedLists.{kept_more, tracked_already, tracked_more, would_take_many}
use Rattle.asm_transaction.proofs.transaction.Transaction.track_one.Goals as goal

pub returns-in-Ok-clause-tracked : goal.returns-in-Ok-clause-tracked
returns-in-Ok-clause-tracked c =
    let inside : TransactionView = record {
      number = c.self.inside.number;
      layers = c.self.inside.step;
      tracked = places_of c.self.inside.tracked.items;
      scanned = names_of c.self.inside.scanned.items;
    } in
    let shows : shows_below c.self.inside.step c.args.at.now ≡ true = search rules in
    tracked_already inside c.args.self.now c.self.inside.tracked.items c.args.at.now c.self.view_is refl c.self.invariant.0
    (few_places c.self.inside.tracked.items c.self.inside.scanned.items c.self.invariant.1) shows
    (subst (λ (rs : List Named). Contains (places_of rs) c.args.at.now) c.deref.ensures.value c.in-Ok.ensures.found)

pub returns-then-len-clause-err : goal.returns-then-len-clause-err
returns-then-len-clause-err c =
    let inside : TransactionView = record {
      number = c.self.inside.number;
      layers = c.self.inside.step;
      tracked = places_of c.self.inside.tracked.items;
      scanned = names_of c.self.inside.scanned.items;
    } in
    let shows : shows_below c.self.inside.step c.args.at.now ≡ true = search rules in
    would_take_many inside c.args.self.now c.self.inside.tracked.items c.args.at.now c.self.view_is refl c.self.invariant.0
    (few_places c.self.inside.tracked.items c.self.inside.scanned.items c.self.invariant.1) c.in-Err.place c.self.inside.number shows
    (subst (λ (rs : List Named). IsPlaceFor (places_of rs) c.args.at.now c.in-Err.place) c.deref.ensures.value c.in-Err.ensures.absent)
    (omega (
      arith,
      c.if-len.true,
      c.len.ensures,
      c.len-2.ensures,
      c.self.inside.tracked.ok.0,
      c.self.inside.scanned.ok.0,
      length-map c.self.inside.scanned.items (λ (x : Scanned). string_bytes x.name),
    ))

pub invariant_of-self-2 : goal.invariant_of-self-2
invariant_of-self-2 c =
    let put : c.insert.new.self.items
    ≡ insert c.self.inside.tracked.items c.in-Err.place (record { at = c.args.at.now; number = c.self.inside.number }) =
    c.in_ok-insert.ensures.items
    ∙ ap (λ (l : Place). insert c.self.inside.tracked.items c.in-Err.place (record { at = l; number = c.self.inside.number }))
    c.in_ok-at.ensures in
    let room : length c.self.inside.tracked.items + length c.self.inside.scanned.items < reads_limit =
    omega (arith, c.if-len.false, c.len.ensures, c.len-2.ensures, c.self.inside.tracked.ok.0, c.self.inside.scanned.ok.0) in
    subst (λ (rs : List Named).
    IsStrictlySortedBy location_cmp (places_of rs) × (length rs + length c.self.inside.scanned.items ≤ reads_limit)
    × All (λ (r : Named). r.number ≡ c.self.inside.number) rs
    × All (λ (x : Scanned). x.number ≡ c.self.inside.number) c.self.inside.scanned.items) (sym put)
    (kept_more c.self.inside.tracked.items c.self.inside.scanned.items c.in-Err.place c.self.inside.number c.args.at.now
    c.self.invariant.0
    (subst (λ (rs : List Named). IsPlaceFor (places_of rs) c.args.at.now c.in-Err.place) c.deref.ensures.value c.in-Err.ensures.absent)
    room c.self.invariant.2 c.self.invariant.3)

pub returns-clause-tracked : goal.returns-clause-tracked
returns-clause-tracked c =
    let inside : TransactionView = record {
      number = c.self.inside.number;
      layers = c.self.inside.step;
      tracked = places_of c.self.inside.tracked.items;
      scanned = names_of c.self.inside.scanned.items;
    } in
    let shows : shows_below c.self.inside.step c.args.at.now ≡ true = search rules in
    let put : c.insert.new.self.items
    ≡ insert c.self.inside.tracked.items c.in-Err.place (record { at = c.args.at.now; number = c.self.inside.number }) =
    c.in_ok-insert.ensures.items
    ∙ ap (λ (l : Place). insert c.self.inside.tracked.items c.in-Err.place (record { at = l; number = c.self.inside.number }))
    c.in_ok-at.ensures in
    let room : length c.self.inside.tracked.items + length (names_of c.self.inside.scanned.items) < reads_limit =
    omega (
      arith,
      c.if-len.false,
      c.len.ensures,
      c.len-2.ensures,
      c.self.inside.tracked.ok.0,
      c.self.inside.scanned.ok.0,
      length-map c.self.inside.scanned.items (λ (x : Scanned). string_bytes x.name),
    ) in
    subst (λ (rs : List Named). HasTracked (c.args.at.now ∷ []) c.args.self.now (record inside { tracked = places_of rs })) (sym put)
    (tracked_more inside c.args.self.now c.self.inside.tracked.items c.args.at.now c.self.view_is refl c.self.invariant.0
    (few_places c.self.inside.tracked.items c.self.inside.scanned.items c.self.invariant.1) c.in-Err.place c.self.inside.number shows
    (subst (λ (rs : List Named). IsPlaceFor (places_of rs) c.args.at.now c.in-Err.place) c.deref.ensures.value c.in-Err.ensures.absent)
    room)
