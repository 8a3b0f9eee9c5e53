use Rattle.std.proofs.Common.{◌≡◌, ◌≢◌, ℕ, List, [], length, false, arith, refl, ap, sym, subst}
use Rattle.std.specs.Prelude.{All, string_bytes}
use Rattle.std.specs.Option.{option_copied}
use Rattle.std.proofs.lemmas.List.{take_all}
use Rattle.std.proofs.lemmas.List.Elements.{All-more}
use Rattle.asm_element.specs.Place.{Place}
use Rattle.asm_update.specs.Move.{IsLeast}
use Rattle.asm_state.specs.Scans.{is_rewritten, IsLeastOf}
use Rattle.asm_storage.specs.Scans.{IsUnwritten}
use Rattle.asm_storage.proofs.part.scanning.first_overtaken.Goals as goal

pub loop-scan-preserved : goal.loop-scan-preserved
loop-scan-preserved c = λ part init q stands.
    let scans = c.args.scans.now in
    let i = c.loop-scan.scan-index in
    let s = c.scan-item.result in
    let some : scans ≢ [] = λ e. let none = ap length e in omega (arith, none, c.loop-scan-test.true) in
    let least = c.in_ok-found.ensures part init q (stands some) in
    let found = subst (λ o. IsLeastOf (is_rewritten part init q c.as_str.result.now s.number) (option_copied o)) c.in-None.is least in
    let here = subst (λ (n : List ℕ). (l : Place) → is_rewritten part init q n s.number l ≡ false) c.as_str.ensures.value found in
    All-more (IsUnwritten part init q) scans i s c.loop-scan-test.true (c.loop-scan.invariant part init q stands)
    (subst (IsUnwritten part init q) c.scan-item.is here)

pub returns-in-Some : goal.returns-in-Some
returns-in-Some c = λ part init q stands.
    let scans = c.args.scans.now in
    let s = c.scan-item.result in
    let some : scans ≢ [] = λ e. let none = ap length e in omega (arith, none, c.loop-scan-test.true) in
    let least = c.in_ok-found.ensures part init q (stands some) in
    let found = subst (λ o. IsLeastOf (is_rewritten part init q c.as_str.result.now s.number) (option_copied o)) c.in-Some.is least in
    let here = subst (λ (n : List ℕ). IsLeast (is_rewritten part init q n s.number) c.in-Some.at.now) c.as_str.ensures.value found in (
      s,
      (c.loop-scan.scan-index, c.loop-scan-test.true, sym c.scan-item.is),
      record {
        least = subst (IsLeast (is_rewritten part init q (string_bytes s.name) s.number)) (sym c.in_ok-copy-in-Some.ensures) here;
        number = refl;
      },
    )

pub returns : goal.returns
returns c = λ part init q stands.
    subst (λ ss. All (IsUnwritten part init q) ss) (take_all c.loop-scan.scan-index c.args.scans.now c.loop-scan-test.false)
    (c.loop-scan.invariant part init q stands)
