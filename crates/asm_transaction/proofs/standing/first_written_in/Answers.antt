use Rattle.std.proofs.Common.{◌≡◌, ℕ, List, false, subst, sym}
use Rattle.std.specs.Prelude.{All, string_bytes}
use Rattle.std.specs.Option.{option_copied}
use Rattle.std.proofs.lemmas.List.{take_all}
use Rattle.std.proofs.lemmas.List.Elements.{All-more}
use Rattle.asm_element.specs.Place.{Place}
use Rattle.asm_update.specs.Move.{IsLeast}
use Rattle.asm_state.specs.Scans.{is_rewritten, IsLeastOf}
use Rattle.asm_transaction.proofs.Standings.{name_written, names_unwritten}
use Rattle.asm_transaction.proofs.standing.first_written_in.Goals as goal

pub loop-scan-preserved : goal.loop-scan-preserved
loop-scan-preserved c = λ part init q follows.
    let n = c.args.number in
    let s = c.scan-item.result in
    let least = c.in_ok-found.ensures part init q follows in
    let found = subst (λ o. IsLeastOf (is_rewritten part init q c.as_str.result.now n) (option_copied o)) c.in-None.is least in
    let here = subst (λ (name : List ℕ). (j : Place) → is_rewritten part init q name n j ≡ false) c.as_str.ensures.value found in
    All-more (λ x. (j : Place) → is_rewritten part init q (string_bytes x.name) n j ≡ false) c.args.scans.now c.loop-scan.scan-index s
    c.loop-scan-test.true (c.loop-scan.invariant part init q follows)
    (subst (λ x. (j : Place) → is_rewritten part init q (string_bytes x.name) n j ≡ false) c.scan-item.is here)

pub returns-in-Some : goal.returns-in-Some
returns-in-Some c = λ part init q follows.
    let n = c.args.number in
    let s = c.scan-item.result in
    let least = c.in_ok-found.ensures part init q follows in
    let found = subst (λ o. IsLeastOf (is_rewritten part init q c.as_str.result.now n) (option_copied o)) c.in-Some.is least in
    let here = subst (λ (name : List ℕ). IsLeast (is_rewritten part init q name n) c.in-Some.at.now) c.as_str.ensures.value found in
    name_written part init q n c.args.scans.now s c.in-Some.at.now _ (c.loop-scan.scan-index, c.loop-scan-test.true, sym c.scan-item.is)
    here.passes c.in_ok-copy-in-Some.ensures

pub returns : goal.returns
returns c = λ part init q follows.
    names_unwritten part init q c.args.number c.args.scans.now
    (subst (λ ss. All (λ s. (j : Place) → is_rewritten part init q (string_bytes s.name) c.args.number j ≡ false) ss)
    (take_all c.loop-scan.scan-index c.args.scans.now c.loop-scan-test.false) (c.loop-scan.invariant part init q follows))
