-- A function that is scanned besides others.
use Rattle.std.proofs.Common.{◌≡◌, ◌≤◌, ◌+◌, ◌∙◌, ◌||◌, ℕ, true, false, List, [], ◌∷◌, ◌++◌, All, Contains, Option, Some, None, IfSome, IfNone, length, string_bytes, arith, refl, inl, inr, ap, subst, sym}
use Rattle.std.specs.Cmp.Lexicographic.{pointwise}
use Rattle.std.specs.List.{list_any}
use Rattle.std.specs.Prelude.{nat_eq}
use Rattle.std.proofs.lemmas.Bool.{false≢true}
use Rattle.std.proofs.lemmas.Cmp.{nat_list_eq_equiv}
use Rattle.std.proofs.lemmas.List.{length-map, length_push}
use Rattle.std.proofs.lemmas.List.Elements.{All-push}
use Rattle.std.proofs.lemmas.Map.Views.{Contains-from_any, list_any-from_Contains}
use Rattle.asm_element.proofs.Same.{same_list}
use Rattle.asm_state.specs.declared.named.Named.{Named}
use Rattle.asm_state.specs.declared.scanned.Scanned.{Scanned}
use Rattle.asm_storage.specs.Limits.{reads_limit}
use Rattle.asm_transaction.specs.View.{TransactionView, names_of, places_of}
use Rattle.asm_transaction.specs.Reading.{IsUnseen}
use Rattle.asm_transaction.specs.Scanning.{IsNoScanFor, IsScanFor, IsUnscanned, IsUntaken, has_scan}
use Rattle.asm_transaction.specs.declared.error.TransactionError.{TransactionError}
use Rattle.asm_transaction.specs.declared.error.TransactionError.TheVariants as transaction_error

-- names that the test finds equal are equal
same_name : (x y : List ℕ) → pointwise nat_eq x y ≡ true → x ≡ y
same_name = same_list nat_eq (λ x y h. grind (arith, h))

any_of_names : (scans : List Scanned) (name : List ℕ) → has_scan name scans ≡ list_any (pointwise nat_eq name) (names_of scans)
any_of_names [] name = refl
any_of_names (x ∷ xs) name = ap (λ b. pointwise nat_eq name (string_bytes x.name) || b) (any_of_names xs name)

-- if the test finds a scan of the name, there is one
pub named : (scans : List Scanned) (name : List ℕ) → has_scan name scans ≡ true → Contains (names_of scans) name
named scans name is = Contains-from_any {eq = pointwise nat_eq} same_name name (names_of scans) (sym (any_of_names scans name) ∙ is)

-- and if it finds none, there is none
pub unnamed : (scans : List Scanned) (name : List ℕ) → has_scan name scans ≡ false → ¬ Contains (names_of scans) name
unnamed scans name is has =
    false≢true (sym is ∙ any_of_names scans name ∙ list_any-from_Contains nat_list_eq_equiv name (names_of scans) has)

-- one more scan takes one of the places that are left, and is at the number of the others
pub few_scans : {X : Type 0} (tracked : List X) (old mid new : List Scanned) (name : List ℕ) (number limit : ℕ) (scan : Option Scanned) →
    length tracked + limit ≤ reads_limit → length tracked + length old ≤ reads_limit → All (λ x. x.number ≡ number) old → mid ≡ old →
    IsScanFor limit old name number scan → IfSome scan (λ one. new ≡ mid ++ one ∷ []) → IfNone scan (new ≡ mid) →
    (length tracked + length new ≤ reads_limit) × All (λ x. x.number ≡ number) new
few_scans tracked old mid new name number limit None room few numbers same is some none =
    subst (λ xs. (length tracked + length xs ≤ reads_limit) × All (λ x. x.number ≡ number) xs) (sym (none ∙ same)) (few, numbers)
few_scans tracked old mid new name number limit (Some scan) room few numbers same is some none =
    let put : new ≡ old ++ scan ∷ [] = some ∙ ap (λ xs. xs ++ scan ∷ []) same in
    subst (λ xs. (length tracked + length xs ≤ reads_limit) × All (λ x. x.number ≡ number) xs) (sym put)
    (omega (arith, length_push old scan, is.3, room), All-push (λ x. x.number ≡ number) old scan numbers is.1)

-- each scan has one name
pub few_places : {X : Type 0} (tracked : List X) (scans : List Scanned) → length tracked + length scans ≤ reads_limit →
    length tracked + length (names_of scans) ≤ reads_limit
few_places tracked scans few = omega (arith, few, length-map scans (λ (x : Scanned). string_bytes x.name))

-- why the function can't be scanned
pub not_taken : (t inside : TransactionView) (tracked : List Named) (scans : List Scanned) (name : List ℕ) (limit : ℕ)
    (e : TransactionError) → inside ≡ t → inside.tracked ≡ places_of tracked → inside.scanned ≡ names_of scans →
    reads_limit ≤ length tracked + limit → IsNoScanFor limit scans name e → IsUntaken name t e
not_taken t inside tracked scans name limit e view places names room (inl memory) =
    subst (IsUntaken name t) (sym memory) tt
not_taken t inside tracked scans name limit e view places names room (inr why) =
    subst (IsUntaken name t) (sym why.0)
    (subst (λ (x : TransactionView). ¬ Contains x.scanned name × (reads_limit ≤ length x.tracked + length x.scanned)) view (
      subst (λ (ns : List (List ℕ)). ¬ Contains ns name) (sym names) why.2,
      omega (
        arith,
        room,
        why.1,
        ap length places,
        ap length names,
        length-map tracked (λ (r : Named). r.at),
        length-map scans (λ (x : Scanned). string_bytes x.name),
      ),
    ))

-- why the function isn't scanned
pub unscanned_untaken : (name : List ℕ) (n : ℕ) (t : TransactionView) (e : TransactionError) → IsUntaken name t e → IsUnscanned name n t e
unscanned_untaken name n t transaction_error.Moved why = absurd why
unscanned_untaken name n t transaction_error.ManyReads why = why
unscanned_untaken name n t transaction_error.Memory why = tt

pub unscanned_unseen : (name : List ℕ) (n : ℕ) (t : TransactionView) (e : TransactionError) → IsUnseen n t e → IsUnscanned name n t e
unscanned_unseen name n t transaction_error.Moved why = why
unscanned_unseen name n t transaction_error.ManyReads why = absurd why
unscanned_unseen name n t transaction_error.Memory why = tt
