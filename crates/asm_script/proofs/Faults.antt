-- The faults of what is written in a script, and the first of them.
use Rattle.std.proofs.Common.{◌≡◌, ◌+◌, ℕ, List, [], ◌∷◌, ◌++◌, length, Bool, true, false, sym, ap, ap₂, ◌∙◌, subst, inr}
use Rattle.std.proofs.Common.{append_assoc, Result, Ok, Err, arith}
use Rattle.std.specs.Prelude.{IsErrAnd, codes, ◌<◌, ◌≤◌, ◌||◌, nat_lt, Option, Some, IfSome}
use Rattle.std.proofs.lemmas.Bool.{lt-ltb, le-ltb}
use Rattle.std.proofs.lemmas.List.{append-nil}
use Rattle.std.proofs.lemmas.Bool.Decides.{same_from_decides}
use Rattle.std.proofs.lemmas.Map.Keys.{IsDistinct-from_sorted}
use Rattle.std.proofs.lemmas.Map.Made.{is_member-Decides, length-from_keys}
use Rattle.std.specs.Bool.{Decides}
use Rattle.std.specs.Cmp.{IsEquivalence, eq_by_cmp_equiv}
use Rattle.std.specs.Ordering.{eq_by_cmp}
use Rattle.std.specs.Set.{is_member}
use Rattle.serde_json.specs.Data.{Data}
use Rattle.asm_element.specs.Place.{Place, location_cmp, location_cmp_total, same_location}
use Rattle.asm_journal.specs.Form.{IsFaultOf, IsCarried, IsPlaced}
use Rattle.asm_journal.specs.declared.form.fault.FormCause.{FormCause}
use Rattle.asm_journal.specs.declared.form.fault.FormError.{FormError}
use Rattle.asm_journal.specs.declared.form.fault.FormFault.{FormFault}
use Rattle.asm_journal.specs.declared.form.fault.FormError.TheVariants.{Form, Memory}
use Rattle.asm_journal.specs.declared.form.fault.PathStep.{PathStep}
use Rattle.asm_journal.specs.declared.form.fault.PathStep.TheVariants.{Index}
use Rattle.asm_journal.specs.declared.form.fault.FormCause.TheVariants.{BlockCount, ManyReads}
use Rattle.asm_storage.specs.Limits.{reads_limit}
use Rattle.asm_script.specs.Limits.{blocks_limit}
use Rattle.asm_script.specs.StepReads.{named, AreReads}
use Rattle.asm_script.specs.declared.step.Step.{Step}
use Rattle.asm_script.specs.Plan.{Plan}
use Rattle.asm_script.specs.Script.{Fault, when, behind, each_from, each, block_faults, step_faults, reads_count, faults, IsFirst, IsChecked}
use Rattle.asm_script.specs.Script.{HasForm, IsKey, IsScriptForm, plan_of, IsReadScript, limit_of, IsRefusedScript}
use Rattle.asm_script.specs.declared.parsing.UncheckedScript.{UncheckedScript}
use Rattle.asm_script.specs.declared.script.ScriptCause.{ScriptCause}
use Rattle.asm_script.specs.declared.script.ScriptError.TheVariants.{BadScript}

-- a list that has what the step reads, each once, is as long as these are many
pub count_of_reads : (step : Step) (ls : List Place) → AreReads step ls → length ls ≡ reads_count step
count_of_reads step ls reads =
    length-from_keys laws ls (named step) (IsDistinct-from_sorted location_cmp ls reads.ascending) same_member where
      laws : IsEquivalence (eq_by_cmp location_cmp)
      laws = eq_by_cmp_equiv location_cmp_total

      same : (k l : Place) → Decides (eq_by_cmp location_cmp k l) (k ≡ l)
      same k l = (same_location k l, λ e. subst (λ m. eq_by_cmp location_cmp k m ≡ true) e (laws.refl k))

      same_member : (l : Place) → is_member (eq_by_cmp location_cmp) ls l
          ≡ is_member (eq_by_cmp location_cmp) (named step) l
      same_member l =
          let mine = is_member-Decides same ls l in
          let all = is_member-Decides same (named step) l in
          same_from_decides _ _ mine (λ e. (reads.named l).1 (all.0 e), λ h. all.1 ((reads.named l).0 h))

-- the step that is there
pub is_there : (o : Option Step) (s t : Step) → o ≡ Some s → IfSome o (λ u. u ≡ t) → s ≡ t
is_there o s t is h = subst (λ p. IfSome p (λ u. u ≡ t)) is h

-- ---- the first fault

first_before : (xs ys : List Fault) (e : FormError) → IsFirst xs e → IsFirst (xs ++ ys) e
first_before xs ys (Form fault) is = (is.0 ++ ys, ap (λ l. l ++ ys) is.1)
first_before xs ys Memory is = tt

pub first_of : (b : Bool) (cause : FormCause) (rest : List Fault) (e : FormError) → b ≡ true → IsFaultOf cause e →
    IsFirst (when b cause ++ rest) e
first_of b cause rest (Form fault) is of = (
  rest,
  ap (λ t. when t cause ++ rest) is ∙ ap₂ (λ path c. (path, c) ∷ rest) (sym of.0) (sym of.1),
)
first_of b cause rest Memory is of = tt

-- ---- a step of 1 to 65 blocks

pub good_count : (s : Step) → 1 ≤ length s → length s ≤ blocks_limit →
    (nat_lt (length s) 1 || nat_lt blocks_limit (length s)) ≡ false
good_count s some few = ap₂ (λ t u. t || u) (le-ltb (length s) 1 some) (le-ltb blocks_limit (length s) few)

module _ (s : Step) (good : (nat_lt (length s) 1 || nat_lt blocks_limit (length s)) ≡ false) where
  counted : step_faults s ≡ each block_faults s ++ when (nat_lt reads_limit (reads_count s)) ManyReads
  counted = ap (λ t. when t (BlockCount (length s)) ++ (each block_faults s ++ when (nat_lt reads_limit (reads_count s)) ManyReads)) good

  pub in_blocks : (e : FormError) → IsFirst (each block_faults s) e → IsFirst (step_faults s) e
  in_blocks e is = subst (λ l. IsFirst l e) (sym counted) (first_before _ _ e is)

  by_reads : each block_faults s ≡ [] → step_faults s ≡ when (nat_lt reads_limit (reads_count s)) ManyReads
  by_reads none = counted ∙ ap (λ l. l ++ when (nat_lt reads_limit (reads_count s)) ManyReads) none

  pub in_reads : (e : FormError) → each block_faults s ≡ [] → reads_limit < reads_count s → IsFaultOf ManyReads e →
      IsFirst (step_faults s) e
  in_reads e none many of = subst (λ l. IsFirst l e) (append-nil _ ∙ sym (by_reads none))
      (first_of _ ManyReads [] e (lt-ltb reads_limit (reads_count s) many) of)

  pub no_fault : each block_faults s ≡ [] → reads_count s ≤ reads_limit → step_faults s ≡ []
  no_fault none few = by_reads none ∙ ap (λ t. when t ManyReads) (le-ltb reads_limit (reads_count s) few)

-- ---- items one by one

each_from-append : {X : Type 0} (f : X → List Fault) (n m : ℕ) (xs ys : List X) → m ≡ length xs + n →
    each_from f n (xs ++ ys) ≡ each_from f n xs ++ each_from f m ys
each_from-append f n m [] ys is = let same : n ≡ m = omega (arith, is) in ap (λ k. each_from f k ys) same
each_from-append f n m (x ∷ xs) ys is =
    ap (λ l. behind (Index n) (f x) ++ l) (each_from-append f (n + 1) m xs ys (omega (arith, is)))
    ∙ sym (append_assoc (behind (Index n) (f x)) (each_from f (n + 1) xs) _)

-- with no fault so far, those of all are the next one's and the rest's
each_on : {X : Type 0} (f : X → List Fault) (n : ℕ) (done : List X) (x : X) (rest : List X) → n ≡ length done →
    each f done ≡ [] → each f (done ++ x ∷ rest) ≡ behind (Index n) (f x) ++ each_from f (n + 1) rest
each_on f n done x rest count none =
    each_from-append f 0 n done (x ∷ rest) (omega (arith, count)) ∙ ap (λ l. l ++ each_from f n (x ∷ rest)) none

pub none_more : {X : Type 0} (f : X → List Fault) (n : ℕ) (done : List X) (x : X) → n ≡ length done →
    each f done ≡ [] → behind (Index n) (f x) ≡ [] → each f (done ++ x ∷ []) ≡ []
none_more f n done x count none is = each_on f n done x [] count none ∙ ap (λ l. l ++ []) is

pub first_more : {X : Type 0} (f : X → List Fault) (n : ℕ) (done : List X) (x : X) (rest all left : List X) (e : FormError) →
    n ≡ length done → done ++ left ≡ all → left ≡ x ∷ rest → each f done ≡ [] → IsFirst (behind (Index n) (f x)) e →
    IsFirst (each f all) e
first_more f n done x rest all left e count whole step none is =
    subst (λ l. IsFirst l e) (sym (each_on f n done x rest count none) ∙ ap (λ l. each f (done ++ l)) (sym step)
    ∙ ap (each f) whole) (first_before _ _ e is)

-- what `?` returns of the first fault
pub refused : {X : Type 0} (P : X → Type 0) (causes : List Fault) (r : Result X FormError) (e : FormError) →
    IsErrAnd r (λ f. f ≡ e) → IsFirst causes e → IsChecked P causes r
refused P causes (Ok x) e is first = absurd is
refused P causes (Err f) e is first = subst (IsFirst causes) (sym is) first

-- what was made of a part is made with the longer path, too
pub carried : {X : Type 0} (at : PathStep) (P : X → Type 0) (causes : List Fault) (r s : Result X FormError) →
    IsChecked P causes r → IsCarried r s → IsPlaced at r s → IsChecked P (behind at causes) s
carried at P causes (Ok y) s checked is place = subst (IsChecked P (behind at causes)) (sym is) (checked.0, ap (behind at) checked.1)
carried at P causes (Err e) (Ok x) checked is place = absurd is
carried at P causes (Err (Form part)) (Err (Form whole)) checked is place = (
  behind at checked.0,
  ap (behind at) checked.1 ∙ ap₂ (λ path c. (path, c) ∷ behind at checked.0) (sym place.0) (sym place.1),
)
carried at P causes (Err Memory) (Err (Form whole)) checked is place = absurd place
carried at P causes (Err e) (Err Memory) checked is place = tt

-- what JSON of this form is read as, with the longer path
pub read_as : (at : PathStep) (d : Data) (w : UncheckedScript) (r s : Result Plan FormError) → IsScriptForm w d →
    IsKey (codes "agents") at → IsChecked (λ p. p ≡ plan_of w) (faults w.agents) r → IsCarried r s → IsPlaced at r s →
    IsReadScript d s
read_as at d w (Ok p) s form key is same place = subst (IsReadScript d) (sym same) (w, form, is)
read_as at d w (Err e) (Ok p) form key is same place = absurd same
read_as at d w (Err e) (Err f) form key is same place = λ fault. inr (w, at, form, key, carried at (λ p. p ≡ plan_of w) (faults w.agents) (Err e) (Err f) is same place)

-- the first fault of JSON of this form is the cause that is reported
pub limit_first : (bytes : List ℕ) (w : UncheckedScript) (fault : FormFault) (cause : ScriptCause) → HasForm bytes w →
    IsFirst (faults w.agents) (Form fault) → cause ≡ limit_of fault.cause → IsRefusedScript bytes (BadScript cause)
limit_first bytes w fault cause form first is = inr (inr (w, form, (_, first.0, first.1, is)))
