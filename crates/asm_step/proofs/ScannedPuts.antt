-- What a scan shows once puts came in, one after the other.
use Rattle.std.proofs.Common.{◌≡◌, ◌+◌, ◌<◌, ℕ, Bool, true, false, cond, List, [], ◌∷◌, ◌++◌, take, get_or, length, Option, Some, None, unwrap_or, refl, sym, ap, ◌∙◌}
use Rattle.std.proofs.lemmas.List.{take_more}
use Rattle.std.specs.FinMap as finite
use Rattle.std.specs.Option.{option_map, option_map_or, option_or}
use Rattle.asm_element.proofs.Ordered.{no_entries}
use Rattle.asm_element.specs.Place.{Place, location_cmp, location_cmp_total}
use Rattle.asm_element.specs.declared.value.Value.{Value}
use Rattle.asm_update.specs.Action.{regular_value}
use Rattle.asm_update.specs.Move.{Move}
use Rattle.asm_update.specs.State.{State, val, write}
use Rattle.asm_update.specs.declared.action.Instruction.{Instruction}
use Rattle.asm_step.specs.Layers.{scanned}
use Rattle.asm_step.specs.Outcomes.{Outcome, Outcomes, frame, held_by, put_on, put_outcome, puts_on}
use Rattle.asm_step.proofs.HeldPuts.{get-put, put_last}
use Rattle.asm_step.proofs.Insertions.{all_in, has_name, none_in, one_in, values_in}
use Rattle.asm_step.proofs.Stacked.{get-frame}

abbrev nothing : Outcomes
nothing = finite.empty

no_frame : (q : Place) → finite.get (frame nothing) q ≡ None
no_frame q = get-frame nothing q ∙ ap (option_map (λ (o : Outcome). o.value)) (finite.get-empty location_cmp q)

-- without outcomes a scan shows what is there
pub none_shown : (name : List ℕ) (A : State) (q : Place) → val A q ≡ scanned (frame nothing ∷ []) (val A) name q
none_shown name A q =
    by_test (has_name name q) ∙ ap (λ (o : Option Value). cond (has_name name q) (unwrap_or o (val A q)) (val A q)) (sym (no_frame q)) where
      by_test : (b : Bool) → val A q ≡ cond b (val A q) (val A q)
      by_test true = refl
      by_test false = refl

-- an instruction that is no put shows nothing
pub other_shown : (name : List ℕ) (i : Instruction) (A : State) → None ≡ regular_value i.action → (q : Place) →
    val A q ≡ scanned (frame (put_on nothing i) ∷ []) (val A) name q
other_shown name i A is q =
    none_shown name A q
    ∙ ap (λ (o : Option Value). scanned (frame (option_map_or (λ v. finite.insert nothing i.at (put_outcome v)) o nothing) ∷ []) (val A) name q) is

-- a put shows its value
pub put_shown : (name : List ℕ) (i : Instruction) (v : Value) (A B : State) → Some v ≡ regular_value i.action →
    B ≡ cond (has_name name i.at) (write A i.at v) A → (q : Place) →
    val B q ≡ scanned (frame (put_on nothing i) ∷ []) (val A) name q
put_shown name i v A B is wrote =
    let es : List (Place × Outcome) = (i.at, put_outcome v) ∷ [] in
    let alone : finite.entries (finite.insert nothing i.at (put_outcome v)) ≡ es =
    finite.entries-insert location_cmp_total nothing i.at (put_outcome v)
    ∙ ap (finite.put location_cmp i.at (put_outcome v))
    (no_entries _ (sym (finite.len-entries nothing) ∙ finite.len-empty location_cmp Outcome)) in
    let start : es ≡ finite.entries (put_on nothing i) =
    sym alone ∙ ap (λ (o : Option Value). finite.entries (option_map_or (λ v. finite.insert nothing i.at (put_outcome v)) o nothing)) is in
    all_in name (put_on nothing i) es [] A B start refl
    (one_in name (values_in es) i.at v [] A A B wrote (none_in name (put_on nothing i) es A start))

-- a put alone is held where it puts
put_there : (i : Instruction) (q : Place) → finite.get (put_on nothing i) q ≡ held_by i q
put_there i q = get-put nothing i q ∙ ap (option_or (held_by i q)) (finite.get-empty location_cmp q) ∙ alone (held_by i q) where
  alone : (x : Option Outcome) → option_or x None ≡ x
  alone (Some o) = refl
  alone None = refl

-- one more came in
module _ (name : List ℕ) (M : Move) (i : Instruction) (A B C : State)
    (before : (q : Place) → val B q ≡ scanned (frame (puts_on nothing M) ∷ []) (val A) name q)
    (this : (q : Place) → val C q ≡ scanned (frame (put_on nothing i) ∷ []) (val B) name q) where
  values : (q : Place) → finite.get (frame (puts_on nothing (M ++ i ∷ []))) q
      ≡ option_or (finite.get (frame (put_on nothing i)) q) (finite.get (frame (puts_on nothing M)) q)
  values q =
      get-frame (puts_on nothing (M ++ i ∷ [])) q
      ∙ ap (option_map (λ (o : Outcome). o.value)) (put_last M i q)
      ∙ by_held (held_by i q) (finite.get (puts_on nothing M) q)
      ∙ (λ k. option_or (option_map (λ (o : Outcome). o.value) (sym (put_there i q) k)) (sym (get-frame (puts_on nothing M) q) k))
      ∙ ap (λ (x : Option Value). option_or x (finite.get (frame (puts_on nothing M)) q)) (sym (get-frame (put_on nothing i) q)) where
        by_held : (o x : Option Outcome) →
            option_map (λ (o : Outcome). o.value) (option_or o x)
            ≡ option_or (option_map (λ (o : Outcome). o.value) o) (option_map (λ (o : Outcome). o.value) x)
        by_held (Some o) x = refl
        by_held None x = refl

  pub one_shown : (q : Place) → val C q ≡ scanned (frame (puts_on nothing (M ++ i ∷ [])) ∷ []) (val A) name q
  one_shown q = this q ∙ by_test (has_name name q) (val B q) (before q) where
    both : (x y : Option Value) (v : Value) → unwrap_or x (unwrap_or y v) ≡ unwrap_or (option_or x y) v
    both (Some w) y v = refl
    both None y v = refl

    by_test : (b : Bool) (w : Value) → w ≡ cond b (unwrap_or (finite.get (frame (puts_on nothing M)) q) (val A q)) (val A q) →
        cond b (unwrap_or (finite.get (frame (put_on nothing i)) q) w) w
        ≡ cond b (unwrap_or (finite.get (frame (puts_on nothing (M ++ i ∷ []))) q) (val A q)) (val A q)
    by_test true w e =
        ap (unwrap_or (finite.get (frame (put_on nothing i)) q)) e
        ∙ both (finite.get (frame (put_on nothing i)) q) (finite.get (frame (puts_on nothing M)) q) (val A q)
        ∙ ap (λ (o : Option Value). unwrap_or o (val A q)) (sym (values q))
    by_test false w e = e

-- so many of the list came in
pub taken_shown : (name : List ℕ) (M : Move) (n : ℕ) (x : Instruction) (A B C : State) → n < length M → x ≡ get_or M n x →
    ((q : Place) → val B q ≡ scanned (frame (puts_on nothing (take n M)) ∷ []) (val A) name q) →
    ((q : Place) → val C q ≡ scanned (frame (put_on nothing x) ∷ []) (val B) name q) →
    (q : Place) → val C q ≡ scanned (frame (puts_on nothing (take (n + 1) M)) ∷ []) (val A) name q
taken_shown name M n x A B C lt is before this q =
    one_shown name (take n M) x A B C before this q
    ∙ ap (λ (N : Move). scanned (frame (puts_on nothing N) ∷ []) (val A) name q)
    (ap (λ (y : Instruction). take n M ++ y ∷ []) is ∙ sym (take_more M n x lt))
