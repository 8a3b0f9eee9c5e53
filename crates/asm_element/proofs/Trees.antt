-- The entries of a tree: what an edit does to them, and as the slots of one chunk.
use Rattle.std.proofs.Common.{◌≡◌, ℕ, zero, suc, ◌+◌, ◌≤◌, ◌<◌, nat_lt, Bool, true, false, not, cond, if◌then◌else◌, List, [], ◌∷◌, ◌++◌, refl, sym, ap, ◌∙◌, subst, arith}
use Rattle.std.specs.Prelude.{Option, None, Some, is_some, All, length, unwrap_or}
use Rattle.std.specs.declared.cmp.Ordering.{Ordering}
use Rattle.std.specs.declared.cmp.Ordering.TheVariants.{Less, Equal, Greater}
use Rattle.std.specs.Ordering.{is_eq, match_ordering}
use Rattle.std.specs.List.{AllByRecursion}
use Rattle.std.specs.List.Sorted.{IsStrictlySortedBy}
use Rattle.std.specs.BTreeMap.{is_at, insert_entry}
use Rattle.std.specs.Map.{keys_of, values_of, lookup, set_value}
use Rattle.std.proofs.lemmas.Bool.{lt-ltb, le-ltb}
use Rattle.std.proofs.lemmas.List.{append-nil}
use Rattle.std.proofs.lemmas.Map.Keys.{sorted_head, sorted_tail}
use Rattle.asm_element.specs.declared.element.Element.{Element}
use Rattle.asm_element.specs.Element.{element_cmp, element_cmp_total}
use Rattle.asm_element.specs.Slots.{keep, live}
use Rattle.asm_element.specs.Entries.{at, held, assigned}
use Rattle.asm_element.specs.Chunks.{there, AreChunks}
use Rattle.asm_element.proofs.Order.{above_higher, lookup_between}

-- what holds of each value holds of each entry
pub all_entries : (P : ℕ → Type 0) (es : List (Element × ℕ)) → All P (values_of es) → AllByRecursion (λ e. P e.1) es
all_entries P [] a = tt
all_entries P (e ∷ es) a = (a 0 0 (omega arith), all_entries P es (λ i d lt. a (suc i) d (omega (arith, lt))))

-- ---- look-ups

some_is : (m : ℕ) → 1 ≤ m → Some m ≡ held m
some_is zero h = absurd (omega (arith, h))
some_is (suc m) h = refl

held_first : (b : Bool) (m : ℕ) (o : Option ℕ) → 1 ≤ m → o ≡ held (unwrap_or o 0) → cond b (Some m) o ≡ held (unwrap_or (cond b (Some m) o) 0)
held_first true m o some rest = some_is m some
held_first false m o some rest = rest

-- what is found at a key, as a count
pub held_at : (es : List (Element × ℕ)) (k : Element) → All (λ n. 1 ≤ n) (values_of es) → at es k ≡ held (unwrap_or (at es k) 0)
held_at [] k a = refl
held_at (e ∷ es) k a =
    held_first (is_at (element_cmp k) e.0) e.1 (at es k) (a 0 0 (omega arith)) (held_at es k (λ i d lt. a (suc i) d (omega (arith, lt))))

-- ---- edits

unset_first : (b : Bool) (e : Element × ℕ) (es rest : List (Element × ℕ)) (o : Option ℕ) (w : ℕ) → cond b (Some e.1) o ≡ None → (o ≡ None → rest ≡ es) → cond b ((e.0, w) ∷ es) (e ∷ rest) ≡ e ∷ es
unset_first true e es rest o w none more = cc none
unset_first false e es rest o w none more = ap (λ xs. e ∷ xs) (more none)

-- a count that is set at a key that isn't there
set_none : (es : List (Element × ℕ)) (k : Element) (w : ℕ) → at es k ≡ None → set_value (is_at (element_cmp k)) es w ≡ es
set_none [] k w none = refl
set_none (e ∷ es) k w none = unset_first (is_at (element_cmp k) e.0) e es (set_value (is_at (element_cmp k)) es w) (at es k) w none (set_none es k w)

pub assigned_none : (es : List (Element × ℕ)) (k : Element) (n : ℕ) → 0 < n → at es k ≡ None → es ≡ assigned es k n
assigned_none es k zero some none = absurd (omega (arith, some))
assigned_none es k (suc n) some none = sym (set_none es k (suc n) none)

pub assigned_some : (es : List (Element × ℕ)) (k : Element) (n : ℕ) → 0 < n → set_value (is_at (element_cmp k)) es n ≡ assigned es k n
assigned_some es k zero some = absurd (omega (arith, some))
assigned_some es k (suc n) some = refl

pub assigned_zero : (es : List (Element × ℕ)) (k : Element) (n : ℕ) → n ≡ 0 → assigned es k 0 ≡ assigned es k n
assigned_zero es k n none = ap (assigned es k) (sym none)

module _ (k : Element) (v : ℕ) where
  insert_first : (e : Element × ℕ) (es : List (Element × ℕ)) (o : Ordering) → o ≡ element_cmp k e.0 → IsStrictlySortedBy element_cmp (e.0 ∷ keys_of es) → at (e ∷ es) k ≡ Some v → (at es k ≡ Some v → insert_entry element_cmp es k v ≡ es) →
      match_ordering o ((k, v) ∷ e ∷ es) ((e.0, v) ∷ es) (e ∷ insert_entry element_cmp es k v) ≡ e ∷ es
  insert_first e es Less is s has more =
      let above = above_higher element_cmp element_cmp_total e.0 k (keys_of es) (sym is) (sorted_head element_cmp e.0 (keys_of es) s) in
      cc (sym has ∙ lookup_between element_cmp element_cmp_total k [] (e ∷ es) tt (sym is, above))
  insert_first e es Equal is s has more =
      let same : v ≡ e.1 = ap (λ (o : Option ℕ). unwrap_or o 0) (sym has ∙ ap (λ o. cond (is_eq o) (Some e.1) (at es k)) (sym is)) in
      λ i. (e.0, same i) ∷ es
  insert_first e es Greater is s has more = ap (λ xs. e ∷ xs) (more (ap (λ o. cond (is_eq o) (Some e.1) (at es k)) is ∙ has))

  -- writing at a key what it has
  pub insert_same : (es : List (Element × ℕ)) → IsStrictlySortedBy element_cmp (keys_of es) → at es k ≡ Some v → insert_entry element_cmp es k v ≡ es
  insert_same [] s has = cc has
  insert_same (e ∷ es) s has = insert_first e es (element_cmp k e.0) refl s has (insert_same es (sorted_tail element_cmp e.0 (keys_of es) s))

module _ (es : List (Element × ℕ)) (k : Element) (n w : ℕ) (added : Bool) where
  by_held : (o : Option ℕ) → at es k ≡ o → IsStrictlySortedBy element_cmp (keys_of es) → added ≡ not (is_some o) → w ≡ unwrap_or o n →
      insert_entry element_cmp es k w ≡ (if added then insert_entry element_cmp es k n else es)
  by_held None has s tells held =
      ap (insert_entry element_cmp es k) held ∙ ap (λ b. if b then insert_entry element_cmp es k n else es) (sym tells)
  by_held (Some v) has s tells held =
      ap (insert_entry element_cmp es k) held ∙ insert_same k v es s has
      ∙ ap (λ b. if b then insert_entry element_cmp es k n else es) (sym tells)

-- the entries with a key, whose count stays where it is there
pub inserted : (es new : List (Element × ℕ)) (k : Element) (n w : ℕ) (added : Bool) → IsStrictlySortedBy element_cmp (keys_of es) →
    added ≡ not (is_some (at es k)) → w ≡ unwrap_or (at es k) n → new ≡ insert_entry element_cmp es k w →
    new ≡ (if added then insert_entry element_cmp es k n else es)
inserted es new k n w added s tells held is = is ∙ by_held es k n w added (at es k) refl s tells held

-- whether it was added is seen by the lengths
pub longer : (b : Bool) (m n : ℕ) → n ≡ m + (if b then 0 else 1) → nat_lt m n ≡ not b
longer true m n is = le-ltb m n (omega (arith, is))
longer false m n is = lt-ltb m n (omega (arith, is))

kept_first : (b : Bool) (m : ℕ) (o : Option ℕ) (n : ℕ) → 1 ≤ m → 1 ≤ unwrap_or o n → 1 ≤ unwrap_or (cond b (Some m) o) n
kept_first true m o n some rest = some
kept_first false m o n some rest = rest

pub kept_count : (es : List (Element × ℕ)) (k : Element) (n : ℕ) → All (λ m. 1 ≤ m) (values_of es) → 1 ≤ n → 1 ≤ unwrap_or (at es k) n
kept_count [] k n a some = some
kept_count (e ∷ es) k n a some =
    kept_first (is_at (element_cmp k) e.0) e.1 (at es k) n (a 0 0 (omega arith)) (kept_count es k n (λ i d lt. a (suc i) d (omega (arith, lt))) some)

-- ---- one chunk

keep_positive : (m : ℕ) (e : Element × ℕ) (es : List (Element × ℕ)) → 1 ≤ m → keep m e es ≡ e ∷ es
keep_positive zero e es h = absurd (omega (arith, h))
keep_positive (suc m) e es h = refl

live_all : (es : List (Element × ℕ)) → All (λ n. 1 ≤ n) (values_of es) → live es ≡ es
live_all [] a = refl
live_all (e ∷ es) a =
    ap (keep e.1 e) (live_all es (λ i d lt. a (suc i) d (omega (arith, lt)))) ∙ keep_positive e.1 e es (a 0 0 (omega arith))

module _ (es : List (Element × ℕ)) where
  -- entries as those of one chunk
  pub there_one : All (λ n. 1 ≤ n) (values_of es) → there (es ∷ []) ≡ es
  there_one a = ap live (append-nil es) ∙ live_all es a

  pub chunks_one : IsStrictlySortedBy element_cmp (keys_of es) → 0 < length es → AreChunks (es ∷ [])
  chunks_one s some = record {
    ordered = subst (λ (xs : List (Element × ℕ)). IsStrictlySortedBy element_cmp (keys_of xs)) (sym (append-nil es)) s;
    filled = (some, tt);
  }
