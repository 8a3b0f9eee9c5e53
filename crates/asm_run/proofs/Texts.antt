-- The texts of segments, by their names.
use Rattle.std.proofs.Common.{◌≡◌, ◌≢◌, ◌⊎◌, inl, inr, ⊎_elim, ℕ, ◌+◌, ◌<◌, ◌≤◌, Bool, true, false, cond, true≢false}
use Rattle.std.proofs.Common.{List, [], ◌∷◌, ◌++◌, length, refl, sym, ap, ap₂, ◌∙◌, subst, arith, Option, Some, None}
use Rattle.std.specs.Prelude.{bytes_eq}
use Rattle.std.proofs.lemmas.Bool.{cases_lt}
use Rattle.std.proofs.lemmas.Slice.Eq.{bytes_eq-Decides}
use Rattle.asm_run.specs.Name.{number_in}
use Rattle.asm_run.specs.Disk.{Names, names_with as led}
use Rattle.asm_run.specs.Protocol.{Segment, text_of, AreNumbered}

pub same_name : (a b : List ℕ) → ((bytes_eq a b ≡ true) × (a ≡ b)) ⊎ ((bytes_eq a b ≡ false) × (a ≢ b))
same_name a b = by (bytes_eq a b) refl
  where
    by : (t : Bool) → bytes_eq a b ≡ t → ((bytes_eq a b ≡ true) × (a ≡ b)) ⊎ ((bytes_eq a b ≡ false) × (a ≢ b))
    by true e = inl (e, (bytes_eq-Decides a b).0 e)
    by false e = inr (e, λ h. true≢false (sym ((bytes_eq-Decides a b).1 h) ∙ e))

other_name : (a b : List ℕ) → a ≢ b → bytes_eq a b ≡ false
other_name a b h = ⊎_elim (λ same. absurd (h same.1)) (λ other. other.0) (same_name a b)

pub led_same : (name : List ℕ) (to : Option ℕ) (names : Names) → led name to names name ≡ to
led_same name to names = ap (λ t. cond t to (names name)) ((bytes_eq-Decides name name).1 refl)

pub led_other : (name n : List ℕ) (to : Option ℕ) (names : Names) → n ≢ name → led name to names n ≡ names n
led_other name n to names h = ap (λ t. cond t to (names n)) (other_name n name h)

-- a name that isn't the last one's has the text that it had
pub pushed_other : (segments : List Segment) (s : Segment) (n : List ℕ) → n ≢ s.0 →
    text_of (segments ++ s ∷ []) n ≡ text_of segments n
pushed_other [] s n h = ap (λ t. cond t (Some s.1) None) (other_name n s.0 h)
pushed_other (r ∷ segments) s n h = ap (λ (o : Option (List ℕ)). cond (bytes_eq n r.0) (Some r.1) o)
    (pushed_other segments s n h)

pub pushed_same : (segments : List Segment) (s : Segment) → text_of segments s.0 ≡ None →
    text_of (segments ++ s ∷ []) s.0 ≡ Some s.1
pushed_same [] s h = ap (λ t. cond t (Some s.1) None) ((bytes_eq-Decides s.0 s.0).1 refl)
pushed_same (r ∷ segments) s h =
    ⊎_elim
    (λ same. let e : cond (bytes_eq s.0 r.0) (Some r.1) (text_of segments s.0) ≡ Some r.1 = ap
    (λ t. cond t (Some r.1) (text_of segments s.0)) same.0 in cc)
    (λ other.
    let here : text_of (r ∷ segments) s.0 ≡ text_of segments s.0 =
    ap (λ t. cond t (Some r.1) (text_of segments s.0)) other.0 in
    let there : text_of (r ∷ (segments ++ s ∷ [])) s.0 ≡ text_of (segments ++ s ∷ []) s.0 =
    ap (λ t. cond t (Some r.1) (text_of (segments ++ s ∷ []) s.0)) other.0 in
    there ∙ pushed_same segments s (sym here ∙ h))
    (same_name s.0 r.0)

-- a name that isn't the first one's has a text of the others
pub first_other : (s : Segment) (rest : List Segment) (n : List ℕ) → n ≢ s.0 → text_of (s ∷ rest) n ≡ text_of rest n
first_other s rest n h = ap (λ t. cond t (Some s.1) (text_of rest n)) (other_name n s.0 h)

-- a name with a number before or after theirs has none of their texts
pub none_outside : (k : ℕ) (segments : List Segment) → AreNumbered k segments → (n : List ℕ) (j : ℕ) →
    number_in n ≡ Some j → (j < k) ⊎ (k + length segments ≤ j) → text_of segments n ≡ None
none_outside k [] a n j e out = refl
none_outside k (s ∷ segments) a n j e out =
    ⊎_elim
    (λ same. let is : number_in n ≡ Some k = ap number_in same.1 ∙ a.0 in let eq : j ≡ k = cc in absurd (omega arith))
    (λ other.
    let next : (j < k + 1) ⊎ (k + 1 + length segments ≤ j) =
    ⊎_elim (λ lt. inl (omega arith)) (λ le. inr (omega arith)) out in
    ap (λ t. cond t (Some s.1) (text_of segments n)) other.0 ∙ none_outside (k + 1) segments a.1 n j e next)
    (same_name n s.0)

pub numbered_push : (k : ℕ) (segments : List Segment) (s : Segment) → AreNumbered k segments →
    number_in s.0 ≡ Some (k + length segments) → AreNumbered k (segments ++ s ∷ [])
numbered_push k [] s a e = (let at : k + 0 ≡ k = omega arith in e ∙ ap Some at, tt)
numbered_push k (r ∷ segments) s a e = (
  a.0,
  numbered_push (k + 1) segments s a.1
      (let at : k + length (r ∷ segments) ≡ k + 1 + length segments = omega arith in e ∙ ap Some at),
)

-- what two lists of segments have at the names of segments determines them
pub same_segments : (k : ℕ) (a b : List Segment) → AreNumbered k a → AreNumbered k b →
    ((n : List ℕ) (j : ℕ) → number_in n ≡ Some j → text_of a n ≡ text_of b n) → a ≡ b
same_segments k [] [] p q h = refl
same_segments k [] (s ∷ b) p q h =
    let e : text_of (s ∷ b) s.0 ≡ Some s.1 = ap (λ t. cond t (Some s.1) (text_of b s.0))
    ((bytes_eq-Decides s.0 s.0).1 refl) in
    let none : None ≡ text_of (s ∷ b) s.0 = h s.0 k q.0 in cc
same_segments k (s ∷ a) [] p q h =
    let e : text_of (s ∷ a) s.0 ≡ Some s.1 = ap (λ t. cond t (Some s.1) (text_of a s.0))
    ((bytes_eq-Decides s.0 s.0).1 refl) in
    let none : text_of (s ∷ a) s.0 ≡ None = h s.0 k p.0 in cc
same_segments k (s ∷ a) (r ∷ b) p q h =
    let e : text_of (s ∷ a) s.0 ≡ Some s.1 = ap (λ t. cond t (Some s.1) (text_of a s.0))
    ((bytes_eq-Decides s.0 s.0).1 refl) in
    let both : text_of (s ∷ a) s.0 ≡ text_of (r ∷ b) s.0 = h s.0 k p.0 in
    ⊎_elim
    (λ same.
    let f : text_of (r ∷ b) s.0 ≡ Some r.1 = ap (λ t. cond t (Some r.1) (text_of b s.0)) same.0 in
    let texts : s.1 ≡ r.1 = cc in
    ap₂ (λ (x : Segment) (xs : List Segment). x ∷ xs) (ap₂ (λ (x y : List ℕ). (x, y)) same.1 texts)
    (same_segments (k + 1) a b p.1 q.1 (λ n j is.
    ⊎_elim
    (λ here. let at : j ≡ k = (let i : number_in n ≡ Some k = ap number_in here.1 ∙ p.0 in cc) in
    none_outside (k + 1) a p.1 n j is (inl (omega arith)) ∙
    sym (none_outside (k + 1) b q.1 n j is (inl (omega arith))))
    (λ there.
    let right : bytes_eq n r.0 ≡ false = other_name n r.0 (λ w. there.1 (w ∙ sym same.1)) in
    sym (ap (λ t. cond t (Some s.1) (text_of a n)) there.0) ∙ h n j is ∙
    ap (λ t. cond t (Some r.1) (text_of b n)) right)
    (same_name n s.0))))
    (λ other.
    let f : text_of (r ∷ b) s.0 ≡ text_of b s.0 = ap (λ t. cond t (Some r.1) (text_of b s.0)) other.0 in
    let g : text_of b s.0 ≡ None = none_outside (k + 1) b q.1 s.0 k p.0 (inl (omega arith)) in cc)
    (same_name s.0 r.0)

-- a segment's number is one of theirs
pub number_within : (k : ℕ) (a : List Segment) → AreNumbered k a → (n : List ℕ) (j : ℕ) (text : List ℕ) →
    number_in n ≡ Some j → text_of a n ≡ Some text → k ≤ j
number_within k a p n j text is has =
    ⊎_elim (λ le. le) (λ lt. let none : text_of a n ≡ None = none_outside k a p n j is (inl lt) in
    let e : None ≡ Some text = sym none ∙ has in absurd (let no : ⊥ = cc in no)) (cases k j)
  where
    cases : (k j : ℕ) → (k ≤ j) ⊎ (j < k)
    cases k j = ⊎_elim (λ lt. inr lt) (λ le. inl le) (cases_lt j k)

first_text : (s : Segment) (rest : List Segment) → text_of (s ∷ rest) s.0 ≡ Some s.1
first_text s rest = ap (λ t. cond t (Some s.1) (text_of rest s.0)) ((bytes_eq-Decides s.0 s.0).1 refl)

-- the same, whatever their first numbers are
pub same_run : (k l : ℕ) (a b : List Segment) → AreNumbered k a → AreNumbered l b →
    ((n : List ℕ) (j : ℕ) → number_in n ≡ Some j → text_of a n ≡ text_of b n) → a ≡ b
same_run k l [] [] p q h = refl
same_run k l [] (r ∷ b) p q h = absurd (let e : None ≡ Some r.1 = h r.0 l q.0 ∙ first_text r b in let no : ⊥ = cc in
    no)
same_run k l (s ∷ a) [] p q h = absurd (let e : Some s.1 ≡ None = sym (first_text s a) ∙ h s.0 k p.0 in
    let no : ⊥ = cc in no)
same_run k l (s ∷ a) (r ∷ b) p q h =
    let le : l ≤ k = number_within l (r ∷ b) q s.0 k s.1 p.0 (sym (h s.0 k p.0) ∙ first_text s a) in
    let ge : k ≤ l = number_within k (s ∷ a) p r.0 l r.1 q.0 (h r.0 l q.0 ∙ first_text r b) in
    let same : l ≡ k = omega arith in
    same_segments k (s ∷ a) (r ∷ b) p (subst (λ m. AreNumbered m (r ∷ b)) same q) h

-- where two lists have the same text at all names but one, and at each name one of them has what is wanted, one of them has it at all
pub either_one : (P : List ℕ → Option (List ℕ) → Type 0) (a b : List Segment) (m : List ℕ) → (k : ℕ) →
    number_in m ≡ Some k → ((n : List ℕ) → n ≢ m → text_of b n ≡ text_of a n) →
    ((n : List ℕ) (j : ℕ) → number_in n ≡ Some j → P n (text_of a n) ⊎ P n (text_of b n)) →
    ((n : List ℕ) (j : ℕ) → number_in n ≡ Some j → P n (text_of a n)) ⊎ ((n : List ℕ) (j : ℕ) → number_in n ≡ Some j →
    P n (text_of b n))
either_one P a b m k e apart h = ⊎_elim (λ old. inl (before old)) (λ new. inr (behind new)) (h m k e)
  where
    before : P m (text_of a m) → (n : List ℕ) (j : ℕ) → number_in n ≡ Some j → P n (text_of a n)
    before old n j is =
        ⊎_elim
        (λ same. subst (λ x. P x (text_of a x)) (sym same.1) old)
        (λ other. ⊎_elim (λ p. p) (λ p. subst (P n) (apart n other.1) p) (h n j is))
        (same_name n m)

    behind : P m (text_of b m) → (n : List ℕ) (j : ℕ) → number_in n ≡ Some j → P n (text_of b n)
    behind new n j is =
        ⊎_elim
        (λ same. subst (λ x. P x (text_of b x)) (sym same.1) new)
        (λ other. ⊎_elim (λ p. subst (P n) (sym (apart n other.1)) p) (λ p. p) (h n j is))
        (same_name n m)
