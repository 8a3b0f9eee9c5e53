-- Slots made of keys and counts, and what edits of the two do to them.
use Rattle.asm_element.specs.declared.element.Element.{Element}
use Rattle.asm_element.specs.declared.element.Element.TheVariants.{Undef}
use Rattle.std.proofs.Common.{◌≡◌, ℕ, zero, suc, ◌+◌, ◌-◌, ◌<◌, ◌≤◌, List, [], ◌∷◌, ◌++◌, length, get_or, set, take, drop, refl, sym, ap, ◌∙◌, subst, arith}
use Rattle.std.specs.Prelude.{replicate}
use Rattle.std.specs.List.{insert}
use Rattle.std.specs.Map.{keys_of}
use Rattle.std.proofs.lemmas.List.{append_assoc, append-nil, length-drop, take_all, drop_all, take_more}
use borrow.Rule.Slice.PartMut.{mid_of, put_mid, post_of}
use Rattle.asm_element.specs.Slots.{slots, keep, live, joined, count_of, key_of}

module _ {K : Type 0} where
  pub length-slots : (ks : List K) (ms : List ℕ) → length ks ≤ length ms → length (slots ks ms) ≡ length ks
  length-slots [] ms h = refl
  length-slots (k ∷ ks) [] h = absurd (omega (arith, h))
  length-slots (k ∷ ks) (m ∷ ms) h = ap suc (length-slots ks ms (omega (arith, h)))

  pub keys-slots : (ks : List K) (ms : List ℕ) → length ks ≤ length ms → keys_of (slots ks ms) ≡ ks
  keys-slots [] ms h = refl
  keys-slots (k ∷ ks) [] h = absurd (omega (arith, h))
  keys-slots (k ∷ ks) (m ∷ ms) h = ap (λ xs. k ∷ xs) (keys-slots ks ms (omega (arith, h)))

  pub get_or-slots : (ks : List K) (ms : List ℕ) (i : ℕ) (d : K) (b : ℕ) → length ks ≤ length ms → i < length ks → get_or (slots ks ms) i (d, b) ≡ (get_or ks i d, get_or ms i b)
  get_or-slots [] ms i d b h l = absurd (omega (arith, l))
  get_or-slots (k ∷ ks) [] i d b h l = absurd (omega (arith, h))
  get_or-slots (k ∷ ks) (m ∷ ms) zero d b h l = refl
  get_or-slots (k ∷ ks) (m ∷ ms) (suc i) d b h l = get_or-slots ks ms i d b (omega (arith, h)) (omega (arith, l))

  pub slots-set : (ks : List K) (ms : List ℕ) (i : ℕ) (d : K) (b : ℕ) → length ks ≤ length ms → i < length ks → slots ks (set ms i b) ≡ set (slots ks ms) i (get_or ks i d, b)
  slots-set [] ms i d b h l = absurd (omega (arith, l))
  slots-set (k ∷ ks) [] i d b h l = absurd (omega (arith, h))
  slots-set (k ∷ ks) (m ∷ ms) zero d b h l = refl
  slots-set (k ∷ ks) (m ∷ ms) (suc i) d b h l = ap (λ xs. (k, m) ∷ xs) (slots-set ks ms i d b (omega (arith, h)) (omega (arith, l)))

  -- fewer counts than keys are looked at
  slots-take : (ks : List K) (ms : List ℕ) (n : ℕ) → length ks ≤ n → slots ks (take n ms) ≡ slots ks ms
  slots-take [] ms n h = refl
  slots-take (k ∷ ks) [] zero h = refl
  slots-take (k ∷ ks) [] (suc n) h = refl
  slots-take (k ∷ ks) (m ∷ ms) zero h = absurd (omega (arith, h))
  slots-take (k ∷ ks) (m ∷ ms) (suc n) h = ap (λ xs. (k, m) ∷ xs) (slots-take ks ms n (omega (arith, h)))

  pub slots-insert : (ks : List K) (ms : List ℕ) (i n : ℕ) (key : K) (m : ℕ) → length ks ≤ n + i → i ≤ length ks → length ks ≤ length ms →
      slots (insert ks i key) (take i ms ++ m ∷ take n (drop i ms)) ≡ insert (slots ks ms) i (key, m)
  slots-insert ks ms zero n key m h l e = ap (λ xs. (key, m) ∷ xs) (slots-take ks ms n (omega (arith, h)))
  slots-insert [] ms (suc i) n key m h l e = absurd (omega (arith, l))
  slots-insert (k ∷ ks) [] (suc i) n key m h l e = absurd (omega (arith, e))
  slots-insert (k ∷ ks) (b ∷ ms) (suc i) n key m h l e = ap (λ xs. (k, b) ∷ xs) (slots-insert ks ms i n key m (omega (arith, h)) (omega (arith, l)) (omega (arith, e)))

  -- one more key, with its count
  pub slots-push : (ks : List K) (ms : List ℕ) (key : K) (m : ℕ) → length ks < length ms → slots (ks ++ key ∷ []) (set ms (length ks) m) ≡ slots ks ms ++ (key, m) ∷ []
  slots-push [] [] key m h = absurd (omega (arith, h))
  slots-push [] (b ∷ ms) key m h = refl
  slots-push (k ∷ ks) [] key m h = absurd (omega (arith, h))
  slots-push (k ∷ ks) (b ∷ ms) key m h = ap (λ xs. (k, b) ∷ xs) (slots-push ks ms key m (omega (arith, h)))

  pub keys-append : (xs ys : List (K × ℕ)) → keys_of (xs ++ ys) ≡ keys_of xs ++ keys_of ys
  keys-append [] ys = refl
  keys-append (x ∷ xs) ys = ap (λ zs. x.0 ∷ zs) (keys-append xs ys)

  pub keep-append : (m : ℕ) (s : K × ℕ) (xs ys : List (K × ℕ)) → keep m s (xs ++ ys) ≡ keep m s xs ++ ys
  keep-append zero s xs ys = refl
  keep-append (suc m) s xs ys = refl

  pub live-append : (xs ys : List (K × ℕ)) → live (xs ++ ys) ≡ live xs ++ live ys
  live-append [] ys = refl
  live-append (x ∷ xs) ys = ap (keep x.1 x) (live-append xs ys) ∙ keep-append x.1 x (live xs) (live ys)

  live_keep : (m : ℕ) (s : K × ℕ) (xs : List (K × ℕ)) → m ≡ s.1 → live xs ≡ xs → live (keep m s xs) ≡ keep m s xs
  live_keep zero s xs e h = h
  live_keep (suc m) s xs e h = ap (λ (j : ℕ). keep j s (live xs)) (sym e) ∙ ap (λ ys. s ∷ ys) h

  -- what is there is there again
  pub live_again : (xs : List (K × ℕ)) → live (live xs) ≡ live xs
  live_again [] = refl
  live_again (x ∷ xs) = live_keep x.1 x (live xs) refl (live_again xs)

  pub keys-take : (n : ℕ) (xs : List (K × ℕ)) → keys_of (take n xs) ≡ take n (keys_of xs)
  keys-take zero xs = refl
  keys-take (suc n) [] = refl
  keys-take (suc n) (x ∷ xs) = ap (λ zs. x.0 ∷ zs) (keys-take n xs)

  pub keys-drop : (n : ℕ) (xs : List (K × ℕ)) → keys_of (drop n xs) ≡ drop n (keys_of xs)
  keys-drop zero xs = refl
  keys-drop (suc n) [] = refl
  keys-drop (suc n) (x ∷ xs) = keys-drop n xs

  pub length-keys : (xs : List (K × ℕ)) → length (keys_of xs) ≡ length xs
  length-keys [] = refl
  length-keys (x ∷ xs) = ap suc (length-keys xs)

  pub joined-append : (xs ys : List (List (K × ℕ))) → joined (xs ++ ys) ≡ joined xs ++ joined ys
  joined-append [] ys = refl
  joined-append (x ∷ xs) ys = ap (λ zs. x ++ zs) (joined-append xs ys) ∙ sym (append_assoc x (joined xs) (joined ys))

last_first : (n m : ℕ) (t ys : List ℕ) → length t ≡ suc n → set (drop n t ++ ys) 0 m ≡ m ∷ ys
last_first zero m [] ys h = absurd (omega (arith, h))
last_first zero m (x ∷ []) ys h = refl
last_first zero m (x ∷ (y ∷ t)) ys h = absurd (omega (arith, h))
last_first (suc n) m [] ys h = absurd (omega (arith, h))
last_first (suc n) m (x ∷ t) ys h = last_first n m t ys (omega (arith, h))

pub rotated : (ms new : List ℕ) (i m : ℕ) → length ms ≡ 64 → i < 64 →
    new ≡ drop (length (mid_of i (64 - i) ms) - 1) (mid_of i (64 - i) ms) ++ take (length (mid_of i (64 - i) ms) - 1) (mid_of i (64 - i) ms) →
    put_mid i (64 - i) ms (set new 0 m) ≡ take i ms ++ m ∷ take (63 - i) (drop i ms)
rotated ms new i m long lt is =
    let t : List ℕ = drop i ms in
    let len : length t ≡ 64 - i = length-drop i ms ∙ ap (λ n. n - i) long in
    let mid : take (64 - i) t ≡ t = take_all (64 - i) t (omega arith) in
    let n : length t - 1 ≡ 63 - i = omega arith in
    let is2 : new ≡ drop (63 - i) t ++ take (63 - i) t = is ∙ ap (λ (u : List ℕ). drop (length u - 1) u ++ take (length u - 1) u) mid ∙ ap (λ (k : ℕ). drop k t ++ take k t) n in
    ap (λ (u : List ℕ). take i ms ++ (set u 0 m ++ drop (64 - i) t)) is2
    ∙ ap (λ (u : List ℕ). take i ms ++ (u ++ drop (64 - i) t)) (last_first (63 - i) m t (take (63 - i) t) (omega arith))
    ∙ ap (λ (u : List ℕ). take i ms ++ ((m ∷ take (63 - i) t) ++ u)) (drop_all (64 - i) t (omega arith))
    ∙ ap (λ (u : List ℕ). take i ms ++ m ∷ u) (append-nil (take (63 - i) t))

pub get_or-keys : (ss : List (Element × ℕ)) (i : ℕ) → get_or (keys_of ss) i Undef ≡ (get_or ss i (Undef, 0)).0
get_or-keys [] i = refl
get_or-keys (s ∷ ss) zero = refl
get_or-keys (s ∷ ss) (suc i) = get_or-keys ss i

pub keep_some : {K : Type 0} (m : ℕ) (s : K × ℕ) (ss : List (K × ℕ)) → 0 < m → keep m s ss ≡ s ∷ ss
keep_some zero s ss h = absurd (omega (arith, h))
keep_some (suc m) s ss h = refl

pub keep_none : {K : Type 0} (m : ℕ) (s : K × ℕ) (ss : List (K × ℕ)) → m ≡ 0 → keep m s ss ≡ ss
keep_none zero s ss h = refl
keep_none (suc m) s ss h = absurd (omega (arith, h))

-- no key is there where all counts are 0
pub live_none : {K : Type 0} (ks : List K) (ms : List ℕ) → ((k : ℕ) → k < length ms → get_or ms k 0 ≡ 0) → live (slots ks ms) ≡ []
live_none [] ms h = refl
live_none (k ∷ ks) [] h = refl
live_none (k ∷ ks) (m ∷ ms) h = keep_none m (k, m) (live (slots ks ms)) (h 0 (omega arith)) ∙ live_none ks ms (λ i lt. h (suc i) (omega (arith, lt)))

-- one more slot
pub live_more : (ss : List (Element × ℕ)) (i : ℕ) → i < length ss → 0 < count_of ss i → live (take (i + 1) ss) ≡ live (take i ss) ++ (key_of ss i, count_of ss i) ∷ []
live_more ss i lt e = ap live (take_more ss i (Undef, 0) lt) ∙ live-append (take i ss) _ ∙ ap (λ (xs : List (Element × ℕ)). live (take i ss) ++ xs) (keep_some (count_of ss i) (get_or ss i (Undef, 0)) [] e)

pub live_same : (ss : List (Element × ℕ)) (i : ℕ) → i < length ss → count_of ss i ≡ 0 → live (take (i + 1) ss) ≡ live (take i ss)
live_same ss i lt e = ap live (take_more ss i (Undef, 0) lt) ∙ live-append (take i ss) _ ∙ ap (λ (xs : List (Element × ℕ)). live (take i ss) ++ xs) (keep_none (count_of ss i) (get_or ss i (Undef, 0)) [] e) ∙ append-nil _
