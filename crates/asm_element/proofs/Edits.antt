-- Chunks in a list: the place of a key, and what an edit of one chunk does to all keys.
use Rattle.asm_element.specs.declared.element.Element.{Element}
use Rattle.asm_element.specs.declared.element.Element.TheVariants.{Undef}
use Rattle.std.proofs.Common.{◌≡◌, ℕ, zero, suc, ◌+◌, ◌-◌, ◌<◌, ◌≤◌, Bool, true, false, List, [], ◌∷◌, ◌++◌, length, get_or, set, take, drop, refl, sym, ap, ◌∙◌, subst, arith, Result, Ok, Err, OnErr}
use Rattle.std.specs.declared.cmp.Ordering.{Ordering}
use Rattle.std.specs.declared.cmp.Ordering.TheVariants.{Less, Equal, Greater}
use Rattle.asm_element.specs.Element.{element_cmp}
use Rattle.std.specs.Ordering.{ordering_reverse, is_gt}
use Rattle.asm_element.specs.Element.{element_cmp_total}
use Rattle.asm_element.specs.Element.{element_cmp-IsAntisymmetric}
use Rattle.std.specs.Prelude.{Option, None, Some}
use Rattle.std.specs.BTreeMap.{is_at, insert_entry}
use Rattle.std.specs.Map.{keys_of, lookup, set_value, remove_entry}
use Rattle.std.specs.List.{AllByRecursion, insert, remove}
use Rattle.std.specs.List.Sorted.{IsStrictlySortedBy}
use Rattle.std.proofs.lemmas.List.{append_assoc, append-nil, length-append, set-get_or, set_split, take-append-drop}
use Rattle.std.proofs.lemmas.List.{length-set, get_or_default, drop_all, drop_more, take_all}
use Rattle.std.proofs.lemmas.List.Edits.{length-insert}
use Rattle.asm_element.specs.Slots.{keep, live, joined, key_of, count_of, AllBelow, AllAbove, IsSpot, IsGap}
use Rattle.asm_element.specs.Entries.{at, held, assigned}
use Rattle.asm_element.specs.Chunks.{there, AreChunks, IsPlace, IsEnd, Adds, left_from}
use Rattle.asm_element.proofs.Slots.{keys-append, keep-append, keep_some, keep_none, live-append, live_again, joined-append}
use Rattle.asm_element.proofs.Order.{all-append, all-left, all-right, all-live, sorted-left, sorted-right, sorted_middle, sorted_purge, sorted_without, below_here, above_here, below_lower, above_higher, insert_between, remove_between, set_between, lookup_here, lookup_between, remove_absent, set_absent}
use Rattle.asm_element.proofs.Search.{split_at}

-- ---- edits of the list of chunks

module _ {X : Type 0} (P : X → Type 0) where
  pub all-set : (xs : List X) (i : ℕ) (x : X) → AllByRecursion P xs → P x → AllByRecursion P (set xs i x)
  all-set [] i x a p = tt
  all-set (y ∷ xs) zero x a p = (p, a.1)
  all-set (y ∷ xs) (suc i) x a p = (a.0, all-set xs i x a.1 p)

  pub all-insert : (xs : List X) (i : ℕ) (x : X) → i ≤ length xs → AllByRecursion P xs → P x → AllByRecursion P (insert xs i x)
  all-insert xs zero x h a p = (p, a)
  all-insert [] (suc i) x h a p = absurd (omega (arith, h))
  all-insert (y ∷ xs) (suc i) x h a p = (a.0, all-insert xs i x (omega (arith, h)) a.1 p)

  pub all-remove : (xs : List X) (i : ℕ) → AllByRecursion P xs → AllByRecursion P (remove xs i)
  all-remove [] zero a = tt
  all-remove [] (suc i) a = tt
  all-remove (y ∷ xs) zero a = a.1
  all-remove (y ∷ xs) (suc i) a = (a.0, all-remove xs i a.1)

  pub all-at : (xs : List X) (i : ℕ) (d : X) → i < length xs → AllByRecursion P xs → P (get_or xs i d)
  all-at [] i d h a = absurd (omega (arith, h))
  all-at (y ∷ xs) zero d h a = a.0
  all-at (y ∷ xs) (suc i) d h a = all-at xs i d (omega (arith, h)) a.1

module _ {K : Type 0} where
  pub joined-split : (cs : List (List (K × ℕ))) (i : ℕ) (d : List (K × ℕ)) → i < length cs → joined cs ≡ joined (take i cs) ++ (get_or cs i d ++ joined (drop (suc i) cs))
  joined-split cs i d lt = ap joined (split_at cs i d lt) ∙ joined-append (take i cs) (get_or cs i d ∷ drop (suc i) cs)

  pub joined-drop : (cs : List (List (K × ℕ))) (i : ℕ) (d : List (K × ℕ)) → i < length cs → joined (drop i cs) ≡ get_or cs i d ++ joined (drop (suc i) cs)
  joined-drop [] i d lt = absurd (omega (arith, lt))
  joined-drop (c ∷ cs) zero d lt = refl
  joined-drop (c ∷ cs) (suc i) d lt = joined-drop cs i d (omega (arith, lt))

  pub joined-set : (cs : List (List (K × ℕ))) (i : ℕ) (c : List (K × ℕ)) → i < length cs → joined (set cs i c) ≡ joined (take i cs) ++ (c ++ joined (drop (suc i) cs))
  joined-set cs i c lt = ap joined (set_split cs i c lt) ∙ joined-append (take i cs) (c ∷ drop (suc i) cs)

  pub joined-two : (cs : List (List (K × ℕ))) (i : ℕ) (low high : List (K × ℕ)) → i < length cs → joined (set (insert cs (suc i) high) i low) ≡ joined (take i cs) ++ ((low ++ high) ++ joined (drop (suc i) cs))
  joined-two [] i low high lt = absurd (omega (arith, lt))
  joined-two (c ∷ cs) zero low high lt = sym (append_assoc low high (joined cs))
  joined-two (c ∷ cs) (suc i) low high lt = ap (λ xs. c ++ xs) (joined-two cs i low high (omega (arith, lt))) ∙ sym (append_assoc c (joined (take i cs)) ((low ++ high) ++ joined (drop (suc i) cs)))

  pub joined-remove : (cs : List (List (K × ℕ))) (i : ℕ) → i < length cs → joined (remove cs i) ≡ joined (take i cs) ++ joined (drop (suc i) cs)
  joined-remove [] i lt = absurd (omega (arith, lt))
  joined-remove (c ∷ cs) zero lt = refl
  joined-remove (c ∷ cs) (suc i) lt = ap (λ xs. c ++ xs) (joined-remove cs i (omega (arith, lt))) ∙ sym (append_assoc c (joined (take i cs)) (joined (drop (suc i) cs)))

  pub keys-three : (a c b : List (K × ℕ)) → keys_of (a ++ (c ++ b)) ≡ keys_of a ++ (keys_of c ++ keys_of b)
  keys-three a c b = keys-append a (c ++ b) ∙ ap (λ xs. keys_of a ++ xs) (keys-append c b)

  pub live-three : (a c b : List (K × ℕ)) → live (a ++ (c ++ b)) ≡ live a ++ (live c ++ live b)
  live-three a c b = live-append a (c ++ b) ∙ ap (λ xs. live a ++ xs) (live-append c b)

-- ---- the place of a key

order_le : (h k : Element) (o : Ordering) (xs : List Element) → o ≡ element_cmp h k → is_gt o ≡ false → AllBelow h xs → AllBelow k xs
order_le h k Less xs e g a = below_lower element_cmp element_cmp_total h k xs (sym e) a
order_le h k Equal xs e g a = subst (λ (q : Element). AllBelow q xs) (element_cmp-IsAntisymmetric h k (sym e)) a
order_le h k Greater xs e g a = cc

order_gt : (h k : Element) (o : Ordering) → o ≡ element_cmp h k → is_gt o ≡ true → element_cmp k h ≡ Less
order_gt h k Less e g = cc
order_gt h k Equal e g = cc
order_gt h k Greater e g = element_cmp_total.antisymm k h ∙ ap ordering_reverse (sym e)

lower : (a c b : List (Element × ℕ)) (k : Element) → IsStrictlySortedBy element_cmp (keys_of a ++ (keys_of c ++ keys_of b)) → 0 < length c → is_gt (element_cmp (key_of c 0) k) ≡ false → AllBelow k (keys_of a)
lower a [] b k s h g = absurd (omega (arith, h))
lower a (x ∷ c) b k s h g = order_le x.0 k (element_cmp x.0 k) (keys_of a) refl g (below_here element_cmp (keys_of a) x.0 (keys_of c ++ keys_of b) s)

upper : (a c b : List (Element × ℕ)) (k : Element) → IsStrictlySortedBy element_cmp (keys_of a ++ (keys_of c ++ keys_of b)) → 0 < length c → is_gt (element_cmp (key_of c 0) k) ≡ true → AllAbove k (keys_of c ++ keys_of b)
upper a [] b k s h g = absurd (omega (arith, h))
upper a (x ∷ c) b k s h g =
    let less = order_gt x.0 k (element_cmp x.0 k) refl g in
    (less, above_higher element_cmp element_cmp_total x.0 k (keys_of c ++ keys_of b) less (above_here element_cmp (keys_of a) x.0 (keys_of c ++ keys_of b) s))

module _ (cs : List (List (Element × ℕ))) (are : AreChunks cs) (i : ℕ) (c : List (Element × ℕ)) (lt : i < length cs) (is : c ≡ get_or cs i c) where
  pub parted : joined cs ≡ joined (take i cs) ++ (c ++ joined (drop (suc i) cs))
  parted = joined-split cs i c lt ∙ ap (λ (x : List (Element × ℕ)). joined (take i cs) ++ (x ++ joined (drop (suc i) cs))) (sym is)

  pub ordered_parts : IsStrictlySortedBy element_cmp (keys_of (joined (take i cs)) ++ (keys_of c ++ keys_of (joined (drop (suc i) cs))))
  ordered_parts = subst (IsStrictlySortedBy element_cmp) (ap keys_of parted ∙ keys-three (joined (take i cs)) c (joined (drop (suc i) cs))) are.ordered

  pub filled_here : 0 < length c
  filled_here = subst (λ (x : List (Element × ℕ)). 0 < length x) (sym is) (all-at (λ x. 0 < length x) cs i c lt are.filled)

  pub ordered_here : IsStrictlySortedBy element_cmp (keys_of c)
  ordered_here = sorted-left element_cmp (keys_of c) (keys_of (joined (drop (suc i) cs))) (sorted-right element_cmp (keys_of (joined (take i cs))) (keys_of c ++ keys_of (joined (drop (suc i) cs))) ordered_parts)

  pub place_lower : (k : Element) → is_gt (element_cmp (key_of c 0) k) ≡ false → AllBelow k (keys_of (joined (take i cs)))
  place_lower k g = lower (joined (take i cs)) c (joined (drop (suc i) cs)) k ordered_parts filled_here g

  pub place_upper : (k : Element) → is_gt (element_cmp (key_of c 0) k) ≡ true → AllAbove k (keys_of (joined (drop i cs)))
  place_upper k g =
      subst (AllAbove k) (sym (ap keys_of (joined-drop cs i c lt ∙ ap (λ (x : List (Element × ℕ)). x ++ joined (drop (suc i) cs)) (sym is)) ∙ keys-append c (joined (drop (suc i) cs))))
      (upper (joined (take i cs)) c (joined (drop (suc i) cs)) k ordered_parts filled_here g)

  -- without a chunk that has no key that is there
  pub swept_there : live c ≡ [] → there (remove cs i) ≡ there cs
  swept_there dead =
      let a : List (Element × ℕ) = joined (take i cs) in
      let b : List (Element × ℕ) = joined (drop (suc i) cs) in
      ap live (joined-remove cs i lt) ∙ live-append a b
      ∙ sym (ap live parted ∙ live-three a c b ∙ ap (λ (xs : List (Element × ℕ)). live a ++ (xs ++ live b)) dead)

  pub swept_chunks : AreChunks (remove cs i)
  swept_chunks =
      let a : List (Element × ℕ) = joined (take i cs) in
      let b : List (Element × ℕ) = joined (drop (suc i) cs) in
      record {
        ordered = subst (IsStrictlySortedBy element_cmp) (sym (ap keys_of (joined-remove cs i lt) ∙ keys-append a b)) (sorted_without element_cmp (keys_of a) (keys_of c) (keys_of b) ordered_parts);
        filled = all-remove (λ x. 0 < length x) cs i are.filled;
      }

-- ---- a key between the keys below it and those above it

-- the entries xs are those below k, k itself if its count m isn't 0, and those above it
pub record Sides (xs : List (Element × ℕ)) (k : Element) (m : ℕ) (l r : List (Element × ℕ)) : Type 0 where
  pub below : AllBelow k (keys_of l)
  pub above : AllAbove k (keys_of r)
  pub is : xs ≡ l ++ keep m (k, m) r

length_middle : (l r : List (Element × ℕ)) (e : Element × ℕ) → length (l ++ e ∷ r) ≡ length (l ++ r) + 1
length_middle l r e = omega (arith, length-append l (e ∷ r), length-append l r)

pub sides_at : (xs : List (Element × ℕ)) (k : Element) (m : ℕ) (l r : List (Element × ℕ)) → Sides xs k m l r → at xs k ≡ held m
sides_at xs k zero l r s = ap (λ (es : List (Element × ℕ)). at es k) s.is ∙ lookup_between element_cmp element_cmp_total k l r s.below s.above
sides_at xs k (suc m) l r s = ap (λ (es : List (Element × ℕ)). at es k) s.is ∙ lookup_here element_cmp element_cmp_total k l r (suc m) s.below

pub sides_assign : (xs : List (Element × ℕ)) (k : Element) (m n : ℕ) (l r : List (Element × ℕ)) → 0 < m → Sides xs k m l r → assigned xs k n ≡ l ++ keep n (k, n) r
sides_assign xs k zero n l r h s = absurd (omega (arith, h))
sides_assign xs k (suc m) zero l r h s = ap (λ (es : List (Element × ℕ)). assigned es k 0) s.is ∙ remove_between element_cmp element_cmp_total k l r (suc m) s.below
sides_assign xs k (suc m) (suc n) l r h s = ap (λ (es : List (Element × ℕ)). assigned es k (suc n)) s.is ∙ set_between element_cmp element_cmp_total k l r (suc m) (suc n) s.below

pub sides_absent : (xs : List (Element × ℕ)) (k : Element) (m n : ℕ) (l r : List (Element × ℕ)) → m ≡ 0 → Sides xs k m l r → assigned xs k n ≡ xs
sides_absent xs k (suc m) n l r h s = absurd (omega (arith, h))
sides_absent xs k zero zero l r h s = ap (λ (es : List (Element × ℕ)). assigned es k 0) s.is ∙ remove_absent element_cmp element_cmp_total k l r s.below s.above ∙ sym s.is
sides_absent xs k zero (suc n) l r h s = ap (λ (es : List (Element × ℕ)). assigned es k (suc n)) s.is ∙ set_absent element_cmp element_cmp_total k l r (suc n) s.below s.above ∙ sym s.is

pub sides_insert : (xs : List (Element × ℕ)) (k : Element) (m n : ℕ) (l r : List (Element × ℕ)) → m ≡ 0 → Sides xs k m l r → insert_entry element_cmp xs k n ≡ l ++ (k, n) ∷ r
sides_insert xs k (suc m) n l r h s = absurd (omega (arith, h))
sides_insert xs k zero n l r h s = ap (λ (es : List (Element × ℕ)). insert_entry element_cmp es k n) s.is ∙ insert_between element_cmp element_cmp_total k l r n s.below s.above

pub sides_length : (xs : List (Element × ℕ)) (k : Element) (m : ℕ) (l r : List (Element × ℕ)) → m ≡ 0 → Sides xs k m l r → length xs ≡ length (l ++ r)
sides_length xs k (suc m) l r h s = absurd (omega (arith, h))
sides_length xs k zero l r h s = ap length s.is

pub sides_longer : (xs : List (Element × ℕ)) (k : Element) (m : ℕ) (l r : List (Element × ℕ)) → 0 < m → Sides xs k m l r → length xs ≡ length (l ++ r) + 1
sides_longer xs k zero l r h s = absurd (omega (arith, h))
sides_longer xs k (suc m) l r h s = ap length s.is ∙ length_middle l r (k, suc m)

pub sides_is : (xs : List (Element × ℕ)) (k : Element) (m : ℕ) (l r : List (Element × ℕ)) → 1 ≤ m → Sides xs k m l r → xs ≡ l ++ (k, m) ∷ r
sides_is xs k zero l r h s = absurd (omega (arith, h))
sides_is xs k (suc m) l r h s = s.is

-- the entries on the two sides of the place p in the chunk c, with the chunks a before it and b after it
abbrev pub left : (a c : List (Element × ℕ)) (p : ℕ) → List (Element × ℕ)
left a c p = live a ++ live (take p c)

abbrev pub right : (c b : List (Element × ℕ)) (p : ℕ) → List (Element × ℕ)
right c b p = live (drop p c) ++ live b

regroup : {X : Type 0} (a f g b : List X) → a ++ ((f ++ g) ++ b) ≡ (a ++ f) ++ (g ++ b)
regroup {X = X} a f g b = ap (λ (xs : List X). a ++ xs) (append_assoc f g b) ∙ sym (append_assoc a f (g ++ b))

module _ (a c b : List (Element × ℕ)) (k : Element) (p : ℕ) (below : AllBelow k (keys_of a)) (above : AllAbove k (keys_of b)) where
  Lower : Element → Type 0
  Lower y = element_cmp y k ≡ Less

  left_below : AllBelow k (keys_of (take p c)) → AllBelow k (keys_of (left a c p))
  left_below h = subst (AllByRecursion (λ y. element_cmp y k ≡ Less)) (sym (keys-append (live a) (live (take p c))))
      (all-append (λ y. element_cmp y k ≡ Less) (keys_of (live a)) (keys_of (live (take p c))) (all-live (λ y. element_cmp y k ≡ Less) a below) (all-live (λ y. element_cmp y k ≡ Less) (take p c) h))

  right_above : (q : ℕ) → AllAbove k (keys_of (drop q c)) → AllAbove k (keys_of (right c b q))
  right_above q h = subst (AllByRecursion (λ y. element_cmp k y ≡ Less)) (sym (keys-append (live (drop q c)) (live b)))
      (all-append (λ y. element_cmp k y ≡ Less) (keys_of (live (drop q c))) (keys_of (live b)) (all-live (λ y. element_cmp k y ≡ Less) (drop q c) h) (all-live (λ y. element_cmp k y ≡ Less) b above))

  -- at a key's own slot
  module _ (spot : IsSpot c k p) where
    pub spot_sides : (m : ℕ) → Sides (live (a ++ (set c p (k, m) ++ b))) k m (left a c p) (right c b (suc p))
    spot_sides m =
        let x : Element × ℕ = (k, m) in
        record {
          below = left_below spot.below;
          above = right_above (suc p) spot.above;
          is =
              live-three a (set c p x) b
              ∙ ap (λ (ss : List (Element × ℕ)). live a ++ (live ss ++ live b)) (set_split c p x spot.in_range)
              ∙ ap (λ (xs : List (Element × ℕ)). live a ++ (xs ++ live b)) (live-append (take p c) (x ∷ drop (suc p) c))
              ∙ regroup (live a) (live (take p c)) (keep m x (live (drop (suc p) c))) (live b)
              ∙ ap (λ (xs : List (Element × ℕ)). left a c p ++ xs) (sym (keep-append m x (live (drop (suc p) c)) (live b)));
        }

    pub spot_same : set c p (k, count_of c p) ≡ c
    spot_same = ap (λ (q : Element). set c p (q, count_of c p)) (sym spot.is_key) ∙ set-get_or c p (Undef, 0)

    pub spot_keys : (m : ℕ) → keys_of (set c p (k, m)) ≡ keys_of c
    spot_keys m = ap keys_of (set_split c p (k, m) spot.in_range) ∙ keys-append (take p c) ((k, m) ∷ drop (suc p) c)
        ∙ sym (ap keys_of (sym spot_same ∙ set_split c p (k, count_of c p) spot.in_range) ∙ keys-append (take p c) ((k, count_of c p) ∷ drop (suc p) c))

  -- in a gap
  module _ (gap : IsGap c k p) where
    pub gap_sides : Sides (live (a ++ (c ++ b))) k 0 (left a c p) (right c b p)
    gap_sides = record {
      below = left_below gap.below;
      above = right_above p gap.above;
      is =
          live-three a c b
          ∙ ap (λ (ss : List (Element × ℕ)). live a ++ (live ss ++ live b)) (sym (take-append-drop p c))
          ∙ ap (λ (xs : List (Element × ℕ)). live a ++ (xs ++ live b)) (live-append (take p c) (drop p c))
          ∙ regroup (live a) (live (take p c)) (live (drop p c)) (live b);
    }

    module _ (m : ℕ) where
      e : Element × ℕ
      e = (k, suc m)

      -- the chunk with the key in the gap, where it keeps its slots, and where it has only those that are there
      pub gap_insert_live : live (a ++ (insert c p (k, suc m) ++ b)) ≡ left a c p ++ (k, suc m) ∷ right c b p
      gap_insert_live =
          live-three a (insert c p (k, suc m)) b ∙ ap (λ (xs : List (Element × ℕ)). live a ++ (xs ++ live b)) (live-append (take p c) ((k, suc m) ∷ drop p c))
          ∙ regroup (live a) (live (take p c)) ((k, suc m) ∷ live (drop p c)) (live b)

      again : live (live (take p c) ++ (k, suc m) ∷ live (drop p c)) ≡ live (take p c) ++ (k, suc m) ∷ live (drop p c)
      again = live-append (live (take p c)) ((k, suc m) ∷ live (drop p c)) ∙ (λ i. live_again (take p c) i ++ (k, suc m) ∷ live_again (drop p c) i)

      pub gap_fresh_live : live (a ++ ((live (take p c) ++ (k, suc m) ∷ live (drop p c)) ++ b)) ≡ left a c p ++ (k, suc m) ∷ right c b p
      gap_fresh_live =
          live-three a (live (take p c) ++ (k, suc m) ∷ live (drop p c)) b
          ∙ ap (λ (xs : List (Element × ℕ)). live a ++ (xs ++ live b)) again
          ∙ regroup (live a) (live (take p c)) ((k, suc m) ∷ live (drop p c)) (live b)

    module _ (n : ℕ) (s : IsStrictlySortedBy element_cmp (keys_of a ++ (keys_of c ++ keys_of b))) where
      whole : IsStrictlySortedBy element_cmp ((keys_of a ++ keys_of (take p c)) ++ (keys_of (drop p c) ++ keys_of b))
      whole = subst (IsStrictlySortedBy element_cmp) (ap (λ (xs : List Element). keys_of a ++ (xs ++ keys_of b)) (ap keys_of (sym (take-append-drop p c)) ∙ keys-append (take p c) (drop p c)) ∙ regroup (keys_of a) (keys_of (take p c)) (keys_of (drop p c)) (keys_of b)) s

      pub gap_insert_ordered : IsStrictlySortedBy element_cmp (keys_of (a ++ (insert c p (k, n) ++ b)))
      gap_insert_ordered =
          subst (IsStrictlySortedBy element_cmp)
          (sym (keys-three a (insert c p (k, n)) b ∙ ap (λ (xs : List Element). keys_of a ++ (xs ++ keys_of b)) (keys-append (take p c) ((k, n) ∷ drop p c)) ∙ regroup (keys_of a) (keys_of (take p c)) (k ∷ keys_of (drop p c)) (keys_of b)))
          (sorted_middle element_cmp (keys_of a ++ keys_of (take p c)) (keys_of (drop p c) ++ keys_of b) k whole
          (all-append (λ y. element_cmp y k ≡ Less) (keys_of a) (keys_of (take p c)) below gap.below)
          (all-append (λ y. element_cmp k y ≡ Less) (keys_of (drop p c)) (keys_of b) gap.above above))

      purged : IsStrictlySortedBy element_cmp ((keys_of a ++ keys_of (live (take p c))) ++ (keys_of (live (drop p c)) ++ keys_of b))
      purged =
          sorted_purge element_cmp (keys_of a ++ keys_of (live (take p c))) (drop p c) (keys_of b)
          (subst (IsStrictlySortedBy element_cmp) (sym (append_assoc (keys_of a) (keys_of (live (take p c))) (keys_of (drop p c) ++ keys_of b)))
          (sorted_purge element_cmp (keys_of a) (take p c) (keys_of (drop p c) ++ keys_of b)
          (subst (IsStrictlySortedBy element_cmp) (append_assoc (keys_of a) (keys_of (take p c)) (keys_of (drop p c) ++ keys_of b)) whole)))

      pub gap_fresh_ordered : IsStrictlySortedBy element_cmp (keys_of (a ++ ((live (take p c) ++ (k, n) ∷ live (drop p c)) ++ b)))
      gap_fresh_ordered =
          subst (IsStrictlySortedBy element_cmp)
          (sym (keys-three a (live (take p c) ++ (k, n) ∷ live (drop p c)) b ∙ ap (λ (xs : List Element). keys_of a ++ (xs ++ keys_of b)) (keys-append (live (take p c)) ((k, n) ∷ live (drop p c))) ∙ regroup (keys_of a) (keys_of (live (take p c))) (k ∷ keys_of (live (drop p c))) (keys_of b)))
          (sorted_middle element_cmp (keys_of a ++ keys_of (live (take p c))) (keys_of (live (drop p c)) ++ keys_of b) k purged
          (all-append (λ y. element_cmp y k ≡ Less) (keys_of a) (keys_of (live (take p c))) below (all-live (λ y. element_cmp y k ≡ Less) (take p c) gap.below))
          (all-append (λ y. element_cmp k y ≡ Less) (keys_of (live (drop p c))) (keys_of b) (all-live (λ y. element_cmp k y ≡ Less) (drop p c) gap.above) above))

-- ---- the chunk at a key's place

module _ (cs : List (List (Element × ℕ))) (are : AreChunks cs) (k : Element) (i : ℕ) (place : IsPlace cs k i) (c : List (Element × ℕ)) (is : c ≡ get_or cs i c) (p : ℕ) where
  module _ (spot : IsSpot c k p) where
    pub found_sides : Sides (there cs) k (count_of c p) (left (joined (take i cs)) c p) (right c (joined (drop (suc i) cs)) (suc p))
    found_sides =
        let a : List (Element × ℕ) = joined (take i cs) in
        let b : List (Element × ℕ) = joined (drop (suc i) cs) in
        let s = spot_sides a c b k p place.below place.above spot (count_of c p) in
        record {
          below = s.below;
          above = s.above;
          is = ap live (parted cs are i c place.in_range is) ∙ ap (λ (x : List (Element × ℕ)). live (a ++ (x ++ b))) (sym (spot_same a c b k p place.below place.above spot)) ∙ s.is;
        }

    pub marked_sides : (m : ℕ) → Sides (there (set cs i (set c p (key_of c p, m)))) k m (left (joined (take i cs)) c p) (right c (joined (drop (suc i) cs)) (suc p))
    marked_sides m =
        let a : List (Element × ℕ) = joined (take i cs) in
        let b : List (Element × ℕ) = joined (drop (suc i) cs) in
        let s = spot_sides a c b k p place.below place.above spot m in
        record {
          below = s.below;
          above = s.above;
          is = ap live (joined-set cs i (set c p (key_of c p, m)) place.in_range) ∙ ap (λ (q : Element). live (a ++ (set c p (q, m) ++ b))) spot.is_key ∙ s.is;
        }

    pub marked_chunks : (m : ℕ) → AreChunks (set cs i (set c p (key_of c p, m)))
    marked_chunks m =
        let a : List (Element × ℕ) = joined (take i cs) in
        let b : List (Element × ℕ) = joined (drop (suc i) cs) in
        let x : List (Element × ℕ) = set c p (key_of c p, m) in
        let same : keys_of x ≡ keys_of c = ap (λ (q : Element). keys_of (set c p (q, m))) spot.is_key ∙ spot_keys a c b k p place.below place.above spot m in
        record {
          ordered = subst (IsStrictlySortedBy element_cmp) (sym (ap keys_of (joined-set cs i x place.in_range) ∙ keys-three a x b ∙ ap (λ (xs : List Element). keys_of a ++ (xs ++ keys_of b)) same)) (ordered_parts cs are i c place.in_range is);
          filled = all-set (λ y. 0 < length y) cs i x are.filled (omega (arith, length-set c p (key_of c p, m), filled_here cs are i c place.in_range is));
        }

  module _ (gap : IsGap c k p) where
    pub missing_sides : Sides (there cs) k 0 (left (joined (take i cs)) c p) (right c (joined (drop (suc i) cs)) p)
    missing_sides =
        let s = gap_sides (joined (take i cs)) c (joined (drop (suc i) cs)) k p place.below place.above gap in
        record { below = s.below; above = s.above; is = ap live (parted cs are i c place.in_range is) ∙ s.is }

    -- a list of chunks that has the key besides
    adds_from : (m : ℕ) (new : List (List (Element × ℕ))) → there new ≡ left (joined (take i cs)) c p ++ (k, suc m) ∷ right c (joined (drop (suc i) cs)) p → AreChunks new → Adds cs new k (suc m)
    adds_from m new e a =
        let s = missing_sides in
        record {
          entries = e ∙ sym (sides_insert _ _ _ _ _ _ refl s);
          count = ap length e ∙ length_middle (left (joined (take i cs)) c p) (right c (joined (drop (suc i) cs)) p) (k, suc m) ∙ ap (λ (n : ℕ). n + 1) (sym (sides_length _ _ _ _ _ refl s));
          chunks = a;
        }

    inserted_chunks : (n : ℕ) → AreChunks (set cs i (insert c p (k, n)))
    inserted_chunks n = record {
      ordered = subst (IsStrictlySortedBy element_cmp) (sym (ap keys_of (joined-set cs i (insert c p (k, n)) place.in_range))) (gap_insert_ordered (joined (take i cs)) c (joined (drop (suc i) cs)) k p place.below place.above gap n (ordered_parts cs are i c place.in_range is));
      filled = all-set (λ y. 0 < length y) cs i (insert c p (k, n)) are.filled (omega (arith, length-insert c p (k, n) gap.in_range));
    }

    -- the key goes into the chunk in place
    pub inserted_adds : (n : ℕ) → 1 ≤ n → Adds cs (set cs i (insert c p (k, n))) k n
    inserted_adds zero h = absurd (omega (arith, h))
    inserted_adds (suc m) h = adds_from m (set cs i (insert c p (k, suc m)))
        (ap live (joined-set cs i (insert c p (k, suc m)) place.in_range) ∙ gap_insert_live (joined (take i cs)) c (joined (drop (suc i) cs)) k p place.below place.above gap m)
        (inserted_chunks (suc m))

    -- the chunk is made anew, of the keys that are there
    module _ (n : ℕ) (xs : List (Element × ℕ)) (new : xs ≡ live (take p c) ++ (k, n) ∷ live (drop p c)) where
      fresh_ordered : IsStrictlySortedBy element_cmp (keys_of (joined (take i cs) ++ (xs ++ joined (drop (suc i) cs))))
      fresh_ordered = subst (λ (ys : List (Element × ℕ)). IsStrictlySortedBy element_cmp (keys_of (joined (take i cs) ++ (ys ++ joined (drop (suc i) cs))))) (sym new) (gap_fresh_ordered (joined (take i cs)) c (joined (drop (suc i) cs)) k p place.below place.above gap n (ordered_parts cs are i c place.in_range is))

      length_new : 0 < length xs
      length_new = omega (arith, ap length new, length-append (live (take p c)) ((k, n) ∷ live (drop p c)))

      renewed_chunks : AreChunks (set cs i xs)
      renewed_chunks = record {
        ordered = subst (IsStrictlySortedBy element_cmp) (sym (ap keys_of (joined-set cs i xs place.in_range))) fresh_ordered;
        filled = all-set (λ y. 0 < length y) cs i xs are.filled length_new;
      }

      -- and it becomes two
      joined_both : (low high : List (Element × ℕ)) → xs ≡ low ++ high → joined (set (insert cs (suc i) high) i low) ≡ joined (take i cs) ++ (xs ++ joined (drop (suc i) cs))
      joined_both low high f =
          joined-two cs i low high place.in_range
          ∙ ap (λ (x : List (Element × ℕ)). joined (take i cs) ++ (x ++ joined (drop (suc i) cs))) (sym f)

      split_chunks : (low high : List (Element × ℕ)) → xs ≡ low ++ high → 0 < length low → 0 < length high → AreChunks (set (insert cs (suc i) high) i low)
      split_chunks low high f l h = record {
        ordered = subst (IsStrictlySortedBy element_cmp) (sym (ap keys_of (joined_both low high f))) fresh_ordered;
        filled = all-set (λ y. 0 < length y) (insert cs (suc i) high) i low
            (all-insert (λ y. 0 < length y) cs (suc i) high (omega (arith, place.in_range)) are.filled h)
            l;
      }

    fresh_there : (m : ℕ) (xs : List (Element × ℕ)) → xs ≡ live (take p c) ++ (k, suc m) ∷ live (drop p c) → live (joined (take i cs) ++ (xs ++ joined (drop (suc i) cs))) ≡ left (joined (take i cs)) c p ++ (k, suc m) ∷ right c (joined (drop (suc i) cs)) p
    fresh_there m xs new =
        ap (λ (ys : List (Element × ℕ)). live (joined (take i cs) ++ (ys ++ joined (drop (suc i) cs)))) new
        ∙ gap_fresh_live (joined (take i cs)) c (joined (drop (suc i) cs)) k p place.below place.above gap m

    pub renewed_adds : (n : ℕ) (xs : List (Element × ℕ)) → 1 ≤ n → xs ≡ live (take p c) ++ (k, n) ∷ live (drop p c) → Adds cs (set cs i xs) k n
    renewed_adds zero xs h new = absurd (omega (arith, h))
    renewed_adds (suc m) xs h new = adds_from m (set cs i xs) (ap live (joined-set cs i xs place.in_range) ∙ fresh_there m xs new) (renewed_chunks (suc m) xs new)

    pub split_adds : (n : ℕ) (xs low high : List (Element × ℕ)) → 1 ≤ n → xs ≡ live (take p c) ++ (k, n) ∷ live (drop p c) → xs ≡ low ++ high → 0 < length low → 0 < length high → Adds cs (set (insert cs (suc i) high) i low) k n
    split_adds zero xs low high p1 new f l h = absurd (omega (arith, p1))
    split_adds (suc m) xs low high p1 new f l h = adds_from m (set (insert cs (suc i) high) i low)
        (ap live (joined_both (suc m) xs new low high f) ∙ fresh_there m xs new)
        (split_chunks (suc m) xs new low high f l h)

-- ---- the end

pub end_at : (cs : List (List (Element × ℕ))) (k : Element) → IsEnd cs k → at (there cs) k ≡ None
end_at cs k end =
    ap (λ (es : List (Element × ℕ)). at es k) (sym (append-nil (there cs)))
    ∙ lookup_between element_cmp element_cmp_total k (there cs) [] (all-live (λ y. element_cmp y k ≡ Less) (joined cs) end.below) tt

pub appended_adds : (cs : List (List (Element × ℕ))) (k : Element) (n : ℕ) → 1 ≤ n → IsEnd cs k → Adds cs (cs ++ ((k, n) ∷ []) ∷ []) k n
appended_adds cs k zero h end = absurd (omega (arith, h))
appended_adds cs k (suc m) h end =
    let e : Element × ℕ = (k, suc m) in
    let below = all-live (λ y. element_cmp y k ≡ Less) (joined cs) end.below in
    let new : there (cs ++ (e ∷ []) ∷ []) ≡ there cs ++ e ∷ [] = ap live (joined-append cs ((e ∷ []) ∷ [])) ∙ live-append (joined cs) (e ∷ []) in
    record {
      entries =
          new
          ∙ sym (ap (λ (es : List (Element × ℕ)). insert_entry element_cmp es k (suc m)) (sym (append-nil (there cs))) ∙ insert_between element_cmp element_cmp_total k (there cs) [] (suc m) below tt);
      count = ap length new ∙ length-append (there cs) (e ∷ []);
      chunks = record {
        ordered = subst (IsStrictlySortedBy element_cmp) (sym (ap keys_of (joined-append cs ((e ∷ []) ∷ [])) ∙ keys-append (joined cs) (e ∷ [])))
            (sorted_middle element_cmp (keys_of (joined cs)) [] k (subst (IsStrictlySortedBy element_cmp) (sym (append-nil (keys_of (joined cs)))) end.chunks.ordered) end.below tt);
        filled = all-append (λ y. 0 < length y) cs ((e ∷ []) ∷ []) end.chunks.filled (omega arith, tt);
      };
    }

-- the place after the last key of the last chunk is the end
pub last_end : (cs : List (List (Element × ℕ))) (k : Element) (i p : ℕ) → AreChunks cs → IsPlace cs k i → (c : List (Element × ℕ)) → c ≡ get_or cs i c → IsGap c k p → i + 1 ≡ length cs → length c ≤ p → IsEnd cs k
last_end cs k i p are place c is gap last full =
    let a : List (Element × ℕ) = joined (take i cs) in
    let none : drop (suc i) cs ≡ [] = drop_all (suc i) cs (omega (arith, last)) in
    let all : take p c ≡ c = take_all p c full in
    let parts : joined cs ≡ a ++ c = parted cs are i c place.in_range is ∙ ap (λ (ds : List (List (Element × ℕ))). a ++ (c ++ joined ds)) none ∙ ap (λ (xs : List (Element × ℕ)). a ++ xs) (append-nil c) in
    record {
      chunks = are;
      below = subst (λ (ss : List (Element × ℕ)). AllBelow k (keys_of ss)) (sym parts)
          (subst (AllByRecursion (λ y. element_cmp y k ≡ Less)) (sym (keys-append a c))
          (all-append (λ y. element_cmp y k ≡ Less) (keys_of a) (keys_of c) place.below (subst (λ (ss : List (Element × ℕ)). AllBelow k (keys_of ss)) all gap.below)));
    }

pub with_count : (xs : List (Element × ℕ)) (k : Element) (m n : ℕ) (l r : List (Element × ℕ)) → m ≡ n → Sides xs k m l r → Sides xs k n l r
with_count xs k m n l r e s = subst (λ (q : ℕ). Sides xs k q l r) e s

-- two reads of one place give the same
pub same_read : {X : Type 0} (xs : List X) (i : ℕ) (x y : X) → i < length xs → x ≡ get_or xs i x → y ≡ get_or xs i y → x ≡ y
same_read xs i x y lt p q = p ∙ get_or_default xs i x y lt ∙ sym q

pub none_sorted : IsStrictlySortedBy element_cmp []
unfolding IsStrictlySortedBy
none_sorted = tt

pub empty_chunks : AreChunks []
empty_chunks = record { ordered = none_sorted; filled = tt }

-- the first chunk is left behind at its end
pub left_past : (c : List (Element × ℕ)) (cs : List (List (Element × ℕ))) (i : ℕ) → length c ≤ i → left_from (c ∷ cs) i ≡ left_from cs 0
left_past c [] i h = ap (λ (xs : List (Element × ℕ)). xs ++ []) (drop_all i c h)
left_past c (d ∷ cs) i h = ap (λ (xs : List (Element × ℕ)). xs ++ joined (d ∷ cs)) (drop_all i c h)

-- the slot at the place, and those after it
pub left_next : (c : List (Element × ℕ)) (cs : List (List (Element × ℕ))) (i : ℕ) → i < length c → left_from (c ∷ cs) i ≡ (key_of c i, count_of c i) ∷ left_from (c ∷ cs) (i + 1)
left_next c cs i h = ap (λ (xs : List (Element × ℕ)). xs ++ joined cs) (drop_more c i (Undef, 0) h)
