-- Numbers that ascend, with one more among them.
use Rattle.std.proofs.Common.{◌≡◌, ◌<◌, ◌≤◌, ◌+◌, ℕ, zero, suc, List, [], ◌∷◌, ◌++◌, All, Some, length, map, take, drop, take-append-drop, get_or, add-one, sym, ap, ◌∙◌, subst, refl, arith}
use Rattle.std.proofs.lemmas.List.{map-append, length-drop}
use Rattle.std.proofs.lemmas.List.Elements.{All-append, All-cons, All-drop, All-head, All-map, All-nil, All-tail, All-take, All-weaker}
use Rattle.std.proofs.lemmas.Option.{same_Some, slice_get-get_or}
use Rattle.std.proofs.Math.Seq.{drop-cons}
use Rattle.std.specs.Prelude.{slice_get}
use Rattle.std.specs.List.Sorted.{IsStrictlyIncreasing}
use Rattle.asm_storage.proofs.Rounds.{rises_tail}
use Rattle.asm_storage.specs.declared.part.AgentPart.{AgentPart}
use Rattle.asm_slots.specs.InsertPoint.{IsAmong, IsInsertPoint}

-- a number below all of ascending numbers, in front of them
pub rises_from : (x : ℕ) (xs : List ℕ) → All (λ y. x < y) xs → IsStrictlyIncreasing xs → IsStrictlyIncreasing (x ∷ xs)
rises_from x xs below rises zero lt = below 0 0 (omega (arith, lt))
rises_from x xs below rises (suc k) lt = rw add-one (rw add-one at (rises k (omega (arith, lt))))

-- of ascending numbers each later one is above the first
pub rises_over : (x : ℕ) (xs : List ℕ) → IsStrictlyIncreasing (x ∷ xs) → All (λ y. x < y) xs
rises_over x [] rises = All-nil (λ y. x < y)
rises_over x (y ∷ xs) rises =
    let first : x < y = rises 0 (omega arith) in
    All-cons (λ z. x < z) y xs first (All-weaker (λ z. y < z) (λ z. x < z) (λ z lt. omega (arith, lt, first)) xs (rises_over y xs (rises_tail x (y ∷ xs) rises)))

all_before : {X : Type 0} (P : X → Type 0) (xs ys : List X) → All P (xs ++ ys) → All P xs
all_before P [] ys each = All-nil P
all_before P (x ∷ xs) ys each = All-cons P x xs (All-head P x (xs ++ ys) each) (all_before P xs ys (All-tail P x (xs ++ ys) each))

pub all_after : {X : Type 0} (P : X → Type 0) (xs ys : List X) → All P (xs ++ ys) → All P ys
all_after P [] ys each = each
all_after P (x ∷ xs) ys each = all_after P xs ys (All-tail P x (xs ++ ys) each)

-- one more among ascending numbers, above those before it and below those after it
pub rises_among : (xs ys : List ℕ) (n : ℕ) → IsStrictlyIncreasing (xs ++ ys) → All (λ x. x < n) xs → All (λ y. n < y) ys → IsStrictlyIncreasing (xs ++ n ∷ ys)
rises_among [] ys n rises before after = rises_from n ys after rises
rises_among (x ∷ xs) ys n rises before after =
    let over = rises_over x (xs ++ ys) rises in
    let first : x < n = All-head (λ x. x < n) x xs before in
    rises_from x (xs ++ n ∷ ys)
    (All-append (λ y. x < y) xs (n ∷ ys) (all_before (λ y. x < y) xs ys over) (All-cons (λ y. x < y) n ys first (all_after (λ y. x < y) xs ys over)))
    (rises_among xs ys n (rises_tail x (xs ++ ys) rises) (All-tail (λ x. x < n) x xs before) after)

all_unmap : {X Y : Type 0} (P : Y → Type 0) (f : X → Y) (xs : List X) → All P (map f xs) → All (λ x. P (f x)) xs
all_unmap P f [] each = All-nil (λ x. P (f x))
all_unmap P f (x ∷ xs) each = All-cons (λ y. P (f y)) x xs (All-head P (f x) (map f xs) each) (all_unmap P f xs (All-tail P (f x) (map f xs) each))

-- of parts whose numbers ascend, those from a greater number on
pub above_from : (parts : List AgentPart) (at id : ℕ) → IsStrictlyIncreasing (map (λ p. p.id) parts) → ((p : AgentPart) → slice_get parts at ≡ Some p → id < p.id) → All (λ p. id < p.id) (drop at parts)
above_from [] zero id rises first = All-nil (λ p. id < p.id)
above_from [] (suc at) id rises first = All-nil (λ p. id < p.id)
above_from (p ∷ parts) zero id rises first =
    let here : id < p.id = first p refl in
    All-cons (λ q. id < q.id) p parts here
    (All-weaker (λ q. p.id < q.id) (λ q. id < q.id) (λ q lt. omega (arith, lt, here)) parts (all_unmap (λ n. p.id < n) (λ q. q.id) parts (rises_over p.id (map (λ q. q.id) parts) rises)))
above_from (p ∷ parts) (suc at) id rises first = above_from parts at id (rises_tail p.id (map (λ q. q.id) parts) rises) first

-- the item at a place
pub tracked : {X : Type 0} (xs : List X) (k : ℕ) (x : X) → k < length xs → x ≡ get_or xs k x → slice_get xs k ≡ Some x
tracked xs k x lt e = slice_get-get_or xs k x lt ∙ ap Some (sym e)

-- the same, if the part at that place is known
pub above_at : (parts : List AgentPart) (at id : ℕ) (p : AgentPart) → IsStrictlyIncreasing (map (λ q. q.id) parts) → at < length parts → p ≡ get_or parts at p → ((q : AgentPart) → slice_get parts at ≡ Some q → id ≤ q.id) → ¬ (p.id ≡ id) → All (λ q. id < q.id) (drop at parts)
above_at parts at id p rises lt is next ne =
    let here = tracked parts at p lt is in
    let above : id < p.id = omega (arith, next p here, ne) in
    above_from parts at id rises (λ q e. omega (arith, above, ap (λ (r : AgentPart). r.id) (same_Some q p (sym e ∙ here))))

-- behind the last of them there is none
pub above_end : (parts : List AgentPart) (at id : ℕ) → length parts ≤ at → All (λ q. id < q.id) (drop at parts)
above_end parts at id end k d lt = absurd (omega (arith, lt, end, length-drop at parts))

-- a part with this number
pub among_at : (parts : List AgentPart) (at id : ℕ) (p : AgentPart) → at < length parts → p ≡ get_or parts at p → p.id ≡ id → IsAmong parts id
among_at parts at id p lt is e =
    let here = drop-cons parts at p lt ∙ ap (λ q. q ∷ drop (suc at) parts) (sym is) in
    (take at parts, drop (suc at) parts, p, sym (take-append-drop at parts) ∙ ap (λ l. take at parts ++ l) here, e)

-- one part more at its place
pub rises_in : (parts : List AgentPart) (p : AgentPart) (at : ℕ) → IsStrictlyIncreasing (map (λ q. q.id) parts) → IsInsertPoint parts p.id at → IsStrictlyIncreasing (map (λ q. q.id) (take at parts ++ p ∷ drop at parts))
rises_in parts p at rises point =
    let f : AgentPart → ℕ = λ q. q.id in
    subst IsStrictlyIncreasing (sym (map-append f (take at parts) (p ∷ drop at parts)))
    (rises_among (map f (take at parts)) (map f (drop at parts)) p.id
    (subst IsStrictlyIncreasing (ap (map f) (sym (take-append-drop at parts)) ∙ map-append f (take at parts) (drop at parts)) rises)
    (All-map (λ n. n < p.id) f (take at parts) point.before) (All-map (λ n. p.id < n) f (drop at parts) point.after))

-- what holds of all parts and of one more holds of all with it
pub all_in : {X : Type 0} (P : X → Type 0) (xs : List X) (x : X) (at : ℕ) → All P xs → P x → All P (take at xs ++ x ∷ drop at xs)
all_in P xs x at each p =
    All-append P (take at xs) (x ∷ drop at xs) (All-take P at xs each) (All-cons P x (drop at xs) p (All-drop P at xs each))

-- ascending numbers without one of them
pub rises_without : (xs ys : List ℕ) (n : ℕ) → IsStrictlyIncreasing (xs ++ n ∷ ys) → IsStrictlyIncreasing (xs ++ ys)
rises_without [] ys n rises = rises_tail n ys rises
rises_without (x ∷ xs) ys n rises =
    let over = rises_over x (xs ++ n ∷ ys) rises in
    rises_from x (xs ++ ys)
    (All-append (λ y. x < y) xs ys (all_before (λ y. x < y) xs (n ∷ ys) over)
    (All-tail (λ y. x < y) n ys (all_after (λ y. x < y) xs (n ∷ ys) over)))
    (rises_without xs ys n (rises_tail x (xs ++ n ∷ ys) rises))

-- what is in front of an item, the item, and what is behind it
pub placed : {X : Type 0} (xs : List X) (at : ℕ) (x : X) → at < length xs → x ≡ get_or xs at x →
    xs ≡ take at xs ++ x ∷ drop (at + 1) xs
placed xs at x lt is =
    sym (take-append-drop at xs)
    ∙ ap (λ l. take at xs ++ l)
    (drop-cons xs at x lt ∙ ap (λ y. y ∷ drop (suc at) xs) (sym is) ∙ ap (λ k. x ∷ drop k xs) (sym (add-one at)))

there_is : {X : Type 0} (xs : List X) (at : ℕ) → at < length xs → (x : X) × (slice_get xs at ≡ Some x)
there_is [] at lt = absurd (omega (arith, lt))
there_is (x ∷ xs) zero lt = (x, refl)
there_is (x ∷ xs) (suc at) lt = there_is xs at (omega (arith, lt))

-- the part at a place, which has this number
pub part_at : (parts : List AgentPart) (at id : ℕ) → at < length parts →
    ((p : AgentPart) → slice_get parts at ≡ Some p → p.id ≡ id) →
    (p : AgentPart) × (parts ≡ take at parts ++ p ∷ drop (at + 1) parts) × (p.id ≡ id)
part_at parts at id lt is =
    let there = there_is parts at lt in
    let p = there.0 in
    let here : p ≡ get_or parts at p = same_Some p (get_or parts at p) (sym there.1 ∙ slice_get-get_or parts at p lt) in
    (p, placed parts at p lt here, is p there.1)

-- the parts without the one at this place
pub rises_out : (parts : List AgentPart) (p : AgentPart) (at : ℕ) → parts ≡ take at parts ++ p ∷ drop (at + 1) parts →
    IsStrictlyIncreasing (map (λ q. q.id) parts) → IsStrictlyIncreasing (map (λ q. q.id) (take at parts ++ drop (at + 1) parts))
rises_out parts p at is rises =
    let f : AgentPart → ℕ = λ q. q.id in
    subst IsStrictlyIncreasing (sym (map-append f (take at parts) (drop (at + 1) parts)))
    (rises_without (map f (take at parts)) (map f (drop (at + 1) parts)) p.id
    (subst IsStrictlyIncreasing (ap (map f) is ∙ map-append f (take at parts) (p ∷ drop (at + 1) parts)) rises))

-- what holds of all holds of all except one
pub all_out : {X : Type 0} (P : X → Type 0) (xs : List X) (at : ℕ) → All P xs → All P (take at xs ++ drop (at + 1) xs)
all_out P xs at each = All-append P (take at xs) (drop (at + 1) xs) (All-take P at xs each) (All-drop P (at + 1) xs each)
