-- Outcomes that are laid on others: what they have, and how many instructions they list.
use Rattle.std.proofs.Common.{◌≡◌, ◌≤◌, ◌+◌, ℕ, suc, Bool, true, false, cond, ◌&&◌, T, List, [], ◌∷◌, ◌++◌, length, map, filter, Option, Some, is_some, refl, sym, ap, subst, ◌∙◌, arith, append-nil, length-append}
use Rattle.std.proofs.lemmas.Bool.{false≢true}
use Rattle.std.specs.FinMap as finite
use Rattle.std.specs.FinMap.Entries.{below_all, by_order}
use Rattle.std.specs.List.{flat_map}
use Rattle.std.specs.Option.{option_map, option_map_or, option_or}
use Rattle.std.specs.Ordering.{eq_by_cmp, is_eq, is_lt}
use Rattle.std.specs.declared.cmp.Ordering.{Ordering}
use Rattle.std.specs.declared.cmp.Ordering.TheVariants.{Less, Equal, Greater}
use Rattle.asm_element.specs.Ascending.{both_T, first_gone, is_less, none_below, rising_rest}
use Rattle.asm_element.specs.Place.{Place, location_cmp, location_cmp_total, location_cmp-IsAntisymmetric, same_location}
use Rattle.asm_element.specs.Tests.{flipped, itself}
use Rattle.asm_element.specs.Value.{undef}
use Rattle.asm_update.specs.Move.{Move, actions_at}
use Rattle.asm_update.specs.declared.action.Action.{Action}
use Rattle.asm_aggregate.specs.Compose.{placed}
use Rattle.asm_aggregate.proofs.Grouped.{actions_at-append}
use Rattle.asm_aggregate.proofs.Sequence.{actions_placed}
use Rattle.asm_step.specs.Outcomes.{Outcome, Outcomes, actions_in, frame, stacked, listed}

-- what is found in lists of entries

find-both : {X : Type 0} (q : Place) (es fs : List (Place × X)) →
    finite.find location_cmp q (es ++ fs) ≡ option_or (finite.find location_cmp q es) (finite.find location_cmp q fs)
find-both q [] fs = refl
find-both q (e ∷ es) fs = by_test (eq_by_cmp location_cmp q e.0) (find-both q es fs) where
  by_test : (b : Bool) →
      finite.find location_cmp q (es ++ fs) ≡ option_or (finite.find location_cmp q es) (finite.find location_cmp q fs) →
      cond b (Some e.1) (finite.find location_cmp q (es ++ fs))
      ≡ option_or (cond b (Some e.1) (finite.find location_cmp q es)) (finite.find location_cmp q fs)
  by_test true h = refl
  by_test false h = h

pub find-mapped : {X Y : Type 0} (f : X → Y) (q : Place) (es : List (Place × X)) →
    finite.find location_cmp q (map (λ (e : Place × X). (e.0, f e.1)) es) ≡ option_map f (finite.find location_cmp q es)
find-mapped f q [] = refl
find-mapped f q (e ∷ es) = by_test (eq_by_cmp location_cmp q e.0) (find-mapped f q es) where
  by_test : (b : Bool) →
      finite.find location_cmp q (map (λ (e : Place × _). (e.0, f e.1)) es) ≡ option_map f (finite.find location_cmp q es) →
      cond b (Some (f e.1)) (finite.find location_cmp q (map (λ (e : Place × _). (e.0, f e.1)) es))
      ≡ option_map f (cond b (Some e.1) (finite.find location_cmp q es))
  by_test true h = refl
  by_test false h = h

-- the outcomes above, and else those below
pub get-stacked : (below above : Outcomes) (q : Place) →
    finite.get (stacked below above) q ≡ option_or (finite.get above q) (finite.get below q)
get-stacked below above q =
    finite.get-from_entries location_cmp_total (finite.entries above ++ finite.entries below) q
    ∙ find-both q (finite.entries above) (finite.entries below)
    ∙ (λ i. option_or (sym (finite.get-entries above q) i) (sym (finite.get-entries below q) i))

-- a frame has the values
pub get-frame : (os : Outcomes) (q : Place) → finite.get (frame os) q ≡ option_map (λ o. o.value) (finite.get os q)
get-frame os q =
    finite.get-from_entries location_cmp_total (map (λ (e : Place × Outcome). (e.0, e.1.value)) (finite.entries os)) q
    ∙ find-mapped (λ (o : Outcome). o.value) q (finite.entries os)
    ∙ ap (option_map (λ (o : Outcome). o.value)) (sym (finite.get-entries os q))

same_outcomes : (m n : Outcomes) → ((q : Place) → finite.get m q ≡ finite.get n q) → m ≡ n
same_outcomes m n each = finite.same_map location_cmp_total location_cmp-IsAntisymmetric m n each

-- outcomes that have what those above have, and else those below, are these laid on those
pub laid_is : (below above os : Outcomes) →
    ((q : Place) → finite.get os q ≡ option_or (finite.get above q) (finite.get below q)) → os ≡ stacked below above
laid_is below above os each = same_outcomes os (stacked below above) (λ q. each q ∙ sym (get-stacked below above q))

from_own : (m : Outcomes) → finite.from_entries (finite.entries m) ≡ m
from_own m = same_outcomes _ m (λ q.
    finite.get-from_entries location_cmp_total (finite.entries m) q ∙ sym (finite.get-entries m q))

-- what is listed at a location

-- the instructions of entries
abbrev pub listed_from : List (Place × Outcome) → Move
listed_from es = flat_map (λ e. placed e.0 e.1.actions) es

-- the actions of the entry at a location, if there is one
abbrev found : Place → List (Place × Outcome) → List Action
found l es = option_map_or (λ o. o.actions) (finite.find location_cmp l es) []

at_listed : (es : List (Place × Outcome)) (l : Place) → T (finite.is_sorted location_cmp es) →
    actions_at (flat_map (λ (e : Place × Outcome). placed e.0 e.1.actions) es) l ≡ found l es
at_listed [] l sorted = refl
at_listed ((k, o) ∷ es) l sorted =
    actions_at-append (placed k o.actions) (flat_map (λ (e : Place × Outcome). placed e.0 e.1.actions) es) l
    ∙ ap (λ xs. actions_at (placed k o.actions) l ++ xs) (at_listed es l (rising_rest location_cmp k o es sorted))
    ∙ by_test (eq_by_cmp location_cmp l k) refl where
      by_test : (b : Bool) → eq_by_cmp location_cmp l k ≡ b →
          actions_at (placed k o.actions) l ++ found l es
          ≡ option_map_or (λ (o : Outcome). o.actions) (cond b (Some o) (finite.find location_cmp l es)) []
      by_test true e =
          (λ i. actions_placed k l o.actions true (flipped location_cmp_total k l ∙ e) i
          ++ option_map_or (λ (o : Outcome). o.actions)
          ((ap (λ p. finite.find location_cmp p es) (same_location l k e) ∙ first_gone location_cmp k o es sorted) i) [])
          ∙ append-nil o.actions
      by_test false e =
          ap (λ xs. xs ++ found l es) (actions_placed k l o.actions false (flipped location_cmp_total k l ∙ e))

pub actions_at-listed : (os : Outcomes) (l : Place) → actions_at (listed os) l ≡ actions_in os l
actions_at-listed os l =
    at_listed (finite.entries os) l (finite.entries_sorted os)
    ∙ ap (λ (o : Option Outcome). option_map_or (λ (o : Outcome). o.actions) o []) (sym (finite.get-entries os l))

-- how many instructions are listed

-- how many instructions entries have
abbrev many : List (Place × Outcome) → ℕ
many es = length (flat_map (λ (e : Place × Outcome). placed e.0 e.1.actions) es)

pub placed_length : (k : Place) (xs : List Action) → length (placed k xs) ≡ length xs
placed_length k [] = refl
placed_length k (x ∷ xs) = ap (λ n. suc n) (placed_length k xs)

pub placed_many : (k : Place) (xs : List Action) (M : Move) → length (placed k xs ++ M) ≡ length xs + length M
placed_many k xs M = length-append (placed k xs) M ∙ ap (λ n. n + length M) (placed_length k xs)

below_less : (k j : Place) (es : List (Place × Outcome)) → location_cmp k j ≡ Less → T (below_all location_cmp j es) →
    T (below_all location_cmp k es)
below_less k j [] lt h = tt
below_less k j (e ∷ es) lt h =
    let parts = both_T (is_lt (location_cmp j e.0)) (below_all location_cmp j es) h in
    let less = location_cmp_total.trans k j e.0 lt (is_less (location_cmp j e.0) parts.0) in
    subst (λ r. T (is_lt r && below_all location_cmp k es)) (sym less) (below_less k j es lt parts.1)

less_sum : (new others mine gone : ℕ) → new ≡ mine + others → gone ≡ 0 → new + gone ≡ others + mine
less_sum new others mine gone a b = omega (arith, a, b)

equal_sum : (old new others mine gone : ℕ) → old ≡ gone + others → new ≡ mine + others → new + gone ≡ old + mine
equal_sum old new others mine gone a b = omega (arith, a, b)

greater_sum : (old new first before after mine gone : ℕ) → old ≡ first + before → new ≡ first + after →
    after + gone ≡ before + mine → new + gone ≡ old + mine
greater_sum old new first before after mine gone a b c = omega (arith, a, b, c)

put_many : (k : Place) (o : Outcome) (es : List (Place × Outcome)) → T (finite.is_sorted location_cmp es) →
    many (finite.put location_cmp k o es) + length (found k es) ≡ many es + length o.actions
put_many k o [] sorted =
    let long : many ((k, o) ∷ []) ≡ length o.actions + 0 = placed_many k o.actions [] in omega (arith, long)
put_many k o ((j, p) ∷ es) sorted =
    at_order (location_cmp k j) refl (put_many k o es (rising_rest location_cmp j p es sorted)) where
      at_order : (r : Ordering) → location_cmp k j ≡ r →
          many (finite.put location_cmp k o es) + length (found k es) ≡ many es + length o.actions →
          many (by_order r ((k, o) ∷ (j, p) ∷ es) ((j, o) ∷ es) ((j, p) ∷ finite.put location_cmp k o es))
          + length (option_map_or (λ (o : Outcome). o.actions) (cond (is_eq r) (Some p) (finite.find location_cmp k es)) [])
          ≡ many ((j, p) ∷ es) + length o.actions
      at_order Less is h =
          let none : found k es ≡ [] =
          ap (λ (x : Option Outcome). option_map_or (λ (o : Outcome). o.actions) x [])
          (none_below location_cmp k es (below_less k j es is (both_T _ _ sorted).0)) in
          let long : many ((k, o) ∷ (j, p) ∷ es) ≡ length o.actions + many ((j, p) ∷ es) =
          placed_many k o.actions (listed_from ((j, p) ∷ es)) in
          less_sum _ _ _ _ long (ap length none)
      at_order Equal is h =
          let old : many ((j, p) ∷ es) ≡ length p.actions + many es = placed_many j p.actions (listed_from es) in
          let new : many ((j, o) ∷ es) ≡ length o.actions + many es = placed_many j o.actions (listed_from es) in
          equal_sum _ _ _ _ _ old new
      at_order Greater is h =
          let old : many ((j, p) ∷ es) ≡ length p.actions + many es = placed_many j p.actions (listed_from es) in
          let new : many ((j, p) ∷ finite.put location_cmp k o es) ≡ length p.actions + many (finite.put location_cmp k o es) =
          placed_many j p.actions (listed_from (finite.put location_cmp k o es)) in
          greater_sum _ _ _ _ _ _ _ old new h

-- an outcome that is put in has its instructions in place of those of the one before
pub insert_many : (os : Outcomes) (k : Place) (o : Outcome) →
    length (listed (finite.insert os k o)) + length (actions_in os k) ≡ length (listed os) + length o.actions
insert_many os k o =
    (λ i. many (finite.entries-insert location_cmp_total os k o i)
    + length (option_map_or (λ (x : Outcome). x.actions) (finite.get-entries os k i) []))
    ∙ put_many k o (finite.entries os) (finite.entries_sorted os)

-- those that are laid on others have their instructions in place of those below

-- what the outcomes do at the locations of entries
abbrev pub kept_at : {X : Type 0} → Outcomes → List (Place × X) → Move
kept_at os es = flat_map (λ e. placed e.0 (actions_in os e.0)) es

laid_sum : (all rest kept kept_rest here here' below new mine tail : ℕ) →
    rest + kept_rest ≡ below + tail → all + here' ≡ rest + mine → here' ≡ here → kept ≡ here + kept_rest →
    new ≡ mine + tail → all + kept ≡ below + new
laid_sum all rest kept kept_rest here here' below new mine tail a b c d e = omega (arith, a, b, c, d, e)

laid_from : (es fs : List (Place × Outcome)) → T (finite.is_sorted location_cmp es) →
    length (listed (finite.from_entries (es ++ fs))) + length (kept_at (finite.from_entries fs) es)
    ≡ length (listed (finite.from_entries fs)) + many es
laid_from [] fs sorted = refl
laid_from ((k, o) ∷ es) fs sorted =
    let before = laid_from es fs (rising_rest location_cmp k o es sorted) in
    let put = insert_many (finite.from_entries (es ++ fs)) k o in
    let same : actions_in (finite.from_entries (es ++ fs)) k ≡ actions_in (finite.from_entries fs) k =
    ap (λ (x : Option Outcome). option_map_or (λ (o : Outcome). o.actions) x [])
    (finite.get-from_entries location_cmp_total (es ++ fs) k ∙ find-both k es fs
    ∙ ap (λ (x : Option Outcome). option_or x (finite.find location_cmp k fs)) (first_gone location_cmp k o es sorted)
    ∙ sym (finite.get-from_entries location_cmp_total fs k)) in
    let lengths : length (actions_in (finite.from_entries (es ++ fs)) k) ≡ length (actions_in (finite.from_entries fs) k) =
    ap length same in
    let kept : length (kept_at (finite.from_entries fs) ((k, o) ∷ es))
    ≡ length (actions_in (finite.from_entries fs) k) + length (kept_at (finite.from_entries fs) es) =
    placed_many k (actions_in (finite.from_entries fs) k) (kept_at (finite.from_entries fs) es) in
    let new : many ((k, o) ∷ es) ≡ length o.actions + many es = placed_many k o.actions (listed_from es) in
    laid_sum _ _ _ _ _ _ _ _ _ _ before put lengths kept new

pub laid_many : (below above : Outcomes) →
    length (listed (stacked below above)) + length (kept_at below (finite.entries above))
    ≡ length (listed below) + length (listed above)
laid_many below above =
    subst (λ (m : Outcomes). length (listed (stacked below above)) + length (kept_at m (finite.entries above))
    ≡ length (listed m) + length (listed above)) (from_own below)
    (laid_from (finite.entries above) (finite.entries below) (finite.entries_sorted above))

-- what is kept at some of the locations is no more than all

-- an outcome without actions
abbrev nothing_at : Outcome
nothing_at = record { value = undef; actions = []; builds = false; depends = false }

few_sum : (all here here' rest less n : ℕ) → all ≡ here + rest → here ≡ here' → rest ≤ less → less + here' ≡ n + 0 → all ≤ n
few_sum all here here' rest less n a b c d = omega (arith, a, b, c, d)

kept_few : {X : Type 0} (es : List (Place × X)) → T (finite.is_sorted location_cmp es) → (m n : Outcomes) →
    ((l : Place) → is_some (finite.find location_cmp l es) ≡ true → actions_in m l ≡ actions_in n l) →
    length (kept_at m es) ≤ length (listed n)
kept_few [] sorted m n same = omega arith
kept_few ((k, x) ∷ es) sorted m n same =
    let less = finite.insert n k nothing_at in
    let put = insert_many n k nothing_at in
    let here : length (actions_in m k) ≡ length (actions_in n k) =
    ap length (same k (ap is_some (ap (λ b. cond b (Some x) (finite.find location_cmp k es)) (itself location_cmp_total k)))) in
    let rest = kept_few es (rising_rest location_cmp k x es sorted) m less
    (λ l there. others l there (eq_by_cmp location_cmp l k) refl) in
    let long : length (kept_at m ((k, x) ∷ es)) ≡ length (actions_in m k) + length (kept_at m es) =
    placed_many k (actions_in m k) (kept_at m es) in
    few_sum _ _ _ _ _ _ long here rest put where
      others : (l : Place) → is_some (finite.find location_cmp l es) ≡ true → (b : Bool) → eq_by_cmp location_cmp l k ≡ b →
          actions_in m l ≡ actions_in (finite.insert n k nothing_at) l
      others l there true e =
          absurd (false≢true
          (ap is_some (sym (first_gone location_cmp k x es sorted))
          ∙ ap (λ p. is_some (finite.find location_cmp p es)) (sym (same_location l k e)) ∙ there))
      others l there false e =
          same l (ap (λ b. is_some (cond b (Some x) (finite.find location_cmp l es))) e ∙ there)
          ∙ ap (λ (y : Option Outcome). option_map_or (λ (o : Outcome). o.actions) y [])
          (sym (finite.get-insert location_cmp_total n k nothing_at l
          ∙ ap (λ b. cond b (Some nothing_at) (finite.get n l)) e))

pub kept_within : {X : Type 0} (os : Outcomes) (U : finite.FinMap location_cmp X) →
    length (kept_at os (finite.entries U)) ≤ length (listed os)
kept_within os U = kept_few (finite.entries U) (finite.entries_sorted U) os os (λ l there. refl)

-- without outcomes nothing is listed
pub none_listed : (os : Outcomes) → ((l : Place) → actions_in os l ≡ []) → listed os ≡ []
none_listed os none =
    by_entries (finite.entries os) (finite.entries_sorted os)
    (λ l. ap (λ (x : Option Outcome). option_map_or (λ (o : Outcome). o.actions) x []) (sym (finite.get-entries os l)) ∙ none l) where
      by_entries : (es : List (Place × Outcome)) → T (finite.is_sorted location_cmp es) → ((l : Place) → found l es ≡ []) →
          flat_map (λ (e : Place × Outcome). placed e.0 e.1.actions) es ≡ []
      by_entries [] sorted h = refl
      by_entries ((k, o) ∷ es) sorted h =
          (λ i. placed k (here i) ++ by_entries es (rising_rest location_cmp k o es sorted)
          (λ l. later l (eq_by_cmp location_cmp l k) refl) i) where
            here : o.actions ≡ []
            here =
                ap (λ b. option_map_or (λ (o : Outcome). o.actions) (cond b (Some o) (finite.find location_cmp k es)) [])
                (sym (itself location_cmp_total k)) ∙ h k

            later : (l : Place) → (b : Bool) → eq_by_cmp location_cmp l k ≡ b → found l es ≡ []
            later l true e =
                ap (λ (x : Option Outcome). option_map_or (λ (o : Outcome). o.actions) x [])
                (ap (λ p. finite.find location_cmp p es) (same_location l k e) ∙ first_gone location_cmp k o es sorted)
            later l false e =
                ap (λ b. option_map_or (λ (o : Outcome). o.actions) (cond b (Some o) (finite.find location_cmp l es)) []) (sym e)
                ∙ h l

-- the places of entries that rest

abbrev pub dependencies_from : List (Place × Outcome) → List Place
dependencies_from es = map (λ e. e.0) (filter (λ e. e.1.depends) es)

pub dependencies_first : (k : Place) (o : Outcome) (es : List (Place × Outcome)) → o.depends ≡ true →
    dependencies_from ((k, o) ∷ es) ≡ k ∷ dependencies_from es
dependencies_first k o es is =
    ap (λ b. map (λ (e : Place × Outcome). e.0)
    (cond b ((k, o) ∷ filter (λ (e : Place × Outcome). e.1.depends) es) (filter (λ (e : Place × Outcome). e.1.depends) es))) is

pub dependencies_not : (k : Place) (o : Outcome) (es : List (Place × Outcome)) → o.depends ≡ false →
    dependencies_from ((k, o) ∷ es) ≡ dependencies_from es
dependencies_not k o es is =
    ap (λ b. map (λ (e : Place × Outcome). e.0)
    (cond b ((k, o) ∷ filter (λ (e : Place × Outcome). e.1.depends) es) (filter (λ (e : Place × Outcome). e.1.depends) es))) is

pub placed_more : (k : Place) (xs : List Action) (x : Action) →
    placed k (xs ++ x ∷ []) ≡ placed k xs ++ record { at = k; action = x } ∷ []
placed_more k [] x = refl
placed_more k (y ∷ xs) x = ap (λ M. record { at = k; action = y } ∷ M) (placed_more k xs x)
