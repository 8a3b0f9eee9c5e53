-- That firing as a function, and as what holds of each location, are the same.
use Rattle.std.proofs.Common.{◌≡◌, ◌↔◌, Bool, true, false, cond, ◌||◌, List, [], ◌∷◌, map, Option, Some, None, refl, sym, ap, subst, ◌∙◌, unwrap_or}
use Rattle.std.specs.Prelude.{Result, Ok, Err, IsOk, IsSomeAnd, T, is_some}
use Rattle.std.specs.List.{list_any}
use Rattle.std.specs.declared.cmp.Ordering.{Ordering}
use Rattle.std.specs.declared.cmp.Ordering.TheVariants.{Less, Equal, Greater}
use Rattle.std.specs.Ordering.{eq_by_cmp, is_eq, is_gt, ordering_reverse}
use Rattle.std.specs.FinMap as finite
use Rattle.std.specs.FinMap.Entries
use Rattle.std.proofs.lemmas.Bool.{false≢true}
use Rattle.asm_element.specs.Value as held
use Rattle.asm_element.specs.declared.value.Value.{Value}
use Rattle.asm_element.specs.Place.{Place, location_cmp, location_cmp_total, location_cmp-IsAntisymmetric, same_location}
use Rattle.asm_update.specs.Move.{Move, writes}
use Rattle.asm_update.specs.State.{State, Updates, val, write, write_all, overwrite}
use Rattle.asm_update.specs.Fire.{Part, Old, GroupResult, result_at, written, locations, gathered, aggregated, overwritten, fire, IsUpdateSet, IsLeastClash}
use Rattle.asm_update.specs.declared.clash.Clash.{Clash}
use Rattle.asm_element.specs.Value.{undef_is}
use Rattle.asm_element.specs.Ascending.{both_T, is_less}
use Rattle.asm_element.specs.Tests.{flipped, itself, is_some-cond, ok_is, err_is, or_right}

-- what a state holds for a value
abbrev pub stored : Value → Option Value
stored v = cond (held.is_undef v) None (Some v)

pub get-write : (A : State) (l : Place) (v : Value) (q : Place) → finite.get (write A l v) q ≡ cond (eq_by_cmp location_cmp q l) (stored v) (finite.get A q)
get-write A l v q = by_test (held.is_undef v) where
  by_test : (b : Bool) → finite.get (cond b (finite.remove A l) (finite.insert A l v)) q ≡ cond (eq_by_cmp location_cmp q l) (cond b None (Some v)) (finite.get A q)
  by_test true = finite.get-remove location_cmp_total A l q
  by_test false = finite.get-insert location_cmp_total A l v q

-- what a state holds after an update that is there, or that isn't
abbrev pub stored_or : Option Value → Option Value → Option Value
stored_or (Some v) x = stored v
stored_or None x = x

get-write_all : (A : State) (es : List (Place × Value)) (q : Place) → finite.get (write_all A es) q ≡ stored_or (finite.find location_cmp q es) (finite.get A q)
get-write_all A [] q = refl
get-write_all A (e ∷ es) q = get-write (write_all A es) e.0 e.1 q ∙ ap (cond (eq_by_cmp location_cmp q e.0) (stored e.1)) (get-write_all A es q) ∙ by_test (eq_by_cmp location_cmp q e.0) where
  by_test : (b : Bool) → cond b (stored e.1) (stored_or (finite.find location_cmp q es) (finite.get A q)) ≡ stored_or (cond b (Some e.1) (finite.find location_cmp q es)) (finite.get A q)
  by_test true = refl
  by_test false = refl

-- what a state holds after updates
pub get-overwrite : (A : State) (U : Updates) (q : Place) → finite.get (overwrite A U) q ≡ stored_or (finite.get U q) (finite.get A q)
get-overwrite A U q = get-write_all A (finite.entries U) q ∙ ap (λ o. stored_or o (finite.get A q)) (sym (finite.get-entries U q))

-- states that hold the same at each location are the same
pub same_state : (A B : State) → ((q : Place) → finite.get A q ≡ finite.get B q) → A ≡ B
same_state A B is = finite.same_map location_cmp_total location_cmp-IsAntisymmetric A B is

-- whether a location stands in a list
abbrev pub is_in : List Place → Place → Bool
is_in ls q = list_any (eq_by_cmp location_cmp q) ls

has_written : (M : Move) (q : Place) → is_some (finite.get (written M) q) ≡ writes M q
has_written [] q = ap is_some (finite.get-empty location_cmp q)
has_written (i ∷ M) q =
    ap is_some (finite.get-insert location_cmp_total (written M) i.at tt q) ∙ is_some-cond (eq_by_cmp location_cmp q i.at) tt (finite.get (written M) q)
    ∙ (λ j. flipped location_cmp_total q i.at j || has_written M q j)

-- the locations of a move are those that it writes
pub in_locations : (M : Move) (q : Place) → is_in (locations M) q ≡ writes M q
in_locations M q = sym (finite.contains_key-keys (written M) q) ∙ has_written M q

-- each stands below those after it
abbrev Rising : List Place → Type 0
Rising [] = Unit {0}
Rising (l ∷ ls) = ((q : Place) → is_in ls q ≡ true → location_cmp l q ≡ Less) × Rising ls

abbrev pub places : {X : Type 0} → List (Place × X) → List Place
places es = map (λ e. e.0) es

below_each : {X : Type 0} (x : Place) (es : List (Place × X)) (q : Place) → T (Entries.below_all location_cmp x es) → is_in (places es) q ≡ true → location_cmp x q ≡ Less
below_each x [] q h k = cc
below_each x (e ∷ es) q h k = by_test (eq_by_cmp location_cmp q e.0) refl k (below_each x es q (both_T _ _ h).1) where
  by_test : (b : Bool) → eq_by_cmp location_cmp q e.0 ≡ b → (b || is_in (places es) q) ≡ true → (is_in (places es) q ≡ true → location_cmp x q ≡ Less) → location_cmp x q ≡ Less
  by_test true is k later = ap (location_cmp x) (same_location q e.0 is) ∙ is_less _ (both_T _ _ h).0
  by_test false is k later = later k

rising : {X : Type 0} (es : List (Place × X)) → T (finite.is_sorted location_cmp es) → Rising (places es)
rising [] h = tt
rising (e ∷ es) h = (λ q. below_each e.0 es q (both_T _ _ h).0, rising es (both_T _ _ h).1)

rising_locations : (M : Move) → Rising (locations M)
rising_locations M = rising (finite.entries (written M)) (finite.entries_sorted (written M))

abbrev results : (Place → GroupResult) → List Place → List (Place × GroupResult)
results out ls = map (λ l. (l, out l)) ls

abbrev ok_of : GroupResult → Option Value
ok_of (Ok v) = Some v
ok_of (Err cause) = None

-- where each of the locations has a result, those are gathered
gathered_value : (out : Place → GroupResult) (ls : List Place) (U V : Updates) (q : Place) → gathered U (results out ls) ≡ Ok V → finite.get V q ≡ cond (is_in ls q) (ok_of (out q)) (finite.get U q)
gathered_value out [] U V q h = ap (λ W. finite.get W q) (sym (ok_is U V h))
gathered_value out (l ∷ ls) U V q h = by_outcome (out l) refl h (λ W. gathered_value out ls W V q) where
  by_test : (v : Value) (b c : Bool) → eq_by_cmp location_cmp q l ≡ b → out l ≡ Ok v → cond c (ok_of (out q)) (cond b (Some v) (finite.get U q)) ≡ cond (b || c) (ok_of (out q)) (finite.get U q)
  by_test v true true is e = refl
  by_test v true false is e = ap ok_of (sym e ∙ ap out (sym (same_location q l is)))
  by_test v false c is e = refl

  by_outcome : (o : GroupResult) → out l ≡ o → gathered U ((l, o) ∷ results out ls) ≡ Ok V → ((W : Updates) → gathered W (results out ls) ≡ Ok V → finite.get V q ≡ cond (is_in ls q) (ok_of (out q)) (finite.get W q)) →
      finite.get V q ≡ cond (eq_by_cmp location_cmp q l || is_in ls q) (ok_of (out q)) (finite.get U q)
  by_outcome (Ok v) e h later =
      later (finite.insert U l v) h ∙ ap (cond (is_in ls q) (ok_of (out q))) (finite.get-insert location_cmp_total U l v q) ∙ by_test v (eq_by_cmp location_cmp q l) (is_in ls q) refl e
  by_outcome (Err cause) e h later = cc

-- one more location that has a result
ok_there : (out : Place → GroupResult) (l q : Place) (ls : List Place) (v : Value) → out l ≡ Ok v → (is_in ls q ≡ true → IsOk (out q)) → (eq_by_cmp location_cmp q l || is_in ls q) ≡ true → IsOk (out q)
ok_there out l q ls v e later = by_test (eq_by_cmp location_cmp q l) refl where
  by_test : (b : Bool) → eq_by_cmp location_cmp q l ≡ b → (b || is_in ls q) ≡ true → IsOk (out q)
  by_test true is k = subst IsOk (sym e ∙ ap out (sym (same_location q l is))) refl
  by_test false is k = later k

gathered_each : (out : Place → GroupResult) (ls : List Place) (U V : Updates) (q : Place) → gathered U (results out ls) ≡ Ok V → is_in ls q ≡ true → IsOk (out q)
gathered_each out [] U V q h k = cc
gathered_each out (l ∷ ls) U V q h k = by_outcome (out l) refl h (λ W. gathered_each out ls W V q) where
  by_outcome : (o : GroupResult) → out l ≡ o → gathered U ((l, o) ∷ results out ls) ≡ Ok V → ((W : Updates) → gathered W (results out ls) ≡ Ok V → is_in ls q ≡ true → IsOk (out q)) → IsOk (out q)
  by_outcome (Ok v) e h later = ok_there out l q ls v e (later (finite.insert U l v) h) k
  by_outcome (Err cause) e h later = cc

-- the clash stands at the first of the locations that has no result
record IsFirstClash (out : Place → GroupResult) (ls : List Place) (clash : Clash) : Type 0 where
  stands : is_in ls clash.at ≡ true
  cause : out clash.at ≡ Err clash.cause
  least : (q : Place) → location_cmp q clash.at ≡ Less → is_in ls q ≡ true → IsOk (out q)

gathered_clash : (out : Place → GroupResult) (ls : List Place) (U : Updates) (clash : Clash) → Rising ls → gathered U (results out ls) ≡ Err clash → IsFirstClash out ls clash
gathered_clash out [] U clash r h = cc
gathered_clash out (l ∷ ls) U clash r h = by_outcome (out l) refl h (λ W. gathered_clash out ls W clash r.1) where
  above : (q : Place) (b : Bool) → eq_by_cmp location_cmp q l ≡ b → (b || is_in ls q) ≡ true → location_cmp q l ≡ Less → IsOk (out q)
  above q true is k lt = absurd (false≢true (ap is_eq (sym lt) ∙ is))
  above q false is k lt = absurd (false≢true (ap is_gt (sym lt ∙ location_cmp_total.antisymm q l) ∙ ap (λ o. is_gt (ordering_reverse o)) (r.0 q k)))

  by_outcome : (o : GroupResult) → out l ≡ o → gathered U ((l, o) ∷ results out ls) ≡ Err clash → ((W : Updates) → gathered W (results out ls) ≡ Err clash → IsFirstClash out ls clash) → IsFirstClash out (l ∷ ls) clash
  by_outcome (Ok v) e h later =
      let rest = later (finite.insert U l v) h in
      record {
        stands = or_right _ _ rest.stands;
        cause = rest.cause;
        least = λ q lt. ok_there out l q ls v e (rest.least q lt);
      }
  by_outcome (Err cause) e h later =
      subst (IsFirstClash out (l ∷ ls)) (err_is _ _ h) (record {
        stands = ap (λ b. b || is_in ls l) (itself location_cmp_total l);
        cause = e;
        least = λ q lt k. above q (eq_by_cmp location_cmp q l) refl k lt;
      })

has_value : (o : GroupResult) (x : Option Value) → x ≡ ok_of o → IsOk o → IsSomeAnd x (λ v. o ≡ Ok v)
has_value (Ok v) x e k = subst (λ (y : Option Value). IsSomeAnd y (λ w. ◌≡◌ {A = GroupResult} (Ok v) (Ok w))) (sym e) refl
has_value (Err cause) x e k = cc

same_value_there : (o : GroupResult) (x y : Option Value) → IsSomeAnd x (λ v. o ≡ Ok v) → IsSomeAnd y (λ v. o ≡ Ok v) → x ≡ y
same_value_there o (Some v) (Some w) h k = ap Some (ok_is v w (sym h ∙ k))
same_value_there o None y h k = absurd h
same_value_there o (Some v) None h k = absurd k

no_cause : {X : Type 0} (o : GroupResult) (x : Option Value) (cause : _) → IsSomeAnd x (λ v. o ≡ Ok v) → o ≡ Err cause → X
no_cause o (Some v) cause h e = cc
no_cause o None cause h e = absurd h

ok_no_cause : {X : Type 0} (o : GroupResult) (cause : _) → IsOk o → o ≡ Err cause → X
ok_no_cause (Ok v) cause k e = cc
ok_no_cause (Err c) cause k e = cc

module _ (part : Part) (old : Old) (M : Move) where
  update_set_from : (U : Updates) → aggregated part old M ≡ Ok U → IsUpdateSet part old M U
  update_set_from U h = record {
    written = λ l w.
        let here = in_locations M l ∙ w in
        has_value (result_at part old M l) (finite.get U l)
        (gathered_value (result_at part old M) (locations M) finite.empty U l h ∙ ap (λ b. cond b (ok_of (result_at part old M l)) (finite.get {R = location_cmp} finite.empty l)) here)
        (gathered_each (result_at part old M) (locations M) finite.empty U l h here);
    others = λ l w.
        gathered_value (result_at part old M) (locations M) finite.empty U l h ∙ ap (λ b. cond b (ok_of (result_at part old M l)) (finite.get {R = location_cmp} finite.empty l)) (in_locations M l ∙ w)
        ∙ finite.get-empty location_cmp l;
  }

  least_clash_from : (clash : Clash) → aggregated part old M ≡ Err clash → IsLeastClash part old M clash
  least_clash_from clash h =
      let is = gathered_clash (result_at part old M) (locations M) finite.empty clash (rising_locations M) h in
      record { written = sym (in_locations M clash.at) ∙ is.stands; cause = is.cause; least = λ l lt w. is.least l lt (in_locations M l ∙ w) }

  same_updates : (U V : Updates) → IsUpdateSet part old M U → IsUpdateSet part old M V → U ≡ V
  same_updates U V h k = same_state U V (λ q. by_test q (writes M q) refl) where
    by_test : (q : Place) (b : Bool) → writes M q ≡ b → finite.get U q ≡ finite.get V q
    by_test q true w = same_value_there (result_at part old M q) _ _ (h.written q w) (k.written q w)
    by_test q false w = h.others q w ∙ sym (k.others q w)

  same_clash : (c d : Clash) → IsLeastClash part old M c → IsLeastClash part old M d → c ≡ d
  same_clash c d h k = by_order (location_cmp c.at d.at) refl where
    by_order : (o : Ordering) → location_cmp c.at d.at ≡ o → c ≡ d
    by_order Less e = ok_no_cause _ c.cause (k.least c.at e h.written) h.cause
    by_order Greater e = ok_no_cause _ d.cause (h.least d.at (location_cmp_total.antisymm d.at c.at ∙ ap ordering_reverse e) k.written) k.cause
    by_order Equal e =
        let at = location_cmp-IsAntisymmetric c.at d.at e in
        let causes = err_is c.cause d.cause (sym h.cause ∙ ap (result_at part old M) at ∙ k.cause) in
        λ i. record { at = at i; cause = causes i }

  update_set_to : (U : Updates) → IsUpdateSet part old M U → aggregated part old M ≡ Ok U
  update_set_to U h = by_answer (aggregated part old M) refl where
    by_answer : (r : Result Updates Clash) → aggregated part old M ≡ r → r ≡ Ok U
    by_answer (Ok V) e = ap Ok (same_updates V U (update_set_from V e) h)
    by_answer (Err c) e = let clash = least_clash_from c e in no_cause _ _ c.cause (h.written c.at clash.written) clash.cause

  least_clash_to : (clash : Clash) → IsLeastClash part old M clash → aggregated part old M ≡ Err clash
  least_clash_to clash h = by_answer (aggregated part old M) refl where
    by_answer : (r : Result Updates Clash) → aggregated part old M ≡ r → r ≡ Err clash
    by_answer (Ok V) e = no_cause _ _ clash.cause ((update_set_from V e).written clash.at h.written) h.cause
    by_answer (Err c) e = ap Err (same_clash c clash (least_clash_from c e) h)

  -- the function gives an update set exactly where each location has its result in it
  pub aggregated-update_set : (U : Updates) → (aggregated part old M ≡ Ok U) ↔ IsUpdateSet part old M U
  aggregated-update_set U = (update_set_from U, update_set_to U)

  -- and a clash exactly where that is the least one
  pub aggregated-clash : (clash : Clash) → (aggregated part old M ≡ Err clash) ↔ IsLeastClash part old M clash
  aggregated-clash clash = (least_clash_from clash, least_clash_to clash)

-- an update set has exactly the locations that the move writes
pub has_updated : (part : Part) (old : Old) (M : Move) (U : Updates) → IsUpdateSet part old M U → (l : Place) → is_some (finite.get U l) ≡ writes M l
has_updated part old M U is l = by_test (writes M l) refl where
  some_there : (o : GroupResult) (x : Option Value) → IsSomeAnd x (λ v. o ≡ Ok v) → is_some x ≡ true
  some_there o (Some v) h = refl
  some_there o None h = absurd h

  by_test : (b : Bool) → writes M l ≡ b → is_some (finite.get U l) ≡ writes M l
  by_test true w = some_there (result_at part old M l) (finite.get U l) (is.written l w) ∙ sym w
  by_test false w = ap is_some (is.others l w) ∙ sym w

module _ (part : Part) (A : State) (M : Move) where
  -- the same of firing
  pub fire_updates : (U : Updates) → IsUpdateSet part (val A) M U → fire part A M ≡ Ok (overwrite A U)
  fire_updates U h = ap (overwritten A) (update_set_to part (val A) M U h)

  pub fire_clash : (clash : Clash) → IsLeastClash part (val A) M clash → fire part A M ≡ Err clash
  fire_clash clash h = ap (overwritten A) (least_clash_to part (val A) M clash h)

  pub fired_updates : (B : State) → fire part A M ≡ Ok B → (U : Updates) × IsUpdateSet part (val A) M U × (overwrite A U ≡ B)
  fired_updates B h = by_answer (aggregated part (val A) M) refl h where
    by_answer : (r : Result Updates Clash) → aggregated part (val A) M ≡ r → overwritten A r ≡ Ok B → (U : Updates) × IsUpdateSet part (val A) M U × (overwrite A U ≡ B)
    by_answer (Ok U) e k = (U, update_set_from part (val A) M U e, ok_is _ _ k)
    by_answer (Err c) e k = cc

  pub fired_clash : (clash : Clash) → fire part A M ≡ Err clash → IsLeastClash part (val A) M clash
  fired_clash clash h = by_answer (aggregated part (val A) M) refl h where
    by_answer : (r : Result Updates Clash) → aggregated part (val A) M ≡ r → overwritten A r ≡ Err clash → IsLeastClash part (val A) M clash
    by_answer (Ok U) e k = cc
    by_answer (Err c) e k = subst (IsLeastClash part (val A) M) (err_is c clash k) (least_clash_from part (val A) M c e)

  -- a state that holds the result at each location that the move writes, and elsewhere what it held, is the one that the move leaves
  pub fires_to : (B : State) → ((l : Place) → writes M l ≡ true → (v : Value) × (result_at part (val A) M l ≡ Ok v) × (finite.get B l ≡ stored v)) → ((l : Place) → writes M l ≡ false → finite.get B l ≡ finite.get A l) → fire part A M ≡ Ok B
  fires_to B here others = by_answer (aggregated part (val A) M) refl where
    held_after : (q : Place) (x y : Option Value) → IsSomeAnd y (λ v. result_at part (val A) M q ≡ Ok v) → (v : Value) → result_at part (val A) M q ≡ Ok v → stored_or y x ≡ stored v
    held_after q x (Some w) h v e = ap stored (ok_is w v (sym h ∙ e))
    held_after q x None h v e = absurd h

    by_test : (U : Updates) → IsUpdateSet part (val A) M U → (q : Place) (b : Bool) → writes M q ≡ b → stored_or (finite.get U q) (finite.get A q) ≡ finite.get B q
    by_test U is q true w = let got = here q w in held_after q _ _ (is.written q w) got.0 got.1 ∙ sym got.2
    by_test U is q false w = ap (λ o. stored_or o (finite.get A q)) (is.others q w) ∙ sym (others q w)

    by_answer : (r : Result Updates Clash) → aggregated part (val A) M ≡ r → overwritten A r ≡ Ok B
    by_answer (Ok U) e = ap Ok (same_state _ B (λ q. get-overwrite A U q ∙ by_test U (update_set_from part (val A) M U e) q (writes M q) refl))
    by_answer (Err c) e = let clash = least_clash_from part (val A) M c e in let got = here c.at clash.written in ok_no_cause _ c.cause (subst IsOk (sym got.1) refl) clash.cause

-- what a stored value reads as
pub stored_reads : (v : Value) → unwrap_or (stored v) held.undef ≡ v
stored_reads v = by_test (held.is_undef v) refl where
  by_test : (b : Bool) → held.is_undef v ≡ b → unwrap_or (cond b None (Some v)) held.undef ≡ v
  by_test true is = sym (undef_is v is)
  by_test false is = refl

pub val-overwrite : (A : State) (U : Updates) (q : Place) → val (overwrite A U) q ≡ unwrap_or (finite.get U q) (val A q)
val-overwrite A U q = ap (λ o. unwrap_or o held.undef) (get-overwrite A U q) ∙ by_cases (finite.get U q) where
  by_cases : (o : Option Value) → unwrap_or (stored_or o (finite.get A q)) held.undef ≡ unwrap_or o (val A q)
  by_cases (Some v) = stored_reads v
  by_cases None = refl

-- the value at each location that a move writes is its result there
pub val-fired : (part : Part) (A B : State) (M : Move) (l : Place) → fire part A M ≡ Ok B → writes M l ≡ true → result_at part (val A) M l ≡ Ok (val B l)
val-fired part A B M l h w =
    let had = fired_updates part A M B h in
    by_cases (finite.get had.0 l) (had.1.written l w) ∙ ap Ok (sym (val-overwrite A had.0 l) ∙ ap (λ S. val S l) had.2) where
      by_cases : (o : Option Value) → IsSomeAnd o (λ v. result_at part (val A) M l ≡ Ok v) → result_at part (val A) M l ≡ Ok (unwrap_or o (val A l))
      by_cases (Some v) k = k
      by_cases None k = absurd k

-- and elsewhere what it was
pub val-unwritten : (part : Part) (A B : State) (M : Move) (l : Place) → fire part A M ≡ Ok B → writes M l ≡ false → val B l ≡ val A l
val-unwritten part A B M l h w =
    let had = fired_updates part A M B h in
    ap (λ S. val S l) (sym had.2) ∙ val-overwrite A had.0 l ∙ ap (λ o. unwrap_or o (val A l)) (had.1.others l w)
