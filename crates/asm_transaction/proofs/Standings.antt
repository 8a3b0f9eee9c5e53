-- Whether a transaction stands, by what is found of its reads and of its scans.
use Rattle.std.proofs.Common.{IsTrue, string_bytes, ◌≡◌, ◌∙◌, ◌⊎◌, ◌&&◌, ⊎_elim, inl, inr, ℕ, Bool, true, false, List, All, Contains, Option, Some, None, Result, Ok, Err, IfOk, length, take, ap, subst, sym}
use Rattle.std.proofs.lemmas.Bool.{false≢true}
use Rattle.std.proofs.lemmas.List.Elements.{All-contains, All-contains_itself, All-map, Contains-append_cases, Contains-append_left, Contains-append_right}
use Rattle.std.specs.declared.alloc.AllocError.{AllocError}
use Rattle.asm_element.specs.Place.{Place}
use Rattle.asm_element.specs.Tests.{both}
use Rattle.asm_update.specs.Aggregator.{Meaning}
use Rattle.asm_update.specs.Fire.{Part}
use Rattle.asm_update.specs.Move.{Move}
use Rattle.asm_update.specs.State.{State, val}
use Rattle.asm_state.specs.FollowsFrom.{FollowsFrom, is_stale}
use Rattle.asm_state.specs.Scans.{has_name, is_rewritten}
use Rattle.asm_state.specs.View.{StateView}
use Rattle.asm_state.specs.declared.named.Named.{Named}
use Rattle.asm_state.specs.declared.scanned.Scanned.{Scanned}
use Rattle.asm_storage.proofs.Lists.{All-of_map}
use Rattle.asm_storage.proofs.AgentInvariant.{take_seen}
use Rattle.asm_storage.specs.Agents.{moves_seen}
use Rattle.asm_storage.specs.Part.{IsFollowing}
use Rattle.asm_storage.specs.Storage.{AgentAt, machine_of}
use Rattle.asm_step.proofs.Built.{dependencies_those}
use Rattle.asm_step.specs.Layers.{dependencies_of}
use Rattle.asm_transaction.specs.Commit.{DependsOn, NamesAll}
use Rattle.asm_transaction.specs.Reading.{IsOf, IsOfScanned, state_at}
use Rattle.asm_transaction.specs.Standing.{FindsWritten, IsOfOne, Stands}
use Rattle.asm_transaction.specs.View.{TransactionView, names_of, places_of, pushed}

-- ---- what is found of the reads

-- a stale read is found
pub place_written : (part : Part) (A : State) (q : List Move) (n : ℕ) (reads : List Named) (r : Named) (found : Place) → Contains reads r →
    is_stale part A q r.at n ≡ true → found ≡ r.at → FindsWritten part A q n (Contains (places_of reads)) (Some found)
place_written part A q n reads r found has stale same =
    let named : Contains (places_of reads) r.at =
    All-contains (λ (x : Named). Contains (places_of reads) x.at) reads r
    (All-of_map (Contains (places_of reads)) (λ (x : Named). x.at) reads (All-contains_itself (places_of reads))) has in
    subst (λ (j : Place). FindsWritten part A q n (Contains (places_of reads)) (Some j)) (sym same) (named, stale)

-- none of them is stale
pub places_unwritten : (part : Part) (A : State) (q : List Move) (n : ℕ) (reads : List Named) →
    All (λ r. is_stale part A q r.at n ≡ false) reads → FindsWritten part A q n (Contains (places_of reads)) None
places_unwritten part A q n reads unread = λ l has.
    All-contains (λ j. is_stale part A q j n ≡ false) (places_of reads) l
    (All-map (λ j. is_stale part A q j n ≡ false) (λ (r : Named). r.at) reads unread) has

-- ---- what is found of the scans

not_stale : (named stale : Bool) → IsTrue named → (named && stale) ≡ false → stale ≡ false
not_stale true stale named not = not
not_stale false stale named not = absurd (false≢true named)

-- a written location of one of the functions is found
pub name_written : (part : Part) (A : State) (q : List Move) (n : ℕ) (scans : List Scanned) (s : Scanned) (l found : Place) → Contains scans s →
    IsTrue (is_rewritten part A q (string_bytes s.name) n l) → found ≡ l →
    FindsWritten part A q n (IsOfOne (names_of scans)) (Some found)
name_written part A q n scans s l found has written same =
    let tests = both (has_name (string_bytes s.name) l) (is_stale part A q l n) written in
    let named : Contains (names_of scans) (string_bytes s.name) =
    All-contains (λ (x : Scanned). Contains (names_of scans) (string_bytes x.name)) scans s
    (All-of_map (Contains (names_of scans)) (λ (x : Scanned). string_bytes x.name) scans (All-contains_itself (names_of scans))) has in
    subst (λ (j : Place). FindsWritten part A q n (IsOfOne (names_of scans)) (Some j)) (sym same)
    ((string_bytes s.name, named, tests.0), tests.1)

-- none of any of them was written
pub names_unwritten : (part : Part) (A : State) (q : List Move) (n : ℕ) (scans : List Scanned) →
    All (λ s. (j : Place) → is_rewritten part A q (string_bytes s.name) n j ≡ false) scans →
    FindsWritten part A q n (IsOfOne (names_of scans)) None
names_unwritten part A q n scans unwritten = λ l one.
    let of_names : All (λ name. (j : Place) → is_rewritten part A q name n j ≡ false) (names_of scans) =
    All-map (λ name. (j : Place) → is_rewritten part A q name n j ≡ false) (λ x. string_bytes x.name) scans unwritten in
    let here = All-contains (λ name. (j : Place) → is_rewritten part A q name n j ≡ false) (names_of scans) one.0 of_names one.1 l in
    not_stale (has_name one.0 l) (is_stale part A q l n) one.2 here

-- ---- a transaction

-- a state at the number of moves that were seen follows from all of them
pub follows_all : {A : Type 0} (meaning : A → Meaning) (b : AgentAt A) (s : StateView) →
    IsFollowing (machine_of meaning b.storage) b.account.seen s → s.number ≡ length b.account.seen →
    FollowsFrom (meaning b.storage.agg).part b.storage.init s (moves_seen b.account.seen)
follows_all meaning b s own level =
    subst (λ (q : List Move). FollowsFrom (meaning b.storage.agg).part b.storage.init s q)
    (ap (λ (n : ℕ). take n (moves_seen b.account.seen)) level ∙ take_seen b.account.seen) own.stands

module _ {A : Type 0} (meaning : A → Meaning) (a b : AgentAt A) (t : TransactionView) (reads : List Named) (names : NamesAll t reads)
    (own : IsOf meaning a t) where
  abbrev Finds : (Place → Type 0) → Option Place → Type 0
  Finds IsOne found = FindsWritten (meaning b.storage.agg).part b.storage.init (moves_seen b.account.seen) t.number IsOne found

  depends_named : (j : Place) → Contains (places_of reads) j → DependsOn t j
  depends_named j has =
      ⊎_elim (λ in_tracked. inl (inl in_tracked))
      (λ in_rest. inr (((dependencies_those (meaning a.storage.agg).part (val (state_at meaning a t.number)) t.layers (pushed t) own.step).same j).0 in_rest))
      (Contains-append_cases t.tracked (dependencies_of t.layers) j ((names.locations.same j).0 has))

  named_or_scanned : (j : Place) → DependsOn t j → Contains (places_of reads) j ⊎ IsOfScanned t j
  named_or_scanned j (inl (inl has)) = inl ((names.locations.same j).1 (Contains-append_left t.tracked (dependencies_of t.layers) j has))
  named_or_scanned j (inl (inr scanned)) = inr scanned
  named_or_scanned j (inr dependent) =
      inl ((names.locations.same j).1 (Contains-append_right t.tracked (dependencies_of t.layers) j
      (((dependencies_those (meaning a.storage.agg).part (val (state_at meaning a t.number)) t.layers (pushed t) own.step).same j).1 dependent)))

  -- a read is stale
  pub read_written : (l : Place) → Finds (Contains (places_of reads)) (Some l) → Stands meaning b t (Some l)
  read_written l (has, stale) = record { depends = depends_named l has; written = stale }

  -- none is, and this is found of the scans
  pub reads_stand : (found : Option Place) → Finds (Contains (places_of reads)) None → Finds (IsOfOne t.scanned) found →
      Stands meaning b t found
  reads_stand (Some l) unread (scanned, stale) = record { depends = inl (inr scanned); written = stale }
  reads_stand None unread unscanned = λ l over.
      ⊎_elim (λ has. false≢true (sym (unread l has) ∙ over.written)) (λ scanned. false≢true (sym (unscanned l scanned) ∙ over.written))
      (named_or_scanned l over.depends)

-- ---- by what the two parts of the call return

-- a stale read, which is copied
pub read_at : {A : Type 0} (meaning : A → Meaning) (a b : AgentAt A) (t : TransactionView) (reads lent : List Named) (n : ℕ) (l found : Place) →
    NamesAll t reads → IsOf meaning a t → n ≡ t.number → lent ≡ reads → found ≡ l →
    FindsWritten (meaning b.storage.agg).part b.storage.init (moves_seen b.account.seen) n (Contains (places_of lent)) (Some l) →
    Stands meaning b t (Some found)
read_at meaning a b t reads lent n l found names own same all copy (has, stale) =
    subst (λ (j : Place). Stands meaning b t (Some j)) (sym copy)
    (read_written meaning a b t reads names own l (
      subst (λ (rs : List Named). Contains (places_of rs) l) all has,
      subst (λ (k : ℕ). is_stale (meaning b.storage.agg).part b.storage.init (moves_seen b.account.seen) l k ≡ true) same stale,
    ))

-- no stale read, and what is found of the scans
pub scans_stand : {A : Type 0} (meaning : A → Meaning) (t : TransactionView) (reads lent : List Named) (scans : List Scanned) (n : ℕ)
    (s : StateView) (r : Result (Option Place) AllocError) → NamesAll t reads → n ≡ t.number → lent ≡ reads → names_of scans ≡ t.scanned →
    ((part : Part) (init : State) (q : List Move) → FollowsFrom part init s q → FindsWritten part init q n (Contains (places_of lent)) None) →
    ((part : Part) (init : State) (q : List Move) → FollowsFrom part init s q → IfOk r (FindsWritten part init q n (IsOfOne (names_of scans)))) →
    IfOk r (λ found. (a b : AgentAt A) → IsOf meaning a t → IsFollowing (machine_of meaning b.storage) b.account.seen s →
    s.number ≡ length b.account.seen → Stands meaning b t found)
scans_stand meaning t reads lent scans n s (Ok found) names same all scanned unread is = λ a b own following level.
    let part = (meaning b.storage.agg).part in
    let init = b.storage.init in
    let q = moves_seen b.account.seen in
    let follows = follows_all meaning b s following level in
    let none = subst (λ (rs : List Named). FindsWritten part init q n (Contains (places_of rs)) None) all (unread part init q follows) in
    let some = subst (λ (ns : List (List ℕ)). FindsWritten part init q n (IsOfOne ns) found) scanned (is part init q follows) in
    reads_stand meaning a b t reads names own found
    (subst (λ (k : ℕ). FindsWritten part init q k (Contains (places_of reads)) None) same none)
    (subst (λ (k : ℕ). FindsWritten part init q k (IsOfOne t.scanned) found) same some)
scans_stand meaning t reads lent scans n s (Err e) names same all scanned unread is = tt
