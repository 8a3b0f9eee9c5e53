-- A commit that records what the transaction read: the values that its read returns are those of the version.
use Rattle.std.proofs.Common.{None, Some, Option, Result, string_bytes, append-nil, unwrap_or, ◌≡◌, ◌≢◌, ◌≤◌, ◌<◌, ◌+◌, ◌-◌, ◌↔◌, ◌∙◌, ◌||◌, Bool, ℕ, zero, suc, true, false, cond, eqb, filter, List, [], ◌∷◌, All, Ok, Err, length, map, take, get_or, arith, ap, refl, subst, sym, inl}
use mathlib.Core.List.{IsPrefix}
use Rattle.std.specs.List.{AllByRecursion}
use Rattle.std.specs.Prelude.{IsErrOf}
use Rattle.std.proofs.lemmas.Bool.{eqb-false, eqb-true}
use Rattle.std.proofs.lemmas.List.{length-map}
use Rattle.std.proofs.lemmas.List.Elements.{All-from_recursion, recursion_from_All}
use Rattle.asm_element.specs.Place.{Place}
use Rattle.asm_element.specs.Tests.{neither}
use Rattle.asm_update.specs.Aggregator.{Meaning}
use Rattle.asm_update.specs.Fire.{Part}
use Rattle.asm_update.specs.Move.{Move}
use Rattle.asm_update.specs.State.{State, val}
use Rattle.asm_state.specs.FollowsFrom.{after_move, is_stale, overwrites}
use Rattle.asm_state.specs.Verdict.{least, least_stale}
use Rattle.asm_state.specs.declared.named.Named.{Named}
use Rattle.asm_state.specs.declared.scanned.Scanned.{Scanned}
use Rattle.asm_storage.proofs.AgentInvariant.{take-moves_seen, take_seen}
use Rattle.asm_storage.proofs.Lists.{length-prefix}
use Rattle.asm_storage.proofs.Run.{fired_reply, fresh_each, same_value_from}
use Rattle.asm_storage.specs.Agents.{moves_seen}
use Rattle.asm_storage.specs.Calls.{HasPolledFor, IsRead, IsReplied, IsStaleRead, ReadingView}
use Rattle.asm_storage.specs.Limits.{reads_limit}
use Rattle.asm_storage.specs.Machine.{Machine, machine_state}
use Rattle.asm_storage.specs.Scans.{with_found}
use Rattle.asm_storage.specs.Storage.{AgentAt, StorageView, has_polled, machine_of}
use Rattle.asm_storage.specs.declared.call.Reply.{Reply}
use Rattle.asm_storage.specs.declared.call.Reply.TheVariants.{Fired}
use Rattle.asm_storage.specs.declared.entry.Entry.{Entry}
use Rattle.asm_storage.specs.declared.error.FireError.{FireError}
use Rattle.asm_storage.specs.declared.error.FireError.TheVariants as fire_error
use Rattle.asm_storage.specs.declared.error.ReadError.{ReadError}
use Rattle.asm_storage.specs.declared.error.ReadError.TheVariants.{ManyLocations, Memory}
use Rattle.asm_storage.specs.declared.reading.NamedReading.{NamedReading}
use Rattle.asm_storage.specs.declared.reading.NamedReading.TheVariants.{Read, Stale}
use Rattle.asm_step.specs.Layers.{IsStepOf, one_move}
use Rattle.asm_transaction.specs.Commit.{Commits, FiresOnce, IsMoveOf, NamesAll}
use Rattle.asm_transaction.specs.Record.{GivesReads, IsReading, IsUnprepared, IsUnrecorded, IsUnvalidated, NamesMany, Records, fire_error_of}
use Rattle.asm_transaction.specs.Reading.{IsOf, state_at}
use Rattle.asm_transaction.specs.View.{TransactionView, names_of, pushed}

-- what isn't stale after the moves isn't after the first of them
fresh_before : (part : Part) (A : State) (q : List Move) (l : Place) (n j : ℕ) → is_stale part A q l n ≡ false →
    is_stale part A (take j q) l n ≡ false
fresh_before part A [] l n zero fresh = refl
fresh_before part A [] l n (suc j) fresh = refl
fresh_before part A (M ∷ q) l n zero fresh = refl
fresh_before part A (M ∷ q) l zero (suc j) fresh =
    let both = neither (overwrites part A M l) (is_stale part (after_move part A M) q l zero) fresh in
    ap (λ b. b || is_stale part (after_move part A M) (take j q) l zero) both.0
    ∙ fresh_before part (after_move part A M) q l zero j both.1
fresh_before part A (M ∷ q) l (suc n) (suc j) fresh = fresh_before part (after_move part A M) q l n j fresh

-- lists of values that are equal one by one
same_values : {X : Type 0} (f g : Place → X) (reads : List Named) → AllByRecursion (λ r. f r.at ≡ g r.at) reads →
    map f (map (λ (r : Named). r.at) reads) ≡ map g (map (λ (r : Named). r.at) reads)
same_values f g [] h = refl
same_values f g (r ∷ rs) h = (λ i. h.0 i ∷ same_values f g rs h.1 i)

-- an agent that is the same and has seen on has the state at the version
pub same_state : {A : Type 0} (meaning : A → Meaning) (a b : AgentAt A) (n : ℕ) → b.storage ≡ a.storage →
    IsPrefix a.account.seen b.account.seen → n ≤ length a.account.seen → state_at meaning b n ≡ state_at meaning a n
same_state {A} meaning a b n same begins le =
    ap (λ (s : StorageView A). machine_state (machine_of meaning s) (take n (moves_seen b.account.seen))) same
    ∙ ap (λ (q : List Move). machine_state (machine_of meaning a.storage) q)
    (sym (take-moves_seen n a.account.seen b.account.seen begins le))

-- so a transaction of the agent stays one
pub still_of : {A : Type 0} (meaning : A → Meaning) (a b : AgentAt A) (t : TransactionView) → b.storage ≡ a.storage →
    IsPrefix a.account.seen b.account.seen → IsOf meaning a t → IsOf meaning b t
still_of {A} meaning a b t same begins own = record {
  reached = omega (arith, own.reached, length-prefix a.account.seen b.account.seen begins);
  step =
      subst (λ (s : StorageView A). IsStepOf (meaning s.agg).part (val (state_at meaning b t.number)) t.layers (pushed t)) (sym same)
      (subst (λ (S : State). IsStepOf (meaning a.storage.agg).part (val S) t.layers (pushed t))
      (sym (same_state meaning a b t.number same begins own.reached)) own.step);
}

-- ---- the read

module _ {A : Type 0} (meaning : A → Meaning) (a mid : AgentAt A) (t : TransactionView) (reads : List Named)
    (reading : ReadingView) (own : IsOf meaning a t) (names : NamesAll t reads) (fresh : IsStaleRead meaning mid reads None)
    (read : IsRead meaning a mid (map (λ (r : Named). r.at) reads) reading) where
  abbrev m : Machine
  m = machine_of meaning a.storage

  abbrev q : List Move
  q = moves_seen mid.account.seen

  same_storage : mid.storage ≡ a.storage
  same_storage = ap (λ (x : AgentAt A). x.storage) read.agent

  each_fresh : AllByRecursion (λ (r : Named). is_stale m.part m.init q r.at r.number ≡ false) reads
  each_fresh =
      fresh_each (λ (r : Named). is_stale m.part m.init q r.at r.number) reads
      (subst (λ (s : StorageView A). least_stale (machine_of meaning s).part (machine_of meaning s).init q reads ≡ None) same_storage (sym fresh))

  reached : t.number ≤ length q
  reached =
      omega (
        arith,
        own.reached,
        length-prefix a.account.seen mid.account.seen read.begins,
        length-map mid.account.seen (λ (x : Entry). x.instrs),
      )

  same_there : (l : Place) → is_stale m.part m.init q l t.number ≡ false →
      val (machine_state m q) l ≡ val (state_at meaning a t.number) l
  same_there l unwritten =
      sym (same_value_from m m.init q l t.number unwritten reached)
      ∙ ap (λ (x : List Move). val (machine_state m x) l)
      (sym (take-moves_seen t.number a.account.seen mid.account.seen read.begins own.reached))

  each_same : All (λ (r : Named). val (machine_state m q) r.at ≡ val (state_at meaning a t.number) r.at) reads
  each_same i d lt =
      same_there (get_or reads i d).at
      (subst (λ (n : ℕ). is_stale m.part m.init q (get_or reads i d).at n ≡ false) (names.numbers i d lt)
      (All-from_recursion (λ (r : Named). is_stale m.part m.init q r.at r.number ≡ false) reads each_fresh i d lt))

  pub values_of_version : reading.values ≡ map (val (state_at meaning a t.number)) (map (λ (r : Named). r.at) reads)
  values_of_version =
      let are : reading.values ≡ map (val (machine_state m q)) (map (λ (r : Named). r.at) reads) = cc read.reply in
      are
      ∙ same_values (val (machine_state m q)) (val (state_at meaning a t.number)) reads
      (recursion_from_All (λ (r : Named). val (machine_state m q) r.at ≡ val (state_at meaning a t.number) r.at) reads each_same)

-- ---- a stale read

none_least : (test : Named → Bool) (reads : List Named) → AllByRecursion (λ r. test r ≡ false) reads →
    least (map (λ (r : Named). r.at) (filter test reads)) ≡ None
none_least test [] h = refl
none_least test (r ∷ rs) h =
    ap (λ b. least (map (λ (x : Named). x.at) (cond b (r ∷ filter test rs) (filter test rs)))) h.0 ∙ none_least test rs h.1

each_before : (part : Part) (A : State) (q : List Move) (j : ℕ) (reads : List Named) →
    AllByRecursion (λ (r : Named). is_stale part A q r.at r.number ≡ false) reads →
    AllByRecursion (λ (r : Named). is_stale part A (take j q) r.at r.number ≡ false) reads
each_before part A q j [] h = tt
each_before part A q j (r ∷ rs) h = (fresh_before part A q r.at r.number j h.0, each_before part A q j rs h.1)

-- a fire that declares a stale read fires nothing
not_fired : {A : Type 0} (meaning : A → Meaning) (mid new : AgentAt A) (reads : List Named) (M : Move) (l : Place) (k : ℕ) →
    IsStaleRead meaning mid reads (Some l) → IsReplied meaning mid new reads M (Fired k) → ⊥
not_fired {A} meaning mid new reads M l k stale answered =
    let m = machine_of meaning mid.storage in
    let moves = moves_seen (take (k - 1) new.account.seen) in
    let n = length mid.account.seen in
    let fresh : AllByRecursion (λ (r : Named). is_stale m.part m.init moves r.at r.number ≡ false) reads =
    fresh_each (λ (r : Named). is_stale m.part m.init moves r.at r.number) reads (fired_reply m moves reads M k answered.reply).fresh in
    let here : moves_seen mid.account.seen ≡ take n moves =
    sym (take_seen mid.account.seen) ∙ take-moves_seen n mid.account.seen (take (k - 1) new.account.seen) answered.begins (omega arith) in
    let none : least_stale m.part m.init (moves_seen mid.account.seen) reads ≡ None =
    ap (λ (x : List Move). least_stale m.part m.init x reads) here
    ∙ none_least (λ (r : Named). is_stale m.part m.init (take n moves) r.at r.number) reads (each_before m.part m.init moves n reads fresh) in
    let no : Some l ≡ None = stale ∙ none in
    cc

pub unfired : {A : Type 0} (meaning : A → Meaning) (mid new : AgentAt A) (t : TransactionView) (reads : List Named) (M : Move) (l : Place)
    (r : Result Reply FireError) → IsStaleRead meaning mid reads (Some l) → FiresOnce meaning mid new t reads M r → (k : ℕ) → r ≢ Ok (Fired k)
unfired {A} meaning mid new t reads M l r stale once k is =
    let fire = subst (λ (x : Result Reply FireError). FiresOnce meaning mid new t reads M x) is once in
    let over = fire.fire in
    let depends = over.depends in
    not_fired meaning mid new reads M l k stale
    (subst (λ o. IsReplied meaning mid new (with_found reads o) M (Fired k)) depends.0 over.answered)

-- ---- the read and then the one fire

pub recorded : {A : Type 0} (meaning : A → Meaning) (a mid new : AgentAt A) (t : TransactionView) (reads : List Named) (M : Move)
    (o : Option NamedReading) (r : Result Reply FireError) → NamesAll t reads → length reads + length t.scanned ≤ reads_limit →
    M ≡ unwrap_or (one_move t.layers) [] →
    IsMoveOf t.layers M → IsReading meaning a mid reads o → FiresOnce meaning mid new t reads M r →
    (IsOf meaning mid t → Commits meaning mid new t r) → Records meaning a new t r
recorded {A} meaning a mid new t reads M o r names few one stands read once commits =
    inl (record {
      mid = mid;
      reads = reads;
      reading = o;
      move = M;
      names = names;
      few = few;
      read = read;
      gives = gives o read;
      one = one;
      stands = stands;
      once = once;
      commits = λ own. commits (still o read own);
    }) where
      gives : (o : Option NamedReading) → IsReading meaning a mid reads o → GivesReads meaning a t reads o r
      gives None read = tt
      gives (Some (Read reading)) read = λ own. values_of_version meaning a mid t reads reading own names read.1.0 read.1.1
      gives (Some (Stale l)) read = unfired meaning mid new t reads M l r read.1.0 once

      still : (o : Option NamedReading) → IsReading meaning a mid reads o → IsOf meaning a t → IsOf meaning mid t
      still None read own = subst (λ (x : AgentAt A). IsOf meaning x t) (sym read.1) own
      still (Some (Read reading)) read own =
          still_of meaning a mid t (ap (λ (x : AgentAt A). x.storage) read.1.1.agent) read.1.1.begins own
      still (Some (Stale l)) read own =
          still_of meaning a mid t (ap (λ (x : AgentAt A). x.storage) read.1.1.agent) read.1.1.begins own

pub none_declared : (reads : List Named) (b : Bool) → b ≡ eqb (length reads) 0 → b ≡ true → reads ≡ []
none_declared [] b e h = refl
none_declared (x ∷ xs) b e h =
    let no : length (x ∷ xs) ≡ 0 = eqb-true (length (x ∷ xs)) 0 (sym e ∙ h) in
    absurd (omega (arith, no))

pub some_declared : (reads : List Named) (b : Bool) → b ≡ eqb (length reads) 0 → b ≡ false → reads ≢ []
some_declared reads b e h none = eqb-false (length reads) 0 (sym e ∙ h) (ap length none)

-- ---- why nothing is recorded

pub unvalidated : {A : Type 0} (old new : AgentAt A) (reads : List Named) (e : ReadError) →
    (IsErrOf {T = NamedReading} (Err e) ManyLocations ↔ (reads_limit < length reads)) → HasPolledFor old new e →
    IsPrefix old.account.seen new.account.seen → new ≡ has_polled old new.account.seen new.misses new.number →
    IsUnvalidated old new reads (fire_error_of e)
unvalidated old new reads ManyLocations many unread seen agent = (many.0 refl, unread)
unvalidated old new reads Memory many unread seen agent = record { agent = agent; seen = seen }

pub unprepared : {A : Type 0} (a : AgentAt A) (t : TransactionView) (e : FireError) → IsUnprepared t e → IsUnrecorded a a t e
unprepared a t fire_error.ManyReads why = (why, refl)
unprepared a t fire_error.Memory why = record { agent = refl; seen = ([], append-nil a.account.seen) }
unprepared a t (fire_error.Busy from to) why = absurd why

pub unrecorded : {A : Type 0} (old new : AgentAt A) (t : TransactionView) (reads : List Named) (e : FireError) → NamesAll t reads →
    IsUnvalidated old new reads e → IsUnrecorded old new t e
unrecorded old new t reads fire_error.ManyReads names why = ((reads, names, omega (arith, why.0)), why.1)
unrecorded old new t reads fire_error.Memory names why = why
unrecorded old new t reads (fire_error.Busy from to) names why = absurd why

-- at most 256 reads with the scans are at most 256 with their names
pub names_few : (t inside : TransactionView) (scans : List Scanned) (reads lent : List Named) → inside ≡ t →
    inside.scanned ≡ names_of scans → lent ≡ reads → length lent + length scans ≤ reads_limit →
    length reads + length t.scanned ≤ reads_limit
names_few t inside scans reads lent view are same few =
    subst (λ (x : TransactionView). length reads + length x.scanned ≤ reads_limit) view
    (omega (arith, few, ap length same, ap length are, length-map scans (λ (x : Scanned). string_bytes x.name)))

pub names_many : (t inside : TransactionView) (scans : List Scanned) (reads lent : List Named) → inside ≡ t →
    inside.scanned ≡ names_of scans → lent ≡ reads → NamesAll t reads → reads_limit < length lent + length scans → NamesMany t
names_many t inside scans reads lent view are same names many = (
  reads,
  names,
  subst (λ (x : TransactionView). reads_limit < length reads + length x.scanned) view
      (omega (arith, many, ap length same, ap length are, length-map scans (λ (x : Scanned). string_bytes x.name))),
)
