-- The commit of a transaction: its one fire does what the contract of the commit says.
use Rattle.std.proofs.Common.{IsTrue, string_bytes, Option, Some, None, Result, ◌≡◌, ◌≤◌, ◌+◌, ◌-◌, ◌∙◌, ◌⊎◌, ◌&&◌, ⊎_elim, inl, inr, ℕ, zero, suc, Bool, true, false, cond, nat_lt, List, [], ◌∷◌, ◌++◌, All, Ok, Err, Contains, length, map, take, get_or, arith, ap, refl, subst, sym}
use Rattle.std.specs.Prelude.{MatchOption}
use Rattle.std.specs.Ordering.{eq_by_cmp}
use Rattle.std.proofs.lemmas.Bool.{false≢true, or_cases}
use Rattle.std.proofs.lemmas.List.{length-map, length-take, length_push, map-append}
use Rattle.std.proofs.lemmas.List.Elements.{All-contains, All-contains_itself, All-head, All-map, All-push, All-tail, All-weaker, Contains-append_cases, Contains-append_left, Contains-append_right}
use Rattle.asm_element.specs.Place.{Place, location_cmp, same_location}
use Rattle.asm_element.specs.Tests.{both, ok_is}
use Rattle.asm_update.specs.Aggregator.{AggregatorLaws, Meaning}
use Rattle.asm_update.specs.Fire.{Old, Part, fire}
use Rattle.asm_update.specs.Move.{IsLeast, Move}
use Rattle.asm_update.specs.State.{State, IsProper, val}
use Rattle.asm_update.specs.declared.clash.Clash as clash
use Rattle.asm_state.specs.FollowsFrom.{after_move, is_stale}
use Rattle.asm_state.specs.LeastNamed.{names_stale}
use Rattle.asm_state.specs.Scans.{has_name}
use Rattle.asm_state.specs.Verdict.{least_stale}
use Rattle.asm_state.specs.declared.named.Named.{Named}
use Rattle.asm_state.specs.declared.scanned.Scanned.{Scanned}
use Rattle.asm_state.proofs.LeastFound.{finds_least}
use Rattle.asm_state.proofs.Writers.{state_of-push}
use Rattle.asm_storage.proofs.AgentInvariant.{take-moves_seen, take_seen}
use Rattle.asm_storage.proofs.Lists.{All-of_map, length-prefix}
use Rattle.asm_storage.proofs.Run.{IsFiredReply, fired_reply}
use Rattle.asm_storage.specs.Agents.{moves_seen}
use Rattle.asm_storage.specs.Calls.{IsCoherentReply, IsFireOver, IsReplied}
use Rattle.asm_storage.specs.Machine.{Machine, fire_reply, fired_or_full, firing_reply, machine_state, reply_to}
use Rattle.asm_storage.specs.Scans.{IsFound as Found, IsKept, with_found}
use Rattle.asm_storage.specs.Storage.{AgentAt, StorageView, machine_of}
use Rattle.asm_storage.specs.declared.call.Answer.TheVariants as answer
use Rattle.asm_storage.specs.declared.call.Call.TheVariants as call
use Rattle.asm_storage.specs.declared.call.Reply.{Reply}
use Rattle.asm_storage.specs.declared.call.Reply.TheVariants.{Clash, Fired, Full, Stale}
use Rattle.asm_storage.specs.declared.entry.Entry.{Entry}
use Rattle.asm_storage.specs.declared.error.FireError.{FireError}
use Rattle.asm_step.proofs.Built.{dependencies_those}
use Rattle.asm_step.proofs.Standing.{column_fired, column_put}
use Rattle.asm_step.specs.Dependencies.{AgreesAtDependencies, left_by, sees_below}
use Rattle.asm_step.specs.InTurn.{fire_all, in_column}
use Rattle.asm_step.specs.Layers.{dependencies_of}
use Rattle.asm_transaction.specs.Commit.{Commits, DependsOn, HasFired, IsMoveOf, IsOverwritten, NamesAll, ScansAll}
use Rattle.asm_transaction.specs.Reading.{HasRead, IsOf, IsOfScanned, state_at}
use Rattle.asm_transaction.specs.View.{TransactionView, moves_of, names_of, pushed}
use Rattle.asm_transaction.proofs.Unfired.{has_clashed, has_found_full}

take_all_seen : (n : ℕ) (xs : List Entry) → moves_seen (take n xs) ≡ take n (moves_seen xs)
take_all_seen zero xs = refl
take_all_seen (suc n) [] = refl
take_all_seen (suc n) (x ∷ xs) = ap (λ l. x.instrs ∷ l) (take_all_seen n xs)

take_twice : (n : ℕ) (xs : List Entry) → take n (moves_seen (take n xs)) ≡ take n (moves_seen xs)
take_twice zero xs = refl
take_twice (suc n) [] = refl
take_twice (suc n) (x ∷ xs) = ap (λ l. x.instrs ∷ l) (take_twice n xs)

-- each declared location has what it had at the number at which it is declared, so what it had at the version
named_stand : (state : ℕ → Old) (n before : ℕ) (reads : List Named) → n ≤ before → All (λ r. r.number ≡ n) reads →
    All (λ r. r.number ≤ before → state r.number r.at ≡ state before r.at) reads →
    All (λ l. state n l ≡ state before l) (map (λ r. r.at) reads)
named_stand state n before reads le numbers stand =
    All-map (λ l. state n l ≡ state before l) (λ r. r.at) reads
    (λ k d lt.
    let is = numbers k d lt in
    subst (λ (x : ℕ). state x (get_or reads k d).at ≡ state before (get_or reads k d).at) is
    (stand k d lt (subst (λ (x : ℕ). x ≤ before) (sym is) le)))

left_is : (r : Result State clash.Clash) (D : State) → left_by r ≡ Some D → r ≡ Ok D
left_is (Ok A) D h = cc
left_is (Err c) D h = cc

-- the scans of a transaction, which are borrowed as a slice
pub scans_all : (t : TransactionView) (lent own : List Scanned) → lent ≡ own → names_of own ≡ t.scanned → All (λ x. x.number ≡ t.number) own →
    ScansAll t lent
scans_all t lent own same names numbers =
    subst (ScansAll t) (sym same) (record { names = names; numbers = numbers })

-- ---- a commit that fired

module _ {A : Type 0} (meaning : A → Meaning) (a new : AgentAt A) (t : TransactionView) (reads : List Named) (scans : List Scanned)
    (M : Move) (k : ℕ) (laws : AggregatorLaws (meaning a.storage.agg)) (names : NamesAll t reads) (scanned : ScansAll t scans)
    (stands : IsMoveOf t.layers M) (own : IsOf meaning a t) (answered : IsReplied meaning a new reads M (Fired k))
    (coherent : IsCoherentReply meaning new reads M (Fired k))
    (kept : All (IsKept (machine_of meaning new.storage) (moves_seen (take (k - 1) new.account.seen))) scans) where
  abbrev part : Part
  part = (meaning a.storage.agg).part

  abbrev before : List Entry
  before = take (k - 1) new.account.seen

  abbrev moves : List Move
  moves = moves_seen before

  -- the state at the transaction's version, and the one before the fired move
  abbrev S : State
  S = state_at meaning a t.number

  abbrev B : State
  B = state_at meaning new (k - 1)

  abbrev after : ℕ → Old
  after n = val (machine_state (machine_of meaning new.storage) (take n moves))

  same_storage : new.storage ≡ a.storage
  same_storage = ap (λ (x : AgentAt A). x.storage) answered.agent

  -- the version is among the moves before the fired one
  within : t.number ≤ k - 1
  within =
      let longer = length-prefix a.account.seen before answered.begins in
      let few = length-take (k - 1) new.account.seen in
      let reached = own.reached in
      omega (arith, reached, longer, few)

  below_is : after t.number ≡ val S
  below_is =
      ap (λ (s : StorageView A). val (machine_state (machine_of meaning s) (take t.number moves))) same_storage
      ∙ ap (λ (q : List Move). val (machine_state (machine_of meaning a.storage) q))
      (sym (take-moves_seen t.number a.account.seen before answered.begins own.reached))

  before_is : after (k - 1) ≡ val B
  before_is = ap (λ (q : List Move). val (machine_state (machine_of meaning new.storage) q)) (take_twice (k - 1) new.account.seen)

  -- in the state before the fired move, a declared location has what it had at the version
  validated : (l : Place) → Contains (map (λ r. r.at) reads) l → val B l ≡ val S l
  validated l named =
      let stand = named_stand after t.number (k - 1) reads within names.numbers coherent in
      let here : after t.number l ≡ after (k - 1) l =
      All-contains (λ l. after t.number l ≡ after (k - 1) l) (map (λ r. r.at) reads) l stand named in
      sym (ap (λ (o : Old). o l) before_is) ∙ sym here ∙ ap (λ (o : Old). o l) below_is

  -- and so has each location of a scanned function
  kept_there : (s : Scanned) → s.number ≡ t.number → IsKept (machine_of meaning new.storage) moves s →
      (l : Place) → IsTrue (has_name (string_bytes s.name) l) → val B l ≡ val S l
  kept_there s same kept l named =
      let longer = length-prefix a.account.seen before answered.begins in
      let reached = own.reached in
      let many : s.number ≤ length moves = omega (arith, same, reached, longer, length-map before (λ (x : Entry). x.instrs)) in
      ap (λ (q : List Move). val (machine_state (machine_of meaning new.storage) q) l) (sym (take_all_seen (k - 1) new.account.seen))
      ∙ sym (kept.value many l named) ∙ ap (λ (n : ℕ). after n l) same ∙ ap (λ (o : Old). o l) below_is

  abbrev IsWhole : List ℕ → Type 0
  IsWhole name = (l : Place) → IsTrue (has_name name l) → val B l ≡ val S l

  scans_whole : All IsWhole (names_of scans)
  scans_whole =
      All-map IsWhole (λ x. string_bytes x.name) scans
      (λ j d lt l named. kept_there (get_or scans j d) (scanned.numbers j d lt) (kept j d lt) l named)

  unchanged : (l : Place) → HasRead t l → val B l ≡ val S l
  unchanged l read =
      ⊎_elim (λ has. validated l ((names.locations.same l).1 (Contains-append_left t.tracked (dependencies_of t.layers) l has)))
      (λ (here : IsOfScanned t l). All-contains IsWhole t.scanned here.0 (subst (All IsWhole) scanned.names scans_whole) here.1 l here.2)
      read

  agrees : AgreesAtDependencies B (val S) (moves_of t)
  agrees l dependent =
      validated l ((names.locations.same l).1 (Contains-append_right t.tracked (dependencies_of t.layers) l
      (((dependencies_those part (val S) t.layers (pushed t) own.step).same l).1 dependent)))

  -- what was shown through moves is what they leave
  shown : (Ms : List Move) (l : Place) (C D : State) → fire_all part (Ok S) Ms ≡ Ok C → fire_all part (Ok B) Ms ≡ Ok D →
      (sees_below Ms l ≡ true → HasRead t l) → val D l ≡ val C l
  shown Ms l C D there here read =
      ok_is (val D l) (val C l)
      (sym (column_fired part B D Ms l here) ∙ by_test (sees_below Ms l) refl ∙ column_fired part S C Ms l there) where
        by_test : (b : Bool) → sees_below Ms l ≡ b → in_column part (Ok (val B l)) Ms l ≡ in_column part (Ok (val S l)) Ms l
        by_test true is = ap (λ v. in_column part (Ok v) Ms l) (unchanged l (read is))
        by_test false is = column_put laws (val B l) (val S l) Ms l is

  fired : IsFiredReply (machine_of meaning a.storage) moves reads M k
  fired = fired_reply (machine_of meaning a.storage) moves reads M k answered.reply

  same_state : B ≡ machine_state (machine_of meaning a.storage) moves
  same_state =
      ap (λ (q : List Move). machine_state (machine_of meaning new.storage) q) (sym (take_all_seen (k - 1) new.account.seen))
      ∙ ap (λ (s : StorageView A). machine_state (machine_of meaning s) moves) same_storage

  abbrev mine : Entry
  mine = record { agent = a.account.id; instrs = M }

  -- the fired move is the last one that the agent has seen
  all_seen : moves_seen new.account.seen ≡ moves ++ M ∷ []
  all_seen =
      ap (λ (x : AgentAt A). moves_seen x.account.seen) answered.agent ∙ map-append (λ (x : Entry). x.instrs) before (mine ∷ [])

  last : k ≡ length new.account.seen
  last =
      fired.number ∙ sym (length_push moves M) ∙ ap length (sym all_seen)
      ∙ length-map new.account.seen (λ (x : Entry). x.instrs)

  after_is : state_at meaning new k ≡ after_move part (machine_state (machine_of meaning a.storage) moves) M
  after_is =
      ap (λ (q : List Move). machine_state (machine_of meaning new.storage) q)
      (ap (λ n. take n (moves_seen new.account.seen)) last ∙ take_seen new.account.seen ∙ all_seen)
      ∙ ap (λ (s : StorageView A). machine_state (machine_of meaning s) (moves ++ M ∷ [])) same_storage
      ∙ state_of-push part a.storage.init moves M

  leaves : IsProper B → fire_all part (Ok B) (moves_of t) ≡ Ok (state_at meaning new k)
  leaves proper =
      let one : fire part B M ≡ Ok (after_move part (machine_state (machine_of meaning a.storage) moves) M) =
      ap (λ (s : State). fire part s M) same_state ∙ fired.fires in
      let same = stands (meaning a.storage.agg) (val S) (pushed t) B laws own.step proper agrees in
      subst (λ (D : State). fire_all part (Ok B) (moves_of t) ≡ Ok D) (sym after_is)
      (left_is (fire_all part (Ok B) (moves_of t)) (after_move part (machine_state (machine_of meaning a.storage) moves) M)
      (sym same ∙ ap left_by one))

  pub has_fired : HasFired meaning a new t k
  has_fired = record {
    won = ap (λ (x : AgentAt A). x.account.won) answered.agent;
    last = last;
    unchanged = unchanged;
    shown = shown;
    leaves = leaves;
  }

-- ---- a commit that is stale

not_room : (capacity number : ℕ) (l : Place) → Stale l ≡ fired_or_full capacity number → ⊥
not_room capacity number l = by_room (nat_lt number capacity) where
  by_room : (b : Bool) → Stale l ≡ cond b (Fired (number + 1)) Full → ⊥
  by_room true is = cc is
  by_room false is = cc is

not_fired : (m : Machine) (q : List Move) (l : Place) (r : Result State clash.Clash) → Stale l ≡ firing_reply m q r → ⊥
not_fired m q l (Ok C) is = not_room m.capacity (length q) l is
not_fired m q l (Err c) is = cc is

stale_at : (m : Machine) (q : List Move) (M : Move) (l : Place) (o : Option Place) → Stale l ≡ fire_reply m q M o → o ≡ Some l
stale_at m q M l (Some j) is = let same : l ≡ j = cc is in ap Some (sym same)
stale_at m q M l None is = absurd (not_fired m q l (fire m.part (machine_state m q) M) is)

-- the reply that a fire is stale names its least stale location
stale_reply : (m : Machine) (q : List Move) (reads : List Named) (M : Move) (l : Place) →
    answer.Fire (Stale l) ≡ reply_to m q (call.Fire reads M) → least_stale m.part m.init q reads ≡ Some l
stale_reply m q reads M l h =
    let r : Stale l ≡ fire_reply m q M (least_stale m.part m.init q reads) = cc h in
    stale_at m q M l (least_stale m.part m.init q reads) r

-- a location that is named and stale is that of one of the reads, whose number and location are known
one_stale : (stale : Place → ℕ → Bool) (n : ℕ) (P : Place → Type 0) (reads : List Named) (l : Place) →
    All (λ r. (r.number ≡ n) × P r.at) reads → names_stale stale reads l ≡ true → P l × (stale l n ≡ true)
one_stale stale n P [] l all h = absurd (false≢true h)
one_stale stale n P (r ∷ rs) l all h =
    by_cases (or_cases (eq_by_cmp location_cmp r.at l && stale r.at r.number) (names_stale stale rs l) h)
    (one_stale stale n P rs l (All-tail (λ (r : Named). (r.number ≡ n) × P r.at) r rs all)) where
      by_cases : ((eq_by_cmp location_cmp r.at l && stale r.at r.number) ≡ true) ⊎ (names_stale stale rs l ≡ true) →
          (names_stale stale rs l ≡ true → P l × (stale l n ≡ true)) → P l × (stale l n ≡ true)
      by_cases (inl here) later =
          let is = both (eq_by_cmp location_cmp r.at l) (stale r.at r.number) here in
          let first = All-head (λ (r : Named). (r.number ≡ n) × P r.at) r rs all in
          let at : r.at ≡ l = same_location r.at l is.0 in (
            subst P at first.1,
            subst (λ (j : Place). stale j n ≡ true) at (subst (λ (i : ℕ). stale r.at i ≡ true) first.0 is.1),
          )
      by_cases (inr rest) later = later rest

module _ {A : Type 0} (meaning : A → Meaning) (a new : AgentAt A) (t : TransactionView) (reads : List Named) (scans : List Scanned)
    (M : Move) (l : Place) (names : NamesAll t reads) (scanned : ScansAll t scans) (own : IsOf meaning a t) (found : Option Named)
    (answered : IsReplied meaning a new (with_found reads found) M (Stale l))
    (over : Found (meaning new.storage.agg).part new.storage.init (moves_seen new.account.seen) scans found) where
  abbrev overtaken : Place → ℕ → Bool
  overtaken = is_stale (meaning new.storage.agg).part new.storage.init (moves_seen new.account.seen)

  kept_storage : new.storage ≡ a.storage
  kept_storage = ap (λ (x : AgentAt A). x.storage) answered.agent

  reported : answer.Fire (Stale l) ≡ reply_to (machine_of meaning new.storage) (moves_seen new.account.seen) (call.Fire (with_found reads found) M)
  reported =
      subst (λ (s : StorageView A). answer.Fire (Stale l) ≡ reply_to (machine_of meaning s) (moves_seen new.account.seen) (call.Fire (with_found reads found) M))
      (sym kept_storage) answered.reply

  least : IsLeast (names_stale overtaken (with_found reads found)) l
  least =
      subst (λ (o : Option Place). MatchOption o ((k : Place) → names_stale overtaken (with_found reads found) k ≡ false)
      (IsLeast (names_stale overtaken (with_found reads found))))
      (stale_reply (machine_of meaning new.storage) (moves_seen new.account.seen) (with_found reads found) M l reported)
      (finds_least overtaken (with_found reads found))

  abbrev Passes : Named → Type 0
  Passes r = (r.number ≡ t.number) × DependsOn t r.at

  abbrev places : List Place
  places = map (λ (r : Named). r.at) reads

  depends_named : (j : Place) → Contains places j → DependsOn t j
  depends_named j has =
      ⊎_elim (λ in_tracked. inl (inl in_tracked))
      (λ in_rest. inr (((dependencies_those (meaning a.storage.agg).part (val (state_at meaning a t.number)) t.layers (pushed t) own.step).same j).0 in_rest))
      (Contains-append_cases t.tracked (dependencies_of t.layers) j ((names.locations.same j).0 has))

  reads_depend : All (λ (r : Named). DependsOn t r.at) reads
  reads_depend =
      All-of_map (DependsOn t) (λ (r : Named). r.at) reads
      (All-weaker (Contains places) (DependsOn t) depends_named places (All-contains_itself places))

  reads_pass : All Passes reads
  reads_pass j d lt = (names.numbers j d lt, reads_depend j d lt)

  found_passes : (r : Named) → Found (meaning new.storage.agg).part new.storage.init (moves_seen new.account.seen) scans (Some r) → Passes r
  found_passes r (s, has, overtook) =
      let name = string_bytes s.name in
      let named : Contains t.scanned name =
      All-contains (λ (x : Scanned). Contains t.scanned (string_bytes x.name)) scans s
      (All-of_map (Contains t.scanned) (λ (x : Scanned). string_bytes x.name) scans
      (subst (λ (ns : List (List ℕ)). All (Contains t.scanned) ns) (sym scanned.names) (All-contains_itself t.scanned))) has in
      let tests = both (has_name name r.at) (overtaken r.at s.number) overtook.least.passes in (
        overtook.number ∙ All-contains (λ (x : Scanned). x.number ≡ t.number) scans s scanned.numbers has,
        inl (inr (name, named, tests.0)),
      )

  all_pass : (o : Option Named) → Found (meaning new.storage.agg).part new.storage.init (moves_seen new.account.seen) scans o → All Passes (with_found reads o)
  all_pass None h = reads_pass
  all_pass (Some r) h = All-push Passes reads r reads_pass (found_passes r h)

  pub is_overwritten : IsOverwritten meaning new t l
  is_overwritten =
      let is = one_stale overtaken t.number (DependsOn t) (with_found reads found) l (all_pass found over) least.passes in
      record { depends = is.0; written = is.1 }

-- ---- the answer to the one fire of a transaction

pub committed : {A : Type 0} (meaning : A → Meaning) (a new : AgentAt A) (t : TransactionView) (reads : List Named)
    (scans : List Scanned) (M : Move) (r : Result Reply FireError) → AggregatorLaws (meaning a.storage.agg) → NamesAll t reads →
    ScansAll t scans → IsMoveOf t.layers M → IsFireOver meaning a new reads scans M r → IsOf meaning a t → Commits meaning a new t r
committed {A} meaning a new t reads scans M (Ok (Fired k)) laws names scanned stands over own =
    let depends = over.depends in
    has_fired meaning a new t reads scans M k laws names scanned stands own
    (subst (λ o. IsReplied meaning a new (with_found reads o) M (Fired k)) depends.0 over.answered)
    (subst (λ o. IsCoherentReply meaning new (with_found reads o) M (Fired k)) depends.0 over.coherent)
    depends.1
committed {A} meaning a new t reads scans M (Ok (Stale l)) laws names scanned stands over own = (
  is_overwritten meaning a new t reads scans M l names scanned own over.found over.answered over.depends,
  ap (λ (x : AgentAt A). x.account.won) over.answered.agent,
)
committed {A} meaning a new t reads scans M (Ok (Clash c)) laws names scanned stands over own = (
  has_clashed meaning a new t reads M c over.found laws names stands own over.answered,
  ap (λ (x : AgentAt A). x.account.won) over.answered.agent,
)
committed {A} meaning a new t reads scans M (Ok Full) laws names scanned stands over own = (
  has_found_full meaning a new reads M over.found over.answered,
  ap (λ (x : AgentAt A). x.account.won) over.answered.agent,
)
committed {A} meaning a new t reads scans M (Err e) laws names scanned stands over own =
    ap (λ (x : AgentAt A). x.account.won) over.refused
