-- Fires that rest on scans: what is found of the scans, and what a turn and a whole fire then rest on.
use Rattle.std.proofs.Common.{◌≡◌, ◌≢◌, ℕ, ◌+◌, ◌<◌, true, false, ◌&&◌, List, [], ◌∷◌, ◌++◌, length, Option, Some, None}
use Rattle.std.proofs.Common.{◌↔◌, IfErr, Ok, Err, Result, arith, refl, ap, sym, ◌∙◌, subst}
use Rattle.std.specs.Prelude.{All, IsTrue, IfOk, IfSome, IsErrOf, OnErr, string_bytes}
use Rattle.std.specs.declared.alloc.AllocError.{AllocError}
use mathlib.Core.List.{IsPrefix}
use Rattle.std.specs.List.{Contains}
use Rattle.std.proofs.lemmas.Bool.{false≢true}
use Rattle.std.proofs.lemmas.List.Elements.{All-weaker}
use Rattle.asm_element.specs.Place.{Place}
use Rattle.asm_element.specs.Tests.{both}
use Rattle.asm_update.specs.Aggregator.{Meaning}
use Rattle.asm_update.specs.Fire.{Part}
use Rattle.asm_update.specs.Move.{Move}
use Rattle.asm_update.specs.State.{State}
use Rattle.asm_state.specs.Scans.{has_name}
use Rattle.asm_state.specs.FollowsFrom.{is_stale}
use Rattle.asm_state.specs.Verdict.{least_stale}
use Rattle.asm_state.specs.declared.named.Named.{Named}
use Rattle.asm_state.specs.declared.scanned.Scanned.{Scanned}
use Rattle.asm_storage.specs.declared.call.Answer.TheVariants as answer
use Rattle.asm_storage.specs.declared.call.Call.TheVariants as call
use Rattle.asm_storage.specs.declared.call.Reply.{Reply}
use Rattle.asm_storage.specs.declared.call.Reply.TheVariants as reply
use Rattle.asm_storage.specs.declared.entry.Entry.{Entry}
use Rattle.asm_storage.specs.declared.error.FireError.{FireError}
use Rattle.asm_storage.specs.declared.error.FireError.TheVariants as fire_error
use Rattle.asm_storage.specs.declared.part.AgentPart.{AgentPart}
use Rattle.asm_storage.specs.Agents.{moves_seen}
use Rattle.asm_storage.specs.Calls.{judged_on, IsReplied, IsBusy, IsCoherentReply, IsFire, IsFireOver, MadeOffers, IsVersionAfter, is_plain, is_plain_over}
use Rattle.asm_storage.specs.History.{fired_move}
use Rattle.asm_storage.specs.Limits.{reads_limit}
use Rattle.asm_storage.specs.Machine.{Machine, fire_reply, reply_to}
use Rattle.asm_storage.specs.Part.{agent_of, HasWon, IsTurn, IsTurnOver}
use Rattle.asm_storage.specs.Scans.{with_found, IsUnwritten, IsOvertaken, IsFound, IsNamedOver, IsKept, DependsOn}
use Rattle.asm_storage.specs.Storage.{AgentAt, FollowsOn, StorageView, IsSameAgent, machine_of, has_polled}
use Rattle.asm_storage.proofs.FireTurns.{won_judged, answered_coherent, busy_lost, few_misses, fired_missed}
use Rattle.asm_storage.proofs.Lists.{Each-rest}
use Rattle.asm_storage.proofs.Run.{fresh_each, same_value_from}

-- nothing is among no scans
none_there : (s : Scanned) → Contains [] s → ⊥
none_there s h = absurd (omega (arith, h.1))

-- of no scans nothing is found
pub none_found : (part : Part) (A : State) (q : List Move) (found : Option Named) → IsFound part A q [] found → found ≡ None
none_found part A q None h = refl
none_found part A q (Some r) h = absurd (none_there h.0 h.1)

-- a move that rests on no read and no scan is plain as ever
pub plain_over : (part : Part) (A : State) (q : List Move) (reads : List Named) (scans : List Scanned) (M : Move)
    (found : Option Named) → IsFound part A q scans found → is_plain (with_found reads found) M ≡ false →
    is_plain_over reads scans M ≡ false
plain_over part A q reads [] M found h not =
    sym (ap (λ o. is_plain (with_found reads o) M) (none_found part A q found h)) ∙ not
plain_over part A q reads (s ∷ ss) M found h not = refl

-- a scan is no plain move's
pub scans_level : (reads : List Named) (scans : List Scanned) (M : Move) → scans ≢ [] → is_plain_over reads scans M ≡ false
scans_level reads [] M some = absurd (some refl)
scans_level reads (s ∷ ss) M some = refl

-- a function that was not written keeps its values
kept : (m : Machine) (q : List Move) (s : Scanned) → IsUnwritten m.part m.init q s → IsKept m q s
kept m q s unwritten = record {
  unwritten = fresh;
  value = λ le l named. same_value_from m m.init q l s.number (fresh l named) le;
} where
  fresh : (l : Place) → IsTrue (has_name (string_bytes s.name) l) → is_stale m.part m.init q l s.number ≡ false
  fresh l named = sym (ap (λ b. b && is_stale m.part m.init q l s.number) named) ∙ unwritten l

pub all_kept : (m : Machine) (q : List Move) (scans : List Scanned) → All (IsUnwritten m.part m.init q) scans → All (IsKept m q) scans
all_kept m q scans each = All-weaker (IsUnwritten m.part m.init q) (IsKept m q) (kept m q) scans each

-- where nothing was found, each function is as it was scanned, whatever the reply
pub unfound_depends : (m : Machine) (q : List Move) (scans : List Scanned) (r : Reply) →
    IsFound m.part m.init q scans None → DependsOn m q scans None r
unfound_depends m q scans (reply.Stale l) h = h
unfound_depends m q scans (reply.Fired k) h = (refl, all_kept m q scans h)
unfound_depends m q scans (reply.Clash c) h = (refl, all_kept m q scans h)
unfound_depends m q scans reply.Full h = (refl, all_kept m q scans h)

-- a read that was overtaken is stale
overtaken_stale : (part : Part) (A : State) (q : List Move) (r : Named) (s : Scanned) → IsOvertaken part A q r s →
    is_stale part A q r.at r.number ≡ true
overtaken_stale part A q r s o =
    let passes = both (has_name (string_bytes s.name) r.at) (is_stale part A q r.at s.number) o.least.passes in
    ap (is_stale part A q r.at) o.number ∙ passes.1

-- where it is named, a fire is stale
named_stale : (part : Part) (A : State) (q : List Move) (reads : List Named) (r : Named) →
    is_stale part A q r.at r.number ≡ true → least_stale part A q (reads ++ r ∷ []) ≡ None → ⊥
named_stale part A q reads r stale none =
    let each = fresh_each (λ n. is_stale part A q n.at n.number) (reads ++ r ∷ []) none in
    let last = Each-rest (λ n. is_stale part A q n.at n.number ≡ false) reads (r ∷ []) each in
    false≢true (sym last.0 ∙ stale)

module _ (m : Machine) (q : List Move) (reads : List Named) (scans : List Scanned) (M : Move) where
  -- the reply to a fire that names what was found is that it is stale
  stale_reply : (n : Named) (r : Reply) → IsFound m.part m.init q scans (Some n) →
      answer.Fire r ≡ reply_to m q (call.Fire (reads ++ n ∷ []) M) → (l : Place) × (r ≡ reply.Stale l)
  stale_reply n r (s, there, over) is =
      by_least (least_stale m.part m.init q (reads ++ n ∷ [])) refl where
        by_least : (o : Option Place) → least_stale m.part m.init q (reads ++ n ∷ []) ≡ o → (l : Place) × (r ≡ reply.Stale l)
        by_least (Some l) e =
            let now : answer.Fire r ≡ answer.Fire (reply.Stale l) = is ∙ ap (λ o. answer.Fire (fire_reply m q M o)) e in
            (l, cc now)
        by_least None e = absurd (named_stale m.part m.init q reads n (overtaken_stale m.part m.init q n s over) e)

  -- what a reply rests on that is the one to a fire with these names
  pub depends : (found : Option Named) (r : Reply) → IsFound m.part m.init q scans found →
      answer.Fire r ≡ reply_to m q (call.Fire (with_found reads found) M) → DependsOn m q scans found r
  depends None r h is = unfound_depends m q scans r h
  depends (Some n) r h is = by_reply r (stale_reply n r h is) where
    by_reply : (r : Reply) → (l : Place) × (r ≡ reply.Stale l) → DependsOn m q scans (Some n) r
    by_reply (reply.Stale l) reported = h
    by_reply (reply.Fired k) reported = absurd (cc reported.1)
    by_reply (reply.Clash c) reported = absurd (cc reported.1)
    by_reply reply.Full reported = absurd (cc reported.1)

  -- a fire that is to fire has found nothing
  pub fires_unfound : (found : Option Named) (k : ℕ) → IsFound m.part m.init q scans found →
      answer.Fire (reply.Fired k) ≡ reply_to m q (call.Fire (with_found reads found) M) → found ≡ None
  fires_unfound None k h is = refl
  fires_unfound (Some n) k h is =
      let (l, e) = stale_reply n (reply.Fired k) h is in absurd (cc e)

pub named_as : (m : Machine) (q : List Move) (reads : List Named) (scans : List Scanned) (found : Option Named)
    (r : Result (List Named) AllocError) → IfOk r (λ named. named ≡ with_found reads found) →
    IsFound m.part m.init q scans found → IfOk r (IsNamedOver m q reads scans)
named_as m q reads scans found (Ok named) is h = record { found = found; named_is = is; found_is = h }
named_as m q reads scans found (Err e) is h = tt

-- what a fire names that rests on no old value beside its reads and scans
pub plain_named : (m : Machine) (q : List Move) (reads : List Named) (scans : List Scanned) (named : List Named) (M : Move) →
    IsNamedOver m q reads scans named → is_plain named M ≡ false → is_plain_over reads scans M ≡ false
plain_named m q reads scans named M over not =
    plain_over m.part m.init q reads scans M over.found over.found_is (sym (ap (λ ns. is_plain ns M) over.named_is) ∙ not)

module _ (m : Machine) (seen : List Entry) (reads : List Named) (scans : List Scanned) (named : List Named) (M : Move)
    (over : IsNamedOver m (moves_seen seen) reads scans named) (k : ℕ)
    (reported : answer.Fire (reply.Fired k) ≡ reply_to m (moves_seen seen) (call.Fire named M)) where
  -- a fire that is to fire names its reads alone
  nothing : over.found ≡ None
  nothing =
      fires_unfound m (moves_seen seen) reads scans M over.found k over.found_is
      (reported ∙ ap (λ ns. reply_to m (moves_seen seen) (call.Fire ns M)) over.named_is)

  pub names_reads : named ≡ reads
  names_reads = over.named_is ∙ ap (with_found reads) nothing

  -- and no scan was overtaken
  pub unfound_over : IsFound m.part m.init (moves_seen seen) scans None
  unfound_over = subst (IsFound m.part m.init (moves_seen seen) scans) nothing over.found_is

-- a reply that fired nothing was judged on all that was seen
quiet_seen : (named : List Named) (M : Move) (r : Reply) (seen : List Entry) →
    fired_move (call.Fire named M) (answer.Fire r) ≡ None → judged_on r seen ≡ seen
quiet_seen named M (reply.Fired k) seen quiet = absurd cc
quiet_seen named M (reply.Stale l) seen quiet = refl
quiet_seen named M (reply.Clash c) seen quiet = refl
quiet_seen named M reply.Full seen quiet = refl

module _ {A : Type 0} (meaning : A → Meaning) (s : StorageView A) (old mid new : AgentPart) (reads : List Named)
    (scans : List Scanned) (M : Move) where
  -- a turn that was answered and fired nothing
  pub turn_quiet : (named : List Named) (r : Reply) →
      IsNamedOver (machine_of meaning s) (moves_seen mid.progress.seen) reads scans named →
      answer.Fire r ≡ reply_to (machine_of meaning s) (moves_seen mid.progress.seen) (call.Fire named M) →
      fired_move (call.Fire named M) (answer.Fire r) ≡ None → new.progress.seen ≡ mid.progress.seen →
      IsReplied meaning (agent_of s old) (agent_of s new) named M r → IsTurnOver meaning s old new reads scans M (Some r)
  turn_quiet named r over reported quiet same is =
      let m = machine_of meaning s in
      let seen = mid.progress.seen in
      let rest = depends m (moves_seen seen) reads scans M over.found r over.found_is
      (reported ∙ ap (λ ns. reply_to m (moves_seen seen) (call.Fire ns M)) over.named_is) in
      let judged : seen ≡ judged_on r new.progress.seen = sym (quiet_seen named M r new.progress.seen quiet ∙ same) in (
        over.found,
        subst (λ ns. IsReplied meaning (agent_of s old) (agent_of s new) ns M r) over.named_is is,
        subst (λ q. DependsOn m (moves_seen q) scans over.found r) judged rest,
      )

  -- a turn that made an offer
  pub turn_offered : (r : Result (Option Reply) AllocError) →
      IsFound (machine_of meaning s).part (machine_of meaning s).init (moves_seen mid.progress.seen) scans None →
      IfOk r (λ o. IfSome o (HasWon s mid new reads M)) → IfOk r (IsTurn meaning s old new reads M) →
      IfOk r (IsTurnOver meaning s old new reads scans M)
  turn_offered (Ok (Some r)) none won is =
      let m = machine_of meaning s in
      let seen = mid.progress.seen in
      let judged : judged_on r new.progress.seen ≡ seen = won_judged s mid new reads M r won in
      (None, is, subst (λ q. DependsOn m (moves_seen q) scans None r) (sym judged) (unfound_depends m (moves_seen seen) scans r none))
  turn_offered (Ok None) none won is = is
  turn_offered (Err e) none won is = tt

module _ {A : Type 0} (meaning : A → Meaning) (old new : AgentAt A) (reads : List Named) (scans : List Scanned) (M : Move) where
  -- a fire over scans, from its reply and how many offers it made
  pub is_over : (r : Result Reply FireError) (found : Option Named) (n : ℕ) →
      IsSameAgent old new → IsPrefix old.account.seen new.account.seen →
      IfOk r (IsReplied meaning old new (with_found reads found) M) →
      IfOk r (λ t. DependsOn (machine_of meaning new.storage) (moves_seen (judged_on t new.account.seen)) scans found t) →
      OnErr r (new ≡ has_polled old new.account.seen new.misses new.number) → IfErr r (IsBusy old new) →
      IsErrOf r fire_error.ManyReads ↔ (reads_limit < length reads + length scans) → MadeOffers old new r n →
      FollowsOn old new → IfOk r (IsVersionAfter old new (is_plain_over reads scans M)) →
      IsFireOver meaning old new reads scans M r
  is_over r found n same seen answered rested refused busy many made follows stands = record {
    same = same;
    seen = seen;
    follows = follows;
    stands = stands;
    found = found;
    answered = answered;
    coherent = coherent r answered;
    depends = rested;
    many = many;
    refused = refused;
    busy = busy;
    offers = (n, made);
    missed = fired_missed old new r n made;
    few = few_misses old new r n made;
    lost = busy_lost old new r n made busy;
  } where
    coherent : (q : Result Reply FireError) → IfOk q (IsReplied meaning old new (with_found reads found) M) →
        IfOk q (IsCoherentReply meaning new (with_found reads found) M)
    coherent (Ok q) is = answered_coherent meaning old new (with_found reads found) M q is
    coherent (Err e) is = tt

-- a fire that rests on no scan is a fire
pub no_scans : {A : Type 0} (meaning : A → Meaning) (old new : AgentAt A) (reads : List Named) (M : Move)
    (r : Result Reply FireError) → IsFireOver meaning old new reads [] M r → IsFire meaning old new reads M r
no_scans meaning old new reads M r over = record {
  same = over.same;
  seen = over.seen;
  follows = over.follows;
  stands = over.stands;
  answered = names_none r over.depends over.answered;
  coherent = coherent_none r over.depends over.coherent;
  refused = over.refused;
  busy = over.busy;
  many = subst (λ n. IsErrOf r fire_error.ManyReads ↔ (reads_limit < n)) (omega arith) over.many;
  offers = over.offers;
  missed = over.missed;
  few = over.few;
  lost = over.lost;
} where
  rest_none : (found : Option Named) (q : List Move) (t : Reply) → DependsOn (machine_of meaning new.storage) q [] found t → found ≡ None
  rest_none found q (reply.Stale l) is =
      none_found (machine_of meaning new.storage).part (machine_of meaning new.storage).init q found is
  rest_none found q (reply.Fired k) is = is.0
  rest_none found q (reply.Clash c) is = is.0
  rest_none found q reply.Full is = is.0

  names_none : (r : Result Reply FireError) →
      IfOk r (λ t. DependsOn (machine_of meaning new.storage) (moves_seen (judged_on t new.account.seen)) [] over.found t) →
      IfOk r (IsReplied meaning old new (with_found reads over.found) M) → IfOk r (IsReplied meaning old new reads M)
  names_none (Ok t) depends is =
      subst (λ o. IsReplied meaning old new (with_found reads o) M t) (rest_none over.found (moves_seen (judged_on t new.account.seen)) t depends) is
  names_none (Err e) depends is = tt

  coherent_none : (r : Result Reply FireError) →
      IfOk r (λ t. DependsOn (machine_of meaning new.storage) (moves_seen (judged_on t new.account.seen)) [] over.found t) →
      IfOk r (IsCoherentReply meaning new (with_found reads over.found) M) → IfOk r (IsCoherentReply meaning new reads M)
  coherent_none (Ok t) depends is =
      subst (λ o. IsCoherentReply meaning new (with_found reads o) M t) (rest_none over.found (moves_seen (judged_on t new.account.seen)) t depends) is
  coherent_none (Err e) depends is = tt
