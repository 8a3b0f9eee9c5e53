-- Puts that agree, without scans, whose reads are as new as all that was seen, fire while the row has room.
use Rattle.std.proofs.Common.{◌≡◌, ◌+◌, ◌<◌, ◌≤◌, Bool, true, false, cond, not, List, [], length, map, Some, None, refl, ap, sym, subst, ◌∙◌}
use Rattle.std.specs.Bool.{OnTrue}
use Rattle.std.specs.Prelude.{IfSome, IsOk, MatchOption, Option, is_some}
use Rattle.std.specs.Borrow.{Bor}
use Rattle.std.proofs.lemmas.Bool.{OnTrue_from, false≢true}
use Rattle.std.proofs.lemmas.List.{length-map}
use Rattle.std.proofs.lemmas.List.Elements.{All-from_recursion}
use mathlib.Core.List.{IsPrefix}
use Rattle.asm_row.specs.Seat.{SeatView}
use Rattle.std.specs.List.{filter_map}
use Rattle.std.specs.Ordering.{eq_by_cmp}
use Rattle.asm_element.specs.Place.{Place, location_cmp}
use Rattle.asm_element.specs.declared.value.Value.{Value}
use Rattle.asm_update.specs.Aggregator.{Meaning}
use Rattle.asm_update.specs.Fire.{Part, fire, state_of}
use Rattle.asm_update.specs.Action.{regular_value}
use Rattle.asm_update.specs.Move.{Move, IsLeast, are_different, has_two}
use Rattle.asm_update.specs.State.{State}
use Rattle.asm_update.specs.declared.action.Instruction.{Instruction}
use Rattle.asm_update.proofs.PlainLemmas.{plain_fires}
use Rattle.asm_aggregate.specs.OnlyPut.{only_put}
use Rattle.asm_aggregate.proofs.OnlyPut.{is_put, put}
use Rattle.asm_state.specs.declared.named.Named.{Named}
use Rattle.asm_state.specs.declared.scanned.Scanned.{Scanned}
use Rattle.asm_state.proofs.Writers.{none_stale}
use Rattle.asm_storage.specs.declared.call.Answer.TheVariants as answer
use Rattle.asm_storage.specs.declared.call.Call.TheVariants as call
use Rattle.asm_storage.specs.declared.call.Reply.TheVariants as reply
use Rattle.asm_storage.specs.declared.entry.Entry.{Entry}
use Rattle.asm_storage.specs.declared.part.AgentPart.{AgentPart}
use Rattle.asm_storage.specs.Agents.{moves_seen}
use Rattle.asm_storage.specs.Machine.{Machine}
use Rattle.asm_storage.specs.Part.{agent_of, HasPolledRow, IsJudged, IsJudgedOver, IsPartOf, AreAgreed, IsSure}
use Rattle.asm_storage.specs.Scans.{IsFound, IsUnwritten}
use Rattle.asm_storage.specs.Storage.{AgentAt, StorageView, has_polled, last_poll, machine_of, IsReplyOf, Missed}
use Rattle.asm_storage.proofs.FireTurns.{judged_reply}

-- puts that agree fire on every state
puts_fire : (part : Part) (A : State) (M : Move) → AreAgreed M → IsOk (fire part A M)
puts_fire part A M agreed = subst IsOk (sym (plain_fires part A M agreed.0 agreed.1)) refl

-- puts agree where no least location has two values
pub agree_by : (M : Move) (o : Option (Bor Place)) (b : Bool) → is_some o ≡ not b →
    MatchOption o ((l : Place) → has_two M l ≡ false) (λ l. IsLeast (has_two M) l.now) →
    OnTrue b ((l : Place) → has_two M l ≡ false)
agree_by M None b is none = OnTrue_from b _ (λ e. none)
agree_by M (Some l) b is least = OnTrue_from b _ (λ e. absurd (false≢true (sym (is ∙ ap not e))))

-- one put agrees with itself
put_agrees : (M : Move) (l : Place) (v : Value) → only_put M ≡ Some (l, v) → AreAgreed M
put_agrees M l v is = subst AreAgreed (sym (is_put M l v is)) (refl, alone) where
  by_test : (q : Place) (b : Bool) → are_different (filter_map regular_value (map (λ (i : Instruction). i.action) (cond b (put l v) []))) ≡ false
  by_test q true = refl
  by_test q false = refl

  alone : (q : Place) → has_two (put l v) q ≡ false
  alone q = by_test q (eq_by_cmp location_cmp l q)

pub one_agrees : (M : Move) (o : Option (Bor Place × Bor Value)) → IfSome o (λ p. only_put M ≡ Some (p.0.now, p.1.now)) →
    is_some o ≡ true → AreAgreed M
one_agrees M (Some p) is some = put_agrees M p.0.now p.1.now is
one_agrees M None is some = absurd (false≢true some)

-- the sequential storage's reply to a fire that is sure is `Fired`
pub sure_fires : (m : Machine) (p : SeatView Entry) (reads : List Named) (scans : List Scanned) (M : Move) →
    length p.row ≡ m.capacity → IsSure p reads scans M → IsJudged m p.seen reads M None
sure_fires m p reads scans M capacity sure =
    let q = moves_seen p.seen in
    let count : length p.seen ≡ length q = sym (length-map p.seen (λ (x : Entry). x.instrs)) in
    let room : length p.seen < m.capacity = subst (λ n. length p.seen < n) capacity sure.room in
    judged_reply m p.seen reads M false None room (
      sym (none_stale m.part m.init q (length p.seen) reads count sure.fresh),
      puts_fire m.part (state_of m.part m.init q) M sure.agreed,
      refl,
    )

-- so it need not be judged
pub sure_judged : {A : Type 0} (meaning : A → Meaning) (s : StorageView A) (p : AgentPart) (reads : List Named)
    (scans : List Scanned) (M : Move) → IsPartOf meaning s p → IsSure p.progress reads scans M →
    IsJudgedOver meaning s p p reads scans M None
sure_judged meaning s p reads scans M part sure =
    let m = machine_of meaning s in
    let q = moves_seen p.progress.seen in
    let judged = sure_fires m p.progress reads scans M (ap length part.row) sure in (
      judged.0,
      judged.1,
      subst (λ ss. IsFound m.part m.init q ss None) (sym sure.unscanned) (All-from_recursion (IsUnwritten m.part m.init q) [] tt),
      refl,
    )

-- a fire that was judged to fire: the agent has looked on and no more, there is room, and no scan was overtaken
pub record IsToFire {A : Type 0} (meaning : A → Meaning) (s : StorageView A) (old new : AgentPart) (reads : List Named)
    (scans : List Scanned) (M : Move) : Type 0 where
  pub polls : HasPolledRow meaning s old new
  pub missed : Missed (agent_of s old) (last_poll (agent_of s new)) (agent_of s new)
  pub replies : IsReplyOf meaning (agent_of s new) (call.Fire reads M) (answer.Fire (reply.Fired (length new.progress.seen + 1)))
  pub room : length new.progress.seen < length s.row
  pub unfound : IsFound (machine_of meaning s).part (machine_of meaning s).init (moves_seen new.progress.seen) scans None

module _ {A : Type 0} (meaning : A → Meaning) (s : StorageView A) (old mid new : AgentPart)
    (polls : HasPolledRow meaning s old mid) where
  -- an agent that looked on, and of which nothing then changed
  pub polls_same : agent_of s new ≡ agent_of s mid → IsPartOf meaning s new → HasPolledRow meaning s old new
  polls_same same part = record {
    agent = subst (λ (a : AgentAt A). a ≡ has_polled (agent_of s old) a.account.seen a.misses a.number) (sym same) polls.agent;
    seen = subst (λ (a : AgentAt A). IsPrefix old.progress.seen a.account.seen) (sym same) polls.seen;
    onward = subst (λ (a : AgentAt A). old.state.number ≤ a.number) (sym same) polls.onward;
    part = part;
  }

  pub missed_same : agent_of s new ≡ agent_of s mid →
      Missed (agent_of s old) (last_poll (agent_of s mid)) (agent_of s mid) →
      Missed (agent_of s old) (last_poll (agent_of s new)) (agent_of s new)
  missed_same same missed = subst (λ (a : AgentAt A). Missed (agent_of s old) (last_poll a) a) (sym same) missed

  pub to_fire : (reads : List Named) (scans : List Scanned) (M : Move) → IsPartOf meaning s new →
      Missed (agent_of s old) (last_poll (agent_of s mid)) (agent_of s mid) →
      IsJudgedOver meaning s mid new reads scans M None → IsToFire meaning s old new reads scans M
  to_fire reads scans M part missed free =
      let m = machine_of meaning s in
      let there = sym free.3 in
      record {
        polls = polls_same free.3 part;
        missed = missed_same free.3 missed;
        replies = subst (λ (a : AgentAt A). IsReplyOf meaning a (call.Fire reads M)
            (answer.Fire (reply.Fired (length a.account.seen + 1)))) there free.0;
        room = subst (λ (a : AgentAt A). length a.account.seen < length s.row) there free.1;
        unfound = subst (λ (a : AgentAt A). IsFound m.part m.init (moves_seen a.account.seen) scans None) there free.2;
      }
