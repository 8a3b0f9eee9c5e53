-- What is true of an agent's part stays true when it sees more, and when its state follows one more move.
use Rattle.std.proofs.Common.{◌≡◌, ℕ, ◌+◌, ◌-◌, ◌^◌, ◌≤◌, List, [], ◌∷◌, ◌++◌, length, take}
use Rattle.std.proofs.Common.{Some, slice_get, add-one, arith, refl, ap, sym, ◌∙◌, subst}
use Rattle.std.specs.Option.{option_map}
use Rattle.std.proofs.lemmas.List.{take_all, length-map}
use Rattle.std.proofs.lemmas.Option.{slice_get_within, slice_get-map}
use Rattle.std.proofs.lemmas.List.Elements.{All-from_recursion}
use mathlib.Core.List.{IsPrefix}
use Rattle.asm_row.specs.Seat.{SeatView}
use Rattle.asm_row.proofs.Prefixes.{IsPrefix-trans}
use Rattle.asm_update.specs.Aggregator.{Meaning}
use Rattle.asm_update.specs.Move.{Move}
use Rattle.asm_update.specs.State.{State}
use Rattle.asm_state.specs.FollowsFrom.{FollowsFrom}
use Rattle.asm_state.specs.View.{StateView}
use Rattle.asm_storage.specs.declared.part.AgentPart.{AgentPart}
use Rattle.asm_storage.specs.declared.entry.Entry.{Entry}
use Rattle.asm_storage.specs.Agents.{AgentView, IsAgent, moves_seen}
use Rattle.asm_storage.specs.Machine.{Machine}
use Rattle.asm_storage.specs.Part.{account_of, IsFollowing, IsPartOf, HasPolledRow}
use Rattle.asm_storage.specs.Storage.{StorageView, AgentAt, has_polled, machine_of}
use Rattle.asm_storage.proofs.AgentInvariant.{take-moves_seen, seen_more}
use Rattle.asm_storage.proofs.Lists.{take-slice_get, length-prefix}

pub following_more : (m : Machine) (seen more : List Entry) (s : StateView) →
    IsPrefix seen more → IsFollowing m seen s → IsFollowing m more s
following_more m seen more s prefix f = record {
  within = omega (arith, f.within, length-prefix seen more prefix);
  stands = subst (FollowsFrom m.part m.init s) (take-moves_seen s.number seen more prefix f.within) f.stands;
}

-- a state that stands for the first moves of one list stands for those of another one, where both begin a third
pub following_other : (m : Machine) (mine theirs all : List Entry) (s : StateView) → IsPrefix mine all →
    IsPrefix theirs all → s.number ≤ length theirs → IsFollowing m mine s → IsFollowing m theirs s
following_other m mine theirs all s mine_first theirs_first within f = record {
  within = within;
  stands = subst (FollowsFrom m.part m.init s)
      (take-moves_seen s.number mine all mine_first f.within ∙ sym (take-moves_seen s.number theirs all theirs_first within))
      f.stands;
}

pub following_next : (m : Machine) (seen : List Entry) (old new : StateView) (x : Entry) →
    IsFollowing m seen old → slice_get seen old.number ≡ Some x → new.number ≡ old.number + 1 →
    ((init : State) (q : List Move) → FollowsFrom m.part init old q → FollowsFrom m.part init new (q ++ x.instrs ∷ [])) →
    IsFollowing m seen new
following_next m seen old new x f at number next =
    let lt = slice_get_within seen old.number x at in
    let move = λ (e : Entry). e.instrs in
    let last = slice_get-map move seen old.number ∙ ap (option_map move) at in
    let one_more : take (old.number + 1) (moves_seen seen) ≡ take old.number (moves_seen seen) ++ x.instrs ∷ [] =
    ap (λ n. take n (moves_seen seen)) (add-one old.number) ∙ take-slice_get (moves_seen seen) old.number x.instrs last in
    record {
      within = omega (arith, lt, number);
      stands = subst (FollowsFrom m.part m.init new) (sym one_more ∙ ap (λ n. take n (moves_seen seen)) (sym number))
          (next m.init (take old.number (moves_seen seen)) f.stands);
    }

-- a state that has followed all stands for all
pub stands_for_all : (m : Machine) (seen : List Entry) (s : StateView) →
    IsFollowing m seen s → s.number ≡ length seen → FollowsFrom m.part m.init s (moves_seen seen)
stands_for_all m seen s f level =
    let all = take_all s.number (moves_seen seen) (omega (arith, level, length-map seen (λ (x : Entry). x.instrs))) in
    subst (FollowsFrom m.part m.init s) all f.stands

-- an agent that has made no call
pub fresh_agent : (m : Machine) (id : ℕ) → IsAgent m (record { id = id; seen = []; won = 0; receipts = [] })
fresh_agent m id = record {
  replied = All-from_recursion _ [] tt;
  in_order = tt;
  within = omega arith;
  in_row = All-from_recursion _ [] tt;
  won_is = refl;
}

pub fresh_following : (m : Machine) (s : StateView) → FollowsFrom m.part m.init s [] → IsFollowing m [] s
fresh_following m s stands = record {
  within = omega (arith, stands.number);
  stands = subst (λ n. FollowsFrom m.part m.init s (take n (moves_seen []))) (sym stands.number) stands;
}

module _ {A : Type 0} (meaning : A → Meaning) (s : StorageView A) where
  pub polls_then : (old mid new : AgentPart) → HasPolledRow meaning s old mid → HasPolledRow meaning s mid new →
      HasPolledRow meaning s old new
  polls_then old mid new first more = record {
    agent = more.agent ∙ ap (λ (a : AgentAt A). has_polled a new.progress.seen new.progress.misses new.state.number) first.agent;
    seen = IsPrefix-trans old.progress.seen mid.progress.seen new.progress.seen first.seen more.seen;
    onward = omega (arith, first.onward, more.onward);
    part = more.part;
  }

  -- an agent that looked on, and whose state then followed more
  pub followed_then : (old mid new : AgentPart) → HasPolledRow meaning s old mid → new ≡ record mid { state = new.state } →
      mid.state.number ≤ new.state.number → IsPartOf meaning s new → HasPolledRow meaning s old new
  followed_then old mid new polls kept more part =
      subst (HasPolledRow meaning s old) (sym kept) (record {
        agent = ap (λ (a : AgentAt A). has_polled a mid.progress.seen mid.progress.misses new.state.number) polls.agent;
        seen = polls.seen;
        onward = omega (arith, polls.onward, more);
        part = subst (IsPartOf meaning s) kept part;
      })

  -- more was seen
  pub seen_part : (old : AgentPart) (new : SeatView Entry) → IsPartOf meaning s old →
      new.row ≡ old.progress.row → new.won ≡ old.progress.won → new.misses ≤ 2 ^ 64 - 1 →
      IsPrefix old.progress.seen new.seen → IsPartOf meaning s (record old { progress = new })
  seen_part old new part row won counted more =
      let m = machine_of meaning s in
      let account : ℕ → AgentView = λ w. record (account_of old) { seen = new.seen; won = w } in
      record {
        row = row ∙ part.row;
        few = part.few;
        counted = counted;
        agent = subst (λ w. IsAgent m (account w)) (sym won) (seen_more m (account_of old) new.seen more part.agent);
        following = following_more m old.progress.seen new.seen old.state more part.following;
      }

  -- what another one has seen was learnt
  pub learnt_part : (old : AgentPart) (new : SeatView Entry) → IsPartOf meaning s old →
      new ≡ record old.progress { seen = new.seen } → IsPrefix old.progress.seen new.seen →
      IsPartOf meaning s (record old { progress = new })
  learnt_part old new part kept more =
      let misses = ap (λ (p : SeatView Entry). p.misses) kept in
      seen_part old new part (ap (λ (p : SeatView Entry). p.row) kept) (ap (λ (p : SeatView Entry). p.won) kept)
      (omega (arith, misses, part.counted)) more

  -- the part has another state, which follows the same row
  pub with_state : (p : AgentPart) (was new : StateView) → IsPartOf meaning s p → new ≡ was →
      IsFollowing (machine_of meaning s) p.progress.seen was → IsPartOf meaning s (record p { state = new })
  with_state p was new part same following = record {
    row = part.row;
    few = part.few;
    counted = part.counted;
    agent = part.agent;
    following = subst (IsFollowing (machine_of meaning s) p.progress.seen) (sym same) following;
  }

  pub polls_with : (old : AgentPart) (new : SeatView Entry) → IsPartOf meaning s old →
      new.row ≡ old.progress.row → new.won ≡ old.progress.won → new.misses ≤ 2 ^ 64 - 1 →
      IsPrefix old.progress.seen new.seen → HasPolledRow meaning s old (record old { progress = new })
  polls_with old new part row won counted more =
      let account : ℕ → AgentView = λ w. record (account_of old) { seen = new.seen; won = w } in
      let agent : ℕ → AgentAt A = λ w. record { storage = s; misses = new.misses; number = old.state.number; account = account w } in
      record {
        agent = ap agent won;
        seen = more;
        onward = omega arith;
        part = seen_part old new part row won counted more;
      }

  -- a look found the next entry
  pub found_next : (old : AgentPart) (new : SeatView Entry) (e : Entry) → IsPartOf meaning s old →
      new ≡ record old.progress { seen = old.progress.seen ++ e ∷ [] } →
      HasPolledRow meaning s old (record old { progress = new })
  found_next old new e part is =
      subst (λ (p : SeatView Entry). HasPolledRow meaning s old (record old { progress = p })) (sym is)
      (polls_with old (record old.progress { seen = old.progress.seen ++ e ∷ [] }) part refl refl part.counted (e ∷ [], refl))
