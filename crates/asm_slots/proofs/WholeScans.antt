-- Scanned functions are unchanged before a move that fired over their scans.
use Rattle.std.proofs.Common.{IsTrue, string_bytes, Result, IfOk, IsErrOf, ◌≡◌, ◌≤◌, ◌<◌, ◌↔◌, ◌+◌, ◌-◌, ◌∙◌, ◌||◌, ℕ, zero, suc, Bool, true, false, List, [], ◌∷◌, All, get_or, length, take, arith, ap, refl, subst, sym}
use Rattle.std.specs.Prelude.{nat_lt}
use Rattle.std.specs.List.{list_any}
use mathlib.Core.List.{IsPrefix}
use Rattle.std.proofs.lemmas.Bool.{false≢true}
use Rattle.std.proofs.lemmas.List.{length-map}
use Rattle.std.proofs.lemmas.List.Folds.{list_any_at}
use Rattle.std.proofs.lemmas.Result.{IfOk-weaker}
use Rattle.asm_element.specs.Place.{Place}
use Rattle.asm_update.specs.Fire.{state_of}
use Rattle.asm_update.specs.Move.{Move}
use Rattle.asm_update.specs.State.{val}
use Rattle.asm_state.specs.Scans.{has_name}
use Rattle.asm_state.specs.declared.named.Named.{Named}
use Rattle.asm_state.specs.declared.scanned.Scanned.{Scanned}
use Rattle.asm_storage.proofs.AgentInvariant.{take-moves_seen}
use Rattle.asm_storage.proofs.Lists.{length-prefix}
use Rattle.asm_storage.specs.Agents.{moves_seen}
use Rattle.asm_storage.specs.Limits.{reads_limit}
use Rattle.asm_storage.specs.Scans.{IsKept}
use Rattle.asm_storage.specs.Storage.{AgentAt, StorageView, machine_of}
use Rattle.asm_storage.specs.declared.call.Reply.{Reply}
use Rattle.asm_storage.specs.declared.call.Reply.TheVariants.{Fired}
use Rattle.asm_storage.specs.declared.error.FireError.{FireError}
use Rattle.asm_storage.specs.declared.error.FireError.TheVariants.{ManyReads}
use Rattle.asm_storage.specs.declared.entry.Entry.{Entry}
use Rattle.asm_slots.specs.AgentCalls.{HasAnswered, IsRepliedOver}
use Rattle.asm_slots.specs.AgentAnswers.{AreWholeOver, HasTriedFireOver, ReadAsFireOver, is_any_over}
use Rattle.asm_slots.specs.AgentAnswers.{is_any_above}
use Rattle.asm_slots.specs.LongLines.{IsLongFire}
use Rattle.asm_slots.specs.OwnState.{state_at}
use Rattle.asm_slots.specs.Standard.{Standard, meaning, part}

pub take_all_seen : (n : ℕ) (xs : List Entry) → moves_seen (take n xs) ≡ take n (moves_seen xs)
take_all_seen zero xs = refl
take_all_seen (suc n) [] = refl
take_all_seen (suc n) (x ∷ xs) = ap (λ l. x.instrs ∷ l) (take_all_seen n xs)

-- a function that is unchanged since its scan has what the agent knew that it had at the number of the scan
pub kept_whole : (a new : AgentAt Standard) (k : ℕ) (s : Scanned) → new.storage ≡ a.storage →
    IsPrefix a.account.seen (take (k - 1) new.account.seen) → s.number ≤ length a.account.seen →
    IsKept (machine_of meaning new.storage) (moves_seen (take (k - 1) new.account.seen)) s →
    (l : Place) → IsTrue (has_name (string_bytes s.name) l) → val (state_at new (k - 1)) l ≡ val (state_at a s.number) l
kept_whole a new k s same begins le kept l named =
    let before = take (k - 1) new.account.seen in
    let longer = length-prefix a.account.seen before begins in
    let many : s.number ≤ length (moves_seen before) = omega (arith, le, longer, length-map before (λ (x : Entry). x.instrs)) in
    ap (λ (q : List Move). val (state_of part new.storage.init q) l) (sym (take_all_seen (k - 1) new.account.seen))
    ∙ sym (kept.value many l named)
    ∙ ap (λ (t : StorageView Standard). val (state_of part t.init (take s.number (moves_seen before))) l) same
    ∙ ap (λ (q : List Move). val (state_of part a.storage.init q) l) (sym (take-moves_seen s.number a.account.seen before begins le))

second_false : (b c : Bool) → (b || c) ≡ false → c ≡ false
second_false true c h = absurd (false≢true (sym h))
second_false false c h = h

-- if no scan is found to have a greater number, each has at most this one
none_later : (over : List Scanned) (n : ℕ) → list_any (λ s. nat_lt n s.number) over ≡ false → All (λ s. s.number ≤ n) over
none_later over n none k d lt = by_test (nat_lt n (get_or over k d).number) refl where
  by_test : (b : Bool) → nat_lt n (get_or over k d).number ≡ b → (get_or over k d).number ≤ n
  by_test true is = absurd (false≢true (sym none ∙ list_any_at (λ (s : Scanned). nat_lt n s.number) over k d lt is))
  by_test false is = grind (arith, is)

-- so each function is unchanged before the move that fired
whole_over : (a new : AgentAt Standard) (reads : List Named) (over : List Scanned) (M : Move) (r : Reply) →
    IsRepliedOver a new reads over M r → is_any_over reads over (length a.account.seen) ≡ false → AreWholeOver a over r new
whole_over a new reads over M r reported within k is = fired (subst (IsRepliedOver a new reads over M) is reported) where
  seen : ℕ
  seen = length a.account.seen

  few : All (λ s. s.number ≤ seen) over
  few = none_later over seen (second_false (is_any_above reads seen) _ within)

  fired : IsRepliedOver a new reads over M (Fired k) →
      All (λ s. (l : Place) → IsTrue (has_name (string_bytes s.name) l) → val (state_at new (k - 1)) l ≡ val (state_at a s.number) l) over
  fired reported j d lt =
      kept_whole a new k (get_or over j d) (ap (λ (x : AgentAt Standard). x.storage) reported.replied.agent) reported.replied.begins
      (few j d lt) (reported.depends.1 j d lt)

-- the answer to a fire over scans
pub tried_over : (call scans : List ℕ) (a new : AgentAt Standard) (reads : List Named) (over : List Scanned) (M : Move)
    (answer : Result Reply FireError) → ReadAsFireOver call scans reads over M →
    is_any_over reads over (length a.account.seen) ≡ false → ¬ IsLongFire reads M →
    (IsErrOf answer ManyReads ↔ (reads_limit < length reads + length over)) → IfOk answer (IsRepliedOver a new reads over M) →
    HasAnswered answer a new → HasTriedFireOver call scans answer a new
tried_over call scans a new reads over M answer read within short many replied answered = record {
  reads = reads;
  over = over;
  move = M;
  read = read;
  within = within;
  short = short;
  many = many;
  replied = replied;
  whole = IfOk-weaker answer _ _ (λ r is. whole_over a new reads over M r is within) replied;
  answered = answered;
}
