use Rattle.std.proofs.Common.{◌≡◌, ◌++◌, ◌∷◌, [], ◌∙◌, ◌+◌, ℕ, List, length, sym, ap, append_assoc, arith}
use Rattle.std.proofs.Math.Nat.{le_trans}
use mathlib.Core.List.{map-id}
use Rattle.std.specs.List.{range_with_len}
use Rattle.std.proofs.lemmas.List.{length_push}
use Rattle.std.proofs.lemmas.List.FromFn.{map-range_with_len_more}
use Rattle.asm_slots.proofs.store_agents.note.Goals as goal

range_more : (n : ℕ) → range_with_len 0 (n + 1) ≡ range_with_len 0 n ++ n ∷ []
range_more n =
    sym (map-id (range_with_len 0 (n + 1))) ∙ map-range_with_len_more (λ k. k) 0 n n (omega arith)
    ∙ ap (λ l. l ++ n ∷ []) (map-id (range_with_len 0 n))

-- one number more
noted_more : (old now new : List ℕ) (id : ℕ) → now ≡ old ++ range_with_len 0 id → new ≡ now ++ id ∷ []
    → new ≡ old ++ range_with_len 0 (id + 1)
noted_more old now new id was added =
    added ∙ ap (λ l. l ++ id ∷ []) was ∙ append_assoc old (range_with_len 0 id) (id ∷ []) ∙ ap (λ l. old ++ l) (sym (range_more id))

-- and the list is longer by one
longer : (old now new : List ℕ) (id : ℕ) → length now ≡ length old + id → new ≡ now ++ id ∷ []
    → length new ≡ length old + (id + 1)
longer old now new id was added =
    let more : length new ≡ length now + 1 = ap length added ∙ length_push now id in
    omega (arith, was, more)

pub loop-id-preserved : goal.loop-id-preserved
loop-id-preserved c =
    let l = c.loop-id.invariant in
    let old = c.args.numbers.now.items in
    let new = c.push.new.self in
    let pushed : new.items ≡ c.loop-id.numbers.items ++ c.loop-id.id ∷ [] = rw c.unwrap.ensures at c.push.ensures.items in
    record {
      noted = noted_more old c.loop-id.numbers.items new.items c.loop-id.id l.noted pushed;
      long = longer old c.loop-id.numbers.items new.items c.loop-id.id l.long pushed;
      room = le_trans l.room c.push.ensures.capacity;
    }
