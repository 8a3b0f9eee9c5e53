-- What is true of an agent stays true when it sees more, and when it gains a receipt.
use Rattle.std.proofs.Common.{◌≡◌, ℕ, suc, ◌+◌, ◌-◌, ◌≤◌, Bool, true, false, cond, List, [], ◌∷◌, ◌++◌, length, take, map, Some, None, slice_get, is_some, append-nil, length-append, arith, refl, ap, sym, ◌∙◌, subst}
use Rattle.std.specs.List.{filter, AllByRecursion}
use Rattle.std.proofs.lemmas.List.Elements.{All-from_recursion, recursion_from_All, All-push, filter-append}
use Rattle.std.proofs.lemmas.List.{take_all, length-map, map-append}
use mathlib.Core.List.{IsPrefix}
use Rattle.asm_storage.specs.declared.receipt.Receipt.{Receipt}
use Rattle.asm_storage.specs.declared.entry.Entry.{Entry}
use Rattle.asm_update.specs.Move.{Move}
use Rattle.asm_storage.specs.Machine.{Machine, reply_to}
use Rattle.asm_storage.specs.History.{fired_move}
use Rattle.asm_storage.specs.Agents.{AgentView, moves_seen, is_fired, next_after, AreInOrder, next_stood, IsInRow, IsAgent}
use Rattle.asm_storage.proofs.Lists.{slice_get-prefix, length-prefix, take-prefix, take-slice_get}

pub stood_le : (r : Receipt) → r.stood ≤ next_after r
stood_le r = here (is_fired r) where
  here : (b : Bool) → r.stood ≤ cond b (r.stood + 1) r.stood
  here true = omega arith
  here false = omega arith

pub next_fired : (r : Receipt) → is_fired r ≡ true → next_after r ≡ r.stood + 1
next_fired r e = rw e refl

-- every receipt stands within what was seen
pub stood_within : (from top : ℕ) (rs : List Receipt) → AreInOrder from rs → next_stood from rs ≤ top → AllByRecursion (λ r. r.stood ≤ top) rs × (from ≤ top)
stood_within from top [] order le = (tt, le)
stood_within from top (r ∷ rs) order le =
    let more = stood_within (next_after r) top rs order.1 le in
    let low : r.stood ≤ top = omega (arith, more.1, stood_le r) in
    ((low, more.0), omega (arith, order.0, low))

pub take-moves_seen : (n : ℕ) (xs ys : List Entry) → IsPrefix xs ys → n ≤ length xs → take n (moves_seen xs) ≡ take n (moves_seen ys)
take-moves_seen n xs ys p le =
    let move : Entry → Move = λ x. x.instrs in
    take-prefix n (map move xs) (map move ys) (map move p.0, sym (map-append move xs p.0) ∙ ap (map move) p.1)
    (omega (arith, le, length-map xs move))

order-push : (from : ℕ) (rs : List Receipt) (r : Receipt) → AreInOrder from rs → next_stood from rs ≤ r.stood → AreInOrder from (rs ++ r ∷ [])
order-push from [] r order le = (le, tt)
order-push from (s ∷ rs) r order le = (order.0, order-push (next_after s) rs r order.1 le)

next-push : (from : ℕ) (rs : List Receipt) (r : Receipt) → next_stood from (rs ++ r ∷ []) ≡ next_after r
next-push from [] r = refl
next-push from (s ∷ rs) r = next-push (next_after s) rs r

replied_more : (m : Machine) (seen more : List Entry) → IsPrefix seen more → (rs : List Receipt) → AllByRecursion (λ r. r.stood ≤ length seen) rs → AllByRecursion (λ r. r.answer ≡ reply_to m (take r.stood (moves_seen seen)) r.call) rs → AllByRecursion (λ r. r.answer ≡ reply_to m (take r.stood (moves_seen more)) r.call) rs
replied_more m seen more prefix [] within each = tt
replied_more m seen more prefix (r ∷ rs) within each = (subst (λ q. r.answer ≡ reply_to m q r.call) (take-moves_seen r.stood seen more prefix within.0) each.0, replied_more m seen more prefix rs within.1 each.1)

in_row_more : (id : ℕ) (seen more : List Entry) → IsPrefix seen more → (rs : List Receipt) → AllByRecursion (IsInRow id seen) rs → AllByRecursion (IsInRow id more) rs
in_row_more id seen more prefix [] each = tt
in_row_more id seen more prefix (r ∷ rs) each = ((λ M is. slice_get-prefix seen more r.stood _ prefix (each.0 M is)), in_row_more id seen more prefix rs each.1)

-- an agent that has seen more
pub seen_more : (m : Machine) (a : AgentView) (more : List Entry) → IsPrefix a.seen more → IsAgent m a → IsAgent m (record a { seen = more })
seen_more m a more prefix agent = record {
  replied = All-from_recursion (λ r. r.answer ≡ reply_to m (take r.stood (moves_seen more)) r.call) a.receipts (replied_more m a.seen more prefix a.receipts (stood_within 0 (length a.seen) a.receipts agent.in_order agent.within).0 (recursion_from_All (λ r. r.answer ≡ reply_to m (take r.stood (moves_seen a.seen)) r.call) a.receipts agent.replied));
  in_order = agent.in_order;
  within = omega (arith, agent.within, length-prefix a.seen more prefix);
  in_row = All-from_recursion (IsInRow a.id more) a.receipts (in_row_more a.id a.seen more prefix a.receipts (recursion_from_All (IsInRow a.id a.seen) a.receipts agent.in_row));
  won_is = agent.won_is;
}

pub take_seen : (seen : List Entry) → take (length seen) (moves_seen seen) ≡ moves_seen seen
take_seen seen = take_all (length seen) (moves_seen seen) (omega (arith, length-map seen (λ (x : Entry). x.instrs)))

fired_none : (r : Receipt) → fired_move r.call r.answer ≡ None → is_fired r ≡ false
fired_none r is = ap is_some is

-- an agent whose call fired nothing
pub quiet_kept : (m : Machine) (a : AgentView) (r : Receipt) → IsAgent m a → r.stood ≤ length a.seen → next_stood 0 a.receipts ≤ r.stood → r.answer ≡ reply_to m (take r.stood (moves_seen a.seen)) r.call → fired_move r.call r.answer ≡ None → IsAgent m (record a { receipts = a.receipts ++ r ∷ [] })
quiet_kept m a r agent stood later replied quiet =
    let next : next_after r ≡ r.stood = rw (fired_none r quiet) refl in
    let none : filter is_fired (r ∷ []) ≡ [] = rw (fired_none r quiet) refl in
    record {
      replied = All-push (λ r. r.answer ≡ reply_to m (take r.stood (moves_seen a.seen)) r.call) a.receipts r agent.replied replied;
      in_order = order-push 0 a.receipts r agent.in_order later;
      within = omega (arith, next-push 0 a.receipts r, next, stood);
      in_row = All-push (IsInRow a.id a.seen) a.receipts r agent.in_row (λ M is. absurd (let bad : None ≡ Some M = sym quiet ∙ is in cc));
      won_is = agent.won_is ∙ ap length (sym (filter-append is_fired a.receipts (r ∷ []) ∙ ap (λ xs. filter is_fired a.receipts ++ xs) none ∙ append-nil (filter is_fired a.receipts)));
    }

slice_get_end : {X : Type 0} (xs : List X) (x : X) → slice_get (xs ++ x ∷ []) (length xs) ≡ Some x
slice_get_end [] x = refl
slice_get_end (y ∷ xs) x = slice_get_end xs x

take_end : (seen : List Entry) (x : Entry) → take (length seen) (moves_seen (seen ++ x ∷ [])) ≡ moves_seen seen
take_end seen x = sym (take-moves_seen (length seen) seen (seen ++ x ∷ []) (x ∷ [], refl) (omega arith)) ∙ take_seen seen

-- an agent whose call fired the move, which it then has seen
pub fired_kept : (m : Machine) (a : AgentView) (r : Receipt) (M : Move) → IsAgent m a → r.stood ≡ length a.seen → r.answer ≡ reply_to m (moves_seen a.seen) r.call → fired_move r.call r.answer ≡ Some M → IsAgent m (record { id = a.id; seen = a.seen ++ record { agent = a.id; instrs = M } ∷ []; won = a.won + 1; receipts = a.receipts ++ r ∷ [] })
fired_kept m a r M agent stood replied fired =
    let x : Entry = record { agent = a.id; instrs = M } in
    let is_it : is_fired r ≡ true = ap is_some fired in
    let grown = seen_more m a (a.seen ++ x ∷ []) (x ∷ [], refl) agent in
    let one : filter is_fired (r ∷ []) ≡ r ∷ [] = rw is_it refl in
    let now : take r.stood (moves_seen (a.seen ++ x ∷ [])) ≡ moves_seen a.seen = ap (λ k. take k (moves_seen (a.seen ++ x ∷ []))) stood ∙ take_end a.seen x in
    record {
      replied = All-push (λ r. r.answer ≡ reply_to m (take r.stood (moves_seen (a.seen ++ x ∷ []))) r.call) a.receipts r grown.replied (subst (λ q. r.answer ≡ reply_to m q r.call) (sym now) replied);
      in_order = order-push 0 a.receipts r agent.in_order (omega (arith, agent.within, stood));
      within = omega (arith, next-push 0 a.receipts r, next_fired r is_it, stood, length-append a.seen (x ∷ []));
      in_row = All-push (IsInRow a.id (a.seen ++ x ∷ [])) a.receipts r grown.in_row (λ N is.
          let same : M ≡ N = cc (sym fired ∙ is) in
          ap (slice_get (a.seen ++ x ∷ [])) stood ∙ slice_get_end a.seen x ∙ ap (λ (K : Move). Some (record { agent = a.id; instrs = K })) same);
      won_is = omega (arith, agent.won_is, ap length (filter-append is_fired a.receipts (r ∷ [])), length-append (filter is_fired a.receipts) (filter is_fired (r ∷ [])), ap length one);
    }

pub same_agent : (m : Machine) (id : ℕ) (seen seen' : List Entry) (won won' : ℕ) (rs rs' : List Receipt) → IsAgent m (record { id = id; seen = seen; won = won; receipts = rs }) → seen' ≡ seen → won' ≡ won → rs' ≡ rs → IsAgent m (record { id = id; seen = seen'; won = won'; receipts = rs' })
same_agent m id seen seen' won won' rs rs' agent s w r =
    subst (λ x. IsAgent m (record { id = id; seen = x; won = won'; receipts = rs' })) (sym s)
    (subst (λ x. IsAgent m (record { id = id; seen = seen; won = x; receipts = rs' })) (sym w)
    (subst (λ x. IsAgent m (record { id = id; seen = seen; won = won; receipts = x })) (sym r) agent))
