-- Chains of histories that continue one another, and that they are one run.
use Rattle.std.proofs.Common.{◌≡◌, ◌≢◌, ◌+◌, List, [], ◌∷◌, ◌++◌, length, refl, arith, ℕ, sym, ap, subst, ◌∙◌}
use Rattle.std.proofs.Common.{length-append}
use Rattle.asm_update.specs.Fire.{Part, state_of, state_or, fire}
use Rattle.asm_update.specs.State.{State}
use Rattle.asm_storage.specs.declared.history.Event.{Event}
use Rattle.asm_storage.specs.declared.history.History.{History}
use Rattle.asm_storage.specs.History.{fired_moves, IsLegal}
use Rattle.asm_storage.specs.Machine.{Machine, reply_to}
use Rattle.asm_storage.proofs.Legal.{fired_moves-append, legal-append, legal_behind, legal-from}
use Rattle.asm_journal.specs.Check.{machine_of, machine}
use Rattle.asm_audit.specs.Chain.{state_left, last_left, AreLegalFrom}
use Rattle.asm_audit.specs.Audited.{calls_of, moves_of}
use Rattle.asm_update.specs.Move.{Move}
use Rattle.asm_storage.proofs.Run.{run_from}
use Rattle.asm_journal.specs.Next.{IsRunFromStart}
use Rattle.asm_journal.proofs.GoesOn.{run_continues}
use Rattle.asm_audit.specs.Run.{all_events}
use Rattle.asm_audit.specs.Laws.{OneRun}

-- ---- one more event

pub legal_none : (m : Machine) → IsLegal m []
legal_none m = legal-from m [] tt

pub legal_push : (m : Machine) (h : List Event) (e : Event) → IsLegal m h →
    e.answer ≡ reply_to m (fired_moves h) e.call → IsLegal m (h ++ e ∷ [])
legal_push m h e legal right =
    legal-from m (h ++ e ∷ []) (legal-append m [] h (e ∷ []) (legal_behind m [] h legal) (right, tt))

pub moves_push : (h : List Event) (e : Event) → fired_moves (h ++ e ∷ []) ≡ fired_moves h ++ fired_moves (e ∷ [])
moves_push h e = fired_moves-append h (e ∷ [])

-- ---- one more journal

pub chain_push : (part : Part) (A : State) (hs : List History) (h : History) → AreLegalFrom part A hs →
    h.init ≡ last_left part A hs → IsLegal (machine_of part h) h.events → AreLegalFrom part A (hs ++ h ∷ [])
chain_push part A [] h chain opens legal = (opens, legal, tt)
chain_push part A (j ∷ js) h chain opens legal =
    (chain.0, chain.1, chain_push part (state_left part j) js h chain.2 opens legal)

pub last_push : (part : Part) (A : State) (hs : List History) (h : History) →
    last_left part A (hs ++ h ∷ []) ≡ state_left part h
last_push part A [] h = refl
last_push part A (j ∷ js) h = last_push part (state_left part j) js h

pub calls_push : (hs : List History) (h : History) → calls_of (hs ++ h ∷ []) ≡ calls_of hs + length h.events
calls_push [] h = omega arith
calls_push (j ∷ js) h = omega (arith, calls_push js h)

pub moves_of_push : (hs : List History) (h : History) → moves_of (hs ++ h ∷ []) ≡ moves_of hs + length (fired_moves h.events)
moves_of_push [] h = omega arith
moves_of_push (j ∷ js) h = omega (arith, moves_of_push js h)

pub some_push : (hs : List History) (h : History) → hs ++ h ∷ [] ≢ []
some_push [] h e = cc
some_push (j ∷ js) h e = cc

-- the moves of a legal history are a run, whatever the capacity
legal_run : (part : Part) (A : State) (c capacity : ℕ) (es : List Event) → IsLegal (machine part A c) es →
    IsRunFromStart (machine part A capacity) es
legal_run part A c capacity es legal =
    run_continues (machine part A capacity) c [] es tt
    (run_from (machine part A c) [] es (legal_behind (machine part A c) [] es legal))

chain_run : (part : Part) (A : State) (hs : List History) → AreLegalFrom part A hs → (capacity : ℕ) →
    IsRunFromStart (machine part A capacity) (all_events hs)
chain_run part A [] chain capacity = tt
chain_run part A (h ∷ hs) chain capacity =
    subst (λ (B : State). IsRunFromStart (machine part B capacity) (h.events ++ all_events hs)) chain.0
    (run_continues (machine part h.init capacity) 0 h.events (all_events hs)
    (legal_run part h.init h.capacity capacity h.events chain.1)
    (chain_run part (state_left part h) hs chain.2 0))

states_in_turn : (part : Part) (A : State) (p q : List Move) → state_of part A (p ++ q) ≡ state_of part (state_of part A p) q
states_in_turn part A [] q = refl
states_in_turn part A (M ∷ p) q = states_in_turn part (state_or A (fire part A M)) p q

pub chain_leaves : (part : Part) (A : State) (hs : List History) → AreLegalFrom part A hs →
    state_of part A (fired_moves (all_events hs)) ≡ last_left part A hs
chain_leaves part A [] chain = refl
chain_leaves part A (h ∷ hs) chain =
    ap (state_of part A) (fired_moves-append h.events (all_events hs))
    ∙ states_in_turn part A (fired_moves h.events) (fired_moves (all_events hs))
    ∙ ap (λ (B : State). state_of part (state_of part B (fired_moves h.events)) (fired_moves (all_events hs))) (sym chain.0)
    ∙ chain_leaves part (state_left part h) hs chain.2

moves_in_turn : (hs : List History) → length (fired_moves (all_events hs)) ≡ moves_of hs
moves_in_turn [] = refl
moves_in_turn (h ∷ hs) =
    ap length (fired_moves-append h.events (all_events hs))
    ∙ length-append (fired_moves h.events) (fired_moves (all_events hs))
    ∙ ap (λ n. length (fired_moves h.events) + n) (moves_in_turn hs)

pub one_run : OneRun
one_run part A hs text rest has = record {
  run = chain_run part A hs has.legal;
  count = moves_in_turn hs;
  leaves = chain_leaves part A hs has.legal;
}
