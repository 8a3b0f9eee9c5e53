-- Proper states and moves: of a history, and of fewer moves.
use Rattle.std.proofs.Common.{◌≡◌, All, List, [], ◌∷◌, ◌++◌, Option, Some, None, subst, sym, refl}
use Rattle.std.proofs.lemmas.List.Elements.{All-nil, All-cons, All-head, All-tail}
use Rattle.std.proofs.lemmas.Option.{same_Some}
use Rattle.std.specs.List.{cons_option}
use mathlib.Core.List.{IsPrefix}
use Rattle.asm_update.specs.Action.{IsProperInstruction}
use Rattle.asm_update.specs.Move.{Move}
use Rattle.asm_update.specs.State.{State}
use Rattle.asm_storage.specs.History.{fired_move, move_of, fired_moves}
use Rattle.asm_storage.specs.Proper.{IsProper, IsProperCall, IsProperEvent}
use Rattle.asm_storage.specs.declared.call.Answer.{Answer}
use Rattle.asm_storage.specs.declared.call.Answer.TheVariants as answer
use Rattle.asm_storage.specs.declared.call.Call.{Call}
use Rattle.asm_storage.specs.declared.call.Call.TheVariants as call
use Rattle.asm_storage.specs.declared.call.Reply.TheVariants as reply
use Rattle.asm_storage.specs.declared.history.Event.{Event}
use Rattle.asm_storage.specs.declared.history.History.{History}
use Rattle.asm_play.specs.AgentPlay.{AreProper}

-- the move that an event fired is proper
moved : (c : Call) (a : Answer) (M : Move) → IsProperCall c → fired_move c a ≡ Some M → All IsProperInstruction M
moved (call.Fire reads N) (answer.Fire (reply.Fired k)) M proper is =
    subst (All IsProperInstruction) (same_Some N M is) proper.1.0
moved c a M proper is = absurd cc

all_moved : (h : List Event) → All IsProperEvent h → All (All IsProperInstruction) (fired_moves h)
all_moved [] all = All-nil (All IsProperInstruction)
all_moved (e ∷ h) all = by_move (move_of e) refl (all_moved h (All-tail IsProperEvent e h all)) where
  by_move : (o : Option Move) → move_of e ≡ o → All (All IsProperInstruction) (fired_moves h) →
      All (All IsProperInstruction) (cons_option o (fired_moves h))
  by_move None is later = later
  by_move (Some M) is later =
      All-cons (All IsProperInstruction) M _ (moved e.call e.answer M (All-head IsProperEvent e h all).0 is) later

-- the opening state and the moves of a history that a program holds
pub history_proper : (h : History) → IsProper h → AreProper h.init (fired_moves h.events)
history_proper h proper = record { state = proper.0; moves = all_moved h.events proper.1 }

first_of : {X : Type 0} (P : X → Type 0) (xs ys : List X) → All P (xs ++ ys) → All P xs
first_of P [] ys all = All-nil P
first_of P (x ∷ xs) ys all =
    All-cons P x xs (All-head P x (xs ++ ys) all) (first_of P xs ys (All-tail P x (xs ++ ys) all))

-- the first of proper moves are proper too
pub proper_prefix : (A : State) (q r : List Move) → IsPrefix q r → AreProper A r → AreProper A q
proper_prefix A q r (t, is) proper = record {
  state = proper.state;
  moves = first_of (All IsProperInstruction) q t (subst (All (All IsProperInstruction)) (sym is) proper.moves);
}
