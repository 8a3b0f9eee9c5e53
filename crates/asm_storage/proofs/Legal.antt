-- Legal histories, event by event: their calls decide their answers.
use Rattle.std.proofs.Common.{◌≡◌, List, [], ◌∷◌, ◌++◌, Option, Some, None, append_assoc, append-nil, refl, ap, sym, ◌∙◌, subst}
use Rattle.std.specs.List.{cons_option, AllByRecursion}
use Rattle.std.proofs.lemmas.List.Elements.{filter_map-append}
use Rattle.asm_storage.specs.declared.history.Event.{Event}
use Rattle.asm_update.specs.Move.{Move}
use Rattle.asm_storage.specs.Machine.{Machine, reply_to}
use Rattle.asm_storage.specs.History.{fired_moves, move_of, IsLegal, fired_move, answers_in, calls_in, CallsDecideAnswers, CallsDecideMoves}

-- the events are legal after the moves q
abbrev pub IsLegalFrom : Machine → List Move → List Event → Type 0
IsLegalFrom m q [] = Unit {0}
IsLegalFrom m q (e ∷ h) = (e.answer ≡ reply_to m q e.call) × IsLegalFrom m (q ++ fired_moves (e ∷ [])) h

pub fired_moves-append : (g h : List Event) → fired_moves (g ++ h) ≡ fired_moves g ++ fired_moves h
fired_moves-append g h = filter_map-append move_of g h

fired_moves-cons : (q : List Move) (e : Event) (h : List Event) → (q ++ fired_moves (e ∷ [])) ++ fired_moves h ≡ q ++ fired_moves (e ∷ h)
fired_moves-cons q e h = append_assoc q (fired_moves (e ∷ [])) (fired_moves h) ∙ ap (λ r. q ++ r) (sym (fired_moves-append (e ∷ []) h))

pub legal-append : (m : Machine) (q : List Move) (g h : List Event) → IsLegalFrom m q g → IsLegalFrom m (q ++ fired_moves g) h → IsLegalFrom m q (g ++ h)
legal-append m q [] h left right = subst (λ r. IsLegalFrom m r h) (append-nil q) right
legal-append m q (e ∷ g) h left right = (left.0, legal-append m (q ++ fired_moves (e ∷ [])) g h left.1 (subst (λ r. IsLegalFrom m r h) (sym (fired_moves-cons q e g)) right))

legal_at : (m : Machine) (q : List Move) (before after : List Event) (e : Event) → IsLegalFrom m q (before ++ e ∷ after) → e.answer ≡ reply_to m (q ++ fired_moves before) e.call
legal_at m q [] after e legal = subst (λ r. e.answer ≡ reply_to m r e.call) (sym (append-nil q)) legal.0
legal_at m q (b ∷ before) after e legal = subst (λ r. e.answer ≡ reply_to m r e.call) (fired_moves-cons q b before) (legal_at m (q ++ fired_moves (b ∷ [])) before after e legal.1)

pub legal-from : (m : Machine) (h : List Event) → IsLegalFrom m [] h → IsLegal m h
legal-from m h legal before after e is = legal_at m [] before after e (subst (IsLegalFrom m []) (sym is) legal)

-- what follows some events of a legal history is legal after their moves
pub legal_behind : (m : Machine) (before h : List Event) → IsLegal m (before ++ h) → IsLegalFrom m (fired_moves before) h
legal_behind m before [] legal = tt
legal_behind m before (e ∷ h) legal =
    let all : (before ++ e ∷ []) ++ h ≡ before ++ e ∷ h = append_assoc before (e ∷ []) h in
    let rest = legal_behind m (before ++ e ∷ []) h (subst (IsLegal m) (sym all) legal) in
    (legal before h e refl, subst (λ q. IsLegalFrom m q h) (fired_moves-append before (e ∷ [])) rest)

-- events that fire nothing, each with the reply after q
pub legal_quiet : (m : Machine) (q : List Move) (h : List Event) → AllByRecursion (λ e. e.answer ≡ reply_to m q e.call) h → fired_moves h ≡ [] → IsLegalFrom m q h
legal_quiet m q [] each none = tt
legal_quiet m q (e ∷ h) each none = here (move_of e) refl (legal_quiet m q h each.1) where
  here : (o : Option Move) → move_of e ≡ o → (fired_moves h ≡ [] → IsLegalFrom m q h) → IsLegalFrom m q (e ∷ h)
  here None is rest =
      let mine : fired_moves (e ∷ []) ≡ [] = rw is refl in
      let others : fired_moves h ≡ [] = sym (ap (λ o. cons_option o (fired_moves h)) is) ∙ none in
      (each.0, subst (λ r. IsLegalFrom m r h) (sym (ap (λ r. q ++ r) mine ∙ append-nil q)) (rest others))
  here (Some M) is rest = absurd (let bad : M ∷ fired_moves h ≡ [] = sym (ap (λ o. cons_option o (fired_moves h)) is) ∙ none in cc)

-- after equal moves the same calls have the same answers, one by one
same_answers : (m : Machine) (q r : List Move) (g h : List Event) → IsLegalFrom m q g → IsLegalFrom m r h → q ≡ r →
    calls_in g ≡ calls_in h → answers_in g ≡ answers_in h
same_answers m q r [] [] left right moves calls = refl
same_answers m q r [] (e ∷ h) left right moves calls = absurd cc
same_answers m q r (d ∷ g) [] left right moves calls = absurd cc
same_answers m q r (d ∷ g) (e ∷ h) left right moves calls =
    let call : d.call ≡ e.call = cc calls in
    let others : calls_in g ≡ calls_in h = cc calls in
    let answer : d.answer ≡ e.answer = left.0 ∙ (λ i. reply_to m (moves i) (call i)) ∙ sym right.0 in
    let rest = same_answers m (q ++ fired_moves (d ∷ [])) (r ++ fired_moves (e ∷ [])) g h left.1 right.1
    (λ i. moves i ++ cons_option (fired_move (call i) (answer i)) []) others in
    λ i. answer i ∷ rest i

pub answers_decided : CallsDecideAnswers
answers_decided m g h left right calls =
    same_answers m [] [] g h (legal_behind m [] g left) (legal_behind m [] h right) refl calls

-- the same calls with the same answers fired the same moves
same_moves : (g h : List Event) → calls_in g ≡ calls_in h → answers_in g ≡ answers_in h → fired_moves g ≡ fired_moves h
same_moves [] [] calls answers = refl
same_moves [] (e ∷ h) calls answers = absurd cc
same_moves (d ∷ g) [] calls answers = absurd cc
same_moves (d ∷ g) (e ∷ h) calls answers =
    let call : d.call ≡ e.call = cc calls in
    let answer : d.answer ≡ e.answer = cc answers in
    let rest = same_moves g h (cc calls) (cc answers) in
    λ i. cons_option (fired_move (call i) (answer i)) (rest i)

pub moves_decided : CallsDecideMoves
moves_decided m g h left right calls = same_moves g h calls (answers_decided m g h left right calls)
