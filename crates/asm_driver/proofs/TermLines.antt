-- The lines of terms without a value, one step and one agent at a time.
use Rattle.std.proofs.Common.{◌≡◌, ◌<◌, ◌+◌, ℕ, List, [], ◌∷◌, ◌++◌, length, get_or, take, sym, ap, ◌∙◌, append_assoc, append-nil}
use Rattle.std.proofs.Common.{add-zero, arith, refl, subst}
use Rattle.std.proofs.lemmas.List.{take_more, length-take-le}
use Rattle.asm_driver.specs.Report.{term_line, AreTermLines, AreAgentsTermLines}
use Rattle.asm_play.specs.declared.outcome.StepTerm.{StepTerm}

push_term : (agent : ℕ) (ts : List StepTerm) (t : StepTerm) (text why : List ℕ) → AreTermLines agent ts text →
    AreTermLines agent (ts ++ t ∷ []) (text ++ term_line agent t why)
push_term agent [] t text why none =
    (why, [], ap (λ x. x ++ term_line agent t why) none ∙ sym (append-nil (term_line agent t why)), refl)
push_term agent (u ∷ ts) t text why (first, rest, is, others) = (
  first,
  rest ++ term_line agent t why,
  ap (λ x. x ++ term_line agent t why) is ∙ append_assoc (term_line agent u first) rest (term_line agent t why),
  push_term agent ts t rest why others,
)

-- one line more of an agent
pub lines_more : (agent : ℕ) (ts : List StepTerm) (i : ℕ) (t : StepTerm) (front text new : List ℕ) → i < length ts →
    t ≡ get_or ts i t → ((added : List ℕ) × AreTermLines agent (take i ts) added × (text ≡ front ++ added)) →
    ((why : List ℕ) × (new ≡ text ++ term_line agent t why)) →
    (added : List ℕ) × AreTermLines agent (take (i + 1) ts) added × (new ≡ front ++ added)
lines_more agent ts i t front text new within here so_far line =
    let last = term_line agent t line.0 in
    let taken : take (i + 1) ts ≡ take i ts ++ t ∷ [] = take_more ts i t within ∙ ap (λ y. take i ts ++ y ∷ []) (sym here) in (
      so_far.0 ++ last,
      subst (λ xs. AreTermLines agent xs (so_far.0 ++ last)) (sym taken)
          (push_term agent (take i ts) t so_far.0 line.0 so_far.1),
      line.1 ∙ ap (λ x. x ++ last) so_far.2 ∙ append_assoc front so_far.0 last,
    )

push_agent : (n : ℕ) (tss : List (List StepTerm)) (ts : List StepTerm) (text mine : List ℕ) →
    AreAgentsTermLines n tss text → AreTermLines (n + length tss) ts mine →
    AreAgentsTermLines n (tss ++ ts ∷ []) (text ++ mine)
push_agent n [] ts text mine none lines = (
  mine,
  [],
  ap (λ x. x ++ mine) none ∙ sym (append-nil mine),
  subst (λ k. AreTermLines k ts mine) (add-zero n) lines,
  refl,
)
push_agent n (us ∷ tss) ts text mine (first, rest, is, here, others) lines =
    let next : n + length (us ∷ tss) ≡ n + 1 + length tss = omega arith in (
      first,
      rest ++ mine,
      ap (λ x. x ++ mine) is ∙ append_assoc first rest mine,
      here,
      push_agent (n + 1) tss ts rest mine others (subst (λ k. AreTermLines k ts mine) next lines),
    )

-- the lines of one agent more
pub agents_more : (tss : List (List StepTerm)) (i : ℕ) (ts : List StepTerm) (text new : List ℕ) → i < length tss →
    ts ≡ get_or tss i ts → AreAgentsTermLines 0 (take i tss) text →
    ((added : List ℕ) × AreTermLines i ts added × (new ≡ text ++ added)) →
    AreAgentsTermLines 0 (take (i + 1) tss) new
agents_more tss i ts text new within here so_far (added, lines, is) =
    let count : i ≡ 0 + length (take i tss) = omega (arith, length-take-le i tss (omega arith)) in
    let taken : take (i + 1) tss ≡ take i tss ++ ts ∷ [] = take_more tss i ts within
    ∙ ap (λ y. take i tss ++ y ∷ []) (sym here) in
    subst (λ x. AreAgentsTermLines 0 x new) (sym taken)
    (subst (λ x. AreAgentsTermLines 0 (take i tss ++ ts ∷ []) x) (sym is)
    (push_agent 0 (take i tss) ts text added so_far (subst (λ k. AreTermLines k ts added) count lines)))
