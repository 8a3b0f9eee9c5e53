-- Texts of lines, one line at a time: the lines of outcomes, and the text that is due for the lines of a run.
use Rattle.std.proofs.Common.{◌≡◌, ◌<◌, ◌+◌, ℕ, List, [], ◌∷◌, ◌++◌, length, get_or, take, sym, ap, ◌∙◌, append_assoc}
use Rattle.std.proofs.Common.{arith, add-zero, refl, ◌≢◌, ◌⊎◌, All, subst, inl, inr, append-nil}
use Rattle.std.specs.List.{flat_map, enumerate_from}
use Rattle.std.proofs.lemmas.List.{take_more, flat_map_more, length-take-le}
use Rattle.asm_driver.specs.Report.{step_name, reason, line, outcome_line}
use Rattle.asm_play.specs.declared.outcome.Outcome.{Outcome}
use Rattle.asm_play.specs.declared.outcome.Outcome.TheVariants.{Fired}
use Rattle.std.proofs.lemmas.Grind.{flat_map-append}
use Rattle.std.proofs.lemmas.List.Elements.{All-nil, All-push, All-append}
use Rattle.asm_journal.specs.Reading.{HasNoLineFeed, EndsLine}
use Rattle.asm_audit.specs.Fed.{IsFed}
use Rattle.asm_audit.specs.SoFar.{HasCounts, HasEnded, AreFedSoFar}
use Rattle.asm_audit.specs.Text.{ended_lines}
use Rattle.asm_audit.specs.declared.progress.Counts.{Counts}
use Rattle.asm_audit.specs.declared.progress.Progress.{Progress}
use Rattle.asm_audit.proofs.Ended.{one_ending, plain_lines}
use Rattle.asm_audit.proofs.OneSoFar.{one_count}
use Rattle.asm_aggregate.specs.Standard.{standard_part}
use Rattle.asm_driver.specs.Watch.{IsDueText, IsReportOfLine, IsReportOfLines, IsReportOf}

enumerate_from-push : {X : Type 0} (n : ℕ) (xs : List X) (x : X) →
    enumerate_from n (xs ++ x ∷ []) ≡ enumerate_from n xs ++ (n + length xs, x) ∷ []
enumerate_from-push n [] x = ap (λ k. (k, x) ∷ []) (sym (add-zero n))
enumerate_from-push n (y ∷ xs) x =
    let next : n + 1 + length xs ≡ n + length (y ∷ xs) = omega arith in
    ap (λ l. (n, y) ∷ l) (enumerate_from-push (n + 1) xs x ∙ ap (λ k. enumerate_from (n + 1) xs ++ (k, x) ∷ []) next)

-- one numbered item more
pub numbered_more : {X : Type 0} (f : ℕ × X → List ℕ) (front text new : List ℕ) (xs : List X) (i : ℕ) (x : X) →
    i < length xs → x ≡ get_or xs i x → text ≡ front ++ flat_map f (enumerate_from 0 (take i xs)) →
    new ≡ text ++ f (i, x) → new ≡ front ++ flat_map f (enumerate_from 0 (take (i + 1) xs))
numbered_more f front text new xs i x within here so_far added =
    let count : 0 + length (take i xs) ≡ i = omega (arith, length-take-le i xs (omega arith)) in
    let taken : take (i + 1) xs ≡ take i xs ++ x ∷ [] = take_more xs i x within
    ∙ ap (λ y. take i xs ++ y ∷ []) (sym here) in
    let numbered : enumerate_from 0 (take (i + 1) xs) ≡ enumerate_from 0 (take i xs) ++ (i, x) ∷ [] =
    ap (enumerate_from 0) taken ∙ enumerate_from-push 0 (take i xs) x
    ∙ ap (λ k. enumerate_from 0 (take i xs) ++ (k, x) ∷ []) count in
    added ∙ ap (λ t. t ++ f (i, x)) so_far ∙ flat_map_more f front (enumerate_from 0 (take i xs)) (i, x)
    ∙ ap (λ l. front ++ flat_map f l) (sym numbered)

-- one item less is left
pub left_more : {X : Type 0} (f : X → List ℕ) (text new all : List ℕ) (x : X) (rest left : List X) → left ≡ x ∷ rest →
    text ++ flat_map f left ≡ all → new ≡ text ++ f x → new ++ flat_map f rest ≡ all
left_more f text new all x rest left step so_far added =
    ap (λ t. t ++ flat_map f rest) added ∙ append_assoc text (f x) (flat_map f rest)
    ∙ ap (λ l. text ++ flat_map f l) (sym step) ∙ so_far

pub not_fired : (agent step : ℕ) (o : Outcome) → ((k : ℕ) → o ≡ Fired k → ⊥) →
    outcome_line agent step o ≡ line (step_name agent step ++ reason o)
not_fired agent step (Fired k) never = absurd (never k refl)
not_fired agent step o never = refl

-- ---- one more line of a run

-- the text for lines, with the text for one more
reported_push : (every : ℕ) (ls : List (List ℕ)) (l taken reported first : List ℕ) → IsReportOfLines every ls taken reported →
    IsReportOfLine every (taken ++ ended_lines ls) l first → IsReportOfLines every (ls ++ l ∷ []) taken (reported ++ first)
reported_push every [] l taken reported first is of_line = (
  first,
  [],
  subst (λ (t : List ℕ). IsReportOfLine every t l first) (append-nil taken) of_line,
  ap (λ t. t ++ first) is ∙ sym (append-nil first),
  refl,
)
reported_push every (m ∷ ms) l taken reported first (one, rest, fits, all, further) of_line = (
  one,
  rest ++ first,
  fits,
  ap (λ t. t ++ first) all ∙ append_assoc one rest first,
  reported_push every ms l (taken ++ (m ++ 10 ∷ [])) rest first further
      (subst (λ (t : List ℕ). IsReportOfLine every t l first)
      (sym (append_assoc taken (m ++ 10 ∷ []) (ended_lines ms))) of_line),
)

-- the ended lines of a text, by their lines
ended_is : (text ended : List ℕ) (lines : List (List ℕ)) (line : List ℕ) → HasEnded text ended →
    ended_lines lines ++ line ≡ text → All HasNoLineFeed lines → HasNoLineFeed line → ended ≡ ended_lines lines
ended_is text ended lines line (other, all, short, open_line) is plain none =
    let same = one_ending short.0 lines other line (plain_lines short.0 short.2) plain open_line none
    (ap (λ (t : List ℕ). t ++ other) (sym short.1) ∙ all ∙ sym is) in
    short.1 ∙ ap ended_lines same.0

none_open : HasNoLineFeed []
none_open = All-nil (λ b. b ≢ 10)

lines_and : (ls : List (List ℕ)) (l : List ℕ) → ended_lines (ls ++ l ∷ []) ≡ ended_lines ls ++ (l ++ 10 ∷ [])
lines_and ls l =
    flat_map-append (λ (x : List ℕ). x ++ 10 ∷ []) ls (l ∷ []) ∙ ap (λ t. ended_lines ls ++ t) (append-nil (l ++ 10 ∷ []))

-- bytes behind the lines whose text is known
module _ (every : ℕ) (text reported front : List ℕ) (w : IsReportOf every text reported) where
  -- none of them ends a line
  pub reported_bytes : HasNoLineFeed front → IsReportOf every (text ++ front) reported
  reported_bytes none = record {
    lines = w.lines;
    line = w.line ++ front;
    all = sym (append_assoc (ended_lines w.lines) w.line front) ∙ ap (λ t. t ++ front) w.all;
    ended = w.ended;
    open_line = All-append (λ b. b ≢ 10) w.line front w.open_line none;
    of_lines = w.of_lines;
  }

  module _ (p q : Progress) (line left : List ℕ) (x y : Counts) (first : List ℕ) (fed : IsFed standard_part text p line)
      (next : IsFed standard_part (text ++ front) q left) (before : AreFedSoFar standard_part p line x)
      (after : AreFedSoFar standard_part q left y) (due : IsDueText every x y first) where
    here : HasCounts standard_part (ended_lines w.lines) x
    here =
        let is = before text fed in
        subst (λ (t : List ℕ). HasCounts standard_part t x)
        (ended_is text is.0 w.lines w.line is.1 w.all w.ended w.open_line) is.2

    -- the last ends a line, with what is due behind it
    reported_line : (body : List ℕ) → EndsLine front body [] → IsReportOf every (text ++ front) (reported ++ first)
    reported_line body (is, none) =
        let l : List ℕ = w.line ++ body in
        let lines = w.lines ++ l ∷ [] in
        let plain = All-push HasNoLineFeed w.lines l w.ended (All-append (λ b. b ≢ 10) w.line body w.open_line none) in
        let whole : ended_lines lines ++ [] ≡ text ++ front =
        append-nil (ended_lines lines) ∙ lines_and w.lines l
        ∙ ap (λ t. ended_lines w.lines ++ t) (append_assoc w.line body (10 ∷ []) ∙ ap (λ t. w.line ++ t) (sym is))
        ∙ sym (append_assoc (ended_lines w.lines) w.line front) ∙ ap (λ t. t ++ front) w.all in
        let there = after (text ++ front) next in
        record {
          lines = lines;
          line = [];
          all = whole;
          ended = plain;
          open_line = none_open;
          of_lines = reported_push every w.lines l [] reported first w.of_lines (
            x,
            y,
            here,
            subst (λ (t : List ℕ). HasCounts standard_part t y)
                (ended_is (text ++ front) there.0 lines [] there.1 whole plain none_open ∙ lines_and w.lines l) there.2,
            due,
          );
        }

    -- nothing is due if no line ends
    reported_none : HasNoLineFeed front → IsReportOf every (text ++ front) (reported ++ first)
    unfolding reported_bytes
    reported_none none =
        let more = reported_bytes none in
        let there = after (text ++ front) next in
        let same = one_count standard_part (ended_lines w.lines) x y here
        (subst (λ (t : List ℕ). HasCounts standard_part t y)
        (ended_is (text ++ front) there.0 more.lines more.line there.1 more.all more.ended more.open_line) there.2) in
        subst (λ (t : List ℕ). IsReportOf every (text ++ front) t)
        (sym (append-nil reported) ∙ ap (λ t. reported ++ t) (sym (nothing_due same due))) more
      where
        nothing_due : x ≡ y → IsDueText every x y first → first ≡ []
        nothing_due same (inl ((some, less, divides), is)) = absurd (omega (arith, less, ap (λ (c : Counts). c.calls) same))
        nothing_due same (inr (never, is)) = is

    pub reported_more : (behind : List ℕ) →
        ((body : List ℕ) × EndsLine front body []) ⊎ (HasNoLineFeed front × (behind ≡ [])) →
        IsReportOf every (text ++ front) (reported ++ first)
    reported_more behind (inl (body, ends)) = reported_line body ends
    reported_more behind (inr (none, nothing)) = reported_none none
