-- How many there are, and lists that are gone through, over plain variables.
use Rattle.std.proofs.Common.{◌≡◌, ◌≢◌, inl, inr, ◌∙◌, ℕ, ◌+◌, ◌≤◌, List, [], ◌∷◌, ◌++◌, map, length, All, refl, sym}
use Rattle.std.proofs.Common.{None, Ok, ap, arith}
use Rattle.std.proofs.Common.{append_assoc}
use Rattle.std.proofs.lemmas.List.{append-nil}
use Rattle.asm_element.specs.Place.{Place}
use Rattle.asm_element.specs.declared.value.Value.{Value}
use Rattle.asm_update.specs.Aggregator.{Meaning}
use Rattle.asm_update.specs.Move.{Move}
use Rattle.asm_storage.specs.Machine.{Machine}
use Rattle.asm_storage.specs.declared.call.Answer.TheVariants as answer
use Rattle.asm_storage.specs.declared.call.Call.TheVariants as call
use Rattle.asm_storage.specs.declared.history.Event.{Event}
use Rattle.asm_script.specs.Sequencing.{step_move_on}
use Rattle.asm_script.specs.declared.step.Step.{Step}
use Rattle.asm_play.specs.Ends.{term_in, terms_of_end, terms_from}
use Rattle.asm_play.specs.declared.outcome.StepTerm.{StepTerm}
use Rattle.asm_play.specs.declared.step_end.StepEnd.{StepEnd}
use Rattle.asm_play.specs.StepEvents.{name_at, state_at, stale_fires, IsIdle, IsReading, IsTryOf, IsVainTry}

-- ---- events are counted in turn

pub stale_both : (xs ys : List Event) → stale_fires (xs ++ ys) ≡ stale_fires xs + stale_fires ys
stale_both [] ys = omega arith
stale_both (x ∷ xs) ys = omega (arith, stale_both xs ys)

-- ---- the events of a try

-- the read of a step that reads something
pub one_reading : (ps : List Place) (n : ℕ) (vs : List Value) (e : Event) → ps ≢ [] → e.call ≡ call.Read ps →
    e.answer ≡ answer.Read n vs → IsReading ps n (e ∷ [])
one_reading [] n vs e some asked reported = absurd (some refl)
one_reading (p ∷ ps) n vs e some asked reported = (e, vs, refl, asked, reported)

module _ (own : Meaning) (m : Machine) (q : List Move) (step : Step) where
  -- a try without a fire, and one with a fire
  pub try_without : (ps : List Place) (n : ℕ) (es : List Event) → n ≤ length q → IsReading ps n es →
      IsTryOf own m q step ps es
  try_without ps n es le reading = (n, le, es, [], sym (append-nil es), reading, inl refl)

  pub try_with : (ps : List Place) (n : ℕ) (es read : List Event) (e : Event) (M : Move) → n ≤ length q →
      es ≡ read ++ e ∷ [] → IsReading ps n read → e.call ≡ call.Fire (map (name_at n) ps) M →
      step_move_on own (state_at m q n) None step ≡ Ok M → IsTryOf own m q step ps es
  try_with ps n es read e M le is reading asked move =
      (n, le, read, e ∷ [], is, reading, inr (e, M, refl, asked, move))

  -- a try in vain without a fire, and one with a fire, of a step that reads something
  pub vain_without : (ps : List Place) (n : ℕ) (es : List Event) → n ≤ length q → IsReading ps n es → All IsIdle es →
      IsVainTry own m q step ps es
  vain_without [] n es le reading idle = reading
  vain_without (p ∷ ps) n es le reading idle = (try_without (p ∷ ps) n es le reading, idle)

  pub vain_with : (ps : List Place) (es : List Event) → ps ≢ [] → IsTryOf own m q step ps es → All IsIdle es →
      IsVainTry own m q step ps es
  vain_with [] es some once idle = absurd (some refl)
  vain_with (p ∷ ps) es some once idle = (once, idle)

-- ---- what is done, in front of what is left, is all

pub one_apart : {X Y : Type 0} (f : X → Y) (done new all : List Y) (x : X) (left rest : List X) →
    done ++ map f left ≡ all → left ≡ x ∷ rest → new ≡ done ++ f x ∷ [] → new ++ map f rest ≡ all
one_apart f done new all x left rest whole step added =
    ap (λ ys. ys ++ map f rest) added ∙ append_assoc done (f x ∷ []) (map f rest)
    ∙ ap (λ xs. done ++ map f xs) (sym step) ∙ whole

pub none_apart : {X Y : Type 0} (f : X → Y) (done all : List Y) (left : List X) → done ++ map f left ≡ all →
    left ≡ [] → done ≡ all
none_apart f done all left whole none =
    sym (append-nil done) ∙ ap (λ xs. done ++ map f xs) (sym none) ∙ whole

-- a step's end more is told, as its number is how many were told before
pub one_term : (done new all : List StepTerm) (n k : ℕ) (e : StepEnd) (left rest : List StepEnd) →
    done ++ terms_from n left ≡ all → left ≡ e ∷ rest → new ≡ done ++ terms_of_end n (term_in e) → k ≡ n + 1 →
    new ++ terms_from k rest ≡ all
one_term done new all n k e left rest whole step added next =
    ap (λ ys. ys ++ terms_from k rest) added ∙ append_assoc done (terms_of_end n (term_in e)) (terms_from k rest)
    ∙ ap (λ m. done ++ (terms_of_end n (term_in e) ++ terms_from m rest)) next
    ∙ ap (λ xs. done ++ terms_from n xs) (sym step) ∙ whole

pub no_terms : (done all : List StepTerm) (n : ℕ) (left : List StepEnd) → done ++ terms_from n left ≡ all → left ≡ [] →
    done ≡ all
no_terms done all n left whole none =
    sym (append-nil done) ∙ ap (λ xs. done ++ terms_from n xs) (sym none) ∙ whole

-- what is mapped twice is mapped once
pub map_again : {X Y Z : Type 0} (f : X → Y) (g : Y → Z) (xs : List X) → map g (map f xs) ≡ map (λ x. g (f x)) xs
map_again f g [] = refl
map_again f g (x ∷ xs) = ap (λ zs. g (f x) ∷ zs) (map_again f g xs)
