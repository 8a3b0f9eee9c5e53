-- How a step's move comes about, block by block.
use Rattle.std.proofs.Common.{◌≡◌, ℕ, ◌+◌, ◌<◌, ◌≤◌, length, drop, get_or, List, [], ◌∷◌, ◌++◌, Contains, cond, Option, Some}
use Rattle.std.proofs.Common.{None, Result, Ok, Err, IsOk, IsErr, unwrap_or, refl, sym, ap, ◌∙◌, subst, arith}
use Rattle.std.proofs.Common.{length-append}
use Rattle.std.proofs.lemmas.List.Elements.{Contains-append_right}
use Rattle.asm_element.specs.Place.{Place}
use Rattle.asm_update.specs.Aggregator.{Meaning}
use Rattle.asm_update.specs.Fire.{Part, Old, fire, then_fire, sequence, IsUpdateSet, IsLeastClash}
use Rattle.asm_update.specs.Limits.{instructions_limit}
use Rattle.asm_update.specs.Move.{Move}
use Rattle.asm_update.specs.State.{State, Updates, IsProper, val, overwrite}
use Rattle.asm_update.specs.declared.clash.Clash.{Clash}
use Rattle.asm_update.proofs.FireLemmas.{fire_updates, fire_clash}
use Rattle.asm_overlay.specs.Frames.{Frames, under, topmost, seen_through}
use Rattle.asm_overlay.proofs.FrameLemmas.{val-under}
use Rattle.asm_script.specs.Blocks.{move_in, IsNext}
use Rattle.asm_script.specs.StepReads.{taken, changed, named}
use Rattle.asm_script.specs.Sequencing.{Stop, FaultyTerm, Clashes, fired_or_stopped, fire_move, fire_block, on_state}
use Rattle.asm_script.specs.Sequencing.{fire_blocks, IsReadOf, IsStopped, IsStepMove, IsFrame, Extends}
use Rattle.asm_script.specs.Sequencing.{fitting, composed_on, on_move, on_fired, on_composed, step_move_on, step_move_from}
use Rattle.asm_script.specs.declared.block.Block.{Block}
use Rattle.asm_script.specs.declared.step.Step.{Step}
use Rattle.asm_script.specs.declared.fault.FaultyTerm.{FaultyTerm as Faulty}
use Rattle.asm_script.specs.declared.term.NoValue.{NoValue}
use Rattle.std.proofs.lemmas.Bool.{false≢true, lt-ltb, le-ltb}
use Rattle.std.proofs.lemmas.List.{drop_all, drop_more}
use Rattle.asm_script.specs.declared.fault.StepFault.{StepFault}
use Rattle.asm_script.specs.declared.fault.StepFault.TheVariants.{Term, Clash as Clashing, Large, Many, Memory}
use Rattle.asm_script.proofs.Agreeing.{Agree, agree_left, agree_right, same_move, same_update_set, same_clash}

pub one_longer : {X : Type 0} (xs ys : List X) (x : X) (i : ℕ) → ys ≡ xs ++ x ∷ [] → length xs ≡ i →
    length ys ≡ i + 1
one_longer xs ys x i is long = omega (arith, ap length is, length-append xs (x ∷ []), long)

-- firing what is done so far leaves this state; before the first block there is nothing to fire
abbrev pub IsDoneBy : Part → State → Option Move → State → Type 0
IsDoneBy part A None B = A ≡ B
IsDoneBy part A (Some M) B = fire part A M ≡ Ok B

-- the blocks before those that are left were pushed as frames and composed to what is done
pub record AreSequenced (a : Meaning) (old : Old) (step : Step) (frames : Frames) (done : Option Move) (left : List Block)
    (last : Block) : Type 0 where
  pub names : (l : Place) → Contains (named (left ++ last ∷ [])) l → Contains (named step) l
  pub blocks : (A : State) → IsReadOf A old step →
      fire_blocks a.part A step ≡ fire_blocks a.part (under A frames) (left ++ last ∷ [])
  pub moved : (A : State) → IsReadOf A old step → IsDoneBy a.part A done (under A frames)
  pub composed : (A : State) → IsReadOf A old step →
      step_move_on a A None step ≡ step_move_from a (under A frames) (length frames) done (left ++ last ∷ [])

-- the block at a place is the first of those that are left there; behind the last place none is left
module _ (a : Meaning) (old : Old) (step : Step) (frames : Frames) (done : Option Move) (blocks : List Block)
    (last : Block) (i : ℕ) where
  pub next_left : (b : Block) → i < length blocks → b ≡ get_or blocks i b →
      AreSequenced a old step frames done (drop i blocks) last →
      AreSequenced a old step frames done (b ∷ drop (i + 1) blocks) last
  next_left b below is = subst (λ (left : List Block). AreSequenced a old step frames done left last)
      (drop_more blocks i b below ∙ ap (λ y. y ∷ drop (i + 1) blocks) (sym is))

  pub all_pushed : length blocks ≤ i → AreSequenced a old step frames done (drop i blocks) last →
      AreSequenced a old step frames done [] last
  all_pushed all = subst (λ (left : List Block). AreSequenced a old step frames done left last) (drop_all i blocks all)

pub at_start : (a : Meaning) (old : Old) (left : List Block) (last : Block) →
    AreSequenced a old (left ++ last ∷ []) [] None left last
at_start a old left last = record {
  names = λ l there. there;
  blocks = λ A read. refl;
  moved = λ A read. refl;
  composed = λ A read. refl;
}

under-push : (A : State) (frames : Frames) (U : Updates) → under A (frames ++ U ∷ []) ≡ overwrite (under A frames) U
under-push A [] U = refl
under-push A (frame ∷ frames) U = under-push (overwrite A frame) frames U

named_first : (b : Block) (left : List Block) (last : Block) →
    named (b ∷ (left ++ last ∷ [])) ≡ taken b ++ (changed b ++ named (left ++ last ∷ []))
named_first b [] last = refl
named_first b (c ∷ left) last = refl

-- a move fires on as it does after the earlier one
after_done : (part : Part) (A B : State) (D M : Move) → fire part A D ≡ Ok B → sequence part A D M ≡ fire part B M
after_done part A B D M fires = ap (λ r. then_fire part r M) fires

fired_ok : (part : Part) (A B : State) (D : Move) → fire part A D ≡ Ok B → IsOk (fire part A D)
fired_ok part A B D fires = subst IsOk (sym fires) refl

extended : (a : Meaning) (A B : State) (done : Option Move) (M C : Move) → IsProper A → IsDoneBy a.part A done B →
    Extends a done M (Ok C) → fire a.part A C ≡ fire a.part B M
extended a A B None M C proper is extends = (λ i. fire a.part (is i) (extends i))
extended a A B (Some D) M C proper is extends =
    extends.0 A proper (fired_ok a.part A B D is) ∙ after_done a.part A B D M is

-- what is done and the next move compose to, and why they don't
composed_is : (a : Meaning) (done : Option Move) (M C : Move) → Extends a done M (Ok C) → composed_on a done M ≡ Ok C
composed_is a None M C extends = ap Ok (sym extends)
composed_is a (Some D) M C (keeps, composed, few) =
    ap fitting composed ∙ ap (λ b. cond b (Err Many) (Ok C)) (le-ltb instructions_limit (length C) few)

clashes_so : (a : Meaning) (done : Option Move) (M : Move) (clash : Clash) → Extends a done M (Err (Clashing clash)) →
    composed_on a done M ≡ Err (Clashing clash)
clashes_so a None M clash extends = absurd extends
clashes_so a (Some D) M clash extends = ap fitting extends.1

too_large : (a : Meaning) (done : Option Move) (M : Move) (l : Place) → Extends a done M (Err (Large l)) →
    composed_on a done M ≡ Err (Large l)
too_large a None M l extends = absurd extends
too_large a (Some D) M l extends = ap fitting extends.1

too_many : (a : Meaning) (done : Option Move) (M : Move) → Extends a done M (Err Many) →
    composed_on a done M ≡ Err Many
too_many a None M extends = absurd extends
too_many a (Some D) M (C, composed, many) =
    ap fitting composed ∙ ap (λ b. cond b (Err Many) (Ok C)) (lt-ltb instructions_limit (length C) many)

-- the move of blocks of which the first has this move, or none, and is followed by others
first_move : (a : Meaning) (A : State) (n : ℕ) (done : Option Move) (b : Block) (left : List Block) (last : Block)
    (M : Move) →
    move_in (val A) b ≡ Ok M →
    step_move_from a A n done (b ∷ (left ++ last ∷ []))
    ≡ on_fired (λ B. on_composed (λ C. step_move_from a B (n + 1) (Some C) (left ++ last ∷ [])) (composed_on a done M))
    (fire a.part A M)
first_move a A n done b [] last M is =
    ap (on_move n (λ N. on_fired (λ B. on_composed (λ C. step_move_from a B (n + 1) (Some C) (last ∷ []))
    (composed_on a done N)) (fire a.part A N))) is
first_move a A n done b (c ∷ left) last M is =
    ap (on_move n (λ N. on_fired (λ B. on_composed (λ C. step_move_from a B (n + 1) (Some C) (c ∷ (left ++ last ∷ [])))
    (composed_on a done N)) (fire a.part A N))) is

-- the first instruction without a value, of the block with this number
abbrev faulty_at : ℕ → ℕ × NoValue → StepFault
faulty_at n f = Term (record { block = n; instruction = f.0; why = f.1 })

no_first_move : (a : Meaning) (A : State) (n : ℕ) (done : Option Move) (b : Block) (left : List Block) (last : Block)
    (f : ℕ × NoValue) →
    move_in (val A) b ≡ Err f → step_move_from a A n done (b ∷ (left ++ last ∷ [])) ≡ Err (faulty_at n f)
no_first_move a A n done b [] last f is =
    ap (on_move n (λ N. on_fired (λ B. on_composed (λ C. step_move_from a B (n + 1) (Some C) (last ∷ []))
    (composed_on a done N)) (fire a.part A N))) is
no_first_move a A n done b (c ∷ left) last f is =
    ap (on_move n (λ N. on_fired (λ B. on_composed (λ C. step_move_from a B (n + 1) (Some C) (c ∷ (left ++ last ∷ [])))
    (composed_on a done N)) (fire a.part A N))) is

clash_of : (r : Result State Clash) → IsErr r → (clash : Clash) × (r ≡ Err clash)
clash_of (Ok A) h = absurd (false≢true h)
clash_of (Err clash) h = (clash, refl)

-- the faults that no state survives
abbrev IsLasting : StepFault → Type 0
IsLasting (Clashing clash) = Unit {0}
IsLasting (Large l) = Unit {0}
IsLasting _ = ⊥

refused : (a : Meaning) (A B : State) (done : Option Move) (M : Move) (fault : StepFault) → IsProper A →
    IsDoneBy a.part A done B → Extends a done M (Err fault) → IsLasting fault → IsErr (fire a.part B M)
refused a A B None M fault proper is extends refusal = absurd extends
refused a A B (Some D) M (Clashing clash) proper is extends refusal =
    subst IsErr (after_done a.part A B D M is) (extends.0 A proper)
refused a A B (Some D) M (Large l) proper is extends refusal =
    subst IsErr (after_done a.part A B D M is) (extends.0 A proper)
refused a A B (Some D) M (Term f) proper is extends refusal = absurd refusal
refused a A B (Some D) M Many proper is extends refusal = absurd refusal
refused a A B (Some D) M Memory proper is extends refusal = absurd refusal

no_term : (a : Meaning) (done : Option Move) (M : Move) (f : Faulty) → Extends a done M (Err (Term f)) → ⊥
no_term a None M f extends = extends
no_term a (Some D) M f extends = extends

on_state-ok : (r : Result State Stop) → on_state (λ B. Ok B) r ≡ r
on_state-ok (Ok B) = refl
on_state-ok (Err stop) = refl

module _ (a : Meaning) (old : Old) (step : Step) (frames : Frames) (done : Option Move) where
  abbrev part : Part
  part = a.part

  -- where a state was read, what is seen through the frames is what stands in the state that they leave
  seen_is : (left : List Block) (last : Block) → AreSequenced a old step frames done left last → (A : State) →
      IsReadOf A old step →
      Agree (seen_through frames old) (val (under A frames)) (named (left ++ last ∷ []))
  seen_is left last played A read l there =
      sym (val-under A frames l ∙ ap (unwrap_or (topmost frames l)) (read.same l (played.names l there)))

  module _ (b : Block) (left : List Block) (last : Block) (played : AreSequenced a old step frames done (b ∷ left) last)
    where
      all_seen : (A : State) → IsReadOf A old step →
          Agree (seen_through frames old) (val (under A frames)) (taken b ++ (changed b ++ named (left ++ last ∷ [])))
      all_seen A read =
          subst (Agree (seen_through frames old) (val (under A frames))) (named_first b left last)
          (seen_is (b ∷ left) last played A read)

      move_is : (A : State) → IsReadOf A old step →
          move_in (seen_through frames old) b ≡ move_in (val (under A frames)) b
      move_is A read = same_move (seen_through frames old) (val (under A frames)) b
          (agree_left _ _ (taken b) _ (all_seen A read))

      stops : (A : State) → IsReadOf A old step → (stop : Stop) → fire_block part (under A frames) b ≡ Err stop →
          fire_blocks part A step ≡ Err stop
      stops A read stop is = played.blocks A read ∙ ap (on_state (λ B. fire_blocks part B (left ++ last ∷ []))) is

      -- a faulty term stops the blocks
      pub faulty_term : (f : ℕ × NoValue) → move_in (seen_through frames old) b ≡ Err f → (A : State) →
          IsReadOf A old step →
          (step_move_on a A None step ≡ Err (faulty_at (length frames) f)) × (fire_blocks part A step ≡ Err FaultyTerm)
      faulty_term f is A read =
          let none = sym (move_is A read) ∙ is in (
            played.composed A read ∙ no_first_move a (under A frames) (length frames) done b left last f none,
            stops A read FaultyTerm (ap (fire_move part (under A frames)) none),
          )

      -- what is answered where the block has no move
      pub next_fault : (fault : StepFault) → IsNext (length frames) (move_in (seen_through frames old) b) (Err fault) →
          IsStepMove a old step (Err fault)
      next_fault (Term f) is = subst (λ n. IsStepMove a old step (Err (Term (record { block = n; instruction = f.instruction; why = f.why }))))
          (sym is.0) (faulty_term (f.instruction, f.why) is.1)
      next_fault (Clashing clash) is = absurd is
      next_fault (Large l) is = absurd is
      next_fault Many is = absurd is
      next_fault Memory is = λ A read. tt

      module _ (M : Move) (is : move_in (seen_through frames old) b ≡ Ok M) where
        fires_block : (A : State) → IsReadOf A old step →
            fire_block part (under A frames) b ≡ fired_or_stopped (fire part (under A frames) M)
        fires_block A read = ap (fire_move part (under A frames)) (sym (move_is A read) ∙ is)

        changes_seen : (A : State) → IsReadOf A old step →
            Agree (seen_through frames old) (val (under A frames)) (changed b)
        changes_seen A read = agree_left _ _ (changed b) _ (agree_right _ _ (taken b) _ (all_seen A read))

        -- what comes after the block's move
        abbrev onward : State → Result Move StepFault
        onward B = on_composed (λ C. step_move_from a B (length frames + 1) (Some C) (left ++ last ∷ []))
            (composed_on a done M)

        goes_on : (A : State) → IsReadOf A old step →
            step_move_on a A None step ≡ on_fired onward (fire part (under A frames) M)
        goes_on A read =
            played.composed A read
            ∙ first_move a (under A frames) (length frames) done b left last M (sym (move_is A read) ∙ is)

        -- a block that clashes stops the blocks
        pub clashing_block : (clash : Clash) → IsLeastClash part (seen_through frames old) M clash → (A : State) →
            IsReadOf A old step →
            (step_move_on a A None step ≡ Err (Clashing clash)) × IsStopped (fire_blocks part A step)
        clashing_block clash least A read =
            let there = same_clash part _ _ b M is (changes_seen A read) clash least in
            let clashes = fire_clash part (under A frames) M clash there in (
              goes_on A read ∙ ap (on_fired onward) clashes,
              (clash, stops A read (Clashes clash) (fires_block A read ∙ ap fired_or_stopped clashes)),
            )

        -- what is answered where the block has no update set
        pub frame_fault : (fault : StepFault) → IsFrame part (seen_through frames old) M (Err fault) →
            IsStepMove a old step (Err fault)
        frame_fault (Term f) least = absurd least
        frame_fault (Clashing clash) least = clashing_block clash least
        frame_fault (Large l) least = absurd least
        frame_fault Many least = absurd least
        frame_fault Memory least = λ A read. tt

        module _ (U : Updates) (updates : IsUpdateSet part (seen_through frames old) M U) where
          fires : (A : State) → IsReadOf A old step → fire part (under A frames) M ≡ Ok (under A (frames ++ U ∷ []))
          fires A read =
              fire_updates part (under A frames) M U (same_update_set part _ _ b M is (changes_seen A read) U updates)
              ∙ ap Ok (sym (under-push A frames U))

          fires_on : (A : State) → IsReadOf A old step →
              step_move_on a A None step
              ≡ on_composed (λ C. step_move_from a (under A (frames ++ U ∷ [])) (length frames + 1) (Some C) (left ++ last ∷ []))
              (composed_on a done M)
          fires_on A read = goes_on A read ∙ ap (on_fired onward) (fires A read)

          -- a block that fires isn't refused
          not_refused : (A : State) → IsReadOf A old step → (fault : StepFault) → Extends a done M (Err fault) →
              IsLasting fault → ⊥
          not_refused A read fault extends refusal =
              false≢true (subst IsErr (fires A read)
              (refused a A (under A frames) done M fault read.proper (played.moved A read) extends refusal))

          -- what is answered where the block doesn't compose with what is done
          pub compose_fault : (fault : StepFault) → Extends a done M (Err fault) → IsStepMove a old step (Err fault)
          compose_fault (Term f) extends = absurd (no_term a done M f extends)
          compose_fault (Clashing clash) extends = λ A read. absurd (not_refused A read (Clashing clash) extends tt)
          compose_fault (Large l) extends = λ A read. absurd (not_refused A read (Large l) extends tt)
          compose_fault Many extends = λ A read.
              fires_on A read
              ∙ ap (on_composed (λ C. step_move_from a (under A (frames ++ U ∷ [])) (length frames + 1) (Some C) (left ++ last ∷ [])))
              (too_many a done M extends)
          compose_fault Memory extends = λ A read. tt

          -- one more block is a frame, and composed to what is done
          pub one_more : (C : Move) → Extends a done M (Ok C) →
              AreSequenced a old step (frames ++ U ∷ []) (Some C) left last
          one_more C extends = record {
            names = λ l there.
                played.names l (subst (λ (ls : List Place). Contains ls l) (sym (named_first b left last))
                (Contains-append_right (taken b) _ l (Contains-append_right (changed b) _ l there)));
            blocks = λ A read.
                played.blocks A read
                ∙ ap (on_state (λ B. fire_blocks part B (left ++ last ∷ [])))
                (fires_block A read ∙ ap fired_or_stopped (fires A read));
            moved = λ A read.
                extended a A (under A frames) done M C read.proper (played.moved A read) extends ∙ fires A read;
            composed = λ A read.
                fires_on A read
                ∙ ap (on_composed (λ C. step_move_from a (under A (frames ++ U ∷ [])) (length frames + 1) (Some C) (left ++ last ∷ [])))
                (composed_is a done M C extends)
                ∙ ap (λ n. step_move_from a (under A (frames ++ U ∷ [])) n (Some C) (left ++ last ∷ []))
                (sym (length-append frames (U ∷ [])));
          }

  module _ (last : Block) (played : AreSequenced a old step frames done [] last) where
    same_last : (A : State) → IsReadOf A old step → (M : Result Move (ℕ × NoValue)) → move_in (seen_through frames old) last ≡ M →
        move_in (val (under A frames)) last ≡ M
    same_last A read M is =
        sym (same_move (seen_through frames old) (val (under A frames)) last (seen_is [] last played A read)) ∙ is

    last_is : (A : State) → IsReadOf A old step → (M : Result Move (ℕ × NoValue)) → move_in (seen_through frames old) last ≡ M →
        fire_blocks part A step ≡ fire_move part (under A frames) M
    last_is A read M is =
        played.blocks A read ∙ on_state-ok (fire_block part (under A frames) last)
        ∙ ap (fire_move part (under A frames)) (same_last A read M is)

    last_move : (A : State) → IsReadOf A old step → (M : Result Move (ℕ × NoValue)) →
        move_in (seen_through frames old) last ≡ M →
        step_move_on a A None step ≡ on_move (length frames) (composed_on a done) M
    last_move A read M is =
        played.composed A read ∙ ap (on_move (length frames) (composed_on a done)) (same_last A read M is)

    -- what is answered where the last block has no move
    pub last_fault : (fault : StepFault) → IsNext (length frames) (move_in (seen_through frames old) last) (Err fault) →
        IsStepMove a old step (Err fault)
    last_fault (Term f) is =
        subst (λ n. IsStepMove a old step (Err (Term (record { block = n; instruction = f.instruction; why = f.why }))))
        (sym is.0) (λ A read. (
          last_move A read (Err (f.instruction, f.why)) is.1,
          last_is A read (Err (f.instruction, f.why)) is.1,
        ))
    last_fault (Clashing clash) is = absurd is
    last_fault (Large l) is = absurd is
    last_fault Many is = absurd is
    last_fault Memory is = λ A read. tt

    module _ (M : Move) (is : move_in (seen_through frames old) last ≡ Ok M) where
      last_refused : (A : State) → IsReadOf A old step → (fault : StepFault) → Extends a done M (Err fault) →
          IsLasting fault →
          IsStopped (fire_blocks part A step)
      last_refused A read fault extends refusal =
          let clash = clash_of (fire part (under A frames) M)
          (refused a A (under A frames) done M fault read.proper (played.moved A read) extends refusal) in
          (clash.0, last_is A read (Ok M) is ∙ ap fired_or_stopped clash.1)

      -- the last block, composed to what is done, is the step's move
      pub last_answer : (answer : Result Move StepFault) → Extends a done M answer → IsStepMove a old step answer
      last_answer (Ok C) extends = λ A read. (
        last_move A read (Ok M) is ∙ composed_is a done M C extends,
        last_is A read (Ok M) is
            ∙ ap fired_or_stopped (sym (extended a A (under A frames) done M C read.proper (played.moved A read) extends)),
      )
      last_answer (Err (Term f)) extends = absurd (no_term a done M f extends)
      last_answer (Err (Clashing clash)) extends = λ A read. (
        last_move A read (Ok M) is ∙ clashes_so a done M clash extends,
        last_refused A read (Clashing clash) extends tt,
      )
      last_answer (Err (Large l)) extends = λ A read. (
        last_move A read (Ok M) is ∙ too_large a done M l extends,
        last_refused A read (Large l) extends tt,
      )
      last_answer (Err Many) extends = λ A read. last_move A read (Ok M) is ∙ too_many a done M extends
      last_answer (Err Memory) extends = λ A read. tt
