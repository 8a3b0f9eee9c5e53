-- A block's move, instruction by instruction.
use Rattle.std.proofs.Common.{◌≡◌, ◌+◌, ℕ, [], ◌∷◌, ◌++◌, Result, Ok, Err, refl, sym, ap, ◌∙◌}
use Rattle.std.proofs.lemmas.List.{append_assoc, append-nil}
use Rattle.asm_update.specs.Fire.{Old}
use Rattle.asm_update.specs.Move.{Move}
use Rattle.asm_update.specs.declared.action.Instruction.{Instruction}
use Rattle.asm_script.specs.Terms.{made_of}
use Rattle.asm_script.specs.Blocks.{instruction_in, in_front, move_from, move_in}
use Rattle.asm_script.specs.declared.block.TermInstruction.{TermInstruction}
use Rattle.asm_script.specs.declared.block.Block.{Block}
use Rattle.asm_script.specs.declared.term.NoValue.{NoValue}

-- what is done in front of a move
abbrev behind : Move → Result Move (ℕ × NoValue) → Result Move (ℕ × NoValue)
behind done rest = made_of (λ M. done ++ M) rest

-- the block's move is what is done, and then the move of what is left, whose first instruction has this number
abbrev pub IsMoved : Old → Block → ℕ → Move → Block → Type 0
IsMoved old block n done left = move_in old block ≡ made_of (λ M. done ++ M) (move_from old n left)

appended : (done : Move) (j : Instruction) (rest : Result Move (ℕ × NoValue)) →
    behind done (made_of (λ M. j ∷ M) rest) ≡ behind (done ++ j ∷ []) rest
appended done j (Err faulty) = refl
appended done j (Ok M) = ap Ok (sym (append_assoc done (j ∷ []) M))

pub nothing_done : (old : Old) (block : Block) → IsMoved old block 0 [] block
nothing_done old block = by_move (move_in old block) where
  by_move : (rest : Result Move (ℕ × NoValue)) → rest ≡ behind [] rest
  by_move (Err faulty) = refl
  by_move (Ok M) = refl

module _ (old : Old) (block left : Block) (n : ℕ) (done : Move) (i : TermInstruction)
    (h : IsMoved old block n done (i ∷ left)) where
  pub one_done : (j : Instruction) → instruction_in old i ≡ Ok j → IsMoved old block (n + 1) (done ++ j ∷ []) left
  one_done j is =
      h ∙ ap (λ o. behind done (in_front n o (move_from old (n + 1) left))) is
      ∙ appended done j (move_from old (n + 1) left)

  pub faulty_one : (why : NoValue) → instruction_in old i ≡ Err why → move_in old block ≡ Err (n, why)
  faulty_one why is = h ∙ ap (λ o. behind done (in_front n o (move_from old (n + 1) left))) is

pub all_done : (old : Old) (block : Block) (n : ℕ) (done : Move) → IsMoved old block n done [] →
    move_in old block ≡ Ok done
all_done old block n done h = h ∙ ap Ok (append-nil done)
