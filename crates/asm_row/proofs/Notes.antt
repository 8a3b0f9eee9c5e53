-- The notes that a `KnownPrefix` owns: they can be had twice, and of two prefixes of one row, one begins the other. Assumes `Logic`.
use Rattle.std.proofs.Common.{◌≡◌, ◌⊎◌, inl, inr, ℕ, zero, suc, List, [], ◌∷◌, ◌++◌, length, slice_get, unwrap_or, arith, refl, ap, sym, subst}
use denote.Steps.{heard}
use seplogic.Ra.Ura.{Ura}
use base.Logic.{ent, sep, emp, wand, never, never_e, emp∗, via, id⊢, apply∗, fst∗}
use base.Fml.{Lft, Fml, ftrue, fbor}
use base.Shift.{Keyless}
use contract.Monad.{fact, fact_i}
use types.Logic.{Logic, sem, lfts}
use types.Kit.{‵, raw, ◌⊛◌, later, ◌$◌, ◌∵◌, !, qed, move, drop, split, fsplit, fjoin, use0, use1, use2, updating, await, now, done}
use mir.Val.{Val, vstruct, vcons, vnil}
use denote.RattleType.{RattleType}
use denote.Shadow.{makes_shadow}
use denote.Sharing.{said}
use denote.Struct.Struct.{Struct}
use denote.Struct.Owning.{shape}
use denote.Struct.Lending.{Lends}
use Rattle.std.specs.declared.option.Option.{Option}
use Rattle.std.specs.declared.option.Option.TheVariants.{Some}
use Rattle.once_cell.specs.Once.{noted}
use Rattle.once_cell.proofs.Notes.{noted_twice, noted_agree}
use Rattle.asm_row.specs.KnownPrefix.{all_noted}
use mathlib.Core.List.{IsPrefix}
use Rattle.asm_row.proofs.Prefixes.{one_begins-cons}
use Rattle.asm_row.specs.contracts.known_prefix.KnownPrefix as KnownPrefix

-- the machine value of a `KnownPrefix`: a struct of its marker alone
abbrev pub token : Val
token = vstruct (vcons (vstruct vnil) vnil)

-- a `&mut` to what can be had twice gives it for good
pub lends_twice : {M : Type 1} {𝓤 : Ura M} (𝓛 : Logic 𝓤) (P : Fml) → ent 𝓤 (sem 𝓛 P) (sep 𝓤 (sem 𝓛 P) (sem 𝓛 P)) → (l : Lft) → Lends 𝓛 P (said P) l
lends_twice {𝓤 = 𝓤} 𝓛 P twice l κ ts inc sp = let Back = 𝓛.H.⇛ (sep 𝓤 (𝓛.A.bor κ P) (lfts 𝓛 ts)) in
    qed 𝓛 (‵ (fbor κ P) ∷ raw (lfts 𝓛 ts) ∷ []) ∵ updating ! $ use2 𝓛 (later (‵ P ⊛ raw (wand 𝓤 (sem 𝓛 P) Back))) (𝓛.more.bor_acc_by κ ts P sp) $ await ! tt $ split ! $ use1 𝓛 (‵ P ⊛ ‵ P) twice $ split ! $ move ! (0 ∷ 2 ∷ []) $
    use2 𝓛 (later (‵ (fbor κ P) ⊛ raw (lfts 𝓛 ts))) (apply∗ 𝓤 (sem 𝓛 P) Back) $ await ! tt $ split ! $ drop ! $ move ! (1 ∷ 0 ∷ []) $ now ! $ done !

-- no thread's key is among the notes, so they may go to any thread
pub all_keyless : (R : RattleType) (cells : List ℕ) (xs : List R.Denot) → Keyless (all_noted R cells xs)
all_keyless R cells [] = tt
all_keyless R [] (x ∷ xs) = tt
all_keyless R (c ∷ cells) (x ∷ xs) = (tt, all_keyless R cells xs)

module _ {M : Type 1} {𝓤 : Ura M} (𝓛 : Logic 𝓤) (R : RattleType) where
  -- the notes can be had twice
  pub all_twice : (cells : List ℕ) (xs : List R.Denot) → ent 𝓤 (sem 𝓛 (all_noted R cells xs)) (sep 𝓤 (sem 𝓛 (all_noted R cells xs)) (sem 𝓛 (all_noted R cells xs)))
  all_twice cells [] = emp∗ 𝓤 (emp 𝓤)
  all_twice [] (x ∷ xs) = never_e 𝓤 _
  all_twice (c ∷ cells) (x ∷ xs) = let N = ‵ (noted R c (Some x)) in let Ns = ‵ (all_noted R cells xs) in
      qed 𝓛 (‵ (all_noted R (c ∷ cells) (x ∷ xs)) ∷ []) ∵ fsplit ! $ use1 𝓛 (N ⊛ N) (noted_twice 𝓛 R c (Some x)) $ move ! (1 ∷ []) $ use1 𝓛 (Ns ⊛ Ns) (all_twice cells xs) $ split ! $ move ! (2 ∷ []) $ split ! $
      move ! (0 ∷ 2 ∷ []) $ fjoin ! $ move ! (1 ∷ 2 ∷ []) $ fjoin ! $ done !

  -- of two lists that are known of the same cells, one begins the other
  pub all_agree : (cells : List ℕ) (xs ys : List R.Denot) → ent 𝓤 (sep 𝓤 (sem 𝓛 (all_noted R cells xs)) (sem 𝓛 (all_noted R cells ys))) (fact 𝓤 (IsPrefix xs ys ⊎ IsPrefix ys xs))
  all_agree cells [] ys = fact_i 𝓤 _ _ (inl (ys, refl))
  all_agree cells (x ∷ xs) [] = fact_i 𝓤 _ _ (inr (x ∷ xs, refl))
  all_agree [] (x ∷ xs) (y ∷ ys) = via 𝓤 _ (fst∗ 𝓤 (never 𝓤) (never 𝓤)) (never_e 𝓤 _)
  all_agree (c ∷ cells) (x ∷ xs) (y ∷ ys) = let Rest : Type 0 = IsPrefix xs ys ⊎ IsPrefix ys xs in let All : Type 0 = IsPrefix (x ∷ xs) (y ∷ ys) ⊎ IsPrefix (y ∷ ys) (x ∷ xs) in
      qed 𝓛 (‵ (all_noted R (c ∷ cells) (x ∷ xs)) ∷ ‵ (all_noted R (c ∷ cells) (y ∷ ys)) ∷ []) ∵
      fsplit ! $ move ! (2 ∷ []) $ fsplit ! $ move ! (0 ∷ 2 ∷ []) $ use2 𝓛 (raw (fact 𝓤 (y ≡ x))) (noted_agree 𝓛 R c (Some y) (Some x)) $ heard ! (y ≡ x) (λ e.
      move ! (1 ∷ 0 ∷ []) $ use2 𝓛 (raw (fact 𝓤 Rest)) (all_agree cells xs ys) $ heard ! Rest (λ rest. use0 𝓛 (raw (fact 𝓤 All)) (fact_i 𝓤 All (emp 𝓤) (one_begins-cons x y xs ys (sym e) rest)) $ done !))

  -- what is known of the cell at a place
  pub one_of_all : (cells : List ℕ) (xs : List R.Denot) (at c : ℕ) → slice_get cells at ≡ Some c → ent 𝓤 (sem 𝓛 (all_noted R cells xs)) (sem 𝓛 (noted R c (slice_get xs at)))
  one_of_all cells [] at c e = id⊢ 𝓤 _
  one_of_all [] (x ∷ xs) at c e = never_e 𝓤 _
  one_of_all (b ∷ cells) (x ∷ xs) zero c e = qed 𝓛 (‵ (all_noted R (b ∷ cells) (x ∷ xs)) ∷ []) ∵ fsplit ! $ move ! (1 ∷ []) $ drop ! $ use1 𝓛 (‵ (noted R c (Some x))) (subst (λ (k : ℕ). ent 𝓤 (sem 𝓛 (noted R b (Some x))) (sem 𝓛 (noted R k (Some x)))) (ap (λ (o : Option ℕ). unwrap_or o 0) e) (id⊢ 𝓤 _)) $ done !
  one_of_all (b ∷ cells) (x ∷ xs) (suc at) c e = qed 𝓛 (‵ (all_noted R (b ∷ cells) (x ∷ xs)) ∷ []) ∵ fsplit ! $ drop ! $ use1 𝓛 (‵ (noted R c (slice_get xs at))) (one_of_all cells xs at c e) $ done !

  -- a note of the next cell
  pub all_snoc : (cells : List ℕ) (xs : List R.Denot) (c : ℕ) (x : R.Denot) → slice_get cells (length xs) ≡ Some c
      → ent 𝓤 (sep 𝓤 (sem 𝓛 (all_noted R cells xs)) (sem 𝓛 (noted R c (Some x)))) (sem 𝓛 (all_noted R cells (xs ++ x ∷ [])))
  all_snoc [] [] c x e = absurd (grind arith)
  all_snoc (b ∷ cells) [] c x e = qed 𝓛 (‵ ftrue ∷ ‵ (noted R c (Some x)) ∷ []) ∵ move ! (1 ∷ 0 ∷ []) $ use1 𝓛 (‵ (noted R b (Some x))) (subst (λ (k : ℕ). ent 𝓤 (sem 𝓛 (noted R c (Some x))) (sem 𝓛 (noted R k (Some x)))) (sym (ap (λ (o : Option ℕ). unwrap_or o 0) e)) (id⊢ 𝓤 _)) $ fjoin ! $ done !
  all_snoc [] (y ∷ ys) c x e = via 𝓤 _ (fst∗ 𝓤 (never 𝓤) (sem 𝓛 (noted R c (Some x)))) (never_e 𝓤 _)
  all_snoc (b ∷ cells) (y ∷ ys) c x e = qed 𝓛 (‵ (all_noted R (b ∷ cells) (y ∷ ys)) ∷ ‵ (noted R c (Some x)) ∷ []) ∵ fsplit ! $ move ! (1 ∷ 2 ∷ []) $
      use2 𝓛 (‵ (all_noted R cells (ys ++ x ∷ []))) (all_snoc cells ys c x e) $ move ! (1 ∷ 0 ∷ []) $ fjoin ! $ done !

  -- over notes, the machine value of a `KnownPrefix` is a `KnownPrefix`
  pub prefix_made : (cells : List ℕ) (xs : List R.Denot) → ent 𝓤 (sem 𝓛 (all_noted R cells xs)) (sem 𝓛 ((KnownPrefix.the_row R).own_val (record { marker = record {}; row = cells; seen = xs }) (token ∷ [])))
  prefix_made cells xs = let F = (Struct (shape (KnownPrefix.the_type R))).own_val (tt, tt) (token ∷ []) in
      qed 𝓛 (‵ (all_noted R cells xs) ∷ []) ∵ use0 𝓛 (‵ F) (makes_shadow 𝓛 F (λ vss. (tt, ((λ uss. (tt, tt)), tt))) ((vstruct vnil ∷ [], tt), (refl, ((tt, (refl, tt)), tt)))) $ done !
