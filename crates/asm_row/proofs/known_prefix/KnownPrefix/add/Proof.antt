-- `add` takes one more note into a token: the note behind the one `&mut` is opened, copied and shut as it was, and the token behind the other is shut with the copy beside its own notes.
use Rattle.std.proofs.Common.{◌≡◌, ℕ, List, [], ◌∷◌, ◌++◌, length, slice_get, IfSome, IsSome, refl, sym, subst}
use mir.Syntax.{a_type, named}
use mir.Val.{Val, vunit, vptr}
use mir.MapTy.{inst_fn}
use base.Logic.{SProp, emp, apply∗, all, all_e}
use base.Fml.{Lft, Share, Fml, ftrue, fsep, flft}
use types.Logic.{sem}
use types.Kit.{‵, raw, ◌⊛◌, later, ◌$◌, ◌∵◌, !, qed, by, move, keep, use0, use1, use2, split, join, fsplit, fsplit3, fjoin, fjoin3, await, rewrite, feq_i}
use types.Run.{of_opd, unit_lit, returns, enter}
use types.ByLocal.{alloc_all, pass_all, free_all, look_at, sets}
use contract.Monad.{fact, fact_i}
use contract.Running.{tables}
use denote.RattleType.{RattleType, owns}
use denote.Signature.{types_at, plain}
use denote.Ref.{mut_vals, mut_Tells}
use denote.Steps.{nothing, heard, opens, closes}
use denote.Param.{param, layouts}
use denote.Triple.Walked.{Stays, stay_ref, walk_of, Goes-ref}
use Rattle.std.proofs.raw_atomic.Walks.{proved, leaves}
use Rattle.std.specs.declared.option.Option.{Option}
use Rattle.std.specs.declared.option.Option.TheVariants.{None, Some}
use Rattle.once_cell.specs.Once.{noted}
use Rattle.once_cell.proofs.Notes as notes
use Rattle.once_cell.proofs.Notes.{Note}
use Rattle.asm_row.specs.KnownPrefix.{all_noted}
use Rattle.asm_row.specs.contracts.known_prefix.KnownPrefix as KnownPrefix
use Rattle.asm_row.proofs.Notes.{all_snoc}
use Rattle.asm_row.specs.contracts.known_prefix.KnownPrefix.add.{ended, clauses}
use Rattle.asm_row.specs.contracts.known_prefix.KnownPrefix.add.Key.{name as #self}
use Rattle.asm_row.proofs.known_prefix.KnownPrefix.add.Statement.{statement}
use Rattle.asm_row.proofs.known_prefix.KnownPrefix.add.Code as code

-- the value of an option that has one
some_of : {X : Type 0} (k : Option X) → IsSome k → (x : X) × (k ≡ Some x)
some_of None is = absurd cc
some_of (Some x) is = (x, refl)

pub add_spec : {M : Type 1} → statement M
add_spec 𝓤 𝓛 𝓜 𝓡 wired T L =
    let H = 𝓛.H in
    let 𝓣 = tables 𝓤 H 𝓜 𝓡 𝓡.env in
    let R : RattleType = param 0 T in
    let En = ended T in
    let c = clauses T 𝓛 𝓜.mem 𝓡.returns in
    let inst = layouts (a_type ∷ []) (T, tt) in
    let fn = inst_fn inst code.function in
    let S : RattleType = KnownPrefix.the_row R in
    let hs : Stays En.signature.params En.kept = (stay_ref (0 ∷ []) tt (plain (λ _. S)), (stay_ref (1 ∷ []) tt (plain (λ _. Note 𝓛 R)), tt)) in
    proved 𝓛 En hs c 𝓜 𝓡 (Goes-ref 𝓛 3 0 tt (plain (λ _. S)), (Goes-ref 𝓛 3 1 tt (plain (λ _. Note 𝓛 R)), tt)) (#self inst) fn (code.unfolded 𝓤 H 𝓜 𝓡 wired (T, tt))
    (λ κs. (mut_vals, (mut_vals, tt))) (λ κs. (mut_Tells (named 0) κs.0 S, (mut_Tells (named 1) κs.1.0 (Note 𝓛 R), tt))) (λ κs qs bounds a gh are.
    let m = a.0 in
    let b : ℕ = m.ref_ptr.0 in
    let o : ℕ = m.ref_ptr.1 in
    let p : Val = vptr b o in
    let me : S.Denot = m.now in
    let m' = a.1.0 in
    let b' : ℕ = m'.ref_ptr.0 in
    let o' : ℕ = m'.ref_ptr.1 in
    let p' : Val = vptr b' o' in
    let n = m'.now in
    let κ : Lft = κs.1.0 in
    let q : Share = qs.1.0 in
    let ν : ℕ = m'.ghost_name in
    let Shuts = notes.Shuts 𝓛 R κ q b' o' ν in
    let N : Fml = noted R n.cell n.known in
    let y : (walk_of 𝓛 En hs c).Ghost = ((κs, qs, bounds, a, (p ∷ [], (p' ∷ [], tt))), gh) in
    let Post : Val → SProp 𝓤 = (walk_of 𝓛 En hs c).post y in
    -- what is held on entry: the lifetimes, the arguments, that the note is of the next cell, and that it knows an entry
    qed 𝓛 (((‵ (flft κs.0 qs.0) ⊛ (‵ (flft κ q) ⊛ ‵ (fsep (flft κs.1.1.0 qs.1.1.0) ftrue))) ⊛ ‵ (owns (types_at En.signature.params κs) a y.0.4)) ∷ raw (fact 𝓤 _) ∷ raw (fact 𝓤 (slice_get me.row (length me.seen) ≡ Some n.cell)) ∷ raw (fact 𝓤 (IsSome n.known)) ∷ []) ∵
    keep ! (2 ∷ 3 ∷ 0 ∷ []) $ heard ! (slice_get me.row (length me.seen) ≡ Some n.cell) (λ is. heard ! (IsSome n.known) (λ some.
    let x : T.Denot = (some_of n.known some).0 in
    let so : n.known ≡ Some x = (some_of n.known some).1 in
    let me' : S.Denot = record { marker = me.marker; row = me.row; seen = me.seen ++ x ∷ [] } in
    let Told : Option T.Denot → Type 0 = λ k. IfSome k (λ z. me'.seen ≡ me.seen ++ z ∷ []) in
    split ! $ split ! $ move ! (1 ∷ []) $ split ! $ move ! (3 ∷ []) $ fsplit3 ! $ fsplit ! $ move ! (2 ∷ []) $ fsplit ! $ keep ! (1 ∷ 5 ∷ 3 ∷ 7 ∷ 6 ∷ []) $
    -- [the lent note; the token of its lifetime; the lent `KnownPrefix`; the token of its lifetime; the tokens of the others]
    enter ! 𝓣.C 𝓣.Λ fn (p ∷ p' ∷ []) Post $ alloc_all ! (λ l. pass_all ! refl ((tt, tt), ((tt, tt), tt)) $
    -- the note is opened, copied, and shut as it was
    use2 𝓛 (later (‵ N ⊛ raw (all 𝓤 Shuts))) (notes.note_opens 𝓛 R κ q b' o' ν n) $ await ! tt $ split ! $ use1 𝓛 (‵ N ⊛ ‵ N) (notes.noted_twice 𝓛 R n.cell n.known) $ split ! $ move ! (2 ∷ []) $ use1 𝓛 (raw (Shuts n)) (all_e 𝓤 Shuts n) $ move ! (1 ∷ 0 ∷ []) $
    use2 𝓛 (later (‵ (notes.lent 𝓛 R κ q b' o' ν n) ⊛ ‵ (flft κ q))) (apply∗ 𝓤 (sem 𝓛 N) _) $ await ! tt $ split ! $ feq_i ! (List Val) (p' ∷ []) (p' ∷ []) refl $ fjoin ! $
    -- the `KnownPrefix` is opened, and shut with the copy as its last note
    move ! (2 ∷ []) $ rewrite ! 0 (λ k. ‵ (noted R n.cell k)) so refl $ move ! (3 ∷ 4 ∷ []) $ fsplit ! $
    opens ! tt S b o (λ vs. move ! (1 ∷ []) $ fsplit ! $ move ! (1 ∷ 6 ∷ []) $ use2 𝓛 (‵ (all_noted R me.row me'.seen)) (all_snoc 𝓛 R me.row me.seen n.cell x is) $ move ! (1 ∷ 0 ∷ []) $ fjoin ! $ move ! (1 ∷ 0 ∷ 2 ∷ 3 ∷ 4 ∷ []) $ closes ! tt S me' vs b o $
    feq_i ! (List Val) (p ∷ []) (p ∷ []) refl $ fjoin3 ! $ nothing ! $ move ! (3 ∷ 0 ∷ []) $ fjoin ! $ move ! (1 ∷ 0 ∷ []) $ fjoin ! $ move ! (2 ∷ 3 ∷ []) $ join ! $ move ! (2 ∷ []) $ join ! $
    -- the body does nothing
    sets ! (of_opd ! (unit_lit !)) refl (tt, tt) $ feq_i ! (List Val) (vunit ∷ []) (vunit ∷ []) refl $
    use0 𝓛 (raw (fact 𝓤 (Told n.known))) (fact_i 𝓤 (Told n.known) (emp 𝓤) (subst Told (sym so) refl)) $ use0 𝓛 (raw (fact 𝓤 (me'.row ≡ me.row))) (fact_i 𝓤 _ (emp 𝓤) refl) $ join ! $
    returns ! (look_at ! 0 refl) $ free_all ! refl $ keep ! (2 ∷ 3 ∷ 1 ∷ 0 ∷ []) $ by ! (leaves 𝓛 En hs c y vunit tt (me', (n, tt)) (tt, (tt, tt))))))))
