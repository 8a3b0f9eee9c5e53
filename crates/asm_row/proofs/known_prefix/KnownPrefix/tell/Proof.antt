-- `tell` writes into a note what is known of its cell: the note behind the `&mut` is opened, and shut with another value.
use Rattle.std.proofs.Common.{◌≡◌, ℕ, List, [], ◌∷◌, slice_get, refl, w64}
use mir.Syntax.{a_type, named}
use mir.Val.{Val, vunit, vint, vptr}
use mir.MapTy.{inst_fn}
use base.Logic.{SProp, emp, apply∗, all, all_e}
use base.Fml.{Lft, Share, Fml, ftrue, fsep, flft}
use types.Logic.{sem}
use types.Kit.{‵, raw, ◌⊛◌, later, ◌$◌, ◌∵◌, !, qed, by, move, keep, drop, use0, use1, use2, split, join, fsplit, fsplit3, fjoin, await, feq_i}
use types.Run.{of_opd, unit_lit, returns, enter}
use types.ByLocal.{alloc_all, pass_all, free_all, look_at, sets}
use contract.Monad.{fact, fact_i}
use contract.Running.{tables}
use denote.Exit.{yes}
use denote.RattleType.{RattleType, owns}
use denote.Signature.{types_at, plain}
use denote.Builtin.{RefOf, usize}
use denote.Opens.{unhide}
use denote.Plain.{uint_vals, uint_Tells}
use denote.Ref.{mut_vals, mut_Tells, shr_vals, shr_Tells}
use denote.Steps.{nothing, heard}
use denote.Param.{param, layouts}
use denote.Triple.Walked.{Stays, stay_dropped, stay_ref, walk_of, Goes-dropped, Goes-ref}
use Rattle.std.proofs.raw_atomic.Walks.{proved, leaves}
use Rattle.std.specs.declared.option.Option.TheVariants.{Some}
use Rattle.once_cell.specs.Once.{noted}
use Rattle.once_cell.proofs.Notes as notes
use Rattle.once_cell.proofs.Notes.{Note}
use Rattle.asm_row.specs.contracts.known_prefix.KnownPrefix as KnownPrefix
use Rattle.asm_row.proofs.Notes.{one_of_all}
use Rattle.asm_row.specs.contracts.known_prefix.KnownPrefix.tell.{ended, clauses}
use Rattle.asm_row.specs.contracts.known_prefix.KnownPrefix.tell.Key.{name as #self}
use Rattle.asm_row.proofs.known_prefix.KnownPrefix.tell.Statement.{statement}
use Rattle.asm_row.proofs.known_prefix.KnownPrefix.tell.Code as code

pub tell_spec : {M : Type 1} → statement M
tell_spec 𝓤 𝓛 𝓜 𝓡 wired T L =
    let H = 𝓛.H in
    let 𝓣 = tables 𝓤 H 𝓜 𝓡 𝓡.env in
    let R : RattleType = param 0 T in
    let En = ended T in
    let c = clauses T 𝓛 𝓜.mem 𝓡.returns in
    let inst = layouts (a_type ∷ []) (T, tt) in
    let fn = inst_fn inst code.function in
    let S : RattleType = KnownPrefix.the_row R in
    let self = RefOf (0 ∷ []) tt (plain (λ _. S)) (λ _. tt) in
    let hs : Stays En.signature.params En.kept = (stay_dropped self yes, (stay_dropped (plain (λ _. usize)) yes, (stay_ref (1 ∷ []) tt (plain (λ _. Note 𝓛 R)), tt))) in
    proved 𝓛 En hs c 𝓜 𝓡 (Goes-dropped 𝓛 3 self yes (λ κs x f. refl), (Goes-dropped 𝓛 3 (plain (λ _. usize)) yes (λ κs x f. refl), (Goes-ref 𝓛 3 1 tt (plain (λ _. Note 𝓛 R)), tt))) (#self inst) fn (code.unfolded 𝓤 H 𝓜 𝓡 wired (T, tt))
    (λ κs. (shr_vals, (uint_vals w64, (mut_vals, tt)))) (λ κs. (shr_Tells (named 0) κs.0 S, (uint_Tells w64, (mut_Tells (named 1) κs.1.0 (Note 𝓛 R), tt)))) (λ κs qs bounds a gh are.
    let p : Val = vptr a.0.ref_ptr.0 a.0.ref_ptr.1 in
    let at : ℕ = a.1.0 in
    let m = a.1.1.0 in
    let b : ℕ = m.ref_ptr.0 in
    let o : ℕ = m.ref_ptr.1 in
    let p' : Val = vptr b o in
    let me : S.Denot = a.0.now in
    let n = m.now in
    let n' : (Note 𝓛 R).Denot = record { marker = n.marker; cell = n.cell; known = slice_get me.seen at } in
    let κ : Lft = κs.1.0 in
    let q : Share = qs.1.0 in
    let ν : ℕ = m.ghost_name in
    let Shuts = notes.Shuts 𝓛 R κ q b o ν in
    let N : Fml = noted R n.cell n'.known in
    let y : (walk_of 𝓛 En hs c).Ghost = ((κs, qs, bounds, a, (p ∷ [], (vint w64 at ∷ [], (p' ∷ [], tt)))), gh) in
    let Post : Val → SProp 𝓤 = (walk_of 𝓛 En hs c).post y in
    -- what is held on entry: the lifetimes, the arguments, and that the note is of the cell
    qed 𝓛 (((‵ (flft κs.0 qs.0) ⊛ (‵ (flft κ q) ⊛ ‵ (fsep (flft κs.1.1.0 qs.1.1.0) ftrue))) ⊛ ‵ (owns (types_at En.signature.params κs) a y.0.4)) ∷ raw (fact 𝓤 _) ∷ raw (fact 𝓤 (slice_get me.row at ≡ Some n.cell)) ∷ []) ∵
    keep ! (2 ∷ 0 ∷ []) $ heard ! (slice_get me.row at ≡ Some n.cell) (λ is.
    -- the notes behind the `&` give one of this cell
    split ! $ split ! $ move ! (1 ∷ []) $ split ! $ move ! (3 ∷ []) $ fsplit3 ! $ move ! (1 ∷ []) $ drop ! $ fsplit ! $ drop ! $ unhide ! $ fsplit ! $ drop ! $ use1 𝓛 (‵ N) (one_of_all 𝓛 R me.row me.seen at n.cell is) $
    move ! (1 ∷ []) $ fsplit ! $ fsplit ! $ keep ! (1 ∷ 4 ∷ 3 ∷ 5 ∷ 6 ∷ []) $
    -- [the lent note; the token of its lifetime; what is known of the cell; the tokens of the other lifetimes]
    enter ! 𝓣.C 𝓣.Λ fn (p ∷ vint w64 at ∷ p' ∷ []) Post $ alloc_all ! (λ l. pass_all ! refl ((tt, tt), ((tt, record { fits = are.1.0.1 }), ((tt, tt), tt))) $
    -- the note is opened, and shut with what is known
    use2 𝓛 (later (‵ (noted R n.cell n.known) ⊛ raw (all 𝓤 Shuts))) (notes.note_opens 𝓛 R κ q b o ν n) $ await ! tt $ split ! $ drop ! $ use1 𝓛 (raw (Shuts n')) (all_e 𝓤 Shuts n') $ move ! (1 ∷ 0 ∷ []) $
    use2 𝓛 (later (‵ (notes.lent 𝓛 R κ q b o ν n') ⊛ ‵ (flft κ q))) (apply∗ 𝓤 (sem 𝓛 N) _) $ await ! tt $ split ! $
    feq_i ! (List Val) (p' ∷ []) (p' ∷ []) refl $ fjoin ! $ nothing ! $ move ! (1 ∷ 0 ∷ []) $ fjoin ! $ nothing ! $ fjoin ! $ nothing ! $ fjoin ! $
    move ! (1 ∷ 2 ∷ []) $ join ! $ move ! (2 ∷ []) $ join ! $
    -- the body does nothing
    sets ! (of_opd ! (unit_lit !)) refl (tt, tt) $ feq_i ! (List Val) (vunit ∷ []) (vunit ∷ []) refl $
    use0 𝓛 (raw (fact 𝓤 (n'.known ≡ slice_get me.seen at))) (fact_i 𝓤 _ (emp 𝓤) refl) $ use0 𝓛 (raw (fact 𝓤 (n'.cell ≡ n.cell))) (fact_i 𝓤 _ (emp 𝓤) refl) $ join ! $
    returns ! (look_at ! 0 refl) $ free_all ! refl $ keep ! (2 ∷ 3 ∷ 1 ∷ 0 ∷ []) $ by ! (leaves 𝓛 En hs c y vunit tt (tt, (tt, (n', tt))) (tt, (tt, (tt, tt)))))))
