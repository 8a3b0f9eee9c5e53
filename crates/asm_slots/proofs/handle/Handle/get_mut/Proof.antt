-- `get_mut` lends what is in the box, and the handle follows it: a walk by hand.
use Rattle.std.proofs.Common.{◌≡◌, ℕ, List, [], ◌∷◌, ◌++◌, refl, sym, subst}
use seplogic.Ra.Ura.{Ura}
use base.Fraction.{full_share}
use mir.Syntax.{named}
use mir.Raw.{raw as bare}
use mir.Val.{Val, vptr}
use base.Logic.{SProp, ent, sep}
use base.Fml.{Lft, GName, Share, Fml, ftrue, fsep, flft, fobs, fbor}
use prog.Memory.{Memory}
use prog.Routine.{Routine}
use prog.Wp.{Env, Calls, Loops, WpFn, Tables}
use types.Logic.{Logic, sem}
use contract.Monad.{Fun}
use contract.Running.{tables, tables_of}
use sound.WpLaws.{WpFn-mono}
use types.Kit.{Item, ⋆, ‵, raw, ◌⊛◌, some, later, await, pick, at_ret, ◌$◌, ◌∵◌, !, qed, by, move, keep, use1, split, join, group, rewrite, fsplit, fsplit3, fjoin, fpack, feq_l, suffices, frame, done}
use types.Part.{whole, sub, look_in}
use types.Run.{stop, fld, load, of_opd, addr, first, blocks, exec, returns, enter}
use types.ByLocal.{alloc_all, pass_all, free_all, look_at, get, through, sets, sets_last, env}
use types.SemTy.{Body as Borrowed}
use denote.Exit.{no}
use denote.RattleType.{owns}
use denote.Memory.{mem, cell_at, part_at, part_of, lone}
use denote.RawPtr.{block_ptr}
use denote.Ref.{MutBor, MutRef}
use denote.Signature.{plain, mut_ref_to}
use denote.Steps.{nothing, opens}
use denote.Follow.{follows, Part, lends_Part}
use denote.Triple.Entry.{on_entry}
use denote.Triple.Spec.{Meets, triple_of}
use denote.Triple.Table.{entered}
use denote.Triple.Walked.{says, needs, Stays, stay_dropped, walk_of, ends_at, Goes-spent_ref, walk_Meets}
use Rattle.std_alloc.proofs.VecSteps.Shapes.{after}
use Rattle.std.specs.Prelude.{Some, IsSome}
use Rattle.asm_slots.specs.Lends.{with_value}
use Rattle.asm_slots.proofs.RawBoxValues.{both}
use Rattle.asm_slots.proofs.HandleValues.{R, Z, H as Hd, token, handle_lent, handle_in}
use Rattle.asm_slots.specs.contracts.handle.Handle.get_mut as F
use Rattle.asm_slots.specs.contracts.handle.Handle.get_mut.Key.{name as #self}
use Rattle.asm_slots.proofs.handle.Handle.get_mut.Statement as stated
use Rattle.asm_slots.proofs.handle.Handle.get_mut.Code as code

abbrev stayed : Stays F.ended.signature.params F.ended.kept
stayed = (stay_dropped (mut_ref_to (0 ∷ []) tt (plain (λ _. Hd))) no, tt)

module _ {M : Type 1} {𝓤 : Ura M} (𝓛 : Logic 𝓤) (at_mem : Memory → SProp 𝓤) (run : Routine → Fun 𝓤) where
  open 𝓛 use {H, A}

  module _ (C : Calls 𝓤 𝓛.H) (Λ : Loops 𝓤 𝓛.H) (κ : Lft) (q : Share) (rb ro : ℕ) (γ : GName) (d : Hd.Denot) (us0 : List Val) where
    abbrev self : MutBor Hd.Denot
    self = record { ref_ptr = (rb, ro); ghost_name = γ; now = d }

    abbrev bound : (walk_of 𝓛 F.ended stayed (F.clauses 𝓛 at_mem run)).Ghost
    bound = (((κ, tt), (q, tt), tt, (self, tt), (us0, tt)), tt)

    abbrev Post : Val → SProp 𝓤
    Post = (walk_of 𝓛 F.ended stayed (F.clauses 𝓛 at_mem run)).post bound

    module _ (b o : ℕ) (h : Val) where
      -- all but the value
      abbrev Rest : Fml
      Rest = fsep (fsep (token d.alloc (bare (lone R.mir)) (block_ptr b o)) (Z.own_val d.alloc (h ∷ []))) (cell_at full_share Hd.mir (both (vptr b o) h ∷ []) rb ro)

      back : d.at ≡ block_ptr b o → (w : R.Denot) → ent 𝓤 (sep 𝓤 (sem 𝓛 ((mem R).own_at w b o)) (sem 𝓛 Rest)) (sem 𝓛 ((mem Hd).own_at (with_value d w) rb ro))
      unfolding part_of
      back e w =
          qed 𝓛 (‵ (part_at R full_share w b o) ∷ ‵ Rest ∷ []) ∵ move ! (1 ∷ []) $ fsplit ! $ fsplit ! $ move ! (3 ∷ 0 ∷ []) $ fjoin ! $
          handle_in ! (block_ptr b o) h d.alloc (Some w) $
          rewrite ! 0 (λ p. ‵ (Hd.own_val (record { at = p; alloc = d.alloc; value = Some w }) (both (vptr b o) h ∷ []))) (sym e) refl $ move ! (1 ∷ 0 ∷ []) $ fjoin ! $
          fpack ! (List Val) (λ us. fsep (cell_at full_share Hd.mir us rb ro) (Hd.own_val (with_value d w) us)) (both (vptr b o) h ∷ []) $ done !

    exits : (v : Val) (r : MutBor R.Denot) → d.value ≡ Some r.now
        → ent 𝓤 (sep 𝓤 (sem 𝓛 ((MutRef (named 0) κ R).own_val r (v ∷ []))) (sep 𝓤 (A.lft κ q) (sem 𝓛 (follows Hd R γ r.ghost_name (with_value d))))) (Post v)
    exits v r e =
        qed 𝓛 (‵ ((MutRef (named 0) κ R).own_val r (v ∷ [])) ∷ ‵ (flft κ q) ∷ ‵ (follows Hd R γ r.ghost_name (with_value d)) ∷ []) ∵
        suffices ! _ (ends_at 𝓛 F.ended stayed (F.clauses 𝓛 at_mem run) bound v r (tt, tt) (tt, tt)) $
        nothing ! $ nothing ! $ fjoin ! $ join ! $ nothing ! $ move ! (2 ∷ 0 ∷ []) $ join ! $ join ! $ frame ! $ says ! e $ done !

    abbrev Had : List (Item 𝓤)
    Had = ‵ (fobs γ (Hd.coded.code d)) ∷ ‵ (fbor κ (Borrowed (mem Hd) rb ro γ)) ∷ ‵ (flft κ q) ∷ []

    walk : IsSome d.value → ent 𝓤 (⋆ 𝓛 Had) (WpFn 𝓤 H C Λ code.function (vptr rb ro ∷ []) Post)
    walk is =
        let code_of = Hd.coded.code d in let fn = code.function in
        qed 𝓛 Had ∵ enter ! C Λ fn (vptr rb ro ∷ []) _ $ alloc_all ! (λ l. pass_all ! refl ((tt, tt), tt) $
        let En : Env 𝓤 H = env fn.locals l in
        opens ! tt Hd {h = d} rb ro (λ vs. move ! (1 ∷ []) $ handle_lent ! d vs is (λ b o h x e ex ws fits. fsplit ! $ move ! (1 ∷ 2 ∷ []) $ fjoin ! $ move ! (1 ∷ []) $
        rewrite ! 2 (λ (us : List Val). ‵ (cell_at full_share Hd.mir us rb ro)) ws refl $
        first ! $ blocks ! $
        sets ! (of_opd ! (load ! (through ! refl (fld ! refl (stop !))) (look_in ! 2 (sub ! 0 refl (whole !))))) refl (tt, tt) $
        sets ! (of_opd ! (get ! refl)) refl (tt, tt) $
        sets_last ! (addr ! (through ! refl (stop !))) refl (tt, tt) $
        exec ! C Λ En (after 1 fn.body) (at_ret En Post) $
        sets ! (of_opd ! (get ! refl)) refl (tt, tt) $
        move ! (1 ∷ 2 ∷ []) $ fjoin ! $ move ! (2 ∷ 3 ∷ 4 ∷ 1 ∷ 0 ∷ []) $ group ! 5 $
        use1 𝓛 (later (some (λ (δ : GName). raw (Part 𝓛 Hd R (with_value d) (named 0) κ q rb ro b o γ (sem 𝓛 (Rest b o h)) (back b o h e) x δ))))
        (lends_Part 𝓛 Hd R (with_value d) (named 0) κ q rb ro b o γ (sem 𝓛 (Rest b o h)) (back b o h e) code_of code_of x) $ await ! tt $ pick ! (λ δ.
        returns ! (look_at ! 0 refl) $ free_all ! refl $ keep ! (0 ∷ []) $ by ! (exits (vptr b o) (record { ref_ptr = (b, o); ghost_name = δ; now = x }) ex)))))

    entry : IsSome d.value → ent 𝓤 (on_entry 𝓛 F.signature (κ, tt) (q, tt) (self, tt) (us0, tt)) (WpFn 𝓤 H C Λ code.function (us0 ++ []) Post)
    entry is =
        qed 𝓛 ((‵ (flft κ q) ⊛ ‵ ftrue) ∷ ‵ (owns (MutRef (named 0) κ Hd ∷ []) (self, tt) (us0, tt)) ∷ []) ∵
        split ! $ move ! (2 ∷ []) $ fsplit ! $ fsplit3 ! $ feq_l ! (λ e0.
        keep ! (0 ∷ 1 ∷ 3 ∷ []) $ by ! (subst (λ (ws : List Val). ent 𝓤 (⋆ 𝓛 Had) (WpFn 𝓤 H C Λ code.function (ws ++ []) Post)) (sym e0) (walk is)))

  meets : (𝓣 : Tables 𝓤 H) → Meets 𝓛 F.signature (WpFn 𝓤 H 𝓣.C 𝓣.Λ code.function) (F.spec 𝓛 at_mem run)
  meets 𝓣 =
      walk_Meets 𝓛 F.ended stayed (Goes-spent_ref 𝓛 1 (0 ∷ []) tt (plain (λ _. Hd)), tt) (F.clauses 𝓛 at_mem run) (WpFn 𝓤 H 𝓣.C 𝓣.Λ code.function) (WpFn-mono 𝓤 H 𝓛.laws 𝓣 code.function)
      (λ z. needs 𝓤 (IsSome z.0.3.0.now.value) _ (entry 𝓣.C 𝓣.Λ z.0.0.0 z.0.1.0 z.0.3.0.ref_ptr.0 z.0.3.0.ref_ptr.1 z.0.3.0.ghost_name z.0.3.0.now z.0.4.0))

pub get_mut_spec : {M : Type 1} → stated.statement M
unfolding tables_of
get_mut_spec 𝓤 𝓛 𝓜 𝓡 wired =
    let 𝓣 : Tables 𝓤 𝓛.H = tables_of 𝓤 𝓛.H 𝓜 (tables 𝓤 𝓛.H 𝓜 𝓡 𝓡.env) in
    entered 𝓤 𝓛.H (triple_of 𝓛 F.signature (F.spec 𝓛 𝓜.mem 𝓡.returns)) 𝓣.C 𝓣.Λ #self code.function (code.unfolded 𝓤 𝓛.H 𝓜 𝓡 wired) (meets 𝓛 𝓜.mem 𝓡.returns 𝓣)
