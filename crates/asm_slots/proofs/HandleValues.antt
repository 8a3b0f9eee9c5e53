-- The machine values of a handle. Assumes `Logic`.
use Rattle.std.proofs.Common.{◌≡◌, ℕ, List, [], ◌∷◌, ◌++◌, refl, sym, subst}
use mathlib.Core.Bool.{true≢false}
use seplogic.Ra.Ura.{Ura}
use mir.Syntax.{Ty, impl, tnil, dnil}
use mir.Raw.{raw as bare}
use mir.Val.{Val, vptr, vstruct, of_list, has_ty}
use base.Logic.{never, fst∗}
use base.Fml.{Fml}
use types.Logic.{Logic, sem}
use types.Kit.{Item, Goal, Seq, Step, step, ‵, ◌$◌, move, drop, fsplit, fjoin, fpick, fpack, feq_i, feq_l}
use denote.RattleType.{RattleType, Valss}
use denote.Builtin.{RawPtr}
use denote.Memory.{lone}
use denote.RawPtr.{Ptr, block_ptr, null_ptr, ptr_val, in_a_block}
use denote.Steps.{nothing}
use denote.Param.{layout}
use denote.Struct.Struct.{within}
use denote.Struct.Owning.{shape}
use Rattle.core.proofs.alloc.Calls.{Al, handle_tells}
use Rattle.core.proofs.cell.Inside.{Good}
use Rattle.core.proofs.atomic.Steps.{Ptr-Good}
use Rattle.std.specs.Prelude.{Option, None, Some, IsSome}
use Rattle.std.specs.contracts.alloc.Global as heap
use Rattle.std.proofs.alloc.Global.TheLaws as heap_laws
use Rattle.std.specs.contracts.impls.GlobalAllocator.TheImpl.{ghosts}
use Rattle.std_alloc.specs.Box.Ownership.{box_owns}
use Rattle.asm_slots.proofs.RawBoxValues.{both, both_tt}
use Rattle.asm_slots.specs.BoxedContent.{option_box_owns}
use Rattle.asm_slots.specs.contracts.content.Content as inner
use Rattle.asm_slots.specs.contracts.handle.Handle as handle

abbrev pub R : RattleType
R = inner.the_row

abbrev pub Z : RattleType
Z = heap.the_row

abbrev pub H : RattleType
H = handle.the_row

abbrev pub heap_al : Al
heap_al = record { row = Z; laws = heap_laws.the_row_laws; g = ghosts; d = impl [] tnil dnil; drops = impl [] tnil dnil }

abbrev pub token : Z.Denot → Ty → Ptr → Fml
token = ghosts.dealloc_token

pub handle_good : (p : Ptr) (h : Val) → Good (layout Z) h → Good (layout H) (both (ptr_val p) h)
handle_good p h fits = let g = Ptr-Good p in (both_tt _ (has_ty (layout Z) h) g.0 fits.0, (g.1, (fits.1, tt)))

module _ {M : Type 1} {𝓤 : Ura M} {𝓛 : Logic 𝓤} {K : Type 0} {Γ : List (Item 𝓤)} {G : Goal 𝓤 𝓛.H} where
  pub handle_in : K → (p : Ptr) (h : Val) (a : Z.Denot) (x : Option R.Denot)
      → Step K 𝓛 (‵ (H.own_val (record { at = p; alloc = a; value = x }) (both (ptr_val p) h ∷ [])) ∷ Γ) G (‵ (option_box_owns (token a) p x) ∷ ‵ (Z.own_val a (h ∷ [])) ∷ Γ) G
  handle_in t p h a x = step (λ s. let v : Val = both (ptr_val p) h in
      nothing t $ move t (2 ∷ 0 ∷ []) $ fjoin t $ feq_i t (List Val) (ptr_val p ∷ []) (ptr_val p ∷ []) refl $ fjoin t $ feq_i t (List Val) (v ∷ []) (v ∷ []) refl $ fjoin t $
      fpack t (Valss (RawPtr ∷ (heap.the_field).row ∷ [])) (within (shape handle.the_type) (p, ((heap.the_field).into a, tt)) (v ∷ [])) (ptr_val p ∷ [], (h ∷ [], tt)) $ fjoin t $ s)

  full_at : K → (a : Z.Denot) (p : Ptr) (y : Option R.Denot) → IsSome y
      → ((b o : ℕ) (x : R.Denot) → p ≡ block_ptr b o → y ≡ Some x → Seq K 𝓛 (‵ (box_owns (token a) R (block_ptr b o) x) ∷ Γ) G)
      → Seq K 𝓛 (‵ (option_box_owns (token a) p y) ∷ Γ) G
  full_at t a p None is k = absurd (true≢false (sym is))
  full_at t a p (Some x) is k =
      in_a_block t p (λ p. box_owns (token a) R p x) (fst∗ 𝓤 (never 𝓤) (sem 𝓛 (token a (bare (lone R.mir)) null_ptr))) (λ b o e. k b o x e refl)

module _ {M : Type 1} {𝓤 : Ura M} {𝓛 : Logic 𝓤} {K : Type 0} {Γ : List (Item 𝓤)} {G : Goal 𝓤 𝓛.H} where
  pub handle_lent : K → (d : H.Denot) (vs : List Val) → IsSome d.value
      → ((b o : ℕ) (h : Val) (x : R.Denot) → d.at ≡ block_ptr b o → d.value ≡ Some x → vs ≡ both (vptr b o) h ∷ [] → Good (layout Z) h → Seq K 𝓛 (‵ (box_owns (token d.alloc) R (block_ptr b o) x) ∷ ‵ (Z.own_val d.alloc (h ∷ [])) ∷ Γ) G)
      → Seq K 𝓛 (‵ (H.own_val d vs) ∷ Γ) G
  handle_lent t d vs is k =
      fsplit t $ fpick t (λ vss. fsplit t $ feq_l t (λ ev. fsplit t $ feq_l t (λ ep. fsplit t $ handle_tells heap_al t d.alloc vss.1.0 (λ h ea fits. move t (1 ∷ []) $ drop t $ move t (1 ∷ []) $
      full_at t d.alloc d.at d.value is (λ b o x e ex. k b o h x e ex
      (subst (λ (p : Ptr). vs ≡ vstruct (of_list (ptr_val p ∷ h ∷ [])) ∷ []) e
      (subst (λ (ws : List Val). vs ≡ vstruct (of_list (ptr_val d.at ∷ (ws ++ []))) ∷ []) ea (subst (λ (ps : List Val). vs ≡ vstruct (of_list (ps ++ (vss.1.0 ++ []))) ∷ []) ep ev))) fits)))))

  pub handle_out : K → (d : H.Denot) (vs : List Val) → IsSome d.value
      → ((b o : ℕ) (h : Val) (x : R.Denot) → d.value ≡ Some x → vs ≡ both (vptr b o) h ∷ [] → Good (layout Z) h → Seq K 𝓛 (‵ (box_owns (token d.alloc) R (block_ptr b o) x) ∷ ‵ (Z.own_val d.alloc (h ∷ [])) ∷ Γ) G)
      → Seq K 𝓛 (‵ (H.own_val d vs) ∷ Γ) G
  handle_out t d vs is k = handle_lent t d vs is (λ b o h x e. k b o h x)
