-- `nothing` makes a token that owns no note.
use Rattle.std.proofs.Common.{◌≡◌, ℕ, List, [], ◌∷◌, refl}
use mir.Syntax.{a_type, named}
use mir.Val.{Val, vptr}
use mir.MapTy.{inst_fn}
use base.Logic.{SProp, emp, id⊢}
use types.Kit.{‵, raw, ◌⊛◌, ◌$◌, ◌∵◌, !, qed, by, keep, use0, use1, split, fjoin}
use types.Run.{no_more, and_then, returns, enter}
use types.ByLocal.{alloc_all, pass_all, free_all, look_at, get, sets}
use types.Part.{agg}
use contract.Monad.{fact, fact_i}
use contract.Running.{tables}
use denote.Exit.{yes}
use denote.RattleType.{RattleType, owns}
use denote.Signature.{types_at, plain}
use denote.Builtin.{RefOf}
use denote.Ref.{shr_vals, shr_Tells}
use denote.Steps.{nothing}
use denote.Param.{param, layouts}
use denote.Triple.Entry.{alive}
use denote.Triple.Walked.{Stays, stay_dropped, walk_of, Goes-dropped}
use Rattle.std.proofs.raw_atomic.Walks.{proved, leaves}
use Rattle.asm_row.specs.KnownPrefix.{all_noted}
use Rattle.asm_row.specs.contracts.row.Row as Row
use Rattle.asm_row.specs.contracts.known_prefix.KnownPrefix as KnownPrefix
use Rattle.asm_row.proofs.Notes.{token, prefix_made}
use Rattle.asm_row.specs.contracts.known_prefix.KnownPrefix.nothing.{ended, clauses}
use Rattle.asm_row.specs.contracts.known_prefix.KnownPrefix.nothing.Key.{name as #self}
use Rattle.asm_row.proofs.known_prefix.KnownPrefix.nothing.Statement.{statement}
use Rattle.asm_row.proofs.known_prefix.KnownPrefix.nothing.Code as code

pub nothing_spec : {M : Type 1} → statement M
nothing_spec 𝓤 𝓛 𝓜 𝓡 wired T L =
    let H = 𝓛.H in
    let 𝓣 = tables 𝓤 H 𝓜 𝓡 𝓡.env in
    let R : RattleType = param 0 T in
    let En = ended T in
    let c = clauses T 𝓛 𝓜.mem 𝓡.returns in
    let inst = layouts (a_type ∷ []) (T, tt) in
    let fn = inst_fn inst code.function in
    let S : RattleType = KnownPrefix.the_row R in
    let row = RefOf (0 ∷ []) tt (plain (λ _. Row.the_row R)) (λ _. tt) in
    let hs : Stays En.signature.params En.kept = (stay_dropped row yes, tt) in
    proved 𝓛 En hs c 𝓜 𝓡 (Goes-dropped 𝓛 2 row yes (λ κs x f. refl), tt) (#self inst) fn (code.unfolded 𝓤 H 𝓜 𝓡 wired (T, tt))
    (λ κs. (shr_vals, tt)) (λ κs. (shr_Tells (named 0) κs.0 (Row.the_row R), tt)) (λ κs qs bounds a gh are.
    let p : Val = vptr a.0.ref_ptr.0 a.0.ref_ptr.1 in
    let cells : List ℕ = a.0.now in
    let r : S.Denot = record { marker = record {}; row = cells; seen = [] } in
    let Told : Type 0 = (cells ≡ cells) × (r.seen ≡ []) in
    let y : (walk_of 𝓛 En hs c).Ghost = ((κs, qs, bounds, a, (p ∷ [], tt)), gh) in
    let Post : Val → SProp 𝓤 = (walk_of 𝓛 En hs c).post y in
    -- what is held on entry: the lifetimes with the `&`, and nothing that the contract requires
    qed 𝓛 ((raw (alive 𝓛 En.signature κs qs) ⊛ ‵ (owns (types_at En.signature.params κs) a y.0.4)) ∷ raw ((c κs a).requires gh) ∷ []) ∵ split ! $ keep ! (0 ∷ []) $
    -- a token over the notes of no cell
    use0 𝓛 (‵ (all_noted R cells [])) (id⊢ 𝓤 (emp 𝓤)) $ use1 𝓛 (‵ (S.own_val r (token ∷ []))) (prefix_made 𝓛 R cells []) $
    -- the body builds the marker, and the token round it
    enter ! 𝓣.C 𝓣.Λ fn (p ∷ []) Post $ alloc_all ! (λ l. pass_all ! refl ((tt, tt), tt) $
    sets ! (agg ! (no_more !)) refl (tt, tt) $ sets ! (agg ! (and_then ! (get ! refl) (no_more !))) refl (tt, (tt, tt)) $
    -- what the contract ensures, and what the function gives back
    use0 𝓛 (raw (fact 𝓤 Told)) (fact_i 𝓤 Told (emp 𝓤) (refl, refl)) $ nothing ! $ nothing ! $ fjoin ! $
    returns ! (look_at ! 0 refl) $ free_all ! refl $ keep ! (3 ∷ 0 ∷ 2 ∷ 1 ∷ []) $ by ! (leaves 𝓛 En hs c y token r (tt, tt) (tt, tt))))
