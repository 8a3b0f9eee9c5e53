use Rattle.std.proofs.Common.{◌≡◌, true, List, [], ◌∷◌, None, Err, refl, ap, sym, subst, ◌∙◌, length}
use Rattle.std.specs.Prelude.{IsOk, nat_le}
use Rattle.asm_element.specs.Place.{Place}
use Rattle.asm_element.specs.Tests.{both}
use Rattle.asm_update.specs.Fire.{Part, state_of}
use Rattle.asm_update.specs.Move.{Move, all_regular}
use Rattle.asm_update.specs.State.{State}
use Rattle.asm_update.specs.declared.clash.Cause.TheVariants.{Two}
use Rattle.asm_update.proofs.PlainLemmas.{plain_fires, plain_clashes}
use Rattle.asm_state.specs.Verdict.{least_stale}
use Rattle.asm_state.specs.declared.named.Named.{Named}
use Rattle.asm_storage.specs.Limits.{most_plain}
use Rattle.asm_storage.specs.Calls.{is_plain}
use Rattle.asm_storage.proofs.FireTurns.{full_or_none}
use Rattle.asm_storage.proofs.part.judging.judged_plain.Goals as goal

none_stale : (part : Part) (A : State) (q : List Move) (reads : List Named) (M : Move) → is_plain reads M ≡ true →
    least_stale part A q reads ≡ None
none_stale part A q [] M h = refl
none_stale part A q (r ∷ rs) M h = absurd cc

regular : (reads : List Named) (M : Move) → is_plain reads M ≡ true → all_regular M ≡ true
regular [] M h = (both (nat_le (length M) most_plain) (all_regular M) h).1
regular (r ∷ rs) M h = absurd cc

pub returns-in_ok-copy-in-Some : goal.returns-in_ok-copy-in-Some
returns-in_ok-copy-in-Some c = λ part init q. (
  none_stale part init q c.args.reads.now c.args.instrs.now c.requires,
  plain_clashes part (state_of part init q) c.args.instrs.now (regular c.args.reads.now c.args.instrs.now c.requires)
      c.in-Some.at.now c.in-Some.ensures
      ∙ ap (λ (l : Place). Err (record { at = l; cause = Two })) (sym c.in_ok-copy-in-Some.ensures),
)

pub returns-in-None : goal.returns-in-None
returns-in-None c = λ part init q.
    full_or_none part init q c.args.is_full c.args.reads.now c.args.instrs.now c.full_or_none.result
    c.full_or_none.ensures (none_stale part init q c.args.reads.now c.args.instrs.now c.requires)
    (subst IsOk (sym (plain_fires part (state_of part init q) c.args.instrs.now
    (regular c.args.reads.now c.args.instrs.now c.requires) c.in-None.ensures)) refl)
