use Rattle.std.proofs.Common.{◌≡◌, List, length, Option, Ok, Some, ap, sym, ◌∙◌, subst}
use Rattle.asm_update.specs.Aggregator.{Meaning}
use Rattle.asm_update.specs.Move.{Move}
use Rattle.asm_update.specs.State.{State}
use Rattle.asm_state.specs.FollowsFrom.{FollowsFrom}
use Rattle.asm_state.specs.declared.named.Named.{Named}
use Rattle.asm_state.specs.declared.verdict.Objection.{Objection}
use Rattle.asm_state.specs.Verdict.{IsObjection}
use Rattle.asm_storage.specs.declared.part.AgentPart.{AgentPart}
use Rattle.asm_storage.specs.Agents.{moves_seen}
use Rattle.asm_storage.specs.Part.{IsPartOf}
use Rattle.asm_storage.specs.Storage.{StorageView, machine_of}
use Rattle.asm_storage.proofs.PartInvariant.{stands_for_all}
use Rattle.asm_storage.proofs.part.AgentPart.stale_read.Goals as goal

-- the objection that the state tells, by the aggregator that it was handed
reported : {A : Type 0} (meaning : A → Meaning) (s : StorageView A) (p : AgentPart) (given : A) (reads : List Named) (M : Move)
    (o is : Option Objection) → IsPartOf meaning s p → p.state.number ≡ length p.progress.seen → given ≡ s.agg →
    ((init : State) (q : List Move) → FollowsFrom (meaning given).part init p.state q →
    IsObjection (meaning given).part init q reads M (Ok o)) → o ≡ is →
    IsObjection (meaning s.agg).part s.init (moves_seen p.progress.seen) reads M (Ok is)
reported meaning s p given reads M o is part level handed objects same =
    let stands = stands_for_all (machine_of meaning s) p.progress.seen p.state part.following level in
    subst (λ o. IsObjection (meaning s.agg).part s.init (moves_seen p.progress.seen) reads M (Ok o)) same
    (subst (λ a. (init : State) (q : List Move) → FollowsFrom (meaning a).part init p.state q →
    IsObjection (meaning a).part init q reads M (Ok o))
    handed objects s.init (moves_seen p.progress.seen) stands)

pub returns-in-Some-Stale : goal.returns-in-Some-Stale
returns-in-Some-Stale g c =
    sym (reported g.A.Aggregator.meaning c.args.storage.now c.args.self.now _ c.args.reads.now _ _ _
    c.requires.part c.requires.level c.aggregator.ensures c.in_ok-at.ensures
    (c.in-Some-Stale.is ∙ ap Some c.in-Some-Stale.field-0-is))

pub returns-in-Some-Clash : goal.returns-in-Some-Clash
returns-in-Some-Clash g c =
    let clash = reported g.A.Aggregator.meaning c.args.storage.now c.args.self.now _ c.args.reads.now _ _ _
    c.requires.part c.requires.level c.aggregator.ensures c.in_ok-at.ensures
    (c.in-Some-Clash.is ∙ ap Some c.in-Some-Clash.field-0-is) in
    sym clash.0

pub returns : goal.returns
returns g c =
    let fires = reported g.A.Aggregator.meaning c.args.storage.now c.args.self.now _ c.args.reads.now _ _ _
    c.requires.part c.requires.level c.aggregator.ensures c.in_ok-at.ensures c.in-None.is in
    sym fires.0
