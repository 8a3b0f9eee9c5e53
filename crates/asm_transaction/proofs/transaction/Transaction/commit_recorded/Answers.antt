use Rattle.std.proofs.Common.{List, inr, refl, subst}
use Rattle.asm_state.specs.declared.named.Named.{Named}
use Rattle.asm_transaction.specs.Commit.{FiresOnce}
use Rattle.asm_transaction.specs.Record.{IsReading, IsUnvalidated}
use Rattle.asm_transaction.proofs.Recorded.{recorded, unprepared, unrecorded}
use Rattle.asm_transaction.proofs.transaction.Transaction.commit_recorded.Goals as goal

pub returns-clause-records : goal.returns-clause-records
returns-clause-records g c =
    let meaning = g.A.Aggregator.meaning in
    let old = c.args.agent.now in
    let mid = c.read_named.new.agent in
    let new = c.fire_prepared.new.agent in
    let t = c.args.self.now in
    let o = c.in-Ok-read_named.field-0 in
    recorded meaning old mid new t c.in-Ok.prepared.1 c.in-Ok.prepared.0 o c.fire_prepared.result c.in-Ok.ensures.names c.in-Ok.ensures.few c.in-Ok.ensures.one
    c.in-Ok.ensures.stands
    (subst (λ (rs : List Named). IsReading meaning old mid rs o) c.as_slice.ensures c.in-Ok-read_named.ensures.read)
    (subst (λ (rs : List Named). FiresOnce meaning mid new t rs c.in-Ok.prepared.0 c.fire_prepared.result) c.as_slice-2.ensures
    c.fire_prepared.ensures.once)
    c.fire_prepared.ensures.commits

pub returns-in-Err-clause-records : goal.returns-in-Err-clause-records
returns-in-Err-clause-records g c =
    inr (c.in-Err.error, refl, unprepared c.args.agent.now c.args.self.now c.in-Err.error c.in-Err.ensures.err)

pub returns-in-Err-read_named-clause-records : goal.returns-in-Err-read_named-clause-records
returns-in-Err-read_named-clause-records g c =
    inr (
      c.in-Err-read_named.error,
      refl,
      unrecorded c.args.agent.now c.read_named.new.agent c.args.self.now c.in-Ok.prepared.1 c.in-Err-read_named.error c.in-Ok.ensures.names
          (subst (λ (rs : List Named). IsUnvalidated c.args.agent.now c.read_named.new.agent rs c.in-Err-read_named.error) c.as_slice.ensures
          c.in-Err-read_named.ensures.refused),
    )
