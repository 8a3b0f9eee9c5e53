use Rattle.std.proofs.Common.{List, inr, refl, subst}
use Rattle.asm_state.specs.declared.named.Named.{Named}
use Rattle.asm_storage.specs.Part.{agent_of}
use Rattle.asm_transaction.specs.Record.{IsReading, IsUnvalidated}
use Rattle.asm_transaction.proofs.Recorded.{recorded, unrecorded}
use Rattle.asm_transaction.proofs.transaction.Transaction.commit_recorded_in.Goals as goal

pub returns-clause-records : goal.returns-clause-records
returns-clause-records g c =
    let meaning = g.A.Aggregator.meaning in
    let old = agent_of c.args.storage.now c.args.part.now in
    let mid = agent_of c.args.storage.now c.read_named_in.new.part in
    let new = agent_of c.args.storage.now c.fire_prepared_in.new.part in
    let t = c.args.self.now in
    let o = c.in-Ok.field-0 in
    recorded meaning old mid new t c.args.reads c.args.instrs o c.fire_prepared_in.result c.requires.names c.requires.few c.requires.one
    c.requires.stands
    (subst (λ (rs : List Named). IsReading meaning old mid rs o) c.as_slice.ensures c.in-Ok.ensures.read)
    c.fire_prepared_in.ensures.once
    c.fire_prepared_in.ensures.commits

pub returns-in-Err-clause-records : goal.returns-in-Err-clause-records
returns-in-Err-clause-records g c =
    let old = agent_of c.args.storage.now c.args.part.now in
    let new = agent_of c.args.storage.now c.read_named_in.new.part in
    inr (
      c.in-Err.error,
      refl,
      unrecorded old new c.args.self.now c.args.reads c.in-Err.error c.requires.names
          (subst (λ (rs : List Named). IsUnvalidated old new rs c.in-Err.error) c.as_slice.ensures c.in-Err.ensures.refused),
    )
