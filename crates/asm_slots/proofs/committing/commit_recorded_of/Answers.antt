use Rattle.std.proofs.Common.{◌∙◌, ◌⊎◌, Err, List, ap, inl, map, subst}
use Rattle.std.proofs.lemmas.Result.{err_from_is_err_and}
use Rattle.asm_state.specs.declared.named.Named.{Named}
use Rattle.asm_storage.specs.declared.error.FireError.TheVariants as fire_error
use Rattle.asm_transaction.specs.Record.{Records}
use Rattle.asm_slots.specs.AgentAnswers.{IsLongOwnRead}
use Rattle.asm_slots.specs.Commit.{IsLong, IsLongToRecord, IsShortToRecord}
use Rattle.asm_slots.specs.LongLines.{LongOr}
use Rattle.asm_slots.specs.Standard.{meaning}
use Rattle.asm_slots.specs.declared.codes.Code.{Code}
use Rattle.asm_slots.proofs.ShortLines.{fires_nothing, fires_short, is_long, is_long_to_record, long_as, long_or, records_nothing, reports_unrecorded, short_as}
use Rattle.asm_slots.proofs.committing.commit_recorded_of.Goals as goal

pub returns-in-Err : goal.returns-in-Err
returns-in-Err c =
    reports_unrecorded c.args.agent.now c.args.step.now c.in-Err.error _ _ c.in-Err.ensures.err c.report.ensures

pub returns-in_err-expect_fire : goal.returns-in_err-expect_fire
returns-in_err-expect_fire c =
    let p = err_from_is_err_and c.from_residual.result c.from_residual.ensures.1 in
    let a = c.args.agent.now in
    let t = c.args.step.now in
    let e = c.in_err-expect_fire.field-0.0 in
    let reads = c.in-Ok.prepared.1 in
    let move = c.in-Ok.prepared.0 in
    let why = long_as reads _ move _ e c.as_slice.ensures c.as_slice-2.ensures c.in_err-expect_fire.ensures in
    fires_nothing (Records meaning a a t) (IsShortToRecord a t) (IsLong t ⊎ IsLongToRecord a t) a e _ _
    (long_or (IsLong t) _ e (λ long. inl long) (is_long t reads move e c.in-Ok.ensures.names c.in-Ok.ensures.one why))
    (records_nothing a t fire_error.Memory tt) c.requires (p.1 ∙ ap (λ (k : Code). Err k) p.2)

pub returns-in_err-expect_read : goal.returns-in_err-expect_read
returns-in_err-expect_read c =
    let p = err_from_is_err_and c.from_residual-in_err-expect_read.result c.from_residual-in_err-expect_read.ensures.1 in
    let a = c.args.agent.now in
    let t = c.args.step.now in
    let e = c.in_err-expect_read.field-0.0 in
    let reads = c.in-Ok.prepared.1 in
    let move = c.in-Ok.prepared.0 in
    let why = subst (λ (rs : List Named). LongOr (IsLongOwnRead (map (λ r. r.at) rs) a) e) c.as_slice-3.ensures c.in_err-expect_read.ensures in
    fires_nothing (Records meaning a a t) (IsShortToRecord a t) (IsLong t ⊎ IsLongToRecord a t) a e _ _
    (is_long_to_record a t reads move e c.in-Ok.ensures.names c.in-Ok.ensures.one why)
    (records_nothing a t fire_error.Memory tt) c.requires (p.1 ∙ ap (λ (k : Code). Err k) p.2)

pub returns : goal.returns
returns c =
    let a = c.args.agent.now in
    let b = c.commit_recorded.new.self in
    let t = c.args.step.now in
    let reads = c.in-Ok.prepared.1 in
    let move = c.in-Ok.prepared.0 in
    let short = short_as reads _ move _ c.as_slice.ensures c.as_slice-2.ensures c.in_ok-expect_fire.ensures in
    let read = subst (λ (rs : List Named). ¬ IsLongOwnRead (map (λ r. r.at) rs) a) c.as_slice-3.ensures c.in_ok-expect_read.ensures in
    fires_short (Records meaning a b t) (IsShortToRecord a t) (IsLong t ⊎ IsLongToRecord a t) a b c.commit_recorded.result _ _
    (reads, move, c.in-Ok.ensures.names, c.in-Ok.ensures.one, (short, read)) c.commit_recorded.ensures c.report-2.ensures
