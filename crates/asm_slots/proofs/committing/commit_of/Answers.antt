use Rattle.std.proofs.Common.{◌∙◌, Err, ap, inr, refl}
use Rattle.std.proofs.lemmas.Result.{err_from_is_err_and}
use Rattle.asm_transaction.specs.Commit.{Commits, IsOneFire}
use Rattle.asm_transaction.specs.Reading.{IsOf}
use Rattle.asm_slots.specs.Commit.{IsLong, IsShort}
use Rattle.asm_slots.specs.Standard.{meaning}
use Rattle.asm_slots.specs.declared.codes.Code.{Code}
use Rattle.asm_slots.specs.declared.codes.Code.TheVariants as code
use Rattle.asm_slots.proofs.ShortLines.{fires_nothing, fires_short, is_long, long_as, short_as}
use Rattle.asm_slots.proofs.committing.commit_of.Goals as goal

pub returns-in_err-instrs-clause-committed : goal.returns-in_err-instrs-clause-committed
returns-in_err-instrs-clause-committed c =
    let p = err_from_is_err_and c.from_residual.result c.from_residual.ensures.1 in
    let a = c.args.agent.now in
    let t = c.args.step.now in
    fires_nothing (λ r. IsOf meaning a t → Commits meaning a a t r) (IsShort t) (IsLong t) a code.Memory _ _ tt (λ of. refl) c.requires
    (p.1 ∙ ap (λ (k : Code). Err k) p.2)

pub returns-in_err-instrs-clause-once : goal.returns-in_err-instrs-clause-once
returns-in_err-instrs-clause-once c =
    let p = err_from_is_err_and c.from_residual.result c.from_residual.ensures.1 in
    let a = c.args.agent.now in
    let t = c.args.step.now in
    fires_nothing (IsOneFire meaning a a t) (IsShort t) (IsLong t) a code.Memory _ _ tt (inr (refl, refl)) c.requires
    (p.1 ∙ ap (λ (k : Code). Err k) p.2)

pub returns-in_err-expect_fire-clause-committed : goal.returns-in_err-expect_fire-clause-committed
returns-in_err-expect_fire-clause-committed c =
    let p = err_from_is_err_and c.from_residual-in_err-expect_fire.result c.from_residual-in_err-expect_fire.ensures.1 in
    let a = c.args.agent.now in
    let t = c.args.step.now in
    let e = c.in_err-expect_fire.field-0.0 in
    let why = long_as c.in_ok-instrs.reads _ c.in_ok-instrs.instrs _ e c.as_slice.ensures c.as_slice-2.ensures c.in_err-expect_fire.ensures in
    fires_nothing (λ r. IsOf meaning a t → Commits meaning a a t r) (IsShort t) (IsLong t) a e _ _
    (is_long t c.in_ok-instrs.reads c.in_ok-instrs.instrs e c.in_ok-instrs.ensures.names c.in_ok-instrs.ensures.one why) (λ of. refl) c.requires
    (p.1 ∙ ap (λ (k : Code). Err k) p.2)

pub returns-in_err-expect_fire-clause-once : goal.returns-in_err-expect_fire-clause-once
returns-in_err-expect_fire-clause-once c =
    let p = err_from_is_err_and c.from_residual-in_err-expect_fire.result c.from_residual-in_err-expect_fire.ensures.1 in
    let a = c.args.agent.now in
    let t = c.args.step.now in
    let e = c.in_err-expect_fire.field-0.0 in
    let why = long_as c.in_ok-instrs.reads _ c.in_ok-instrs.instrs _ e c.as_slice.ensures c.as_slice-2.ensures c.in_err-expect_fire.ensures in
    fires_nothing (IsOneFire meaning a a t) (IsShort t) (IsLong t) a e _ _
    (is_long t c.in_ok-instrs.reads c.in_ok-instrs.instrs e c.in_ok-instrs.ensures.names c.in_ok-instrs.ensures.one why) (inr (refl, refl)) c.requires
    (p.1 ∙ ap (λ (k : Code). Err k) p.2)

pub returns-clause-committed : goal.returns-clause-committed
returns-clause-committed c =
    let a = c.args.agent.now in
    let b = c.commit.new.self in
    let t = c.args.step.now in
    let short = short_as c.in_ok-instrs.reads _ c.in_ok-instrs.instrs _ c.as_slice.ensures c.as_slice-2.ensures c.in_ok-expect_fire.ensures in
    fires_short (λ r. IsOf meaning a t → Commits meaning a b t r) (IsShort t) (IsLong t) a b c.commit.result _ _
    (c.in_ok-instrs.reads, c.in_ok-instrs.instrs, c.in_ok-instrs.ensures.names, c.in_ok-instrs.ensures.one, short) c.commit.ensures.commits c.report.ensures

pub returns-clause-once : goal.returns-clause-once
returns-clause-once c =
    let a = c.args.agent.now in
    let b = c.commit.new.self in
    let t = c.args.step.now in
    let short = short_as c.in_ok-instrs.reads _ c.in_ok-instrs.instrs _ c.as_slice.ensures c.as_slice-2.ensures c.in_ok-expect_fire.ensures in
    fires_short (IsOneFire meaning a b t) (IsShort t) (IsLong t) a b c.commit.result _ _
    (c.in_ok-instrs.reads, c.in_ok-instrs.instrs, c.in_ok-instrs.ensures.names, c.in_ok-instrs.ensures.one, short) c.commit.ensures.once c.report.ensures
