use Rattle.std.proofs.Common.{◌≡◌, ℕ, suc, ◌+◌, ◌<◌, ◌≤◌, inl, inr, length, refl, subst, arith}
use Rattle.asm_storage.specs.Limits.{reads_limit}
use Rattle.asm_play.specs.Trying.{Tried}
use Rattle.asm_play.proofs.Tries.{try_again, try_ended}
use Rattle.asm_play.proofs.player.Player.play_step.Goals as goal

-- the step reads too many locations
pub returns-then-places-gt-READS_LIMIT : goal.returns-then-places-gt-READS_LIMIT
returns-then-places-gt-READS_LIMIT g c =
    let many : reads_limit < length c.reads-places.result.now = omega (arith, c.if-places-gt-READS_LIMIT.true) in
    (c.reads-places.result.now, c.reads-places.ensures, inl (many, refl, refl))

pub loop-tried-init : goal.loop-tried-init
loop-tried-init g c = refl

-- a try ended
pub returns-in-Some : goal.returns-in-Some
returns-in-Some g c =
    let few : length c.reads-places.result.now ≤ reads_limit = omega (arith, c.if-places-gt-READS_LIMIT.false) in
    let ended = try_ended _ _ _ _ _ _ c.reads-places.result.now _ _ refl c.in-Some.is c.in_ok-end.ensures in (
      c.reads-places.result.now,
      c.reads-places.ensures,
      inr (
        few,
        inr (c.loop-tried.tried, c.loop-tried-test.true, c.loop-tried.agent, c.loop-tried.invariant, ended),
      ),
    )

-- it is to be tried again
pub loop-tried-preserved : goal.loop-tried-preserved
loop-tried-preserved g c =
    let again = try_again _ _ _ _ _ _ _ _ refl c.in-None.is c.in_ok-end.ensures in
    let on : suc c.loop-tried.tried ≡ c.loop-tried.tried + 1 = omega arith in
    let meaning = g.A.Aggregator.meaning in
    subst (λ (n : ℕ). Tried meaning (meaning c.args.self.now.aggregator.now) c.args.step.now c.reads-places.result.now n
    c.args.agent.now c.one_try.new.agent) on
    (c.loop-tried.agent, c.loop-tried.invariant, again)

-- it was given up
pub returns : goal.returns
returns g c =
    let few : length c.reads-places.result.now ≤ reads_limit = omega (arith, c.if-places-gt-READS_LIMIT.false) in (
      c.reads-places.result.now,
      c.reads-places.ensures,
      inr (
        few,
        inl (
          refl,
          c.loop-tried.tried,
          omega (arith, c.loop-tried-test.false, c.loop-tried.auto.tried-end),
          c.loop-tried.invariant,
        ),
      ),
    )
