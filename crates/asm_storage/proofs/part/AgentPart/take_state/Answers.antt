use Rattle.std.proofs.Common.{◌≤◌, arith, length}
use Rattle.asm_storage.specs.Storage.{machine_of}
use Rattle.asm_storage.proofs.PartInvariant.{following_more, following_other, learnt_part, with_state}
use Rattle.asm_storage.proofs.part.AgentPart.take_state.Goals as goal

pub returns-then-number-clause-part : goal.returns-then-number-clause-part
returns-then-number-clause-part g c =
    let meaning = g.A.Aggregator.meaning in
    let mine = c.args.self.now in
    let theirs = c.args.other.now in
    let learnt = learnt_part meaning c.args.storage.now mine c.learn_from.new.self c.requires.part
    c.learn_from.ensures.kept c.learn_from.ensures.mine in
    let following = following_more (machine_of meaning c.args.storage.now) theirs.progress.seen
    c.learn_from.new.self.seen theirs.state c.learn_from.ensures.theirs c.requires.other.following in
    with_state meaning c.args.storage.now (record mine { progress = c.learn_from.new.self }) theirs.state c.swap.new.x
    learnt c.swap.ensures.x_after following

pub returns-then-number-clause-other : goal.returns-then-number-clause-other
returns-then-number-clause-other g c =
    let meaning = g.A.Aggregator.meaning in
    let mine = c.args.self.now in
    let theirs = c.args.other.now in
    let within : mine.state.number ≤ length theirs.progress.seen =
    omega (arith, c.if-number.true, c.number.ensures, c.number-2.ensures, c.requires.other.following.within) in
    let following = following_other (machine_of meaning c.args.storage.now) mine.progress.seen theirs.progress.seen
    c.learn_from.new.self.seen mine.state c.learn_from.ensures.mine c.learn_from.ensures.theirs within
    c.requires.part.following in
    with_state meaning c.args.storage.now theirs mine.state c.swap.new.y c.requires.other c.swap.ensures.y_after following

pub returns-else-number-clause-part : goal.returns-else-number-clause-part
returns-else-number-clause-part g c =
    learnt_part g.A.Aggregator.meaning c.args.storage.now c.args.self.now c.learn_from.new.self c.requires.part
    c.learn_from.ensures.kept c.learn_from.ensures.mine
