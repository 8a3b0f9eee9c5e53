use Rattle.std.proofs.Common.{◌++◌, take, ◌∙◌}
use Rattle.std.proofs.KnownBytes.{Appends-trans}
use Rattle.asm_element.specs.Tests.{on_err}
use Rattle.asm_driver.proofs.TextPieces.{moved, whole_out, nothing_left, some_out, on_ok}
use Rattle.asm_driver.proofs.ports.output.write_whole.Goals as goal

pub loop-rest-preserved : goal.loop-rest-preserved
loop-rest-preserved g c =
    let was = c.loop-rest.invariant in
    let wrote = c.in_ok-count.ensures in
    record {
      done = was.done ++ take c.in_ok-count.count c.loop-rest.rest.now;
      whole = moved _ _ was.done _ was.whole;
      appended = Appends-trans _ _ _ was.done _ was.appended wrote.bytes;
      same_reference = wrote.same_reference ∙ was.same_reference;
      noted = wrote.noted;
    }

pub returns-clause-ok : goal.returns-clause-ok
returns-clause-ok g c =
    let was = c.loop-rest.invariant in
    on_ok _ (whole_out _ _ _ _ was.done _ was.whole (nothing_left _ c.loop-rest-test.ensures) was.appended c.flush.ensures.bytes)

pub returns-clause-err : goal.returns-clause-err
returns-clause-err g c =
    let was = c.loop-rest.invariant in
    on_err _ (some_out _ _ _ _ was.done _ was.whole was.appended c.flush.ensures.bytes)

pub returns-in_err-count-clause-err : goal.returns-in_err-count-clause-err
returns-in_err-count-clause-err g c =
    let was = c.loop-rest.invariant in
    on_err _ (some_out _ _ _ _ was.done _ was.whole was.appended c.in_err-count.ensures.bytes)
