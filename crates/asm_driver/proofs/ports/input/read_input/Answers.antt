use Rattle.std.proofs.Common.{◌≡◌, ◌≤◌, ◌+◌, ℕ, List, ◌++◌, length, take, ◌∙◌, arith, rules, length-append}
use Rattle.std.specs.Io.KnownBytes.{Consumes}
use Rattle.std.proofs.KnownBytes.{Consumes-trans}
use Rattle.asm_driver.specs.Ports.{Known, TakesSome}
use Rattle.asm_driver.specs.Limits.{input_limit}
use Rattle.asm_element.specs.Tests.{on_err}
use Rattle.asm_driver.proofs.ports.input.read_input.Goals as goal

pub returns-then-count-len-clause-large : goal.returns-then-count-len-clause-large
returns-then-count-len-clause-large g c =
    λ _.
    let was = c.loop-bytes.invariant in
    let part = take c.in_ok-count.count c.read.new.buffer in
    let size = c.in_ok-count.ensures.bound in
    let room : length c.read.new.buffer ≡ c.min-room.result = search rules in (
      c.loop-bytes.bytes.items ++ part,
      Consumes-trans _ _ _ _ _ was.consumed c.in_ok-count.ensures.bytes.0,
      length-append c.loop-bytes.bytes.items part
          ∙ omega (
            arith,
            room,
            c.min-room.ensures,
            c.len.ensures,
            size.0,
            size.1,
            c.len-in-loop-bytes.ensures,
            c.if-count-len.true,
            was.within,
          ),
    )

-- a part more was taken
more_taken : (old mid new : Known) (bytes part : List ℕ) → Consumes old mid bytes → Consumes mid new part →
    length bytes + length part ≤ input_limit + 1 → TakesSome old new
more_taken old mid new bytes part before now few =
    (bytes ++ part, Consumes-trans old mid new bytes part before now, omega (arith, length-append bytes part, few))

pub returns-then-count-len-clause-some : goal.returns-then-count-len-clause-some
returns-then-count-len-clause-some g c =
    let was = c.loop-bytes.invariant in
    let size = c.in_ok-count.ensures.bound in
    let room : length c.read.new.buffer ≡ c.min-room.result = search rules in
    more_taken _ _ _ _ (take c.in_ok-count.count c.read.new.buffer) was.consumed c.in_ok-count.ensures.bytes.0
    (omega (arith, room, c.min-room.ensures, c.len.ensures, size.0, size.1, was.within))

pub returns-in_err-extend_from_slice-clause-some : goal.returns-in_err-extend_from_slice-clause-some
returns-in_err-extend_from_slice-clause-some g c =
    let was = c.loop-bytes.invariant in
    on_err _
    (more_taken _ _ _ _ (take c.in_ok-count.count c.read.new.buffer) was.consumed c.in_ok-count.ensures.bytes.0
    (omega (arith, c.in_ok-count.ensures.bound.1, c.len-in-loop-bytes.ensures, c.if-count-len.false, was.within)))
