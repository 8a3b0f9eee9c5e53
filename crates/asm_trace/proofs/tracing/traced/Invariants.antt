use Rattle.std.proofs.Common.{string_bytes}
use Rattle.asm_trace.proofs.Noted.{IsNotedTo}
use Rattle.asm_trace.proofs.tracing.traced.Given as goal

-- the events so far are noted, and the state stands for their moves
abbrev pub invariant-loop-index : goal.invariant-loop-index
invariant-loop-index g l = IsNotedTo (g.A.Aggregator.meaning l.aggregator).part l.history l.state (string_bytes l.text) l.index
