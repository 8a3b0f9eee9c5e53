use Rattle.std.proofs.Common.{◌≡◌, ℕ, List, Result, Ok, Err, inr, rules, string_bytes}
use Rattle.std.specs.Prelude.{MatchResult}
use Rattle.serde_json.specs.Written.{compact_text}
use Rattle.asm_journal.specs.Event.{IsMoveForm}
use Rattle.asm_journal.specs.Text.{state_json_of}
use Rattle.asm_journal.specs.Value.{IsStateForm}
use Rattle.asm_slots.specs.Bytes.{AreMisread}
use Rattle.asm_slots.specs.Composing.{Aggregates, DoesNotAggregate, HasAggregate, IsUpdatesOf}
use Rattle.asm_slots.specs.WrittenText.{IsWritten}
use Rattle.asm_slots.specs.declared.codes.Code.{Code}
use Rattle.asm_slots.proofs.WrittenTexts.{written}
use Rattle.asm_slots.proofs.composing.aggregate.Goals as goal

aggregates : (state instrs out after : List ℕ) (n : ℕ) (r : Result (Unit {0}) Code) →
    IsWritten (IsUpdatesOf state instrs) (AreMisread IsStateForm IsMoveForm state instrs) out after n r →
    MatchResult r (λ done. Aggregates state instrs out after n) (DoesNotAggregate state instrs out after n)
aggregates state instrs out after n (Ok u) is = is
aggregates state instrs out after n (Err c) is = inr (inr is)

pub returns-in_ok-text-in-Ok : goal.returns-in_ok-text-in-Ok
returns-in_ok-text-in-Ok c =
    let state = c.args.state.now in
    let instrs = c.args.instrs.now in
    let has : HasAggregate state instrs (Ok c.in-Ok.updates) = search rules in
    let is : string_bytes c.in_ok-text-in-Ok.text ≡ compact_text (state_json_of c.in-Ok.updates) = search rules in
    let write = c.write.ensures in
    aggregates state instrs c.args.out.now c.write.new.out c.write.new.written c.write.result
    (written (IsUpdatesOf state instrs) (AreMisread IsStateForm IsMoveForm state instrs) c.as_bytes.result.now
    (string_bytes c.in_ok-text-in-Ok.text) c.args.out.now c.write.new.out c.write.new.written c.write.result c.as_bytes.ensures.value
    (c.in-Ok.updates, has, is) write.written write.copied write.small write.room write.unwritten)
