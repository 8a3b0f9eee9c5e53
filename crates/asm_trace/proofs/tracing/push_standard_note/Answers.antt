use Rattle.std.proofs.Common.{string_bytes, sym, subst}
use Rattle.std.proofs.lemmas.Result.{on_ok_weaker}
use Rattle.asm_update.specs.Aggregator.{Meaning}
use Rattle.asm_trace.specs.Change.{IsLocal}
use Rattle.asm_trace.specs.Text.{IsNoteAppended}
use Rattle.asm_trace.proofs.Local.{standard_local}
use Rattle.asm_trace.proofs.tracing.push_standard_note.Goals as goal

pub push_note-requires-clause-local : goal.push_note-requires-clause-local
push_note-requires-clause-local c = λ _. subst (λ (a : Meaning). IsLocal a.part) (sym c.standard.ensures) standard_local

pub returns : goal.returns
returns c =
    on_ok_weaker c.push_note.result
    (λ is. subst (λ (a : Meaning). IsNoteAppended a.part c.args.capacity c.args.number c.args.event.now c.args.state.now c.push_note.new.state
    (string_bytes c.args.text.now) (string_bytes c.push_note.new.text)) c.standard.ensures is)
    c.push_note.ensures
