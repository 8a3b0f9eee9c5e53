use Rattle.std.proofs.Common.{◌≡◌, ◌+◌, ◌∷◌, [], List, ℕ, Ok, Err, map, drop, length, string_bytes}
use Rattle.std.proofs.Common.{refl, ap, sym, subst, subst₂, ◌∙◌}
use Rattle.std.proofs.lemmas.List.{nil_from_length}
use Rattle.std.proofs.lemmas.Result.{err_from_is_err_and}
use borrow.Author.Tests.{eqb-true}
use Rattle.asm_update.specs.Aggregator.{Meaning}
use Rattle.asm_run.proofs.Trails.{read_part}
use Rattle.asm_driver.specs.Folder.{Files}
use Rattle.asm_driver.specs.Segments.{IsSegmentTaken}
use Rattle.asm_driver.proofs.Folders.{IsFolderTo, folder_none, folder_empty, folder_on, folder_stopped, first_name}
use Rattle.asm_driver.proofs.program.segments.take_segments.Goals as goal

pub loop-name-init : goal.loop-name-init
loop-name-init g c =
    let was = ap (λ (m : Meaning). m.part) c.requires.meaning in
    let r = c.args.reader.now in
    record {
      same_aggregator = refl;
      same_files = refl;
      same_output = refl;
      read = c.requires.unread;
      written = c.requires.unwritten;
      taken = folder_none c.args.every (g.F.Folder.files c.args.folder.now) (map string_bytes c.args.names.now)
          (g.K.Sink.contents c.args.output.now) r (read_part _ _ was r.trail r.judge.auditor.auditor.progress
          r.judge.auditor.line.items r.judge.fault [] [] c.requires.new);
    }

pub returns-then-is_empty-clause-audited : goal.returns-then-is_empty-clause-audited
returns-then-is_empty-clause-audited g c =
    let was = ap (λ (m : Meaning). m.part) c.requires.meaning in
    let r = c.args.reader.now in
    let none : c.args.names.now ≡ [] = nil_from_length c.args.names.now
    (eqb-true (length c.args.names.now) 0 (sym c.is_empty.ensures ∙ c.if-is_empty.true)) in
    folder_empty c.args.every (g.F.Folder.files c.args.folder.now) (map string_bytes c.args.names.now)
    (g.F.Folder.failed c.args.folder.now) (g.K.Sink.contents c.args.output.now) r (ap (map string_bytes) none)
    c.requires.unread (read_part _ _ was r.trail r.judge.auditor.auditor.progress r.judge.auditor.line.items r.judge.fault
    [] [] c.requires.new)

pub returns-in_err-take_segment-clause-audited : goal.returns-in_err-take_segment-clause-audited
returns-in_err-take_segment-clause-audited g c =
    let r = err_from_is_err_and c.from_residual.result c.from_residual.ensures.1 in
    let l = c.loop-name in
    let i = l.invariant in
    let names = c.args.names.now in
    let n = c.name-item.result in
    let t = c.take_segment in
    let files = g.F.Folder.files c.args.folder.now in
    let held = g.K.Sink.contents c.args.output.now in
    let w = subst (λ (later : List (List ℕ)). IsFolderTo c.args.every files (map string_bytes names) later held
    (g.K.Sink.contents l.output) l.reader)
    (first_name names l.name-index n c.loop-name-test.true c.name-item.is) i.taken in
    rw (r.1, r.2) (folder_stopped c.args.every files (map string_bytes names) held (g.K.Sink.contents l.output) l.reader
    (string_bytes n) (map string_bytes (drop (l.name-index + 1) names)) w t.new.reader (g.F.Folder.failed t.new.folder)
    (g.K.Sink.contents t.new.output) c.in_err-take_segment.field-0.0
    (subst₂ (λ (fs : Files) (title : List ℕ). IsSegmentTaken c.args.every fs title l.reader t.new.reader
    (g.F.Folder.failed t.new.folder) (g.K.Sink.contents l.output) (g.K.Sink.contents t.new.output)
    (Err c.in_err-take_segment.field-0.0)) i.same_files c.as_str.ensures.value c.in_err-take_segment.ensures.taken))

pub loop-name-preserved : goal.loop-name-preserved
loop-name-preserved g c =
    let l = c.loop-name in
    let i = l.invariant in
    let names = c.args.names.now in
    let n = c.name-item.result in
    let t = c.take_segment in
    let files = g.F.Folder.files c.args.folder.now in
    let held = g.K.Sink.contents c.args.output.now in
    let w = subst (λ (later : List (List ℕ)). IsFolderTo c.args.every files (map string_bytes names) later held
    (g.K.Sink.contents l.output) l.reader)
    (first_name names l.name-index n c.loop-name-test.true c.name-item.is) i.taken in
    record {
      same_aggregator = t.ensures.aggregator ∙ i.same_aggregator;
      same_files = t.ensures.files ∙ i.same_files;
      same_output = t.ensures.same_reference ∙ i.same_output;
      read = c.in_ok-take_segment.ensures.taken.4;
      written = c.in_ok-take_segment.ensures.noted;
      taken = folder_on c.args.every files (map string_bytes names) held (g.K.Sink.contents l.output) l.reader
          (string_bytes n) (map string_bytes (drop (l.name-index + 1) names)) w t.new.reader
          (g.F.Folder.failed t.new.folder) (g.K.Sink.contents t.new.output)
          (subst₂ (λ (fs : Files) (title : List ℕ). IsSegmentTaken c.args.every fs title l.reader t.new.reader
          (g.F.Folder.failed t.new.folder) (g.K.Sink.contents l.output) (g.K.Sink.contents t.new.output) (Ok tt))
          i.same_files c.as_str.ensures.value c.in_ok-take_segment.ensures.taken);
    }
