-- A run's folder, read file by file.
use Rattle.std.proofs.Common.{◌≡◌, take, ℕ, Bool, true, false, List, [], ◌++◌, Option, Some, None, IfSome}
use Rattle.std.proofs.Common.{Ok, Err, refl, sym, ap, subst, subst₂, ◌∙◌, inl, inr, append-nil, append_assoc}
use Rattle.std.proofs.KnownBytes.{Consumes-trans, Consumes-nil, Appends-nil, Appends-trans}
use Rattle.std.specs.Io.KnownBytes.{Consumes, Appends, IsAtEnd}
use Rattle.asm_aggregate.specs.Standard.{standard_part}
use Rattle.asm_update.specs.Fire.{Part}
use Rattle.asm_update.specs.declared.aggregator.Aggregator.{Ghosts}
use Rattle.asm_audit.specs.Fault.{IsFaulty}
use Rattle.asm_audit.specs.Fed.{IsFed}
use Rattle.asm_audit.specs.SoFar.{AreFedSoFar}
use Rattle.asm_audit.specs.declared.error.AuditError.{AuditError}
use Rattle.asm_audit.specs.declared.progress.Counts.{Counts}
use Rattle.asm_audit.specs.declared.progress.Progress.{Progress}
use Rattle.asm_run.specs.Judge.{Judges}
use Rattle.asm_run.specs.Protocol.{Segment}
use Rattle.asm_run.specs.Reader.{texts_of, part_of, IsWithin, IsWithinParts}
use Rattle.asm_run.specs.declared.reader.RunReader.{RunReader}
use Rattle.asm_run.proofs.Trails.{within_part}
use Rattle.asm_driver.specs.Audit.{is_failed_read}
use Rattle.asm_driver.specs.Folder.{IsSizeOf, IsReportedTo}
use Rattle.asm_driver.specs.Segments.{IsInside, IsTakenOn, IsTaken, IsTakenTo, IsChunkTaken, IsFileTaken}
use Rattle.asm_driver.specs.Parts.{IsOneLine}
use Rattle.asm_driver.specs.Ports.{Known, AppendsSome}
use Rattle.asm_driver.specs.Watch.{IsReportOf, IsDueText, AddsDue}
use Rattle.asm_driver.specs.declared.program.refusal.Refusal.TheVariants as refusal
use Rattle.asm_driver.specs.declared.program.watching.Stop.{Stop}
use Rattle.asm_driver.specs.declared.program.watching.Stop.TheVariants.{Refused, Unwritten}
use Rattle.asm_driver.proofs.Lines.{reported_more}
use Rattle.asm_driver.proofs.Watching.{some_behind}

-- ---- a line

-- without a fault all lines are reported
pub all_reported : (every : ℕ) (text reported : List ℕ) → IsReportedTo every text reported None → IsReportOf every text reported
all_reported every text reported w = subst (λ (t : List ℕ). IsReportOf every t reported)
    (sym (append-nil w.taken) ∙ ap (λ t. w.taken ++ t) (sym w.unreported) ∙ w.all) w.watched

pub reported_all : (every : ℕ) (text reported : List ℕ) → IsReportOf every text reported → IsReportedTo every text reported None
reported_all every text reported w = record {
  taken = text;
  behind = [];
  all = append-nil text;
  watched = w;
  unreported = refl;
}

-- a line behind it has a fault, or comes after one
pub reported_fault : (every : ℕ) (all line reported : List ℕ) (old new : Option AuditError) (e : AuditError) (q : Progress)
    (m : List ℕ) → new ≡ Some e → IfSome old (λ x. new ≡ Some x) → IsOneLine line →
    Judges standard_part (all ++ line) q m new → IsReportedTo every all reported old →
    IsReportedTo every (all ++ line) reported new
reported_fault every all line reported None new e q m is stays one judged w =
    let faulty : (more : List ℕ) → IsFaulty standard_part ((all ++ line) ++ more) e =
    subst (Judges standard_part (all ++ line) q m) is judged in
    subst (IsReportedTo every (all ++ line) reported) (sym is) (record {
      taken = all;
      behind = line;
      all = refl;
      watched = all_reported every all reported w;
      unreported = (line, [], append-nil line, one, faulty);
    })
reported_fault every all line reported (Some x) new e q m is stays one judged w =
    let (l, more, begins, first, faulty) = w.unreported in
    subst (IsReportedTo every (all ++ line) reported) (sym stays) (record {
      taken = w.taken;
      behind = w.behind ++ line;
      all = sym (append_assoc w.taken w.behind line) ∙ ap (λ t. t ++ line) w.all;
      watched = w.watched;
      unreported = (l, more ++ line, sym (append_assoc l more line) ∙ ap (λ t. t ++ line) begins, first, faulty);
    })

-- a line behind it has none
pub reported_line : (every : ℕ) (all line reported first : List ℕ) (old new : Option AuditError) (p q : Progress)
    (l m : List ℕ) (x y : Counts) → new ≡ None → IfSome old (λ e. new ≡ Some e) → IsOneLine line →
    Judges standard_part all p l old → Judges standard_part (all ++ line) q m new →
    AreFedSoFar standard_part p l x → AreFedSoFar standard_part q m y → IsDueText every x y first →
    IsReportedTo every all reported old → IsReportedTo every (all ++ line) (reported ++ first) new
reported_line every all line reported first (Some e) new p q l m x y none stays one before after here there due w =
    absurd (let no : ⊥ = cc (none, stays) in no)
reported_line every all line reported first None new p q l m x y none stays one before after here there due w =
    subst (IsReportedTo every (all ++ line) (reported ++ first)) (sym none)
    (reported_all every (all ++ line) (reported ++ first) (by_line one))
  where
    fed : IsFed standard_part (all ++ line) q m
    fed = subst (Judges standard_part (all ++ line) q m) none after

    by_line : IsOneLine line → IsReportOf every (all ++ line) (reported ++ first)
    by_line (inl plain) = reported_more every all reported line (all_reported every all reported w) p q l m x y first before
        fed here there due [] (inr (plain, refl))
    by_line (inr ends) = reported_more every all reported line (all_reported every all reported w) p q l m x y first before
        fed here there due [] (inl ends)

-- what a reader makes of a line
module _ {A : Type 0} {g : Ghosts A} (every : ℕ) (x y : RunReader A g) (line : List ℕ) (one : IsOneLine line)
    (was : part_of x ≡ standard_part) (is : part_of y ≡ standard_part)
    (feeds : (skipped segments : List Segment) (title text : List ℕ) → IsWithin x skipped segments title text →
    IsWithin y skipped segments title (text ++ line))
    (stays : IfSome x.judge.fault (λ e. y.judge.fault ≡ Some e))
    (same : y.trail.segment.length ≡ x.trail.segment.length) where
  within : (read : List Segment) (title text : List ℕ) →
      IsWithinParts standard_part x.trail x.judge.auditor.auditor.progress x.judge.auditor.line.items x.judge.fault []
      read title text →
      IsWithinParts standard_part y.trail y.judge.auditor.auditor.progress y.judge.auditor.line.items y.judge.fault []
      read title (text ++ line)
  within read title text h = within_part (part_of y) standard_part is y.trail y.judge.auditor.auditor.progress
      y.judge.auditor.line.items y.judge.fault [] read title (text ++ line)
      (feeds [] read title text (within_part standard_part (part_of x) (sym was) x.trail x.judge.auditor.auditor.progress
      x.judge.auditor.line.items x.judge.fault [] read title text h))

  judged : (read : List Segment) (title text : List ℕ) →
      IsWithinParts standard_part y.trail y.judge.auditor.auditor.progress y.judge.auditor.line.items y.judge.fault []
      read title (text ++ line) →
      Judges standard_part ((texts_of read ++ text) ++ line) y.judge.auditor.auditor.progress y.judge.auditor.line.items
      y.judge.fault
  judged read title text h = subst (λ (t : List ℕ). Judges standard_part t y.judge.auditor.auditor.progress
      y.judge.auditor.line.items y.judge.fault) (sym (append_assoc (texts_of read) text line)) h.judged

  -- it has a fault, or comes after one
  pub taken_fault : (a : List ℕ) (e : AuditError) → y.judge.fault ≡ Some e → IsTakenOn every x y line a a
  taken_fault a e found file read title text before w =
      let h = within read title text w.has in
      record {
        has = h;
        size = subst (IsSizeOf file) (sym same) w.size;
        watched = subst (λ (t : List ℕ). IsReportedTo every t (before ++ a) y.judge.fault)
            (append_assoc (texts_of read) text line)
            (reported_fault every (texts_of read ++ text) line (before ++ a) x.judge.fault y.judge.fault e
            y.judge.auditor.auditor.progress y.judge.auditor.line.items found stays one (judged read title text h)
            w.watched);
      }

  -- it has none, and this is due
  pub taken_plain : (a b : List ℕ) (v u : Counts) → y.judge.fault ≡ None →
      AreFedSoFar (part_of x) x.judge.auditor.auditor.progress x.judge.auditor.line.items v →
      AreFedSoFar (part_of y) y.judge.auditor.auditor.progress y.judge.auditor.line.items u → AddsDue every v u a b →
      IsTakenOn every x y line a b
  taken_plain a b v u none here there (first, due, added) file read title text before w =
      let h = within read title text w.has in
      let before_it = subst (λ (p : Part). AreFedSoFar p x.judge.auditor.auditor.progress x.judge.auditor.line.items v)
      was here in
      let behind_it = subst (λ (p : Part). AreFedSoFar p y.judge.auditor.auditor.progress y.judge.auditor.line.items u)
      is there in
      record {
        has = h;
        size = subst (IsSizeOf file) (sym same) w.size;
        watched = subst₂ (λ (t d : List ℕ). IsReportedTo every t d y.judge.fault)
            (append_assoc (texts_of read) text line)
            (append_assoc before a first ∙ ap (λ t. before ++ t) (sym added))
            (reported_line every (texts_of read ++ text) line (before ++ a) first x.judge.fault y.judge.fault
            x.judge.auditor.auditor.progress y.judge.auditor.auditor.progress x.judge.auditor.line.items
            y.judge.auditor.line.items v u none stays one w.has.judged (judged read title text h) before_it behind_it due
            w.watched);
      }

-- ---- lines and chunks

module _ {A : Type 0} {g : Ghosts A} (every : ℕ) (x y : RunReader A g) where
  -- no bytes
  pub taken_none : (a : List ℕ) → IsTakenOn every x x [] a a
  taken_none a file read title text before w = subst (λ (t : List ℕ). IsInside x every file read title t (before ++ a))
      (sym (append-nil text)) w

  -- some bytes more
  pub taken_more : (z : RunReader A g) (front line a b c : List ℕ) → IsTakenOn every x y front a b →
      IsTakenOn every y z line b c → IsTakenOn every x z (front ++ line) a c
  taken_more z front line a b c first second file read title text before w =
      subst (λ (t : List ℕ). IsInside z every file read title t (before ++ c)) (append_assoc text front line)
      (second file read title (text ++ front) before (first file read title text before w))

  -- all lines that are due are new
  taken_new : (bytes a b : List ℕ) → a ≡ [] → IsTakenOn every x y bytes a b → IsTaken every x y bytes b
  taken_new bytes a b none taken file read title text before w = taken file read title text before
      (subst (λ (t : List ℕ). IsInside x every file read title text t)
      (sym (append-nil before) ∙ ap (λ t. before ++ t) (sym none)) w)

  pub taken_to : (bytes more : List ℕ) → IsTaken every x y bytes more → IsTakenTo every x bytes more
  taken_to bytes more taken file read title text before w =
      (y.judge.fault, (taken file read title text before w).watched)

  pub chunk_written : (bytes a b lines : List ℕ) (held holds : Known) → a ≡ [] → lines ≡ b →
      IsTakenOn every x y bytes a b → Appends held holds lines → IsChunkTaken every x y bytes held holds (Ok tt)
  chunk_written bytes a b lines held holds none same taken appended =
      (b, subst (λ (t : List ℕ). Appends held holds t) same appended, taken_new bytes a b none taken)

  pub chunk_cut : (bytes a b lines : List ℕ) (held holds : Known) → a ≡ [] → lines ≡ b →
      IsTakenOn every x y bytes a b → AppendsSome held holds lines →
      IsChunkTaken every x y bytes held holds (Err Unwritten)
  chunk_cut bytes a b lines held holds none same taken some = (
    b,
    subst (λ (t : List ℕ). AppendsSome held holds t) same some,
    taken_to bytes b (taken_new bytes a b none taken),
  )

  -- what was taken of a file, and a chunk behind it
  pub taken_chunk : (z : RunReader A g) (front bytes more next : List ℕ) → IsTaken every x y front more →
      IsTaken every y z bytes next → IsTaken every x z (front ++ bytes) (more ++ next)
  taken_chunk z front bytes more next first second file read title text before w =
      subst₂ (λ (t b : List ℕ). IsInside z every file read title t b) (append_assoc text front bytes)
      (append_assoc before more next) (second file read title (text ++ front) (before ++ more)
      (first file read title text before w))

  taken_chunk_to : (front bytes more next : List ℕ) → IsTaken every x y front more → IsTakenTo every y bytes next →
      IsTakenTo every x (front ++ bytes) (more ++ next)
  taken_chunk_to front bytes more next first second file read title text before w =
      let (f, is) = second file read title (text ++ front) (before ++ more) (first file read title text before w) in (
        f,
        subst₂ (λ (t b : List ℕ). IsReportedTo every (texts_of read ++ t) b f) (append_assoc text front bytes)
            (append_assoc before more next) is,
      )

-- ---- a file

-- these bytes of it were taken
pub record IsFileTakenTo {A : Type 0} {g : Ghosts A} (every : ℕ) (x y : RunReader A g) (had left held holds : Known) : Type 0
  where
    pub bytes : List ℕ
    pub more : List ℕ
    pub consumed : Consumes had left bytes
    pub appended : Appends held holds more
    pub taken : IsTaken every x y bytes more

pub file_none : {A : Type 0} {g : Ghosts A} (every : ℕ) (x : RunReader A g) (had held : Known) →
    IsFileTakenTo every x x had had held held
file_none every x had held = record {
  bytes = [];
  more = [];
  consumed = Consumes-nil had;
  appended = Appends-nil held;
  taken = λ file read title text before w. subst₂ (λ (t b : List ℕ). IsInside x every file read title t b)
      (sym (append-nil text)) (sym (append-nil before)) w;
}

module _ {A : Type 0} {g : Ghosts A} (every : ℕ) (x y : RunReader A g) (had mid held wrote : Known)
    (w : IsFileTakenTo every x y had mid held wrote) where
  -- a read failed
  pub file_unread : (left : Known) (failed : Bool) → failed ≡ true →
      IsFileTaken every x y had left failed held wrote (Err (Refused refusal.InputFault))
  file_unread left failed noted =
      (w.bytes, w.more, (mid, w.consumed), w.appended, taken_to every x y w.bytes w.more w.taken, inr refl, noted)

  -- no byte was left
  pub file_end : (left : Known) (buffer : List ℕ) (n : ℕ) (failed : Bool) → n ≡ 0 → Consumes mid left (take n buffer) →
      IsAtEnd left → failed ≡ false → IsFileTaken every x y had left failed held wrote (Ok tt)
  file_end left buffer n failed none taken end noted = (
    w.bytes,
    w.more,
    subst (λ (bs : List ℕ). Consumes had left bs) (append-nil w.bytes)
        (Consumes-trans had mid left w.bytes [] w.consumed
        (subst (λ (k : ℕ). Consumes mid left (take k buffer)) none taken)),
    end,
    w.appended,
    w.taken,
    noted,
  )

  -- a chunk was read
  module _ (z : RunReader A g) (left holds : Known) (bytes : List ℕ) (failed : Bool) (taken : Consumes mid left bytes)
      (noted : failed ≡ false) where
    all_consumed : Consumes had left (w.bytes ++ bytes)
    all_consumed = Consumes-trans had mid left w.bytes bytes w.consumed taken

    pub file_on : IsChunkTaken every y z bytes wrote holds (Ok tt) → IsFileTakenTo every x z had left held holds
    file_on (next, appended, is) = record {
      bytes = w.bytes ++ bytes;
      more = w.more ++ next;
      consumed = all_consumed;
      appended = Appends-trans held wrote holds w.more next w.appended appended;
      taken = taken_chunk every x y z w.bytes bytes w.more next w.taken is;
    }

    pub file_stopped : (stop : Stop) → IsChunkTaken every y z bytes wrote holds (Err stop) →
        IsFileTaken every x z had left failed held holds (Err stop)
    file_stopped (Refused r) (is, appended) = (
      w.bytes,
      w.more,
      (mid, w.consumed),
      subst (λ (t : List ℕ). Appends held holds t) (append-nil w.more)
          (Appends-trans held wrote holds w.more [] w.appended appended),
      taken_to every x y w.bytes w.more w.taken,
      inl is,
      noted ∙ ap (λ k. is_failed_read (Err k)) (sym is),
    )
    file_stopped Unwritten (next, some, is) = (
      w.bytes ++ bytes,
      w.more ++ next,
      (left, all_consumed),
      some_behind held wrote holds w.more next w.appended some,
      taken_chunk_to every x y w.bytes bytes w.more next w.taken is,
      noted,
    )
