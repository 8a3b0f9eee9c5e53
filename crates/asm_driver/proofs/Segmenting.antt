-- The name, the text and the end of a segment in a run's folder.
use Rattle.std.proofs.Common.{◌≡◌, ◌⊎◌, take, ℕ, Bool, true, false, List, [], ◌∷◌, ◌++◌, Option, Some, None}
use Rattle.std.proofs.Common.{Ok, Err, refl, sym, ap, subst, subst₂, ◌∙◌, inl, inr, append-nil, append_assoc}
use Rattle.std.proofs.Common.{◌+◌, length, drop, cond, nat_lt, arith, length-append, length-take}
use Rattle.std.proofs.Math.Seq.{take-append_seam}
use Rattle.std.proofs.lemmas.List.{take_all}
use Rattle.asm_journal.specs.Reading.{HasNoLineFeed, EndsLine}
use Rattle.std.proofs.KnownBytes.{Consumes-nil, Appends-nil}
use Rattle.std.specs.Io.KnownBytes.{Keeps, Consumes, Appends, IsAtEnd}
use Rattle.asm_aggregate.specs.Standard.{standard_part}
use Rattle.asm_update.specs.Fire.{Part}
use Rattle.asm_update.specs.declared.aggregator.Aggregator.{Ghosts}
use Rattle.asm_audit.specs.declared.error.AuditError.{AuditError}
use Rattle.asm_audit.specs.declared.error.AuditError.TheVariants.{Journal, Apart, Illegal, LongLine, Memory}
use Rattle.asm_run.specs.Name.{IsName}
use Rattle.asm_run.specs.declared.name.SegmentName.{SegmentName}
use Rattle.asm_run.specs.declared.judge.Judge.{Judge}
use Rattle.asm_run.specs.Protocol.{Segment}
use Rattle.asm_run.specs.Reader.{texts_of, part_of, HasRead, IsWithin, IsRefusedText}
use Rattle.asm_run.specs.declared.error.ReadError.{ReadError}
use Rattle.asm_run.specs.declared.error.ReadError.TheVariants as read_error
use Rattle.asm_run.specs.declared.reader.RunReader.{RunReader}
use Rattle.asm_run.proofs.Runs.{texts_push}
use Rattle.asm_run.proofs.Trails.{within_part, read_part}
use Rattle.asm_driver.specs.Audit.{is_failed_read}
use Rattle.asm_driver.specs.Folder.{Files, IsSizeOf, IsTextOf, IsBeginningOf, IsReportedTo, IsBadName, IsBadText}
use Rattle.asm_driver.specs.Folder.{IsBadFile, refusal_behind, refusal_of_read, IsNumberIn}
use Rattle.asm_driver.specs.Segments.{IsBetween, IsInside, IsFileTaken}
use Rattle.asm_driver.specs.Segments.{IsBegun, IsEnded, IsSegmentTaken}
use Rattle.asm_driver.specs.Parts.{IsOneLine}
use Rattle.asm_driver.specs.Ports.{Known, is_fault}
use Rattle.asm_driver.specs.Refusal.{refusal_of_input}
use Rattle.asm_driver.specs.Watch.{IsReportOf}
use Rattle.asm_driver.specs.declared.ports.input.InputError.{InputError}
use Rattle.asm_driver.specs.declared.ports.input.InputError.TheVariants as input
use Rattle.asm_driver.specs.declared.program.refusal.Refusal.{Refusal}
use Rattle.asm_driver.specs.declared.program.refusal.Refusal.TheVariants as refusal
use Rattle.asm_driver.specs.declared.program.refusal.SegmentFault.TheVariants as segment_fault
use Rattle.asm_driver.specs.declared.program.watching.Stop.{Stop}
use Rattle.asm_driver.specs.declared.program.watching.Stop.TheVariants.{Refused, Unwritten}
use Rattle.asm_driver.proofs.Foldering.{all_reported, reported_all}

-- ---- a segment

-- nothing of the next text was read
pub begun_report : (every : ℕ) (text reported : List ℕ) (f : Option AuditError) → f ≡ None → IsReportOf every text reported →
    IsReportedTo every (text ++ []) reported f
begun_report every text reported f none w =
    subst₂ (λ (t : List ℕ) (o : Option AuditError). IsReportedTo every t reported o) (sym (append-nil text)) (sym none)
    (reported_all every text reported w)

-- all of it was read
pub ended_report : (every : ℕ) (read : List Segment) (title text reported : List ℕ) (f : Option AuditError) → f ≡ None →
    IsReportedTo every (texts_of read ++ text) reported f →
    IsReportOf every (texts_of (read ++ (title, text) ∷ [])) reported
ended_report every read title text reported f none w =
    subst (λ (t : List ℕ). IsReportOf every t reported) (sym (texts_push read (title, text)))
    (all_reported every (texts_of read ++ text) reported
    (subst (IsReportedTo every (texts_of read ++ text) reported) none w))

bad_name : (files : Files) (read : List Segment) (title text : List ℕ) (r : Refusal) → IsBadName files read title r →
    IsBadFile files read title text r
bad_name files read title text refusal.InputFault is = tt
bad_name files read title text refusal.Memory is = tt
bad_name files read title text r is = inl is

bad_text : (files : Files) (read : List Segment) (title text : List ℕ) (r : Refusal) → IsBadText files read title text r →
    IsBadFile files read title text r
bad_text files read title text refusal.InputFault is = tt
bad_text files read title text refusal.Memory is = tt
bad_text files read title text r is = inr is

bad_input : (files : Files) (read : List Segment) (title text : List ℕ) (r : Refusal) →
    (r ≡ refusal.Memory) ⊎ (r ≡ refusal.InputFault) → IsBadFile files read title text r
bad_input files read title text r (inl is) = subst (IsBadFile files read title text) (sym is) tt
bad_input files read title text r (inr is) = subst (IsBadFile files read title text) (sym is) tt

-- what is known of a file is what reads of it return
kept_consumes : (file had left : Known) (bytes : List ℕ) → Keeps file had → Consumes had left bytes →
    Consumes file left bytes
kept_consumes None had left bytes kept consumed = tt
kept_consumes (Some t) None left bytes kept consumed = absurd kept
kept_consumes (Some t) (Some u) left bytes kept consumed =
    subst (λ (v : List ℕ). Consumes (Some v) left bytes) kept consumed

-- the bytes of a file that was opened
opened_text : (file had left : Known) (bytes : List ℕ) → Keeps file had → Consumes had left bytes → IsAtEnd left →
    IsTextOf file bytes
opened_text file had left bytes kept consumed end = (left, kept_consumes file had left bytes kept consumed, end)

opened_beginning : (file had : Known) (bytes : List ℕ) → Keeps file had → IsBeginningOf had bytes → IsBeginningOf file bytes
opened_beginning file had bytes kept (left, consumed) = (left, kept_consumes file had left bytes kept consumed)

-- a name was begun
pub begun_inside : {A : Type 0} {g : Ghosts A} (x y : RunReader A g) (title : List ℕ) (size : ℕ) →
    part_of x ≡ standard_part → part_of y ≡ standard_part →
    ((skipped segments : List Segment) → HasRead x skipped segments → IsWithin y skipped segments title []) →
    y.judge ≡ x.judge → y.trail.segment.length ≡ size → IsBegun x y title size (Ok tt)
begun_inside x y title size was is begins judge length every file read before sized w =
    let open_yet = ap (λ (j : Judge _ _). j.fault) judge ∙ w.has.open_yet in
    record {
      has = within_part (part_of y) standard_part is y.trail y.judge.auditor.auditor.progress y.judge.auditor.line.items
          y.judge.fault [] read title []
          (begins [] read (read_part standard_part (part_of x) (sym was) x.trail x.judge.auditor.auditor.progress
          x.judge.auditor.line.items x.judge.fault [] read w.has));
      size = subst (IsSizeOf file) (sym length) sized;
      watched = begun_report every (texts_of read) before y.judge.fault open_yet w.watched;
    }

-- a text was ended
pub ended_between : {A : Type 0} {g : Ghosts A} (x y : RunReader A g) (title : List ℕ) → part_of x ≡ standard_part →
    part_of y ≡ standard_part →
    ((skipped segments : List Segment) (t text : List ℕ) → IsWithin x skipped segments t text →
    HasRead y skipped (segments ++ (t, text) ∷ [])) → y.judge.fault ≡ x.judge.fault → IsEnded x y title (Ok tt)
ended_between x y title was is ends same every file read text before w =
    let h = read_part (part_of y) standard_part is y.trail y.judge.auditor.auditor.progress y.judge.auditor.line.items
    y.judge.fault [] (read ++ (title, text) ∷ []) (ends [] read title text
    (within_part standard_part (part_of x) (sym was) x.trail x.judge.auditor.auditor.progress x.judge.auditor.line.items
    x.judge.fault [] read title text w.has)) in
    record {
      has = h;
      watched = ended_report every read title text before x.judge.fault (sym same ∙ h.open_yet) w.watched;
    }

-- a text was refused
pub ended_refused : {A : Type 0} {g : Ghosts A} (x y : RunReader A g) (title : List ℕ) (e : ReadError) (r : Refusal) →
    part_of x ≡ standard_part → ((skipped segments : List Segment) (t text : List ℕ) →
    IsWithin x skipped segments t text → IsRefusedText (part_of x) x.trail segments text e) →
    r ≡ refusal_of_read x.trail.since.segments x.trail.end.segments x.trail.end.segments e → IsEnded x y title (Err r)
ended_refused x y title e r was refused is = (
  e,
  is,
  λ every file read text before w.
      subst (λ (p : Part). IsRefusedText p x.trail read text e) was
      (refused [] read title text
      (within_part standard_part (part_of x) (sym was) x.trail x.judge.auditor.auditor.progress x.judge.auditor.line.items
      x.judge.fault [] read title text w.has)),
)

module _ {A : Type 0} {g : Ghosts A} (every : ℕ) (files : Files) (title : List ℕ) (x : RunReader A g) (held : Known) where
  -- its file wasn't opened
  pub unopened : (y : RunReader A g) (e : InputError) (failed : Bool) → (e ≡ input.TooLarge → ⊥) →
      failed ≡ is_fault {T = ℕ} (Err e) →
      IsSegmentTaken every files title x y failed held held (Err (Refused (refusal_of_input e)))
  unopened y e failed small noted = (
    [],
    [],
    (files title, Consumes-nil (files title)),
    Appends-nil held,
    noted ∙ fault_is e small,
    λ read before w. (
      (
        None,
        subst (λ (b : List ℕ). IsReportedTo every (texts_of read ++ []) b None) (sym (append-nil before))
            (begun_report every (texts_of read) before None refl w.watched),
      ),
      bad_input files read title [] (refusal_of_input e) (input_is e small),
    ),
  ) where
    fault_is : (e : InputError) → (e ≡ input.TooLarge → ⊥) →
        is_fault {T = ℕ} (Err e) ≡ is_failed_read (Err (refusal_of_input e))
    fault_is input.TooLarge small = absurd (small refl)
    fault_is input.Fault small = refl
    fault_is input.Memory small = refl

    input_is : (e : InputError) → (e ≡ input.TooLarge → ⊥) →
        (refusal_of_input e ≡ refusal.Memory) ⊎ (refusal_of_input e ≡ refusal.InputFault)
    input_is input.TooLarge small = absurd (small refl)
    input_is input.Fault small = inr refl
    input_is input.Memory small = inl refl

  -- its name is refused
  pub unbegun : (y : RunReader A g) (size : ℕ) (r : Refusal) (failed : Bool) → IsSizeOf (files title) size →
      failed ≡ false → IsBegun x y title size (Err r) → is_failed_read (Err r) ≡ false →
      IsSegmentTaken every files title x y failed held held (Err (Refused r))
  unbegun y size r failed sized noted (found, e, refused, next, numbered, is) plain = (
    [],
    [],
    (files title, Consumes-nil (files title)),
    Appends-nil held,
    noted ∙ sym plain,
    λ read before w. (
      (
        None,
        subst (λ (b : List ℕ). IsReportedTo every (texts_of read ++ []) b None) (sym (append-nil before))
            (begun_report every (texts_of read) before None refl w.watched),
      ),
      bad_name files read title [] r
          (x.trail, size, found, e, w.has.before, sized, next w.has.place, refused, numbered, is),
    ),
  )

  module _ (y : RunReader A g) (size : ℕ) (had left : Known) (failed : Bool) (holds : Known) (kept : Keeps (files title) had)
      (sized : IsSizeOf (files title) size) (begun : IsBegun x y title size (Ok tt)) where
    inside : (read : List Segment) (before : List ℕ) → IsBetween x every read before →
        IsInside y every (files title) read title [] before
    inside read before w = begun every (files title) read before sized w

    -- its text is cut off
    pub unread : (z : RunReader A g) (r : Refusal) →
        IsFileTaken every y z had left failed held holds (Err (Refused r)) →
        IsSegmentTaken every files title x z failed held holds (Err (Refused r))
    unread z r (bytes, more, begins, appended, taken, is, noted) = (
      bytes,
      more,
      opened_beginning (files title) had bytes kept begins,
      appended,
      noted,
      λ read before w. (
        taken (files title) read title [] before (inside read before w),
        bad_input files read title bytes r is,
      ),
    )

    pub unwritten : (z : RunReader A g) → IsFileTaken every y z had left failed held holds (Err Unwritten) →
        IsSegmentTaken every files title x z failed held holds (Err Unwritten)
    unwritten z (bytes, more, begins, some, taken, noted) = (
      bytes,
      more,
      opened_beginning (files title) had bytes kept begins,
      some,
      noted,
      λ read before w. taken (files title) read title [] before (inside read before w),
    )

    pub stopped : (z : RunReader A g) (stop : Stop) → IsFileTaken every y z had left failed held holds (Err stop) →
        IsSegmentTaken every files title x z failed held holds (Err stop)
    stopped z (Refused r) is = unread z r is
    stopped z Unwritten is = unwritten z is

    module _ (z : RunReader A g) (file : IsFileTaken every y z had left failed held holds (Ok tt)) where
      -- its text is refused
      pub unended : (u : RunReader A g) (r : Refusal) → IsEnded z u title (Err r) → is_failed_read (Err r) ≡ false →
          IsSegmentTaken every files title x u failed held holds (Err (Refused r))
      unended u r (e, is, refused) plain =
          let (bytes, more, consumed, end, appended, taken, noted) = file in
          let text = opened_text (files title) had left bytes kept consumed end in (
            bytes,
            more,
            (text.0, text.1),
            appended,
            noted ∙ sym plain,
            λ read before w.
                let i = taken (files title) read title [] before (inside read before w) in (
                  (z.judge.fault, i.watched),
                  bad_text files read title bytes r (
                    z.trail,
                    e,
                    i.has.before,
                    i.has.named,
                    i.has.taken.next,
                    i.size,
                    text,
                    refused every (files title) read bytes (before ++ more) i,
                    is,
                  ),
                ),
          )

      -- it is the next one
      pub segment_read : (u : RunReader A g) → IsEnded z u title (Ok tt) →
          IsSegmentTaken every files title x u failed held holds (Ok tt)
      segment_read u ended =
          let (bytes, more, consumed, end, appended, taken, noted) = file in (
            bytes,
            more,
            opened_text (files title) had left bytes kept consumed end,
            appended,
            noted,
            λ read before w. ended every (files title) read bytes (before ++ more)
                (taken (files title) read title [] before (inside read before w)),
          )

-- no such refusal is that of a failed read
behind_plain : (first : ℕ) (e : AuditError) → is_failed_read (Err (refusal_behind first e)) ≡ false
behind_plain first (Journal part f) = refl
behind_plain first (Apart part) = refl
behind_plain first (Illegal part call) = refl
behind_plain first LongLine = refl
behind_plain first Memory = refl

pub read_plain : (first number found : ℕ) (e : ReadError) →
    is_failed_read (Err (refusal_of_read first number found e)) ≡ false
read_plain first number found read_error.Memory = refl
read_plain first number found (read_error.Audit e) = behind_plain first e
read_plain first number found read_error.Number = by_order (nat_lt found number) where
  by_order : (b : Bool) → is_failed_read (Err (cond b (refusal.BadSegment found segment_fault.Twice)
      (refusal.BadSegment number segment_fault.Missing))) ≡ false
  by_order true = refl
  by_order false = refl
read_plain first number found read_error.Damaged = refl
read_plain first number found read_error.Previous = refl
read_plain first number found read_error.Counts = refl
read_plain first number found read_error.Name = refl
read_plain first number found read_error.Opening = refl
read_plain first number found read_error.Many = refl
read_plain first number found read_error.Busy = refl

pub plain_as : (first number found : ℕ) (e : ReadError) (r : Refusal) → r ≡ refusal_of_read first number found e →
    is_failed_read (Err r) ≡ false
plain_as first number found e r is = ap (λ k. is_failed_read (Err k)) is ∙ read_plain first number found e

-- the number in a name
pub numbered : (title : List ℕ) (name : SegmentName) (e : ReadError) → IsName title name →
    IsNumberIn title name.number e
numbered title name read_error.Name is = tt
numbered title name e is = (name, is, refl)

-- the first line of some bytes
pub first_line : (bytes : List ℕ) (end : ℕ) → EndsLine bytes (take end bytes) (drop (end + 1) bytes) →
    IsOneLine (take (end + 1) bytes)
first_line bytes end (is, plain) =
    let body = take end bytes in
    let rest = drop (end + 1) bytes in
    let size : length (body ++ 10 ∷ []) ≡ end + 1 = omega (
      arith,
      ap (λ (l : List ℕ). length l) is,
      length-append body (10 ∷ rest),
      length-append body (10 ∷ []),
      length-take end bytes,
    ) in
    let cut : take (end + 1) bytes ≡ body ++ 10 ∷ [] = ap (λ n. take n bytes) (sym size)
    ∙ ap (take (length (body ++ 10 ∷ []))) (is ∙ sym (append_assoc body (10 ∷ []) rest))
    ∙ take-append_seam (body ++ 10 ∷ []) rest in
    inr (body, (cut, plain))

-- all bytes of it
pub no_line : (bytes : List ℕ) → HasNoLineFeed bytes → IsOneLine (take (length bytes) bytes)
no_line bytes plain = subst IsOneLine (sym (take_all (length bytes) bytes (omega arith))) (inl plain)
