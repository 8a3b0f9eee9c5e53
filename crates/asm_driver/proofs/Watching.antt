-- What is written while an audit runs.
use Rattle.std.proofs.Common.{◌≡◌, ◌≢◌, ◌+◌, ℕ, Bool, true, false, List, [], ◌∷◌, ◌++◌, take, length, Result, Ok, Err}
use Rattle.std.proofs.Common.{refl, sym, ap, subst, ◌∙◌, inl, inr, append-nil, append_assoc}
use Rattle.std.proofs.KnownBytes.{Consumes-trans, Consumes-nil, Consumes-kept, Appends-nil, Appends-trans}
use Rattle.std.proofs.lemmas.List.Elements.{All-nil}
use Rattle.std.proofs.Math.Seq.{take-append-add}
use Rattle.std.specs.Io.KnownBytes.{Keeps, Consumes, Appends, IsAtEnd}
use Rattle.asm_journal.specs.Reading.{HasNoLineFeed}
use Rattle.asm_audit.specs.Audited.{IsVerdict}
use Rattle.asm_audit.specs.Fed.{IsFed, FeedsLine, IsFedEnd}
use Rattle.asm_audit.proofs.Fed.{some_first}
use Rattle.asm_audit.specs.SoFar.{AreFedSoFar}
use Rattle.asm_audit.specs.declared.error.AuditError.{AuditError}
use Rattle.asm_audit.specs.declared.error.AuditError.TheVariants.{Journal, Apart, Illegal, LongLine, Memory}
use Rattle.asm_audit.specs.declared.progress.Counts.{Counts}
use Rattle.asm_audit.specs.declared.progress.Progress.{Progress}
use Rattle.asm_aggregate.specs.Standard.{standard_part}
use Rattle.asm_driver.specs.Audit.{IsBadRun, is_failed_read, refusal_of_audit}
use Rattle.asm_driver.specs.Ports.{Known, AppendsSome}
use Rattle.asm_driver.specs.Watch.{IsReportOf, IsReportedAfter, IsWatchReported, IsWatched, IsStopped, IsWatchAnswer, AddsDue}
use Rattle.asm_driver.specs.Watch.{IsWrittenAnswer, IsWatchEnd}
use Rattle.asm_driver.specs.declared.program.refusal.Refusal.{Refusal}
use Rattle.asm_driver.specs.declared.program.refusal.Refusal.TheVariants as refusal
use Rattle.asm_driver.specs.declared.program.watching.Stop.{Stop}
use Rattle.asm_driver.specs.declared.program.watching.Stop.TheVariants.{Refused, Unwritten}
use Rattle.asm_driver.proofs.Lines.{reported_bytes, reported_more}

-- an audit's error as the refusal made from it
pub bad_run : (text : List ℕ) (e : AuditError) → IsVerdict standard_part text (Err e) → IsBadRun text (refusal_of_audit e)
bad_run text (Journal part fault) is = is
bad_run text (Apart part) is = is
bad_run text (Illegal part call) is = is
bad_run text LongLine is = is
bad_run text Memory is = tt

pub no_read : (e : AuditError) → is_failed_read (Err (refusal_of_audit e)) ≡ false
no_read (Journal part fault) = refl
no_read (Apart part) = refl
no_read (Illegal part call) = refl
no_read LongLine = refl
no_read Memory = refl

-- ---- a line

-- the audit ends behind these bytes
module _ (every : ℕ) (text reported rest : List ℕ) (p q : Progress) (line left : List ℕ) (n : ℕ) (w : IsWatched every text p line reported)
  where
    stopped_at : (front behind : List ℕ) (b : ℕ) (more : List ℕ) (r : Refusal) → front ++ behind ≡ rest →
        behind ≡ b ∷ more → HasNoLineFeed front → is_failed_read (Err r) ≡ false →
        ((after : List ℕ) → IsBadRun ((text ++ front) ++ b ∷ after) r) → IsStopped every text rest reported r
    stopped_at front behind b more r all is none noted ends = record {
      front = front;
      next = b;
      behind = more;
      all = ap (λ t. front ++ t) (sym is) ∙ all;
      watched = reported_bytes every text reported front w.watched none;
      noted = noted;
      ends = ends;
    }

    pub stopped_fault : (e : AuditError) → FeedsLine standard_part rest p line q left n (Err e) →
        IsStopped every text rest reported (refusal_of_audit e)
    stopped_fault e t =
        let (none, (b, more, is, answer)) = t.ends in
        stopped_at t.front t.behind b more (refusal_of_audit e) t.all is none (no_read e)
        (λ after. bad_run ((text ++ t.front) ++ b ∷ after) e (answer (text ++ t.front) after (t.taken text w.fed)))

    -- there is no memory for the line that is due
    pub stopped_memory : rest ≢ [] → IsStopped every text rest reported refusal.Memory
    stopped_memory some =
        let (b, more, is) = some_first rest some in
        stopped_at [] rest b more refusal.Memory refl is (All-nil (λ b. b ≢ 10)) refl (λ after. tt)

-- a line was consumed, or what is left of one
pub line_taken : (every : ℕ) (text before old new rest : List ℕ) (p q : Progress) (line left : List ℕ) (n : ℕ) (x y : Counts) →
    IsWatched every text p line (before ++ old) → (t : FeedsLine standard_part rest p line q left n (Ok tt)) →
    AreFedSoFar standard_part p line x → AreFedSoFar standard_part q left y → AddsDue every x y old new →
    IsWatched every (text ++ t.front) q left (before ++ new)
line_taken every text before old new rest p q line left n x y w t here there (first, due, added) =
    let fed = t.taken text w.fed in
    record {
      fed = fed;
      watched = subst (λ (l : List ℕ). IsReportOf every (text ++ t.front) l)
          (append_assoc before old first ∙ ap (λ l. before ++ l) (sym added))
          (reported_more every text (before ++ old) t.front w.watched p q line left x y first w.fed fed here there due t.behind
          t.ends.1);
    }

-- if the audit ends within the rest of some bytes, it ends within all of them
pub stopped_more : (every : ℕ) (text done rest whole reported : List ℕ) (r : Refusal) → done ++ rest ≡ whole →
    IsStopped every (text ++ done) rest reported r → IsStopped every text whole reported r
stopped_more every text done rest whole reported r all s =
    let here : (text ++ done) ++ s.front ≡ text ++ (done ++ s.front) = append_assoc text done s.front in
    record {
      front = done ++ s.front;
      next = s.next;
      behind = s.behind;
      all = append_assoc done s.front (s.next ∷ s.behind) ∙ ap (λ t. done ++ t) s.all ∙ all;
      watched = subst (λ (t : List ℕ). IsReportOf every t reported) here s.watched;
      noted = s.noted;
      ends = λ more. subst (λ (t : List ℕ). IsBadRun (t ++ s.next ∷ more) r) here (s.ends more);
    }

-- ---- what is written for some bytes

-- the text that was due, if the output failed
cut_within : (every : ℕ) (text bytes : List ℕ) (q : Progress) (left reported : List ℕ) (r : Result (Unit {0}) AuditError) →
    IsWatchAnswer every text bytes q left reported r →
    (front behind : List ℕ) × (front ++ behind ≡ bytes) × IsReportOf every (text ++ front) reported
cut_within every text bytes q left reported (Ok u) w = (bytes, [], append-nil bytes, w.watched)
cut_within every text bytes q left reported (Err e) s = (s.front, s.next ∷ s.behind, s.all, s.watched)

pub written_cut : (every : ℕ) (text bytes before lines : List ℕ) (q : Progress) (left : List ℕ) (held holds : Known)
    (r : Result (Unit {0}) AuditError) → AppendsSome held holds lines → IsWatchAnswer every text bytes q left (before ++ lines) r →
    IsWrittenAnswer every text bytes q left before held holds (Err Unwritten)
written_cut every text bytes before lines q left held holds r some answer =
    let parts = cut_within every text bytes q left (before ++ lines) r answer in
    (lines, parts.0, parts.1, some, parts.2, parts.3)

pub no_lines : (every : ℕ) (text before lines : List ℕ) (p : Progress) (line : List ℕ) → lines ≡ [] →
    IsWatched every text p line before → IsWatched every text p line (before ++ lines)
no_lines every text before lines p line none w =
    subst (λ (t : List ℕ). IsWatched every text p line t)
    (sym (append-nil before) ∙ ap (λ (t : List ℕ). before ++ t) (sym none)) w

-- what goes out behind some text, and is cut off
pub some_behind : (held mid holds : Known) (reported more : List ℕ) → Appends held mid reported → AppendsSome mid holds more →
    AppendsSome held holds (reported ++ more)
some_behind held mid holds reported more before (n, some) = (
  length reported + n,
  subst (λ (t : List ℕ). Appends held holds t) (sym (take-append-add reported more n))
      (Appends-trans held mid holds reported (take n more) before some),
)

-- ---- the complete input

-- these bytes of the input were fed, and the text that is due for them went out
pub record IsWatchedTo (every : ℕ) (had left held holds : Known) (p : Progress) (line : List ℕ) : Type 0 where
  pub bytes : List ℕ
  pub reported : List ℕ
  pub consumed : Consumes had left bytes
  pub appended : Appends held holds reported
  pub watched : IsWatched every bytes p line reported

pub watched_none : (every : ℕ) (had held : Known) (p : Progress) (line : List ℕ) → IsFed standard_part [] p line →
    IsWatchedTo every had had held held p line
watched_none every had held p line fed = record {
  bytes = [];
  reported = [];
  consumed = Consumes-nil had;
  appended = Appends-nil held;
  watched = record {
    fed = fed;
    watched = record {
      lines = [];
      line = [];
      all = refl;
      ended = All-nil HasNoLineFeed;
      open_line = All-nil (λ b. b ≢ 10);
      of_lines = refl;
    };
  };
}

module _ (every : ℕ) (had mid held wrote : Known) (p : Progress) (line : List ℕ)
    (w : IsWatchedTo every had mid held wrote p line) where
  -- a read failed
  pub end_unread : (left : Known) (failed : Bool) → Keeps mid left → failed ≡ true →
      IsWatchEnd every had left failed held wrote (Err (Refused refusal.InputFault))
  end_unread left failed kept noted = (
    w.reported,
    w.appended,
    record {
      taken = w.bytes;
      behind = [];
      consumed = subst (λ (bs : List ℕ). Consumes had left bs) (sym (append-nil w.bytes))
          (Consumes-kept had mid left w.bytes w.consumed kept);
      watched = w.watched.watched;
      ends = inr refl;
      noted = noted;
    },
  )

  module _ (left : Known) (buffer : List ℕ) (n : ℕ) (failed : Bool) (none : n ≡ 0) (taken : Consumes mid left (take n buffer))
      (end : IsAtEnd left) (noted : failed ≡ false) where
    consumed : Consumes had left (w.bytes ++ [])
    consumed =
        Consumes-trans had mid left w.bytes [] w.consumed
        (subst (λ (k : ℕ). Consumes mid left (take k buffer)) none taken)

    -- no byte was left
    pub end_all : (c : Counts) → IsFedEnd standard_part p line (Ok c) →
        IsWatchEnd every had left failed held wrote (Ok c)
    end_all c is = (
      w.reported,
      w.appended,
      record {
        taken = w.bytes;
        behind = [];
        consumed = consumed;
        watched = w.watched.watched;
        ends = inl (end, is w.bytes w.watched.fed);
        noted = noted;
      },
    )

    pub end_fault : (e : AuditError) → IsFedEnd standard_part p line (Err e) →
        IsWatchEnd every had left failed held wrote (Err (Refused (refusal_of_audit e)))
    end_fault e is = (
      w.reported,
      w.appended,
      record {
        taken = w.bytes;
        behind = [];
        consumed = consumed;
        watched = w.watched.watched;
        ends = inl (end, bad_run w.bytes e (is w.bytes w.watched.fed));
        noted = noted ∙ sym (no_read e);
      },
    )

  -- a chunk was read
  module _ (left holds : Known) (q : Progress) (next bytes : List ℕ) (failed : Bool) (taken : Consumes mid left bytes)
      (noted : failed ≡ false) where
    all_consumed : Consumes had left (w.bytes ++ bytes)
    all_consumed = Consumes-trans had mid left w.bytes bytes w.consumed taken

    stopped_to : (reported : List ℕ) (r : Refusal) → IsStopped every w.bytes bytes reported r →
        IsWatchReported every had left failed (Err r) reported
    stopped_to reported r s = record {
      taken = w.bytes ++ s.front;
      behind = s.next ∷ s.behind;
      consumed = subst (λ (bs : List ℕ). Consumes had left bs)
          (ap (λ t. w.bytes ++ t) (sym s.all) ∙ sym (append_assoc w.bytes s.front (s.next ∷ s.behind))) all_consumed;
      watched = s.watched;
      ends = (s.noted, s.ends);
      noted = noted ∙ sym s.noted;
    }

    pub chunk_on : IsWrittenAnswer every w.bytes bytes q next w.reported wrote holds (Ok tt) →
        IsWatchedTo every had left held holds q next
    chunk_on (more, appended, watched) = record {
      bytes = w.bytes ++ bytes;
      reported = w.reported ++ more;
      consumed = all_consumed;
      appended = Appends-trans held wrote holds w.reported more w.appended appended;
      watched = watched;
    }

    pub chunk_stopped : (stop : Stop) → IsWrittenAnswer every w.bytes bytes q next w.reported wrote holds (Err stop) →
        IsWatchEnd every had left failed held holds (Err stop)
    chunk_stopped (Refused r) (more, appended, s) = (
      w.reported ++ more,
      Appends-trans held wrote holds w.reported more w.appended appended,
      stopped_to (w.reported ++ more) r s,
    )
    chunk_stopped Unwritten (more, front, behind, some, all, watched) = (
      w.reported ++ more,
      some_behind held wrote holds w.reported more w.appended some,
      record {
        taken = w.bytes ++ front;
        behind = behind;
        consumed = subst (λ (bs : List ℕ). Consumes had left bs)
            (ap (λ t. w.bytes ++ t) (sym all) ∙ sym (append_assoc w.bytes front behind)) all_consumed;
        watched = watched;
      },
      noted,
    )

-- there is no memory for the line of a legal run
pub memory_instead : (every : ℕ) (had left : Known) (failed : Bool) (v : Counts) (reported : List ℕ) →
    IsWatchReported every had left failed (Ok v) reported → IsWatchReported every had left failed (Err refusal.Memory) reported
memory_instead every had left failed v reported w = record {
  taken = w.taken;
  behind = w.behind;
  consumed = w.consumed;
  watched = w.watched;
  ends = by_behind w.behind w.ends;
  noted = w.noted;
} where
  by_behind : (behind : List ℕ) → IsReportedAfter left w.taken behind (Ok v) →
      IsReportedAfter left w.taken behind (Err refusal.Memory)
  by_behind [] (inl is) = inl (is.0, tt)
  by_behind [] (inr e) = absurd (cc (e))
  by_behind (b ∷ bs) is = (refl, λ more. tt)
