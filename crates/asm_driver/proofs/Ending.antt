-- How a run ends: by an answer or a refusal, or by what an audit or a trace writes meanwhile and at its end.
use Rattle.std.proofs.Common.{◌≡◌, ℕ, Bool, true, false, List, ◌++◌, Result, Ok, Err, IfOk, IfErr, string_bytes, refl, sym, subst, ◌∙◌, inl, inr}
use Rattle.std.proofs.KnownBytes.{Appends-trans}
use Rattle.std.specs.Io.KnownBytes.{Appends}
use Rattle.asm_aggregate.specs.Standard.{standard_part}
use Rattle.asm_audit.specs.declared.progress.Counts.{Counts}
use Rattle.asm_journal.specs.Reading.{ReadsAs}
use Rattle.asm_storage.specs.declared.history.History.{History}
use Rattle.asm_trace.specs.Text.{IsTrace}
use Rattle.asm_driver.specs.Ports.{Known}
use Rattle.asm_driver.specs.Refusal.{refusal_line, refusal_status}
use Rattle.asm_driver.specs.Run.{Input, Output, output_of, input_of, IsUnread, IsWhole, IsAnswer, IsNoAnswer, IsAnswerTo, Writes, Refuses, WritesLegal, Watches, Runs}
use Rattle.asm_driver.specs.Watch.{IsWatchEnd}
use Rattle.asm_driver.specs.Trace.{IsTraceStopped}
use Rattle.asm_driver.specs.Window.{IsWindow}
use Rattle.asm_driver.specs.Words.{Words, AsksFor, IsRefusal}
use Rattle.asm_driver.specs.declared.program.words.Request.{Request}
use Rattle.asm_driver.specs.declared.program.commands.Ending.{Ending}
use Rattle.asm_driver.specs.declared.program.refusal.Refusal.{Refusal}
use Rattle.asm_driver.specs.declared.program.refusal.Refusal.TheVariants as refusal
use Rattle.asm_driver.specs.declared.program.watching.Stop.TheVariants.{Refused, Unwritten}
use Rattle.asm_driver.specs.declared.program.words.WordsError.{WordsError}
use Rattle.asm_driver.specs.declared.program.words.WordsError.TheVariants.{Help, Version, Bad, Memory}
use Rattle.asm_driver.specs.declared.program.words.Request.TheVariants.{Show, Trace}
use Rattle.asm_driver.specs.declared.program.words.Window.{Window}
use Rattle.asm_driver.proofs.Runs.{refused}
use Rattle.asm_driver.proofs.Watching.{some_behind, memory_instead}

-- ---- words that ask for nothing that is carried out

abbrev pub IsAnswered : Words → Input → Result Ending Refusal → Type 0
IsAnswered words i (Ok e) = IsAnswer words i e.status (string_bytes e.text)
IsAnswered words i (Err r) = IsNoAnswer words i r

version_reported : (words : Words) (i : Input) (r : Result Ending Refusal) → IsRefusal words Version → IsAnswerTo Version r →
    IsUnread i → IsAnswered words i r
version_reported words i (Ok e) asks is unread = inr (inr (is.0, inr (asks, is.1), unread))
version_reported words i (Err r) asks is unread = subst (IsNoAnswer words i) (sym is) (inl (tt, unread))

pub reported_of_words : (words : Words) (i : Input) (e : WordsError) (r : Result Ending Refusal) → IsRefusal words e →
    IsAnswerTo e r → IsUnread i → IsAnswered words i r
reported_of_words words i (Help text) r asks is unread =
    subst (IsAnswered words i) (sym is) (inr (inr (refl, inl asks, unread)))
reported_of_words words i Version r asks is unread = version_reported words i r asks is unread
reported_of_words words i Bad r asks is unread = subst (IsAnswered words i) (sym is) (inl (asks, unread))
reported_of_words words i Memory r asks is unread = subst (IsAnswered words i) (sym is) (inl (tt, unread))

pub asked_answered : (words : Words) (i : Input) (q : Request) (r : Result Ending Refusal) →
    IfOk r (λ e. (w : Words) → AsksFor w q → IsAnswer w i e.status (string_bytes e.text)) →
    IfErr r (λ x. (w : Words) → AsksFor w q → IsNoAnswer w i x) → AsksFor words q → IsAnswered words i r
asked_answered words i q (Ok e) ok err asks = ok words asks
asked_answered words i q (Err r) ok err asks = err words asks

-- ---- a window

pub shown_answered : (w : Window) (had left : Known) (failed : Bool) (q : Request) (r : Result Ending Refusal) →
    q ≡ Show w → IfOk r (λ e. e.status ≡ 0) → IfOk r (λ e. IsWindow w had left failed (string_bytes e.text)) →
    IfOk r (λ e. (words : Words) → AsksFor words q →
    IsAnswer words (input_of had left failed) e.status (string_bytes e.text))
shown_answered w had left failed q (Ok e) asked status is =
    λ words asks. inr (inl (w, subst (AsksFor words) asked asks, status, is))
shown_answered w had left failed q (Err r) asked status is = tt

-- ---- what is written of an answer

pub run_is : (words : Words) (i : Input) (o : Output) (result : ℕ) (r : Result Ending Refusal) → IsAnswered words i r →
    IfOk r (λ e. Writes o e.status (string_bytes e.text) result) → IfErr r (λ x. Refuses o x result) →
    Runs words i o result
run_is words i o result (Ok e) is writes refuses = inl (e.status, string_bytes e.text, inl is, writes)
run_is words i o result (Err r) is writes refuses = refused words i o r result is refuses

-- for the same words
pub run_of : (given words : Words) (i : Input) (o : Output) (result : ℕ) → given ≡ words → Runs given i o result →
    Runs words i o result
run_of given words i o result same runs = subst (λ (w : Words). Runs w i o result) same runs

-- ---- what is written of an audit

-- behind what was reported meanwhile
pub writes_behind : (held mid holds : Known) (failed flushed : Bool) (reported text : List ℕ) (status result : ℕ) →
    Appends held mid reported → Writes (output_of mid holds failed flushed) status text result →
    Writes (output_of held holds failed flushed) status (reported ++ text) result
writes_behind held mid holds failed flushed reported text status result before (inl (same, out)) = inl (
  same,
  record { all = Appends-trans held mid holds reported text before out.all; whole = out.whole; flushed = out.flushed },
)
writes_behind held mid holds failed flushed reported text status result before (inr (same, cut)) =
    inr (same, record { some = some_behind held mid holds reported text before cut.some; failed = cut.failed })

module _ (every : ℕ) (had left held mid holds : Known) (read failed flushed : Bool) (result : ℕ) where
  abbrev i : Input
  i = input_of had left read

  abbrev o : Output
  o = output_of held holds failed flushed

  pub watched_legal : (v : Counts) → IsWatchEnd every had left read held mid (Ok v) →
      WritesLegal v (output_of mid holds failed flushed) result → Watches every i o result
  watched_legal v (reported, before, is) (inl writes) =
      inl (Ok v, reported, _, _, is, (refl, refl), writes_behind held mid holds failed flushed reported _ _ result before writes)
  watched_legal v (reported, before, is) (inr writes) = inl (
    Err refusal.Memory,
    reported,
    _,
    _,
    memory_instead every had left read v reported is,
    (refusal.Memory, inl refl, refl, refl),
    writes_behind held mid holds failed flushed reported _ _ result before writes,
  )

  pub watched_refusal : (r : Refusal) → IsWatchEnd every had left read held mid (Err (Refused r)) →
      Refuses (output_of mid holds failed flushed) r result → Watches every i o result
  watched_refusal r (reported, before, is) (shown, same, writes) = inl (
    Err r,
    reported,
    refusal_line shown,
    refusal_status shown,
    is,
    (shown, same, refl, refl),
    writes_behind held mid holds failed flushed reported (refusal_line shown) (refusal_status shown) result before writes,
  )

pub watched_cut : (every : ℕ) (had left held holds : Known) (read failed flushed : Bool) (result : ℕ) →
    IsWatchEnd every had left read held holds (Err Unwritten) → failed ≡ true → result ≡ 4 →
    Watches every (input_of had left read) (output_of held holds failed flushed) result
watched_cut every had left held holds read failed flushed result (reported, some, cut, reads) noted four =
    inr (reported, cut, reads, four, record { some = some; failed = noted })

-- ---- what is written of a trace

-- an allocation failure is shown as itself
memory_written : (o : Output) (r : Refusal) (result : ℕ) → r ≡ refusal.Memory → Refuses o r result →
    Writes o 3 (refusal_line refusal.Memory) result
memory_written o r result same (shown, inl is, writes) =
    subst (λ (x : Refusal). Writes o (refusal_status x) (refusal_line x) result) (is ∙ same) writes
memory_written o r result same (shown, inr (is, number), writes) =
    subst (λ (x : Refusal). Writes o (refusal_status x) (refusal_line x) result) is writes

module _ (words : Words) (i : Input) (held holds : Known) (failed flushed : Bool) (result : ℕ) (h : History)
    (read : (bytes : List ℕ) × IsWhole i bytes × ReadsAs bytes h) (asks : AsksFor words Trace) where
  abbrev ended : Output
  ended = output_of held holds failed flushed

  pub traced_all : result ≡ 0 → (text : List ℕ) × IsTrace standard_part h text × Appends held holds text → failed ≡ false →
      flushed ≡ true → Runs words i ended result
  traced_all same (text, is, all) whole flushes =
      let done = inl (inl (read.0, Trace, read.1, asks, (refl, (h, read.2, is)))) in
      inl (0, text, done, inl (same, record { all = all; whole = whole; flushed = flushes }))

  pub traced_memory : (mid : Known) (r : Refusal) → IsTraceStopped h held mid (Refused r) →
      Refuses (output_of mid holds failed flushed) r result → Runs words i ended result
  traced_memory mid r (begun, is, ends) refuses =
      let line = memory_written (output_of mid holds failed flushed) r result ends.0 refuses in
      let all = writes_behind held mid holds failed flushed begun (refusal_line refusal.Memory) 3 result ends.1 line in
      inr (inr (asks, (read.0, begun, h, read.1, read.2, is, inl all)))

  pub traced_cut : result ≡ 4 → IsTraceStopped h held holds Unwritten → failed ≡ true → Runs words i ended result
  traced_cut same (begun, is, some) noted =
      inr (inr (asks, (read.0, begun, h, read.1, read.2, is, inr (same, record { some = some; failed = noted }))))
