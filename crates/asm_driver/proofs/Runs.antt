-- A run, from what was answered; and a run over a reader and a writer, from one over an input and an output.
use Rattle.std.proofs.Common.{◌≡◌, ℕ, List, Bool, true, false, Err, refl, sym, ◌∙◌, ap₂, subst, inl, inr, ◌≤◌, []}
use Rattle.std.proofs.Common.{◌++◌, length, arith}
use Rattle.asm_driver.specs.Commands.{IsNotDone}
use Rattle.asm_driver.specs.Ports.{Known, TakesSome}
use Rattle.asm_driver.specs.Refusal.{refusal_line, refusal_status, has_number}
use Rattle.asm_driver.specs.Words.{Words}
use Rattle.asm_driver.specs.Run.{Input, Output, IsAnswer, IsNoAnswer, IsNoInput, IsShown, Refuses, Runs}
use Rattle.asm_driver.specs.Run.{RunsOver, input_of, output_of, IsUnread, IsWhole, Takes}
use Rattle.asm_driver.specs.declared.program.refusal.Refusal.{Refusal}
use Rattle.asm_driver.specs.declared.program.refusal.Refusal.TheVariants as refusal
use Rattle.asm_driver.specs.declared.program.words.Request.{Request}
use Rattle.asm_driver.specs.declared.program.words.Request.TheVariants.{Run, Terms, Show, Audit, Explain}
use Rattle.asm_driver.specs.Audit.{is_failed_read}
use Rattle.asm_driver.specs.Window.{IsNoWindow}
use Rattle.asm_driver.specs.declared.program.words.Window.{Window}
use Rattle.std.proofs.KnownBytes.{Consumes-nil}
use Rattle.std.specs.Io.KnownBytes.{Consumes}
use Rattle.asm_driver.specs.Limits.{input_limit}

-- an allocation failure is possible whenever something is carried out
memory_done : (bytes : List ℕ) (request : Request) (r : Refusal) → IsNotDone bytes request r →
    IsNotDone bytes request refusal.Memory
memory_done bytes (Run capacity asked) r is = tt
memory_done bytes (Terms capacity) r is = tt
memory_done bytes (Show w) r is = is
memory_done bytes (Audit every) r is = is
memory_done bytes (Explain t) r is = refl
memory_done bytes request r is = tt

-- a refusal with a number isn't that of a failed read
number_read : (r : Refusal) → has_number r ≡ true → is_failed_read (Err r) ≡ false
number_read refusal.InputFault number = sym number
number_read r number = refl

-- an allocation failure is also possible if a window is asked for
memory_shown : (w : Window) (had left : Known) (failed : Bool) (r : Refusal) → has_number r ≡ true →
    IsNoWindow w had left failed r → IsNoWindow w had left failed refusal.Memory
memory_shown w had left failed r number (taken, inside, reported) = (
  taken,
  inside,
  record {
    line = reported.line;
    behind = reported.behind;
    consumed = reported.consumed;
    one = reported.one;
    reported = inr (λ more. inl tt);
    noted = reported.noted ∙ number_read r number;
  },
)

-- a refusal of the input has no number
input_plain : (i : Input) (r : Refusal) → IsNoInput i r → has_number r ≡ true → ⊥
input_plain i refusal.TooLarge is e = cc (e)
input_plain i refusal.InputFault is e = cc (e)
input_plain i refusal.Memory is e = cc (e)
input_plain i r is e = is

memory_reported : (words : Words) (i : Input) (r : Refusal) → has_number r ≡ true → IsNoAnswer words i r →
    IsNoAnswer words i refusal.Memory
memory_reported words i r number (inl (bad, unread)) = inl (tt, unread)
memory_reported words i r number (inr (inl (taken, is))) = absurd (input_plain i r is number)
memory_reported words i r number (inr (inr (inl (bytes, request, whole, asks, is)))) =
    inr (inr (inl (bytes, request, whole, asks, memory_done bytes request r is)))
memory_reported words i r number (inr (inr (inr (w, asks, is)))) =
    inr (inr (inr (w, asks, memory_shown w i.had i.left i.failed r number is)))

-- the refusal that is shown says why there is no answer
shown_reported : (words : Words) (i : Input) (r shown : Refusal) → IsNoAnswer words i r → IsShown r shown →
    IsNoAnswer words i shown
shown_reported words i r shown none (inl is) = subst (IsNoAnswer words i) (sym is) none
shown_reported words i r shown none (inr (is, number)) = subst (IsNoAnswer words i) (sym is)
    (memory_reported words i r number none)

pub refused : (words : Words) (i : Input) (o : Output) (r : Refusal) (result : ℕ) → IsNoAnswer words i r →
    Refuses o r result → Runs words i o result
refused words i o r result none (shown, is, writes) = inl (
  refusal_status shown,
  refusal_line shown,
  inr (shown, shown_reported words i r shown none is, refl, refl),
  writes,
)

pub runs_over : (words : Words) (had left held holds had' left' held' holds' : Known) (read write flushed : Bool)
    (result : ℕ) → had ≡ had' → left ≡ left' → held ≡ held' → holds ≡ holds' →
    Runs words (input_of had left read) (output_of held holds write flushed) result →
    RunsOver words had' left' held' holds' result
runs_over words had left held holds had' left' held' holds' read write flushed result a b c d runs =
    let taken = ap₂ (λ x y. input_of x y read) a b in
    let given = ap₂ (λ x y. output_of x y write flushed) c d in (
      read,
      write,
      flushed,
      subst (λ o. Runs words (input_of had' left' read) o result) given
          (subst (λ i. Runs words i (output_of held holds write flushed) result) taken runs),
    )

-- a test that isn't false is true
pub otherwise : (b : Bool) → (b ≡ false → false ≡ true) → b ≡ true
otherwise true h = refl
otherwise false h = h refl

-- if nothing was read, no bytes were consumed
none_taken : (i : Input) → IsUnread i → TakesSome i.had i.left
none_taken i unread =
    ([], subst (λ (l : Known). Consumes i.had l []) (sym unread.same) (Consumes-nil i.had), omega arith)

-- all of the input is within the limit
all_taken : (i : Input) (bytes : List ℕ) → IsWhole i bytes → TakesSome i.had i.left
all_taken i bytes whole =
    let within : length bytes ≤ input_limit = whole.all.within in (bytes, whole.all.consumed, omega (arith, within))

answered_taken : (words : Words) (i : Input) (status : ℕ) (text : List ℕ) → IsAnswer words i status text →
    Takes words i.had i.left
answered_taken words i status text (inl (bytes, request, whole, asks, done)) = inl (all_taken i bytes whole)
answered_taken words i status text (inr (inl (w, asks, same, is))) = inr (inr (w, asks), (is.bytes, is.consumed))
answered_taken words i status text (inr (inr (same, asks, unread))) = inl (none_taken i unread)

-- if there is no input, at most one byte beyond the limit was consumed
input_taken : (i : Input) (r : Refusal) → IsNoInput i r → TakesSome i.had i.left
input_taken i refusal.TooLarge ((bytes, consumed, count), whole) = (bytes, consumed, omega (arith, count))
input_taken i refusal.InputFault is = is.0
input_taken i refusal.Memory is = is.0
input_taken i r is = absurd is

refused_taken : (words : Words) (i : Input) (r : Refusal) → IsNoAnswer words i r → Takes words i.had i.left
refused_taken words i r (inl (bad, unread)) = inl (none_taken i unread)
refused_taken words i r (inr (inl (taken, is))) = inl (input_taken i r is)
refused_taken words i r (inr (inr (inl (bytes, request, whole, asks, is)))) = inl (all_taken i bytes whole)
refused_taken words i r (inr (inr (inr (w, asks, reported)))) =
    inr (inr (w, asks), (reported.0 ++ (reported.2.line ++ reported.2.behind), reported.2.consumed))

pub run_taken : (words : Words) (i : Input) (o : Output) (result : ℕ) → Runs words i o result → Takes words i.had i.left
run_taken words i o result (inl (status, text, inl is, writes)) = answered_taken words i status text is
run_taken words i o result (inl (status, text, inr (r, none, same, written), writes)) = refused_taken words i r none
run_taken words i o result (inr (inl (every, asks, inl (r, reported, text, status, is, ends, writes)))) =
    inr (inl (every, asks), (is.taken ++ is.behind, is.consumed))
run_taken words i o result (inr (inl (every, asks, inr (reported, cut, reads, four, some)))) =
    inr (inl (every, asks), (cut.taken ++ cut.behind, cut.consumed))
run_taken words i o result (inr (inr (asks, (bytes, begun, h, whole, reads, is, ways)))) = inl (all_taken i bytes whole)
