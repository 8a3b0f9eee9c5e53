-- What holds of a text that was written into a buffer, or is too long for it.
use Rattle.std.proofs.Common.{◌≡◌, ◌<◌, ℕ, List, [], ◌∷◌, length, Option, Some, Result, Ok, Err, IfErr, OnErr, OnOk, inl, inr, refl, subst, sym}
use Rattle.std.specs.Prelude.{MatchResult}
use Rattle.asm_storage.specs.Storage.{AgentAt}
use Rattle.asm_element.specs.Place.{Place}
use Rattle.asm_element.specs.declared.value.Value.{Value}
use Rattle.asm_transaction.specs.Reading.{IsOf, IsShown, IsUnread, IsUntracked}
use Rattle.asm_transaction.specs.View.{TransactionView}
use Rattle.asm_slots.specs.Slots.{Changes, HoldBoth, Holds, a_step}
use Rattle.asm_slots.specs.Kinds.{bytes_of}
use Rattle.asm_slots.specs.Standard.{Standard, meaning}
use Rattle.asm_slots.specs.StepAnswers.{ShowsBoth, ShowsNoText}
use Rattle.asm_slots.specs.StepCalls.{Errs, HasReached, IsBytesSeen}
use Rattle.asm_slots.specs.WrittenText.{HasNoText, IsCopied, IsTooLong, IsWritten}
use Rattle.asm_slots.specs.declared.codes.Code.{Code}
use Rattle.asm_slots.specs.declared.codes.Code.TheVariants as code
use Rattle.asm_slots.specs.declared.content.Content.{Content}
use Rattle.asm_slots.specs.declared.content.Content.TheVariants as content
use Rattle.asm_slots.proofs.Refused.{unread_untracked}

-- a text of this kind is written, if these bytes of it are
pub written : (P : List ℕ → Type 0) (N : Code → Type 0) (bytes text out after : List ℕ) (n : ℕ) (r : Result (Unit {0}) Code) →
    bytes ≡ text → P text → n ≡ length bytes → OnOk r (IsCopied bytes out after n) → IfErr r (λ c. c ≡ code.Small) →
    OnErr r (length out < n) → OnErr r (after ≡ out) → IsWritten P N out after n r
written P N bytes text out after n (Ok u) same is count copied small room kept = (bytes, subst P (sym same) is, copied)
written P N bytes text out after n (Err c) same is count copied small room kept =
    (kept, inl (small, (bytes, subst P (sym same) is, (count, subst (λ (k : ℕ). length out < k) count room))))

-- none is, if these bytes of it are too long
pub unfit : (P : List ℕ → Type 0) (N : Code → Type 0) (bytes text out : List ℕ) (n : ℕ) (c : Code) → bytes ≡ text → P text →
    c ≡ code.Small → IsTooLong bytes (length out) n → HasNoText P N out out n c
unfit P N bytes text out n c same is small long = (refl, inl (small, (bytes, subst P (sym same) is, long)))

-- there is no text for one reason, so for another
pub written_too : (P : List ℕ → Type 0) (N M : Code → Type 0) (out after : List ℕ) (n : ℕ) (r : Result (Unit {0}) Code) →
    ((c : Code) → N c → M c) → IsWritten P N out after n r → IsWritten P M out after n r
written_too P N M out after n (Ok u) also is = is
written_too P N M out after n (Err c) also (kept, inl long) = (kept, inl long)
written_too P N M out after n (Err c) also (kept, inr (zero, none)) = (kept, inr (zero, also c none))

-- the bytes of a value aren't written, so not those of what the transaction shows
pub unread_bytes : (l : Place) (a : AgentAt Standard) (t : TransactionView) (v : Value) (out after : List ℕ) (n : ℕ) (c : Code) →
    HasReached a t → (IsOf meaning a t → IsShown meaning a t l v) →
    HasNoText (λ text. text ≡ bytes_of v) (Errs (IsUntracked (l ∷ []) t)) out after n c →
    HasNoText (IsBytesSeen l a t) (Errs (IsUnread l a.number t)) out after n c
unread_bytes l a t v out after n c reached shown (kept, inl (small, (text, is, long))) =
    (kept, inl (small, (text, (reached, (v, shown, is)), long)))
unread_bytes l a t v out after n c reached shown (kept, inr (zero, none)) = (kept, inr (zero, unread_untracked l a.number t c none))

hold_both : (agent step : Option Content) (a : AgentAt Standard) (s : TransactionView) (P : AgentAt Standard → TransactionView → Type 0) →
    agent ≡ Some (content.Agent a) → step ≡ Some (content.Step s) → P a s → HoldBoth agent step P
hold_both agent step a s P e f p =
    subst (λ (x : Option Content). HoldBoth x step P) (sym e) (subst (λ (x : Option Content). Holds a_step x (P a)) (sym f) p)

-- what is written of an agent and a step is written of their slots
pub shows : (P : AgentAt Standard → TransactionView → List ℕ → Type 0) (N : AgentAt Standard → TransactionView → Code → Type 0)
    (Q : TransactionView → TransactionView → Type 0) (agent step step_after : Option Content) (a : AgentAt Standard) (s t : TransactionView)
    (out after : List ℕ) (n : ℕ) (r : Result (Unit {0}) Code) → agent ≡ Some (content.Agent a) → step ≡ Some (content.Step s) →
    step_after ≡ Some (content.Step t) → IsWritten (P a s) (N a s) out after n r → OnOk r (Q s t) →
    MatchResult r (λ done. ShowsBoth P agent step out after n × Changes a_step step step_after Q) (ShowsNoText P N agent step out after n)
shows P N Q agent step step_after a s t out after n (Ok u) e f g (text, is, copied) changed = (
  (text, hold_both agent step a s (λ b x. P b x text) e f is, copied),
  subst (λ (x : Option Content). Changes a_step x step_after Q) (sym f) (subst (λ (x : Option Content). Holds a_step x (Q s)) (sym g) changed),
)
shows P N Q agent step step_after a s t out after n (Err c) e f g (kept, inl (small, (text, is, long))) changed =
    (kept, inl (small, (text, hold_both agent step a s (λ b x. P b x text) e f is, long)))
shows P N Q agent step step_after a s t out after n (Err c) e f g (kept, inr (zero, none)) changed =
    (kept, inr (zero, inr (hold_both agent step a s (λ b x. N b x c) e f none)))
