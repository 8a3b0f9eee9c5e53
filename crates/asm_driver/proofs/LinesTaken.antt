-- Lines that are consumed from the input, and what is reported at one of them.
use Rattle.std.proofs.Common.{◌≡◌, ◌≢◌, ℕ, Bool, List, [], ◌∷◌, ◌++◌, Err, refl, sym, ap, subst, ◌∙◌, inl, inr, append-nil, append_assoc}
use Rattle.std.proofs.KnownBytes.{Consumes-trans}
use Rattle.std.specs.Io.KnownBytes.{Consumes}
use Rattle.std.proofs.lemmas.List.Elements.{All-nil}
use Rattle.serde_json.specs.Data.{Data}
use Rattle.asm_journal.specs.Reading.{HasNoLineFeed, HasLine}
use Rattle.asm_audit.specs.Text.{IsLineBefore}
use Rattle.asm_audit.proofs.Extended.{ended}
use Rattle.asm_driver.specs.Audit.{is_failed_read}
use Rattle.asm_driver.specs.Ports.{Known, TakesAny}
use Rattle.asm_driver.specs.Lines.{Takes, IsLineAt, IsLongLine, IsLineRead}
use Rattle.asm_driver.specs.Parts.{IsAt, IsOneLine, IsReportedAfter}
use Rattle.asm_driver.specs.Refusal.{refusal_of_input}
use Rattle.asm_driver.specs.declared.ports.input.InputError.{InputError}
use Rattle.asm_driver.specs.declared.ports.input.InputError.TheVariants.{TooLarge, Fault, Memory}
use Rattle.asm_driver.specs.declared.program.refusal.Refusal.{Refusal}
use Rattle.asm_driver.specs.declared.program.refusal.Refusal.TheVariants as refusal
use Rattle.asm_driver.proofs.PartLines.{IsLineOf}

none_open : HasNoLineFeed []
none_open = All-nil (λ b. b ≢ 10)

-- ---- bytes behind those that were consumed

pub taken_on : (had old new : Known) (text before behind bytes : List ℕ) → IsAt had old text before →
    Takes old new before behind bytes → IsAt had new (text ++ bytes) behind
taken_on had old new text before behind bytes at (more, consumed, all) =
    subst (Consumes had new)
    (append_assoc text before more ∙ ap (λ (l : List ℕ). text ++ l) all ∙ sym (append_assoc text bytes behind))
    (Consumes-trans had old new (text ++ before) more at consumed)

-- all bytes that were read, whatever was reported about them
any_taken : (had old new : Known) (text before : List ℕ) → IsAt had old text before → (taken : TakesAny old new) →
    Consumes had new (text ++ (before ++ taken.0))
any_taken had old new text before at (more, consumed) =
    subst (Consumes had new) (append_assoc text before more) (Consumes-trans had old new (text ++ before) more at consumed)

-- ---- what is reported at a line

module _ (had left : Known) (failed : Bool) (text : List ℕ) (Report : List ℕ → Refusal → Type 0) where
  -- what is reported of any text
  pub reported_anywhere : (r : Refusal) (behind : List ℕ) → Consumes had left (text ++ behind) →
      failed ≡ is_failed_read (Err r) → ((all : List ℕ) → Report all r) → IsReportedAfter had left failed text Report r
  reported_anywhere r behind consumed noted any = record {
    line = [];
    behind = behind;
    consumed = consumed;
    one = inl none_open;
    reported = inr (λ more. any (text ++ more));
    noted = noted;
  }

  -- what is reported at a line, whatever follows it
  pub reported_at : (r : Refusal) (line behind : List ℕ) → IsAt had left (text ++ line) behind → IsLineAt left behind line →
      failed ≡ is_failed_read (Err r) → ((rest : List ℕ) → IsLineOf line rest → Report (text ++ (line ++ rest)) r) →
      IsReportedAfter had left failed text Report r
  reported_at r line behind at (inl (body, ends)) noted is = record {
    line = line;
    behind = behind;
    consumed = subst (Consumes had left) (append_assoc text line behind) at;
    one = inr (body, ends);
    reported = inr (λ more. is more (inl (inl (body, ends))));
    noted = noted;
  }
  reported_at r line behind at (inr (none, nothing, end)) noted is = record {
    line = line;
    behind = behind;
    consumed = subst (Consumes had left) (append_assoc text line behind) at;
    one = inl none;
    reported = inl (end, nothing, subst (λ (l : List ℕ). Report (text ++ l) r) (append-nil line) (is [] (last line none)));
    noted = noted;
  } where
    last : (l : List ℕ) → HasNoLineFeed l → IsLineOf l []
    last [] none = inr (refl, refl)
    last (b ∷ bs) none = inl (inr (refl, (λ e. cc), none))

-- ---- a line that wasn't read

pub unread_reported : (had old new : Known) (failed : Bool) (text before behind line : List ℕ)
    (Report : List ℕ → Refusal → Type 0) (e : InputError) → IsAt had old text before →
    IsLineRead old new failed before behind line (Err e) → ((all : List ℕ) → Report all refusal.InputFault) →
    ((all : List ℕ) → Report all refusal.Memory) →
    ((long more : List ℕ) → IsLongLine long → Report (text ++ (long ++ more)) refusal.TooLarge) →
    IsReportedAfter had new failed text Report (refusal_of_input e)
unread_reported had old new failed text before behind line Report TooLarge at (long, taken, is, noted) fault memory large = record {
  line = long;
  behind = behind;
  consumed = subst (Consumes had new) (append_assoc text long behind) (taken_on had old new text before behind long at taken);
  one = inl is.0;
  reported = inr (λ more. large long more is);
  noted = noted;
}
unread_reported had old new failed text before behind line Report Fault at (taken, noted) fault memory large =
    reported_anywhere had new failed text Report refusal.InputFault (before ++ taken.0) (any_taken had old new text before at taken)
    noted fault
unread_reported had old new failed text before behind line Report Memory at (taken, noted) fault memory large =
    reported_anywhere had new failed text Report refusal.Memory (before ++ taken.0) (any_taken had old new text before at taken) noted
    memory

-- ---- lines

-- what is read as a value has its line feed
pub line_ended : (left : Known) (behind line : List ℕ) (d : Data) (after : List ℕ) → IsLineAt left behind line →
    HasLine line d after → IsLineBefore line []
line_ended left behind line d after (inl is) has = inl is
line_ended left behind line d after (inr (none, nothing, end)) has = absurd (ended line has.0 after has.1 none)

pub line_one : (left : Known) (behind line : List ℕ) → IsLineAt left behind line → IsOneLine line
line_one left behind line (inl is) = inr is
line_one left behind line (inr (none, nothing, end)) = inl none
