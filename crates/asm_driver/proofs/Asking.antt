-- What the matches of a subcommand ask for, and how words are refused.
use Rattle.std.proofs.Common.{◌≡◌, ◌∙◌, ◌<◌, ◌^◌, ℕ, Bool, true, false, Option, Some, None, Result, Ok, Err}
use Rattle.std.proofs.Common.{◌⊎◌, inl, inr, Bor, List, [], ap, bytes_eq, codes, option_map, sym, refl, subst, true≢false}
use Rattle.std.specs.Prelude.{◌≤◌, IfSome, is_some, not, unwrap_or}
use Rattle.std.specs.Option.{option_or}
use Rattle.std.specs.Str.Parse.{ParsesUnsigned, IsNumeral, digits_value, without_leading_plus}
use Rattle.std.proofs.lemmas.Slice.Eq.{bytes_eq-Decides}
use Rattle.clap.specs.Words.{IsAmong, Row, Text, first_of, first_value, one_text, rows_of}
use Rattle.clap.specs.Matches.{ReadsOne}
use Rattle.clap.specs.declared.parser.matches.Found.{Found}
use Rattle.clap.specs.declared.error.kind.ErrorKind.{ErrorKind}
use Rattle.clap.specs.declared.error.kind.ErrorKind.TheVariants as kind
use Rattle.clap.proofs.WalkLemmas.{first_value-rows, one_text-rows}
use Rattle.asm_driver.specs.Limits.{default_capacity}
use Rattle.asm_driver.specs.Words.{AsksCapacity, AsksFlag, AsksNumber, AsksNone, AsksTrace, IsForward, AsksKind, kind_word, Words, faults, IsRefusal, IsMadeOf}
use Rattle.asm_driver.specs.declared.program.words.Request.{Request}
use Rattle.asm_driver.specs.declared.program.words.Request.TheVariants.{Trace, Show}
use Rattle.asm_driver.specs.declared.program.words.Window.{Window}
use Rattle.asm_driver.specs.declared.program.words.WordsError.{WordsError}
use Rattle.asm_driver.specs.declared.program.words.WordsError.TheVariants.{Help, Version, Bad, Memory}
use Rattle.asm_driver.specs.declared.program.words.TextKind.{TextKind}
use Rattle.asm_driver.specs.declared.program.words.TextKind.TheVariants.{Script, Journal}

-- the number that was read is the one that the digits write
digits : {E : Type 0} (gives : Text → Result ℕ E → Type 0) (t : Text) (found : Option ℕ)
    → ((r : Result ℕ E) → gives t r → ParsesUnsigned 32 10 t r) → ReadsOne gives t found
    → IsNumeral 10 (without_leading_plus t) → digits_value 10 (without_leading_plus t) < 2 ^ 32
    → unwrap_or found default_capacity ≡ digits_value 10 (without_leading_plus t)
digits gives t (Some n) reads read numeral small = (reads (Ok n) read).1
digits gives t None reads read numeral small = absurd (reads (Err read.0) read.1 (numeral, small))

pub capacity_asked : {E : Type 0} (gives : Text → Result ℕ E → Type 0) (f : Found) (found : Option ℕ)
    → ((t : Text) (r : Result ℕ E) → gives t r → ParsesUnsigned 32 10 t r)
    → (one_text f (codes "capacity") ≡ None → found ≡ None)
    → ((t : Text) → one_text f (codes "capacity") ≡ Some t → ReadsOne gives t found)
    → AsksCapacity (rows_of f) (unwrap_or found default_capacity)
capacity_asked gives f found reads none number = (
  λ t e numeral small.
      digits gives t found (reads t) (number t (one_text-rows f (codes "capacity") ∙ e)) numeral small,
  λ e. ap (λ (o : Option ℕ). unwrap_or o default_capacity) (none (one_text-rows f (codes "capacity") ∙ e)),
)

pub flag_asked : (f : Found) (name : Text) (asked wanted : Bool) →
    (one_text f name ≡ Some (codes "true") → asked ≡ true) → (one_text f name ≡ Some (codes "false") → asked ≡ false) →
    asked ≡ wanted → AsksFlag name (rows_of f) wanted
flag_asked f name asked wanted given left is = (
  λ e. sym is ∙ given (one_text-rows f name ∙ e),
  λ e. sym is ∙ left (one_text-rows f name ∙ e),
)

-- ---- an option with a number

module _ {E : Type 0} (gives : Text → Result ℕ E → Type 0) (f : Found) (name : Text) (found : Option ℕ)
    (reads : (t : Text) (r : Result ℕ E) → gives t r → ParsesUnsigned 32 10 t r)
    (none : one_text f name ≡ None → found ≡ None)
    (value : (t : Text) → one_text f name ≡ Some t → ReadsOne gives t found) where
  number_in : (n : ℕ) (o : Option Text) → o ≡ one_text f name → found ≡ Some n → AsksNumber name (rows_of f) (Some n)
  number_in n None is some = let both : None ≡ Some n = sym (none (sym is)) ∙ some in cc (both)
  number_in n (Some t) is some =
      let read = reads t (Ok n) (subst (λ (o : Option ℕ). ReadsOne gives t o) some (value t (sym is))) in
      (t, sym (one_text-rows f name) ∙ sym is, read.0, read.1)

  pub number_asked : (o : Option ℕ) → found ≡ o → AsksNumber name (rows_of f) o
  number_asked (Some n) some = number_in n (one_text f name) refl some
  number_asked None absent = λ t is number.
      let read = subst (λ (o : Option ℕ). ReadsOne gives t o) absent (value t (one_text-rows f name ∙ is)) in
      reads t (Err read.0) read.1 number

-- ---- the options of trace

-- none of three numbers is there
pub none_of : (part from to : Option ℕ) (b : Bool) → is_some (option_or (option_or part from) to) ≡ not b → b ≡ true →
    AsksNone part from to
none_of None None None b is e = (refl, refl, refl)
none_of None None (Some n) b is e = absurd (true≢false (is ∙ ap not e))
none_of None (Some n) to b is e = absurd (true≢false (is ∙ ap not e))
none_of (Some n) from to b is e = absurd (true≢false (is ∙ ap not e))

pub some_of : (part from to : Option ℕ) (b : Bool) → is_some (option_or (option_or part from) to) ≡ not b → b ≡ false →
    ¬ AsksNone part from to
some_of None None None b is e none = true≢false (sym (is ∙ ap not e))
some_of None None (Some n) b is e none = cc (none.2)
some_of None (Some n) to b is e none = cc (none.1)
some_of (Some n) from to b is e none = cc (none.0)

-- an option has one number
pub number_once : (name : Text) (rows : List Row) (o q : Option ℕ) → AsksNumber name rows o → AsksNumber name rows q → o ≡ q
number_once name rows None None h k = refl
number_once name rows None (Some n) h k = absurd (h k.0 k.1 k.2)
number_once name rows (Some n) None h k = absurd (k h.0 h.1 h.2)
number_once name rows (Some n) (Some m) h k =
    let same : h.0 ≡ k.0 = ap (λ (t : Option Text). unwrap_or t []) (sym h.1 ∙ k.1) in
    ap Some (h.3 ∙ ap (λ (t : Text). digits_value 10 (without_leading_plus t)) same ∙ sym k.3)

module _ (rows : List Row) (part from to : Option ℕ) (p : AsksNumber (codes "part") rows part)
    (f : AsksNumber (codes "from") rows from) (t : AsksNumber (codes "to") rows to) where
  abbrev w : Window
  w = record { part = unwrap_or part 0; from = unwrap_or from 0; to = to }

  -- none has a number
  pub trace_asked : AsksNone part from to → AsksTrace rows Trace
  trace_asked none = (
    subst (AsksNumber (codes "part") rows) none.0 p,
    subst (AsksNumber (codes "from") rows) none.1 f,
    subst (AsksNumber (codes "to") rows) none.2 t,
  )

  -- one has, and the window goes forward
  pub window_asked : ¬ AsksNone part from to → IsForward w → AsksTrace rows (Show w)
  window_asked some forward = (part, from, p, f, t, some, refl, refl, forward)

  -- or backward
  pub no_window : ¬ AsksNone part from to → ¬ IsForward w → (r : Request) → ¬ AsksTrace rows r
  no_window some backward Trace h =
      some (number_once _ rows part None p h.0, number_once _ rows from None f h.1, number_once _ rows to None t h.2)
  no_window some backward (Show v) h =
      let first : w.from ≡ v.from = ap (λ (o : Option ℕ). unwrap_or o 0) (number_once _ rows from h.1 f h.3) ∙ sym h.7 in
      let last : w.to ≡ v.to = number_once _ rows to v.to t h.4 in
      backward (subst (λ (o : Option ℕ). IfSome o (λ n. w.from ≤ n)) (sym last)
      (subst (λ k. IfSome v.to (λ n. k ≤ n)) (sym first) h.8))
  no_window some backward r h = h

-- ---- the word behind explain

-- the word of a kind that was found
module _ (f : Found) (o : Option (Bor (List ℕ))) (found : option_map (λ s. s.now) o ≡ first_value f (codes "kind")) where
  word_at : first_of (codes "kind") (rows_of f) ≡ option_map (λ s. s.now) o
  word_at = sym (found ∙ first_value-rows f (codes "kind"))

  -- no word
  pub no_word : o ≡ None → (t : TextKind) → ¬ AsksKind (rows_of f) t
  no_word is t h =
      let both : None ≡ Some (kind_word t) = sym (word_at ∙ ap (option_map (λ s. s.now)) is) ∙ h in cc (both)

  module _ (word : Bor (List ℕ)) (is : o ≡ Some word) where
    there : first_of (codes "kind") (rows_of f) ≡ Some word.now
    there = word_at ∙ ap (option_map (λ s. s.now)) is

    -- the word of this kind
    pub word_asked : (t : TextKind) (r : Bool) → r ≡ bytes_eq word.now (kind_word t) → r ≡ true → AsksKind (rows_of f) t
    word_asked t r same holds = there ∙ ap Some ((bytes_eq-Decides word.now (kind_word t)).0 (sym same ∙ holds))

    -- another word
    differs : (t : TextKind) (r : Bool) → r ≡ bytes_eq word.now (kind_word t) → r ≡ false → ¬ AsksKind (rows_of f) t
    differs t r same fails h =
        let same_word : word.now ≡ kind_word t = ap (λ x. unwrap_or x []) (sym there ∙ h) in
        let both : true ≡ false = sym ((bytes_eq-Decides word.now (kind_word t)).1 same_word) ∙ sym same ∙ fails in cc (both)

    -- the word of neither
    pub other_word : (r q : Bool) → r ≡ bytes_eq word.now (kind_word Script) → r ≡ false
        → q ≡ bytes_eq word.now (kind_word Journal) → q ≡ false → (t : TextKind) → ¬ AsksKind (rows_of f) t
    other_word r q first fails second none Script = differs Script r first fails
    other_word r q first fails second none Journal = differs Journal q second none

-- ---- words that are refused

-- an error that clap may return for these words
pub refused : (words : Words) (k : ErrorKind) (e : WordsError) → (k ≡ kind.OutOfMemory) ⊎ IsAmong k (faults words) →
    IsMadeOf k e → IsRefusal words e
refused words k (Help text) (inl memory) is = absurd (cc (memory, is))
refused words k (Help text) (inr among) is = subst (λ x. IsAmong x (faults words)) is among
refused words k Version (inl memory) is = absurd (cc (memory, is))
refused words k Version (inr among) is = subst (λ x. IsAmong x (faults words)) is among
refused words k Bad (inl memory) is = absurd (is.0 memory)
refused words k Bad (inr among) is = inl (k, among, is.1)
refused words k Memory among is = tt
