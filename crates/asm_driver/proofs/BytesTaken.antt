-- Bytes that are consumed one by one.
use Rattle.std.proofs.Common.{◌≡◌, ◌≢◌, ◌≤◌, ◌<◌, ℕ, suc, zero, Bool, false, List, [], ◌∷◌, ◌++◌, length, drop, get_or, Some, None, Result, Ok, Err, OnOk, IfErr, inl, inr, length-append, refl, sym, ap, subst, ◌∙◌, append-nil, append_assoc, arith}
use Rattle.std.proofs.Math.Seq.{drop-cons}
use Rattle.std.proofs.KnownBytes.{Consumes-trans, Consumes-nil}
use Rattle.std.proofs.lemmas.List.{drop_all}
use Rattle.asm_driver.specs.Ports.{Known}
use Rattle.asm_driver.specs.Lines.{Takes, IsFilled, IsToppedUp, IsNextByte, IsLineRead}
use Rattle.std.proofs.lemmas.List.Elements.{All-append, All-from_recursion}
use Rattle.asm_journal.specs.Reading.{HasNoLineFeed}
use Rattle.asm_audit.specs.Limits.{line_limit}
use Rattle.asm_driver.specs.declared.ports.input.InputError.{InputError}
use Rattle.asm_driver.specs.declared.ports.input.InputError.TheVariants.{TooLarge, Fault, Memory}

-- ---- a list from a place on

some_left : (xs : List ℕ) (n : ℕ) → n < length xs → drop n xs ≢ []
some_left [] n less e = absurd (omega (arith, less))
some_left (x ∷ xs) zero less e = cc (e)
some_left (x ∷ xs) (suc n) less e = some_left xs n (omega (arith, less)) e

-- ---- topping up

pub none_pending : (had left : Known) (failed : Bool) (chunk behind : List ℕ) (n : ℕ) (r : Result (Unit {0}) InputError) →
    n ≡ length chunk → IsFilled had left failed behind r → IsToppedUp had left failed (drop n chunk) behind r
none_pending had left failed chunk behind n (Ok u) all (consumed, end, noted) =
    ((behind, consumed, ap (λ l. l ++ behind) (drop_all n chunk (omega (arith, all)))), end, noted)
none_pending had left failed chunk behind n (Err e) all is = is

pub some_pending : (had : Known) (failed : Bool) (chunk : List ℕ) (n : ℕ) → n ≤ length chunk → (n ≡ length chunk → ⊥) →
    failed ≡ false → IsToppedUp had had failed (drop n chunk) (drop n chunk) (Ok tt)
some_pending had failed chunk n within other noted = (
  ([], Consumes-nil had, append-nil (drop n chunk)),
  (λ none. absurd (some_left chunk n (omega (arith, within, other)) none)),
  noted,
)

-- ---- a byte

pub byte_taken : (had left : Known) (before chunk : List ℕ) (n m b : ℕ) → Takes had left before (drop n chunk) [] →
    n < length chunk → b ≡ get_or chunk n 0 → m ≡ suc n → Takes had left before (drop m chunk) (b ∷ [])
byte_taken had left before chunk n m b (more, consumed, all) within here next = (
  more,
  consumed,
  all ∙ drop-cons chunk n 0 within ∙ ap (λ x. x ∷ drop (suc n) chunk) (sym here)
      ∙ ap (λ k. b ∷ drop k chunk) (sym next),
)

-- bytes behind bytes
pub takes_on : (had mid left : Known) (before behind after bytes next : List ℕ) → Takes had mid before behind bytes →
    Takes mid left behind after next → Takes had left before after (bytes ++ next)
takes_on had mid left before behind after bytes next (more, consumed, all) (further, taken, rest) = (
  more ++ further,
  Consumes-trans had mid left more further consumed taken,
  sym (append_assoc before more further) ∙ ap (λ l. l ++ further) all ∙ append_assoc bytes behind further
      ∙ ap (λ l. bytes ++ l) rest ∙ sym (append_assoc bytes next after),
)

pub none_left : (had left : Known) (failed : Bool) (before chunk : List ℕ) (n : ℕ) → n ≡ length chunk →
    IsToppedUp had left failed before (drop n chunk) (Ok tt) → IsNextByte had left failed before (drop n chunk) (Ok None)
none_left had left failed before chunk n all (taken, end, noted) =
    let none : drop n chunk ≡ [] = drop_all n chunk (omega (arith, all)) in
    (taken, none, end none, noted)

pub takes_none : (had : Known) (before : List ℕ) → Takes had had before before []
takes_none had before = ([], Consumes-nil had, append-nil before)

-- ---- a line

-- one byte more without a line feed
no_feed_push : (line : List ℕ) (b : ℕ) → HasNoLineFeed line → b ≢ 10 → HasNoLineFeed (line ++ b ∷ [])
no_feed_push line b none other =
    All-append (λ x. x ≢ 10) line (b ∷ []) none (All-from_recursion (λ x. x ≢ 10) (b ∷ []) (other, tt))

module _ (had mid left : Known) (failed : Bool) (before behind after line : List ℕ)
    (taken : Takes had mid before behind line) (open_line : HasNoLineFeed line) where
  -- a byte couldn't be appended
  pub unkept : (b : ℕ) (end new : List ℕ) (e : InputError) → IsNextByte mid left failed behind after (Ok (Some b)) → e ≡ Memory →
      IsLineRead had left failed before end new (Err e)
  unkept b end new e (next, noted) is =
      subst (λ x. IsLineRead had left failed before end new (Err x)) (sym is)
      ((_, Consumes-trans had mid left _ _ taken.1 next.1), noted)

  -- the byte is the line feed
  ended : (b : ℕ) (end new : List ℕ) (r : Result (Unit {0}) InputError) → b ≡ 10 →
      IsNextByte mid left failed behind after (Ok (Some b)) → OnOk r (new ≡ line ++ b ∷ []) →
      IfErr r (λ e. e ≡ Memory) → end ≡ after → IsLineRead had left failed before end new r
  ended b end new (Ok u) feed (next, noted) kept refused same = (
    subst (λ (x : List ℕ). Takes had left before end x) (sym kept)
        (subst (λ (a : List ℕ). Takes had left before a (line ++ b ∷ [])) (sym same)
        (takes_on had mid left before behind after line (b ∷ []) taken next)),
    inl (line, (kept ∙ ap (λ x. line ++ x ∷ []) feed, open_line)),
    noted,
  )
  ended b end new (Err e) feed next kept refused same = unkept b end new e next refused

  pub line_ended : (b : ℕ) (end here new : List ℕ) (r : Result (Unit {0}) InputError) → b ≡ 10 →
      IsNextByte mid left failed behind after (Ok (Some b)) → here ≡ line → OnOk r (new ≡ here ++ b ∷ []) →
      IfErr r (λ e. e ≡ Memory) → end ≡ after → IsLineRead had left failed before end new r
  line_ended b end here new r feed next is kept refused same =
      ended b end new r feed next (subst (λ (l : List ℕ). OnOk r (new ≡ l ++ b ∷ [])) is kept) refused same

  -- another byte is one too many
  pub too_many : (b : ℕ) (here : List ℕ) → b ≢ 10 → line_limit ≤ length here → here ≡ line →
      IsNextByte mid left failed behind after (Ok (Some b)) → IsLineRead had left failed before after here (Err TooLarge)
  too_many b here other full is (next, noted) =
      let most : line_limit ≤ length line = subst (λ (l : List ℕ). line_limit ≤ length l) is full in (
        line ++ b ∷ [],
        takes_on had mid left before behind after line (b ∷ []) taken next,
        (no_feed_push line b open_line other, omega (arith, length-append line (b ∷ []), most)),
        noted,
      )

  -- another byte is appended
  pub kept_on : (b : ℕ) (end here new : List ℕ) → b ≢ 10 → length here < line_limit → here ≡ line →
      IsNextByte mid left failed behind after (Ok (Some b)) → new ≡ here ++ b ∷ [] → end ≡ after →
      Takes had left before end new × HasNoLineFeed new × (length new ≤ line_limit) × (failed ≡ false)
  kept_on b end here new other less is (next, noted) kept same =
      let all : new ≡ line ++ b ∷ [] = kept ∙ ap (λ (l : List ℕ). l ++ b ∷ []) is in
      let few : length line < line_limit = subst (λ (l : List ℕ). length l < line_limit) is less in
      let long : length (line ++ b ∷ []) ≤ line_limit = omega (arith, length-append line (b ∷ []), few) in (
        subst (λ (x : List ℕ). Takes had left before end x) (sym all)
            (subst (λ (a : List ℕ). Takes had left before a (line ++ b ∷ [])) (sym same)
            (takes_on had mid left before behind after line (b ∷ []) taken next)),
        subst HasNoLineFeed (sym all) (no_feed_push line b open_line other),
        subst (λ (x : List ℕ). length x ≤ line_limit) (sym all) long,
        noted,
      )

  -- no byte is left
  pub line_open : (here : List ℕ) → here ≡ line → IsNextByte mid left failed behind after (Ok None) →
      IsLineRead had left failed before after here (Ok tt)
  line_open here is (next, none, end, noted) = (
    subst (λ (x : List ℕ). Takes had left before after x) (append-nil line ∙ sym is)
        (takes_on had mid left before behind after line [] taken next),
    inr (subst HasNoLineFeed (sym is) open_line, none, end),
    noted,
  )

  -- a byte can't be read
  pub unread : (new : List ℕ) (e : InputError) → IsNextByte mid left failed behind after (Err e) →
      IsLineRead had left failed before after new (Err e)
  unread new TooLarge (more, noted, never) = absurd (never refl)
  unread new Fault (more, noted, never) = ((_, Consumes-trans had mid left _ _ taken.1 more.1), noted)
  unread new Memory (more, noted, never) = ((_, Consumes-trans had mid left _ _ taken.1 more.1), noted)
