-- What is reported of bytes, piece by piece.
use Rattle.std.proofs.Common.{◌≡◌, ◌≢◌, ◌≤◌, ◌+◌, ◌-◌, ℕ, suc, take, drop, get_or, Bool, true, false, eqb, List, [], ◌∷◌, ◌++◌, length, Option, Some, None, Result, Ok, Err, IfErr, is_err, refl, sym, ap, subst, ◌∙◌, inl, inr, append-nil, append_assoc, length-append, arith}
use Rattle.std.proofs.lemmas.Bool.{eqb-true, eqb-false}
use Rattle.std.proofs.Math.Seq.{drop-cons}
use Rattle.std.proofs.lemmas.Grind.{flat_map-append}
use Rattle.std.proofs.lemmas.List.{take_all, take-append-drop, take_at, drop_at, length-take-le, length-drop}
use Rattle.std.proofs.lemmas.List.Elements.{All-append, All-nil, All-from_recursion, All-take, All-get_or}
use Rattle.asm_update.specs.Fire.{Part}
use Rattle.asm_update.specs.State.{State}
use Rattle.asm_storage.specs.declared.history.History.{History}
use Rattle.asm_journal.specs.Reading.{HasNoLineFeed, EndsLine}
use Rattle.asm_audit.specs.declared.error.AuditError.{AuditError}
use Rattle.asm_audit.specs.declared.error.AuditError.TheVariants.{Journal, Apart, Illegal, LongLine, Memory}
use Rattle.asm_audit.specs.declared.part_auditor.PartAuditor.{PartAuditor}
use Rattle.asm_audit.specs.declared.progress.Counts.{Counts}
use Rattle.asm_audit.specs.declared.progress.Progress.{Progress}
use Rattle.asm_audit.specs.Limits.{line_limit}
use Rattle.asm_audit.specs.Text.{IsLineBefore, HasLineFeed, IsShortLine, ended_lines, IsShortLines, HasShortLines, BeginsWithLong}
use Rattle.asm_audit.specs.Chain.{last_left}
use Rattle.asm_audit.specs.Fault.{counted, HasLong, IsFaulty}
use Rattle.asm_audit.specs.PartAuditor.{history_of}
use Rattle.asm_audit.specs.Audited.{IsRead, IsAudited, IsLineAnswer, JudgesEnded, IsEnd, IsCutEnd, IsFormFault}
use Rattle.asm_audit.specs.Fed.{IsFed, Feeds, FeedsPrefix, IsFedAnswer, IsFedEnd, IsNextReport, FeedsFirst}
use Rattle.asm_audit.specs.Fed.{IsExtended, IsLineEnd, FeedsLine}
use Rattle.asm_audit.proofs.Extended.{begun_more, ended}
use Rattle.asm_audit.proofs.Steps.{legal_more}

-- ---- lines

pub none_open : IsShortLine []
none_open = (All-nil (λ b. b ≢ 10), omega arith)

-- one line more
lines_push : (text line : List ℕ) → IsShortLines text → IsShortLine line → IsShortLines (text ++ (line ++ 10 ∷ []))
lines_push text line h short = (
  h.0 ++ line ∷ [],
  ap (λ t. t ++ (line ++ 10 ∷ [])) h.1 ∙ ap (λ t. ended_lines h.0 ++ t) (sym (append-nil (line ++ 10 ∷ [])))
      ∙ sym (flat_map-append (λ (l : List ℕ). l ++ 10 ∷ []) h.0 (line ∷ [])),
  All-append IsShortLine h.0 (line ∷ []) h.2 (All-from_recursion IsShortLine (line ∷ []) (short, tt)),
)

-- ---- one byte

-- the same bytes, cut after the line
same_bytes : (ended line text new bytes more : List ℕ) → ended ++ line ≡ text → new ≡ line ++ bytes →
    ended ++ (new ++ more) ≡ text ++ (bytes ++ more)
same_bytes ended line text new bytes more all is =
    ap (λ l. ended ++ (l ++ more)) is ∙ ap (λ l. ended ++ l) (append_assoc line bytes more)
    ∙ sym (append_assoc ended line (bytes ++ more)) ∙ ap (λ t. t ++ (bytes ++ more)) all

ends_line : (line : List ℕ) → HasNoLineFeed line → EndsLine (line ++ 10 ∷ []) line []
ends_line line none = (refl, none)

-- the line feed is taken
fed_end : (part : Part) (p q : Progress) (line left : List ℕ) → IsLineAnswer part (line ++ 10 ∷ []) p q (Ok tt) → left ≡ [] →
    Feeds part (10 ∷ []) p line q left
fed_end part p q line left answer none = λ text fed.
    let new = line ++ 10 ∷ [] in
    record {
      ended = fed.ended ++ new;
      all = ap (λ l. (fed.ended ++ new) ++ l) none ∙ append-nil (fed.ended ++ new)
          ∙ ap (λ l. fed.ended ++ l) (sym (append-nil new)) ∙ same_bytes fed.ended line text new (10 ∷ []) [] fed.all refl
          ∙ ap (λ l. text ++ l) (append-nil (10 ∷ []));
      short = lines_push fed.ended line fed.short fed.open_line;
      open_line = subst IsShortLine (sym none) none_open;
      audited = answer fed.ended fed.audited;
    }

-- or something is reported at it
fed_stop : (part : Part) (p q : Progress) (line left : List ℕ) (e : AuditError) →
    IsLineAnswer part (line ++ 10 ∷ []) p q (Err e) → IsFedAnswer part (10 ∷ []) p line q left (Err e)
fed_stop part p q line left e answer = λ text more fed.
    subst (λ (t : List ℕ). IsFaulty part t e) (same_bytes fed.ended line text (line ++ 10 ∷ []) (10 ∷ []) more fed.all refl)
    (answer fed.ended more fed.audited (inl (line, ends_line line fed.open_line.0)))

-- one byte more without a line feed
pub no_feed_push : (line : List ℕ) (b : ℕ) → HasNoLineFeed line → b ≢ 10 → HasNoLineFeed (line ++ b ∷ [])
no_feed_push line b none other =
    All-append (λ x. x ≢ 10) line (b ∷ []) none (All-from_recursion (λ x. x ≢ 10) (b ∷ []) (other, tt))

-- ---- a line that is too long

long_more : (part : Part) (A : State) (hs : List History) (rest more : List ℕ) (o : Option PartAuditor) →
    IsRead part A hs rest o → BeginsWithLong more → HasLong part A hs (rest ++ more)
long_more part A hs rest more None read long = inl (subst (λ (t : List ℕ). BeginsWithLong (t ++ more)) (sym read.1) long)
long_more part A hs rest more (Some o) read long =
    let h = history_of o.limits (last_left part A hs) read.events in
    inr (
      o.limits.version,
      o.limits.events,
      h,
      more,
      record {
        begun = begun_more o.limits.version o.limits.events h rest [] more read.going.begun;
        opens = read.going.opens;
        legal = read.going.legal;
      },
      long,
    )

-- a byte more than the limit
fed_long : (part : Part) (p q : Progress) (line left : List ℕ) (b : ℕ) → b ≢ 10 → line_limit ≤ length line →
    IsFedAnswer part (b ∷ []) p line q left (Err LongLine)
fed_long part p q line left b other full = λ text more fed.
    let new = line ++ b ∷ [] in
    let a = fed.audited in
    let long : BeginsWithLong (new ++ more) = (
      new,
      more,
      refl,
      no_feed_push line b fed.open_line.0 other,
      omega (arith, length-append line (b ∷ []), full),
    ) in
    subst (λ (t : List ℕ). IsFaulty part t LongLine) (same_bytes fed.ended line text new (b ∷ []) more fed.all refl) (
      counted (length a.before),
      record {
        first = a.first;
        before = a.before;
        rest = a.rest ++ (new ++ more);
        has = legal_more part a.first a.before fed.ended a.rest (new ++ more) a.has;
        numbered = refl;
        next = long_more part a.first a.before a.rest (new ++ more) p.current a.next long;
      },
    )

-- ---- bytes after one another

joined : (text front next more : List ℕ) → (text ++ front) ++ (next ++ more) ≡ text ++ ((front ++ next) ++ more)
joined text front next more =
    append_assoc text front (next ++ more) ∙ ap (λ l. text ++ l) (sym (append_assoc front next more))

fed_join : (part : Part) (front next : List ℕ) (p q s : Progress) (line left right : List ℕ) (r : Result (Unit {0}) AuditError) →
    Feeds part front p line q left → IsFedAnswer part next q left s right r → IsFedAnswer part (front ++ next) p line s right r
fed_join part front next p q s line left right (Ok u) first second = λ text fed.
    subst (λ (t : List ℕ). IsFed part t s right) (append_assoc text front next) (second (text ++ front) (first text fed))
fed_join part front next p q s line left right (Err e) first second = λ text more fed.
    subst (λ (t : List ℕ). IsFaulty part t e) (joined text front next more) (second (text ++ front) more (first text fed))

cut_more : (text front behind more : List ℕ) → text ++ (front ++ (behind ++ more)) ≡ text ++ ((front ++ behind) ++ more)
cut_more text front behind more = ap (λ l. text ++ l) (sym (append_assoc front behind more))

fed_fault : (part : Part) (front behind bytes : List ℕ) (p q : Progress) (line left : List ℕ) (e : AuditError) →
    front ++ behind ≡ bytes → IsFedAnswer part front p line q left (Err e) → IsFedAnswer part bytes p line q left (Err e)
fed_fault part front behind bytes p q line left e all answer = λ text more fed.
    subst (λ (t : List ℕ). IsFaulty part t e) (cut_more text front behind more ∙ ap (λ l. text ++ (l ++ more)) all)
    (answer text (behind ++ more) fed)

-- ---- the bytes of a line

-- the line gets these too
open_taken : (part : Part) (p : Progress) (line body left : List ℕ) → HasNoLineFeed body → left ≡ line ++ body →
    length left ≤ line_limit → Feeds part body p line p left
open_taken part p line body left none is within = λ text fed. record {
  ended = fed.ended;
  all = ap (λ l. fed.ended ++ l) is ∙ sym (append_assoc fed.ended line body) ∙ ap (λ t. t ++ body) fed.all;
  short = fed.short;
  open_line = (
    subst HasNoLineFeed (sym is) (All-append (λ b. b ≢ 10) line body fed.open_line.0 none),
    within,
  );
  audited = fed.audited;
}

pub some_first : (bytes : List ℕ) → bytes ≢ [] → (b : ℕ) × (more : List ℕ) × (bytes ≡ b ∷ more)
some_first [] some = absurd (some refl)
some_first (b ∷ more) some = (b, more, refl)

-- the line doesn't get all of these
pub kept_some : (part : Part) (p : Progress) (line left body rest bytes : List ℕ) (n : ℕ) (r : Result (Unit {0}) AuditError) →
    HasNoLineFeed body → body ++ rest ≡ bytes → bytes ≢ [] → length left ≤ line_limit → IsExtended body line left n r →
    is_err r ≡ true → FeedsLine part bytes p line p left n r
kept_some part p line left body rest bytes n (Ok u) none all some within kept stop = absurd cc
kept_some part p line left body rest bytes n (Err (Journal j fault)) none all some within kept stop = absurd kept
kept_some part p line left body rest bytes n (Err (Apart j)) none all some within kept stop = absurd kept
kept_some part p line left body rest bytes n (Err (Illegal j c)) none all some within kept stop = absurd kept
kept_some part p line left body rest bytes n (Err LongLine) none all some within (is, less, full) stop =
    let fronts = All-take (λ b. b ≢ 10) n body none in
    let b = get_or body n 0 in
    record {
      front = take n body;
      behind = drop n body ++ rest;
      all = sym (append_assoc (take n body) (drop n body) rest) ∙ ap (λ l. l ++ rest) (take-append-drop n body) ∙ all;
      count = sym (length-take-le n body (omega (arith, less)));
      taken = open_taken part p line (take n body) left fronts is within;
      ends = (
        fronts,
        (
          b,
          drop (suc n) body ++ rest,
          ap (λ l. l ++ rest) (drop-cons body n 0 less),
          fed_long part p p left left b (All-get_or (λ x. x ≢ 10) body n 0 less none) full,
        ),
      );
    }
kept_some part p line left body rest bytes n (Err Memory) none all some within (is, nothing) stop =
    let first = some_first bytes some in
    record {
      front = [];
      behind = bytes;
      all = refl;
      count = nothing;
      taken = open_taken part p line [] left none_open.0 (is ∙ sym (append-nil line)) within;
      ends = (none_open.0, (first.0, first.1, first.2, λ text more fed. tt));
    }

-- no line feed is in the bytes
pub kept_all : (part : Part) (p : Progress) (line left bytes : List ℕ) (n : ℕ) (r : Result (Unit {0}) AuditError) →
    HasNoLineFeed bytes → bytes ≢ [] → length left ≤ line_limit → IsExtended bytes line left n r →
    FeedsLine part bytes p line p left n r
kept_all part p line left bytes n (Ok u) none some within (is, count) = record {
  front = bytes;
  behind = [];
  all = append-nil bytes;
  count = count;
  taken = open_taken part p line bytes left none is within;
  ends = (some, inr (none, refl));
}
kept_all part p line left bytes n (Err e) none some within kept =
    kept_some part p line left bytes [] bytes n (Err e) none (append-nil bytes) some within kept refl

pub kept_body : (body line left : List ℕ) (n : ℕ) (r : Result (Unit {0}) AuditError) → is_err r ≡ false →
    IsExtended body line left n r → left ≡ line ++ body
kept_body body line left n (Ok u) on kept = kept.0
kept_body body line left n (Err e) on kept = absurd cc

-- a line feed is after these bytes
module _ (part : Part) (p q : Progress) (line mid left body rest bytes : List ℕ) (ends : EndsLine bytes body rest)
    (is : mid ≡ line ++ body) (within : length mid ≤ line_limit) where
  -- it ends a line
  pub ended_on : (n : ℕ) → n ≡ length body + 1 → IsLineAnswer part (mid ++ 10 ∷ []) p q (Ok tt) → left ≡ [] →
      FeedsLine part bytes p line q left n (Ok tt)
  ended_on n count answer none = record {
    front = body ++ 10 ∷ [];
    behind = rest;
    all = append_assoc body (10 ∷ []) rest ∙ sym ends.0;
    count = omega (arith, count, length-append body (10 ∷ []));
    taken = fed_join part body (10 ∷ []) p p q line mid left (Ok tt) (open_taken part p line body mid ends.1 is within)
        (fed_end part p q mid left answer none);
    ends = ((λ e. absurd (no_end_front e)), inl (body, (refl, ends.1)));
  } where
    no_end_front : body ++ 10 ∷ [] ≡ [] → ⊥
    no_end_front e = omega (arith, ap length e, length-append body (10 ∷ []))

  -- or something is reported at it
  pub ended_not : (n : ℕ) (e : AuditError) → n ≡ length body → IsLineAnswer part (mid ++ 10 ∷ []) p q (Err e) → q ≡ p →
      left ≡ mid → FeedsLine part bytes p line q left n (Err e)
  ended_not n e count answer same left_is = record {
    front = body;
    behind = 10 ∷ rest;
    all = sym ends.0;
    count = count;
    taken = subst (λ x. Feeds part body p line x left) (sym same)
        (open_taken part p line body left ends.1 (left_is ∙ is) (subst (λ l. length l ≤ line_limit) (sym left_is) within));
    ends = (
      ends.1,
      (
        10,
        rest,
        refl,
        subst (λ l. IsFedAnswer part (10 ∷ []) q l q left (Err e)) (sym left_is)
            (subst (λ x. IsFedAnswer part (10 ∷ []) x mid q left (Err e)) (sym same) (fed_stop part p q mid left e answer)),
      ),
    );
  }

-- ---- this many of the bytes

-- these were taken, and what is reported at the next one
first_taken : (part : Part) (front behind bytes : List ℕ) (p q : Progress) (line left : List ℕ) (n : ℕ)
    (r : Result (Unit {0}) AuditError) → front ++ behind ≡ bytes → length front ≡ n → Feeds part front p line q left →
    IsNextReport part behind q left r → FeedsFirst part bytes p line q left n r
first_taken part front behind bytes p q line left n r all count taken next = record {
  within = omega (arith, count, ap length all, length-append front behind);
  taken = subst (λ (t : List ℕ). Feeds part t p line q left)
      (sym (take_at front behind n count) ∙ ap (λ t. take n t) all) taken;
  next = subst (λ (t : List ℕ). IsNextReport part t q left r)
      (sym (drop_at front behind n count) ∙ ap (λ t. drop n t) all) next;
}

-- what is reported at the next byte is reported of all, since it holds whatever comes after
pub report_of_all : (part : Part) (bytes : List ℕ) (p q : Progress) (line left : List ℕ) (n : ℕ) (r : Result (Unit {0}) AuditError) →
    FeedsFirst part bytes p line q left n r → IsFedAnswer part bytes p line q left r
report_of_all part bytes p q line left n (Ok u) first =
    subst (λ (t : List ℕ). Feeds part t p line q left)
    (sym (append-nil (take n bytes)) ∙ ap (λ t. take n bytes ++ t) (sym first.next) ∙ take-append-drop n bytes) first.taken
report_of_all part bytes p q line left n (Err e) first =
    let (b, more, is, answer) = first.next in
    fed_fault part (take n bytes ++ b ∷ []) more bytes p q line left e
    (append_assoc (take n bytes) (b ∷ []) more ∙ ap (λ t. take n bytes ++ t) (sym is) ∙ take-append-drop n bytes)
    (fed_join part (take n bytes) (b ∷ []) p q q line left left (Err e) first.taken answer)

-- of the rest of the bytes a line was taken
module _ (part : Part) (done rest bytes : List ℕ) (p q s : Progress) (line left right : List ℕ) (n : ℕ)
    (r : Result (Unit {0}) AuditError) (all : done ++ rest ≡ bytes) (taken : Feeds part done p line q left)
    (here : FeedsLine part rest q left s right n r) where
  -- what is left after it
  abbrev after : List ℕ
  after = take (length rest - n) (drop n rest)

  dropped : after ≡ here.behind
  dropped =
      take_all (length rest - n) (drop n rest) (omega (arith, length-drop n rest)) ∙ ap (λ t. drop n t) (sym here.all)
      ∙ drop_at here.front here.behind n (sym here.count)

  pub all_more : (done ++ here.front) ++ after ≡ bytes
  all_more =
      ap (λ t. (done ++ here.front) ++ t) dropped ∙ append_assoc done here.front here.behind
      ∙ ap (λ t. done ++ t) here.all ∙ all

  pub taken_more : Feeds part (done ++ here.front) p line s right
  taken_more = fed_join part done here.front p q s line left right (Ok tt) taken here.taken

  pub stopped : (m : ℕ) → is_err r ≡ true → m ≡ length bytes - length after → FeedsFirst part bytes p line s right m r
  stopped m stop count =
      first_taken part (done ++ here.front) after bytes p s line right m r all_more
      (omega (arith, count, ap length all_more, length-append (done ++ here.front) after)) taken_more
      (subst (λ (t : List ℕ). IsNextReport part t s right r) (sym dropped) (by_end r stop here.ends)) where
        by_end : (x : Result (Unit {0}) AuditError) → is_err x ≡ true → IsLineEnd part here.front here.behind s right x →
            IsNextReport part here.behind s right x
        by_end (Ok u) stop ends = absurd cc
        by_end (Err e) stop ends = ends.1

-- all were taken
pub taken_all : (part : Part) (done rest bytes : List ℕ) (p q : Progress) (line left : List ℕ) (n : ℕ) →
    done ++ rest ≡ bytes → rest ≡ [] → n ≡ length bytes → Feeds part done p line q left →
    FeedsFirst part bytes p line q left n (Ok tt)
taken_all part done rest bytes p q line left n all none count taken =
    first_taken part done rest bytes p q line left n (Ok tt) all
    (omega (arith, count, ap length all, length-append done rest, ap length none)) taken none

-- if this many were, some were
pub some_taken : (part : Part) (bytes : List ℕ) (p q : Progress) (line left : List ℕ) (n : ℕ) (r : Result (Unit {0}) AuditError) →
    FeedsFirst part bytes p line q left n r → FeedsPrefix part bytes p line q left
some_taken part bytes p q line left n r first = (take n bytes, drop n bytes, take-append-drop n bytes, first.taken)

-- ---- the end

all_ended : (part : Part) (text : List ℕ) (p : Progress) (line : List ℕ) → line ≡ [] → (fed : IsFed part text p line) →
    fed.ended ≡ text
all_ended part text p line none fed =
    sym (append-nil fed.ended) ∙ ap (λ l. fed.ended ++ l) (sym none) ∙ fed.all

pub fed_audited : (part : Part) (text : List ℕ) (p : Progress) (line : List ℕ) → line ≡ [] → IsFed part text p line →
    IsAudited part text p
fed_audited part text p line none fed =
    subst (λ (t : List ℕ). IsAudited part t p) (all_ended part text p line none fed) fed.audited

pub fed_short : (part : Part) (text : List ℕ) (p : Progress) (line : List ℕ) → IsFed part text p line → HasShortLines text
fed_short part text p line fed = (fed.ended, line, fed.all, fed.short, fed.open_line)

-- what the end reports if the line is empty
pub end_report : (part : Part) (p : Progress) (line : List ℕ) (r : Result Counts AuditError) → line ≡ [] → IsEnd part p r →
    IsFedEnd part p line r
end_report part p line (Ok w) none is =
    λ text fed. (is text (fed_audited part text p line none fed), fed_short part text p line fed)
end_report part p line (Err e) none is = λ text fed. is text (fed_audited part text p line none fed)

-- a line without a line feed isn't taken, and its answer isn't judged
pub no_end : (line : List ℕ) → HasLineFeed line → HasNoLineFeed line → ⊥
no_end line end none = ended line end.0 end.1 end.2 none

pub form_fault : (line : List ℕ) (e : AuditError) → JudgesEnded line (Err e) → HasNoLineFeed line → IsFormFault e
form_fault line (Illegal j c) judged none = no_end line judged none
form_fault line (Journal j fault) judged none = tt
form_fault line (Apart j) judged none = tt
form_fault line LongLine judged none = tt
form_fault line Memory judged none = tt

-- the end of a part is no wrong answer
pub cut_fault : (r : Result Counts AuditError) → IsCutEnd r → IfErr r IsFormFault
cut_fault (Ok w) cut = tt
cut_fault (Err e) cut = subst IsFormFault (sym cut.1) tt

pub open_before : (line : List ℕ) → line ≢ [] → HasNoLineFeed line → IsLineBefore line []
open_before line some none = inr (refl, some, none)

last_line : (part : Part) (text : List ℕ) (p : Progress) (line : List ℕ) (fed : IsFed part text p line) →
    fed.ended ++ (line ++ []) ≡ text
last_line part text p line fed = ap (λ l. fed.ended ++ l) (append-nil line) ∙ fed.all

pub open_fault : (part : Part) (text : List ℕ) (p q : Progress) (line : List ℕ) (e : AuditError) → line ≢ [] →
    IsLineAnswer part line p q (Err e) → IsFed part text p line → IsFaulty part text e
open_fault part text p q line e some answer fed =
    subst (λ (t : List ℕ). IsFaulty part t e) (last_line part text p line fed)
    (answer fed.ended [] fed.audited (open_before line some fed.open_line.0))

-- ---- whether bytes are left

length_none : (xs : List ℕ) → length xs ≡ 0 → xs ≡ []
length_none [] e = refl
length_none (x ∷ xs) e = absurd (omega (arith, e))

pub none_left : (line : List ℕ) (n : ℕ) (b : Bool) → n ≡ length line → b ≡ eqb n 0 → b ≡ true → line ≡ []
none_left line n b long is empty = length_none line (sym long ∙ eqb-true n 0 (sym is ∙ empty))

pub some_left : (line : List ℕ) (n : ℕ) (b : Bool) → n ≡ length line → b ≡ eqb n 0 → b ≡ false → line ≢ []
some_left line n b long is some none = eqb-false n 0 (sym is ∙ some) (long ∙ ap length none)
