-- What the names of segments lead to, now and since the folder was flushed.
use Rattle.std.proofs.Common.{◌≡◌, ◌≢◌, ◌⊎◌, inl, inr, ⊎_elim, ℕ, ◌+◌, ◌<◌, true, false, cond, List, [], ◌∷◌, ◌++◌}
use Rattle.std.proofs.Common.{length, refl, sym, ap, ◌∙◌, subst, subst₂, lt_irrefl, arith, Option, Some, None}
use Rattle.std.proofs.lemmas.Bool.Decides.{eqb_tells}
use Rattle.asm_run.specs.Name.{number_in}
use Rattle.asm_run.specs.Disk.{File, Names, Disk, names_with as led, files_with as placed, disk_with_names as renamed}
use Rattle.asm_run.specs.Disk.{disk_with_change as changed, disk_after as after, Create, Remove, Rename, FlushFolder}
use Rattle.asm_run.specs.Disk.{HasLed, IsAfterPowerFailure, bytes_at}
use Rattle.asm_run.specs.Protocol.{Segment, new_name, text_of, AreNumbered}
use Rattle.asm_run.proofs.Texts.{led_same, led_other, pushed_same, pushed_other, first_other, same_name, none_outside}

pub placed_other : (at i : ℕ) (f : File) (files : ℕ → File) → i ≢ at → placed at f files i ≡ files i
placed_other at i f files h = ⊎_elim (λ same. absurd (h same.1)) (λ other. ap (λ t. cond t f (files i)) other.0)
    (eqb_tells i at)

pub placed_same : (at : ℕ) (f : File) (files : ℕ → File) → placed at f files at ≡ f
placed_same at f files = ⊎_elim (λ same. ap (λ t. cond t f (files at)) same.0) (λ other. absurd (other.1 refl))
    (eqb_tells at at)

-- a name leads to a flushed file with this text, or to none
abbrev pub IsAt : Disk → Option ℕ → Option (List ℕ) → Type 0
IsAt d None None = Unit {0}
IsAt d (Some i) (Some text) = (i < d.count) × ((d.files i).flushed ≡ true) × ((d.files i).bytes ≡ text)
IsAt d None (Some text) = ⊥
IsAt d (Some i) None = ⊥

pub bytes_of : (d : Disk) (to : Option ℕ) (t : Option (List ℕ)) → IsAt d to t → bytes_at d to ≡ t
bytes_of d None None h = refl
bytes_of d (Some i) (Some text) h = ap Some h.2
bytes_of d None (Some text) h = absurd h
bytes_of d (Some i) None h = absurd h

pub present : (d e : Disk) (to : Option ℕ) (t : Option (List ℕ)) →
    ((i : ℕ) → to ≡ Some i → i < d.count → (e.files i ≡ d.files i) × (i < e.count)) → IsAt d to t → IsAt e to t
present d e None None same h = tt
present d e (Some i) (Some text) same h = let k = same i refl h.0 in
    (k.1, ap (λ f. f.flushed) k.0 ∙ h.1, ap (λ f. f.bytes) k.0 ∙ h.2)
present d e None (Some text) same h = absurd h
present d e (Some i) None same h = absurd h

pub left_at : (d e : Disk) → IsAfterPowerFailure d e → (to : Option ℕ) (t : Option (List ℕ)) → IsAt d to t →
    IsAt e to t
left_at d e l None None h = tt
left_at d e l (Some i) (Some text) h = (
  subst (λ n. i < n) (sym l.count) h.0,
  l.flushed i,
  l.bytes i h.1 ∙ h.2,
)
left_at d e l None (Some text) h = absurd h
left_at d e l (Some i) None h = absurd h

narrow : (names : Names) (former : List Names) (n : List ℕ) (to : Option ℕ) → HasLed (names ∷ []) n to →
    HasLed (names ∷ former) n to
narrow names former n to (inl here) = inl here
narrow names former n to (inr none) = absurd none

-- whatever each name of a segment led to has the text that these have
abbrev pub Sure : Disk → List Segment → Type 0
Sure d segments = (n : List ℕ) (k : ℕ) → number_in n ≡ Some k → (to : Option ℕ) → HasLed (d.names ∷ d.former) n to →
    IsAt d to (text_of segments n)

-- the same, or the text that those have
abbrev pub Unsure : Disk → List Segment → List Segment → Type 0
Unsure d segments others = (n : List ℕ) (k : ℕ) → number_in n ≡ Some k → (to : Option ℕ) →
    HasLed (d.names ∷ d.former) n to →
    IsAt d to (text_of segments n) ⊎ IsAt d to (text_of others n)

-- now the names have these
abbrev pub Now : Disk → List Segment → Type 0
Now d segments = (n : List ℕ) (k : ℕ) → number_in n ≡ Some k → IsAt d (d.names n) (text_of segments n)

-- the file `new`, to which no segment's name has led
pub record IsNew (d : Disk) (content : List ℕ) : Type 0 where
  pub place : ℕ
  pub leads : d.names new_name ≡ Some place
  pub bytes : (d.files place).bytes ≡ content
  pub within : place < d.count
  pub apart : (n : List ℕ) (k : ℕ) → number_in n ≡ Some k → HasLed (d.names ∷ d.former) n (Some place) → ⊥

pub sure_left : (d e : Disk) (segments : List Segment) → IsAfterPowerFailure d e → Sure d segments → Sure e segments
sure_left d e segments l sure n k is to led =
    let at : to ≡ e.names n = ⊎_elim (λ here. here) (λ there. absurd
    (subst (λ former. HasLed former n to) l.former there)) led in
    subst (λ o. IsAt e o (text_of segments n)) (sym at)
    (left_at d e l (e.names n) (text_of segments n) (sure n k is (e.names n) (l.names n)))

pub unsure_left : (d e : Disk) (segments others : List Segment) → IsAfterPowerFailure d e → Unsure d segments others →
    Unsure e segments others
unsure_left d e segments others l unsure n k is to led =
    let at : to ≡ e.names n = ⊎_elim (λ here. here) (λ there. absurd
    (subst (λ former. HasLed former n to) l.former there)) led in
    subst (λ o. IsAt e o (text_of segments n) ⊎ IsAt e o (text_of others n)) (sym at)
    (⊎_elim (λ a. inl (left_at d e l (e.names n) (text_of segments n) a))
    (λ a. inr (left_at d e l (e.names n) (text_of others n) a)) (unsure n k is (e.names n) (l.names n)))

pub sure_flushed : (d : Disk) (segments : List Segment) → Sure d segments → Sure (after FlushFolder d) segments
sure_flushed d segments sure n k is to led = sure n k is to (narrow d.names d.former n to led)

pub unsure_flushed : (d : Disk) (segments others : List Segment) → Unsure d segments others →
    Unsure (after FlushFolder d) segments others
unsure_flushed d segments others unsure n k is to led = unsure n k is to (narrow d.names d.former n to led)

pub now_flushed : (d : Disk) (segments : List Segment) → Now d segments → Sure (after FlushFolder d) segments
now_flushed d segments now n k is to (inl here) = subst (λ o. IsAt d o (text_of segments n)) (sym here) (now n k is)
now_flushed d segments now n k is to (inr none) = absurd none

-- another file is changed
pub sure_changed : (d : Disk) (segments : List Segment) (bytes : List ℕ) (change : File → File) →
    (new : IsNew d bytes) → Sure d segments → Sure (changed d (d.names new_name) change) segments
sure_changed d segments bytes change new sure =
    subst (λ o. Sure (changed d o change) segments) (sym new.leads) (λ n k is to led.
    present d (changed d (Some new.place) change) to (text_of segments n)
    (λ i at lt. (
      placed_other new.place i (change (d.files new.place)) d.files
          (λ same. new.apart n k is (subst (λ o. HasLed (d.names ∷ d.former) n o) (at ∙ ap Some same) led)),
      lt,
    ))
    (sure n k is to led))

pub new_changed : (d : Disk) (old content : List ℕ) (change : File → File) → (new : IsNew d old) →
    (change (d.files new.place)).bytes ≡ content → IsNew (changed d (d.names new_name) change) content
new_changed d old content change new is =
    subst (λ o. IsNew (changed d o change) content) (sym new.leads) (record {
      place = new.place;
      leads = new.leads;
      bytes = ap (λ f. f.bytes) (placed_same new.place (change (d.files new.place)) d.files) ∙ is;
      within = new.within;
      apart = new.apart;
    })

-- all bytes of `new` are on the disk
abbrev pub IsFlushed : Disk → Type 0
IsFlushed d = (i : ℕ) → d.names new_name ≡ Some i → (d.files i).flushed ≡ true

pub flushed_changed : (d : Disk) (content : List ℕ) (change : File → File) → (new : IsNew d content) →
    (change (d.files new.place)).flushed ≡ true → IsFlushed (changed d (d.names new_name) change)
flushed_changed d content change new is =
    subst (λ o. IsFlushed (changed d o change)) (sym new.leads) (λ i leads.
    let same : i ≡ new.place = (let e = new.leads in cc) in
    ap (λ j. (placed new.place (change (d.files new.place)) d.files j).flushed) same
    ∙ ap (λ f. f.flushed) (placed_same new.place (change (d.files new.place)) d.files) ∙ is)

at_within : (d : Disk) (i : ℕ) (t : Option (List ℕ)) → IsAt d (Some i) t → i < d.count
at_within d i None h = absurd h
at_within d i (Some text) h = h.0

module _ (no_segment : number_in new_name ≡ None) where
  not_new : (n : List ℕ) (k : ℕ) → number_in n ≡ Some k → n ≢ new_name
  not_new n k is same = let e : number_in n ≡ None = ap number_in same ∙ no_segment in let f : None ≡ Some k =
      sym e ∙ is in cc

  pub sure_renamed : (d : Disk) (segments : List Segment) (to : Option ℕ) → Sure d segments →
      Sure (renamed d (led new_name to d.names)) segments
  sure_renamed d segments to sure n k is at (inl here) =
      sure n k is at (inl (here ∙ led_other new_name n to d.names (not_new n k is)))
  sure_renamed d segments to sure n k is at (inr there) = sure n k is at there

  pub unsure_renamed : (d : Disk) (segments others : List Segment) (to : Option ℕ) → Unsure d segments others →
      Unsure (renamed d (led new_name to d.names)) segments others
  unsure_renamed d segments others to unsure n k is at (inl here) =
      unsure n k is at (inl (here ∙ led_other new_name n to d.names (not_new n k is)))
  unsure_renamed d segments others to unsure n k is at (inr there) = unsure n k is at there

  -- what a name of a segment led to before `new` was created, or led then
  before : (d : Disk) (n : List ℕ) (k : ℕ) → number_in n ≡ Some k → (to : Option ℕ) →
      HasLed ((after (Create new_name) d).names ∷ (after (Create new_name) d).former) n to →
      HasLed (d.names ∷ d.former) n to
  before d n k is to (inl here) = inl (here ∙ led_other new_name n (Some d.count) d.names (not_new n k is))
  before d n k is to (inr there) = there

  pub sure_created : (d : Disk) (segments : List Segment) → Sure d segments →
      Sure (after (Create new_name) d) segments
  sure_created d segments sure n k is to led =
      present d (after (Create new_name) d) to (text_of segments n)
      (λ i at lt. (
        placed_other d.count i (record { bytes = []; flushed = false }) d.files
            (λ same. lt_irrefl d.count (subst (λ j. j < d.count) same lt)),
        omega arith,
      ))
      (sure n k is to (before d n k is to led))

  pub new_created : (d : Disk) (segments : List Segment) → Sure d segments → IsNew (after (Create new_name) d) []
  new_created d segments sure = record {
    place = d.count;
    leads = led_same new_name (Some d.count) d.names;
    bytes = ap (λ f. f.bytes) (placed_same d.count (record { bytes = []; flushed = false }) d.files);
    within = omega arith;
    apart = λ n k is led. lt_irrefl d.count (at_within d d.count (text_of segments n)
        (sure n k is (Some d.count) (before d n k is (Some d.count) led)));
  }

  -- `new` gets the name of the next segment
  module _ (d : Disk) (from : ℕ) (segments : List Segment) (s : Segment)
      (next : number_in s.0 ≡ Some (from + length segments)) (numbered : AreNumbered from segments)
      (sure : Sure d segments) (new : IsNew d s.1) (flushed : IsFlushed d) where
    now_named : (to : Option ℕ) (n : List ℕ) (k : ℕ) → number_in n ≡ Some k →
        to ≡ led s.0 (d.names new_name) (led new_name None d.names) n → IsAt d to (text_of (segments ++ s ∷ []) n)
    now_named to n k is here =
        ⊎_elim
        (λ same.
        let at : to ≡ Some new.place = here ∙ ap (led s.0 (d.names new_name) (led new_name None d.names)) same.1 ∙
        led_same s.0 (d.names new_name) (led new_name None d.names) ∙ new.leads in
        let none : text_of segments s.0 ≡ None = none_outside from segments numbered s.0 (from + length segments) next
        (inr (omega arith)) in
        let text : text_of (segments ++ s ∷ []) n ≡ Some s.1 =
        ap (text_of (segments ++ s ∷ [])) same.1 ∙ pushed_same segments s none in
        subst₂ (λ (o : Option ℕ) (t : Option (List ℕ)). IsAt d o t) (sym at) (sym text)
        (new.within, flushed new.place new.leads, new.bytes))
        (λ other.
        let at : to ≡ d.names n = here ∙ led_other s.0 n (d.names new_name) (led new_name None d.names) other.1 ∙
        led_other new_name n None d.names (not_new n k is) in
        subst (IsAt d to) (sym (pushed_other segments s n other.1)) (sure n k is to (inl at)))
        (same_name n s.0)

    pub unsure_named : Unsure (after (Rename new_name s.0) d) segments (segments ++ s ∷ [])
    unsure_named n k is to (inl here) = inr (now_named to n k is here)
    unsure_named n k is to (inr there) = inl (sure n k is to there)

    pub now_after : Now (after (Rename new_name s.0) d) (segments ++ s ∷ [])
    now_after n k is = now_named (led s.0 (d.names new_name) (led new_name None d.names) n) n k is refl

-- the oldest segment is removed
module _ (d : Disk) (from : ℕ) (s : Segment) (rest : List Segment) (numbered : AreNumbered from (s ∷ rest))
    (sure : Sure d (s ∷ rest)) where
  without : text_of rest s.0 ≡ None
  without = none_outside (from + 1) rest numbered.1 s.0 from numbered.0 (inl (omega arith))

  now_without : (to : Option ℕ) (n : List ℕ) (k : ℕ) → number_in n ≡ Some k → to ≡ led s.0 None d.names n →
      IsAt d to (text_of rest n)
  now_without to n k is here =
      ⊎_elim
      (λ same.
      let at : to ≡ None = here ∙ ap (led s.0 None d.names) same.1 ∙ led_same s.0 None d.names in
      let text : text_of rest n ≡ None = ap (text_of rest) same.1 ∙ without in
      subst₂ (λ (o : Option ℕ) (t : Option (List ℕ)). IsAt d o t) (sym at) (sym text) tt)
      (λ other.
      let at : to ≡ d.names n = here ∙ led_other s.0 n None d.names other.1 in
      subst (IsAt d to) (first_other s rest n other.1) (sure n k is to (inl at)))
      (same_name n s.0)

  pub unsure_dropped : Unsure (after (Remove s.0) d) (s ∷ rest) rest
  unsure_dropped n k is to (inl here) = inr (now_without to n k is here)
  unsure_dropped n k is to (inr there) = inl (sure n k is to there)

  pub now_dropped : Now (after (Remove s.0) d) rest
  now_dropped n k is = now_without (led s.0 None d.names n) n k is refl
