-- Calls that refuse a line that is too long, or could be.
use Rattle.std.proofs.Common.{◌≡◌, ◌⊎◌, ◌∙◌, ℕ, List, [], Option, None, Some, Result, Ok, Err, ap, inl, inr, map, refl, subst, sym, unwrap_or, append-nil}
use Rattle.std.specs.Prelude.{MatchResult}
use mathlib.Core.List.{map-id}
use Rattle.asm_element.specs.Place.{Place}
use Rattle.asm_update.specs.Fire.{Old}
use Rattle.asm_update.specs.Move.{Move}
use Rattle.asm_update.specs.State.{State, IsProper, val}
use Rattle.asm_state.specs.View.{StateView, value_at}
use Rattle.asm_state.specs.declared.named.Named.{Named}
use Rattle.asm_state.specs.declared.scanned.Scanned.{Scanned}
use Rattle.asm_step.specs.Layers.{one_move}
use Rattle.asm_storage.specs.Storage.{AgentAt}
use Rattle.asm_storage.specs.declared.call.Reply.{Reply}
use Rattle.asm_storage.specs.declared.error.FireError.{FireError}
use Rattle.asm_storage.specs.declared.error.FireError.TheVariants as fire_error
use Rattle.asm_explain.specs.Bytes.{AreLocations, ReadAsFire}
use Rattle.asm_transaction.proofs.Recorded.{unprepared}
use Rattle.asm_transaction.specs.Commit.{NamesAll}
use Rattle.asm_transaction.specs.Record.{IsUnprepared, Records}
use Rattle.asm_transaction.specs.View.{TransactionView}
use Rattle.asm_slots.specs.AgentAnswers.{IsLongOwnRead, IsNoRead, IsNotRead, IsNotTried, IsNotTriedOver, ReadAsFireOver}
use Rattle.asm_slots.specs.AgentCalls.{IsNoCapacity, ReportsFire, no_numbers}
use Rattle.asm_slots.specs.Answers.{IsUnreadAs}
use Rattle.asm_slots.specs.Bytes.{ReadAsLocations, ReadAsState}
use Rattle.asm_slots.specs.ClosedJournal.{Leaves}
use Rattle.asm_slots.specs.Commit.{FiresOrIsLong, IsFitting, IsLong, IsLongToRecord, IsShortToRecord}
use Rattle.asm_slots.specs.LongLines.{IsLongFire, IsLongRead, IsLongState, LongOr}
use Rattle.asm_slots.specs.NextStore.{DoesNotGoOn, EndsLong, DoesNotContinue, IsAtEnd, IsNotNext, IsNotOpened, OwnsLong}
use Rattle.asm_slots.specs.OwnState.{state_at}
use Rattle.asm_slots.specs.Slots.{Holds, a_store, an_agent}
use Rattle.asm_slots.specs.Standard.{Standard, meaning}
use Rattle.asm_slots.specs.Store.{StoreView}
use Rattle.asm_slots.specs.declared.codes.Code.{Code}
use Rattle.asm_slots.specs.declared.codes.Code.TheVariants as code
use Rattle.asm_slots.specs.declared.content.Content.{Content}
use Rattle.asm_slots.specs.declared.content.Content.TheVariants as content
use Rattle.asm_slots.specs.declared.read_and_fire.Numbers.{Numbers}
use Rattle.asm_slots.proofs.OwnStates.{IsOwn, own_values}

-- what is too long for one reason is so for another
pub long_or : (A B : Type 0) (c : Code) → (A → B) → LongOr A c → LongOr B c
long_or A B code.LongLine to why = to why
long_or A B code.Memory to why = tt
long_or A B _ to why = absurd why

-- the outcome of a look at one thing is that of a look at another
pub looked : (P Q A B : Type 0) (r : Result (Unit {0}) Code) → (P → Q) → (A → B) → MatchResult r (λ done. P) (LongOr A) →
    MatchResult r (λ done. Q) (LongOr B)
looked P Q A B (Ok x) done to is = done is
looked P Q A B (Err c) done to is = long_or A B c to is

-- ---- fires

pub short_as : (reads named : List Named) (M N : Move) → named ≡ reads → N ≡ M → ¬ IsLongFire named N → ¬ IsLongFire reads M
short_as reads named M N same one short =
    subst (λ (rs : List Named). ¬ IsLongFire rs M) same (subst (λ (K : Move). ¬ IsLongFire named K) one short)

pub long_as : (reads named : List Named) (M N : Move) (c : Code) → named ≡ reads → N ≡ M → LongOr (IsLongFire named N) c →
    LongOr (IsLongFire reads M) c
long_as reads named M N c same one why =
    subst (λ (rs : List Named). LongOr (IsLongFire rs M) c) same (subst (λ (K : Move). LongOr (IsLongFire named K) c) one why)

pub not_tried : (call : List ℕ) (a : AgentAt Standard) (reads : List Named) (M : Move) (c : Code) → ReadAsFire call reads M →
    LongOr (IsLongFire reads M) c → IsNotTried call a c
not_tried call a reads M code.LongLine read why = inr (inr (refl, (reads, M, read, why)))
not_tried call a reads M code.Memory read why = inl tt
not_tried call a reads M _ read why = absurd why

pub not_tried_over : (call scans : List ℕ) (a : AgentAt Standard) (reads : List Named) (over : List Scanned) (M : Move) (c : Code) →
    ReadAsFireOver call scans reads over M → LongOr (IsLongFire reads M) c → IsNotTriedOver call scans a c
not_tried_over call scans a reads over M code.LongLine read why = inr (inr (refl, (reads, M, read.0, why)))
not_tried_over call scans a reads over M code.Memory read why = inl (inl tt)
not_tried_over call scans a reads over M _ read why = absurd why

-- ---- commits

pub is_long : (t : TransactionView) (reads : List Named) (M : Move) (c : Code) → NamesAll t reads → M ≡ unwrap_or (one_move t.layers) [] →
    LongOr (IsLongFire reads M) c → LongOr (IsLong t) c
is_long t reads M c names one why = long_or _ _ c (λ long. (reads, M, names, one, long)) why

pub is_long_to_record : (a : AgentAt Standard) (t : TransactionView) (reads : List Named) (M : Move) (c : Code) → NamesAll t reads →
    M ≡ unwrap_or (one_move t.layers) [] → LongOr (IsLongOwnRead (map (λ r. r.at) reads) a) c →
    LongOr (IsLong t ⊎ IsLongToRecord a t) c
is_long_to_record a t reads M c names one why = long_or _ _ c (λ long. inr (reads, M, names, one, long)) why

fitting : (IsFit : Type 0) (a b : AgentAt Standard) (answer : Result Reply FireError) → IsFit → IsFitting IsFit a b answer
fitting IsFit a b (Ok k) fit = fit
fitting IsFit a b (Err e) fit = inl fit

pub fires_short : (Has : Result Reply FireError → Type 0) (IsFit IsRefused : Type 0) (a b : AgentAt Standard)
    (answer : Result Reply FireError) (n : Numbers) (r : Result (Unit {0}) Code) → IsFit → Has answer → ReportsFire answer n r →
    FiresOrIsLong Has IsFit IsRefused a b n r
fires_short Has IsFit IsRefused a b answer n r fit has reports = inl (answer, has, fitting IsFit a b answer fit, reports)

pub fires_nothing : (Has : Result Reply FireError → Type 0) (IsFit IsRefused : Type 0) (a : AgentAt Standard) (c : Code) (n : Numbers)
    (r : Result (Unit {0}) Code) → LongOr IsRefused c → Has (Err fire_error.Memory) → n ≡ no_numbers → r ≡ Err c →
    FiresOrIsLong Has IsFit IsRefused a a n r
fires_nothing Has IsFit IsRefused a code.LongLine n r why has none is = inr (refl, none, is, why)
fires_nothing Has IsFit IsRefused a code.Memory n r why has none is = inl (Err fire_error.Memory, has, inr refl, (is, none))
fires_nothing Has IsFit IsRefused a _ n r why has none is = absurd why

pub records_nothing : (a : AgentAt Standard) (t : TransactionView) (e : FireError) → IsUnprepared t e → Records meaning a a t (Err e)
records_nothing a t e why = inr (e, refl, unprepared a t e why)

pub reports_unrecorded : (a : AgentAt Standard) (t : TransactionView) (e : FireError) (n : Numbers) (r : Result (Unit {0}) Code) →
    IsUnprepared t e → ReportsFire (Err e) n r → FiresOrIsLong (Records meaning a a t) (IsShortToRecord a t) (IsLong t ⊎ IsLongToRecord a t) a a n r
reports_unrecorded a t e n r why reports = inl (Err e, records_nothing a t e why, inr refl, reports)

-- ---- reads

-- what the agent's own state has
pub looked_own : (a : AgentAt Standard) (s : StateView) (ls : List Place) (r : Result (Unit {0}) Code) → IsOwn a s → s.number ≡ a.number →
    MatchResult r (λ done. ¬ IsLongRead (value_at s) ls) (LongOr (IsLongRead (value_at s) ls)) →
    MatchResult r (λ done. ¬ IsLongOwnRead ls a) (LongOr (IsLongOwnRead ls a))
looked_own a s ls r own stands is =
    subst (λ (o : Old). MatchResult r (λ done. ¬ IsLongRead o ls) (LongOr (IsLongRead o ls)))
    (own_values a s own ∙ ap (λ (n : ℕ). val (state_at a n)) stands) is

pub short_read : (ls passed : List Place) (a : AgentAt Standard) → passed ≡ ls → ¬ IsLongOwnRead (map (λ l. l) passed) a →
    ¬ IsLongOwnRead ls a
short_read ls passed a same short = subst (λ (ps : List Place). ¬ IsLongOwnRead ps a) (map-id passed ∙ same) short

pub long_read : (bytes : List ℕ) (ls passed : List Place) (a : AgentAt Standard) (c : Code) → passed ≡ ls → ReadAsLocations bytes ls →
    LongOr (IsLongOwnRead (map (λ l. l) passed) a) c → IsNoRead bytes a c
long_read bytes ls passed a code.LongLine same read why =
    (ls, read, subst (λ (ps : List Place). IsLongOwnRead ps a) (map-id passed ∙ same) why)
long_read bytes ls passed a code.Memory same read why = tt
long_read bytes ls passed a _ same read why = absurd why

pub no_locations : (bytes : List ℕ) (a : AgentAt Standard) (c : Code) → IsUnreadAs AreLocations bytes c → IsNoRead bytes a c
no_locations bytes a code.LongLine none = absurd none
no_locations bytes a _ none = none

pub not_read : (bytes : List ℕ) (agent after : Option Content) (a : AgentAt Standard) (c : Code) → agent ≡ Some (content.Agent a) →
    after ≡ Some (content.Agent a) → IsNoRead bytes a c → IsNotRead bytes agent after c
not_read bytes agent after a c is so none =
    subst (λ (x : Option Content). IsNotRead bytes x after c) (sym is)
    (subst (λ (x : Option Content). IsNotRead bytes (Some (content.Agent a)) x c) (sym so) (unchanged c none)) where
      unchanged : (k : Code) → IsNoRead bytes a k → IsNotRead bytes (Some (content.Agent a)) (Some (content.Agent a)) k
      unchanged code.Empty why = absurd why
      unchanged code.Memory why =
          (refl, inl refl, record { storage = refl; id = refl }, ([], append-nil a.account.seen))
      unchanged code.Many why = absurd why
      unchanged k why = (refl, why)

-- ---- states

pub not_opened : (bytes : List ℕ) (capacity : ℕ) (old : Option Content) (S : State) (c : Code) → old ≡ None → ReadAsState bytes S →
    LongOr (IsLongState S) c → IsNotOpened bytes capacity old c
not_opened bytes capacity old S code.LongLine empty read why = (empty, S, read, why)
not_opened bytes capacity old S code.Memory empty read why = (empty, tt)
not_opened bytes capacity old S _ empty read why = absurd why

pub left_long : (bytes text : List ℕ) (S T : State) (capacity : ℕ) (c : Code) → text ≡ bytes → T ≡ S → Leaves text S →
    LongOr (IsLongState T) c → DoesNotContinue bytes capacity c
left_long bytes text S T capacity code.LongLine same kept leaves long =
    (T, subst (Leaves bytes) (sym kept) (subst (λ (t : List ℕ). Leaves t S) same leaves), long)
left_long bytes text S T capacity code.Memory same kept leaves long = tt
left_long bytes text S T capacity _ same kept leaves long = absurd long

pub not_next : (capacity : ℕ) (store old : Option Content) (s : StoreView) (text : List ℕ) (c : Code) → old ≡ None →
    store ≡ Some (content.Store s) → s.journal ≡ Some text → DoesNotContinue text capacity c → IsNotNext capacity store old c
not_next capacity store old s text code.LongLine empty is kept why =
    (empty, subst (λ (x : Option Content). Holds a_store x EndsLong) (sym is) (text, kept, why))
not_next capacity store old s text code.Capacity empty is kept why = (empty, why)
not_next capacity store old s text code.Memory empty is kept why = empty
not_next capacity store old s text _ empty is kept why = absurd why

pub owns_long : (a : AgentAt Standard) (s : StateView) (S : State) → IsOwn a s → s.number ≡ a.number → IsAtEnd a → IsProper S →
    ((l : Place) → val S l ≡ value_at s l) → IsLongState S → OwnsLong a
owns_long a s S own stands at_end proper values long = (
  S,
  proper,
  (λ l. values l ∙ ap (λ (o : Old). o l) (own_values a s own ∙ ap (λ (n : ℕ). val (state_at a n)) (stands ∙ at_end))),
  long,
)

pub goes_not_on : (capacity : ℕ) (agent old : Option Content) (a : AgentAt Standard) (s : StateView) (S : State) (c : Code) → old ≡ None →
    agent ≡ Some (content.Agent a) → ¬ IsNoCapacity capacity → IsOwn a s → s.number ≡ a.number → IsAtEnd a → IsProper S →
    ((l : Place) → val S l ≡ value_at s l) → LongOr (IsLongState S) c → DoesNotGoOn capacity agent old c
goes_not_on capacity agent old a s S code.LongLine empty is room own stands at_end proper values why =
    (empty, room, subst (λ (x : Option Content). Holds an_agent x (λ b. IsAtEnd b × OwnsLong b)) (sym is) (at_end, owns_long a s S own stands at_end proper values why))
goes_not_on capacity agent old a s S code.Memory empty is room own stands at_end proper values why =
    (empty, room, subst (λ (x : Option Content). Holds an_agent x IsAtEnd) (sym is) at_end)
goes_not_on capacity agent old a s S _ empty is room own stands at_end proper values why = absurd why
