-- The calls of an agent: a reading, an agent after an answered call, how many attempts and polls the call made, and
-- plain moves.
use Rattle.std.specs.Prelude.{Bool, false, ◌&&◌, nat_le, List, [], ◌∷◌, length, ◌≡◌, ◌↔◌, ℕ, zero, suc, ◌+◌, ◌-◌, ◌^◌, ◌≤◌, ◌<◌, min, take, Option, true, Result, Ok, Err, IfOk, IfErr, OnErr, IsErrOf, refl}
use Rattle.asm_update.specs.Move.{Move, all_regular}
use Rattle.asm_state.specs.declared.named.Named.{Named}
use Rattle.asm_state.specs.declared.scanned.Scanned.{Scanned}
use Rattle.asm_storage.specs.Limits.{most_plain, offers_limit, reads_limit}
use Rattle.std.specs.Coded.{Coded, code_by, coded×, coded_ℕ, coded_list}
use mathlib.Core.List.{IsPrefix}
use Rattle.asm_element.specs.Place.{Place}
use Rattle.asm_element.specs.declared.value.Value.{Value}
use Rattle.asm_update.specs.Aggregator.{Meaning}
use Rattle.asm_state.specs.Verdict.{least_stale}
use Rattle.asm_storage.specs.declared.call.Answer.{Answer}
use Rattle.asm_storage.specs.declared.call.Answer.TheVariants as answer
use Rattle.asm_storage.specs.declared.call.Call.{Call}
use Rattle.asm_storage.specs.declared.call.Call.TheVariants as call
use Rattle.asm_storage.specs.declared.call.Reply.{Reply}
use Rattle.asm_storage.specs.declared.call.Reply.TheVariants as reply
use Rattle.asm_storage.specs.declared.error.FireError.{FireError}
use Rattle.asm_storage.specs.declared.error.FireError.TheVariants as fire_error
use Rattle.asm_storage.specs.declared.error.ReadError.{ReadError}
use Rattle.asm_storage.specs.declared.error.ReadError.TheVariants as read_error
use Rattle.asm_storage.specs.declared.entry.Entry.{Entry}
use Rattle.asm_storage.specs.declared.receipt.Receipt.{Receipt}
use Rattle.asm_storage.specs.Machine.{reply_to}
use Rattle.asm_storage.specs.History.{IsCoherentAt}
use Rattle.asm_storage.specs.Agents.{moves_seen}
use Rattle.asm_storage.specs.Scans.{with_found, DependsOn}
use Rattle.asm_storage.specs.Storage.{AgentAt, FollowsOn, IsUpToDate, IsSameAgent, machine_of, has_polled, with_receipt, with_fired, last_poll, Missed}

-- whether a move is judged alike on every state: it has no declared read, no partial update and few instructions
abbrev pub is_plain : List Named → Move → Bool
is_plain [] M = nat_le (length M) most_plain && all_regular M
is_plain (r ∷ rs) M = false

-- whether it is so of one that depends on scans: on none
abbrev pub is_plain_over : List Named → List Scanned → Move → Bool
is_plain_over reads [] M = is_plain reads M
is_plain_over reads (s ∷ ss) M = false

-- what was read: the number of moves, the locations and their values
pub record ReadingView : Type 0 where
  pub number : ℕ
  pub places : List Place
  pub values : List Value

-- it is stored as a tuple
abbrev pub reading_code : Coded Place → Coded Value → Coded ReadingView
reading_code l v =
    code_by (ℕ × (List Place × List Value)) (coded× coded_ℕ (coded× (coded_list l) (coded_list v)))
    (λ r. (r.number, (r.places, r.values))) (λ p. record { number = p.0; places = p.1.0; values = p.1.1 }) (λ _. refl)

-- the answer that the reading shows
abbrev pub read_answer : ReadingView → Answer
read_answer r = answer.Read r.number r.values

-- the receipt of a call that was answered after so many moves
abbrev pub receipt_at : ℕ → Call → Answer → Receipt
receipt_at stood call answer = record { call = call; answer = answer; stood = stood }

-- an agent that looked on and then answered: with what it has then seen, and a receipt of the call
abbrev pub after_answer : {A : Type 0} → AgentAt A → AgentAt A → Call → Answer → AgentAt A
after_answer old new call answer =
    with_receipt (has_polled old new.account.seen new.misses new.number) (receipt_at (length new.account.seen) call answer)

-- what a fire was judged on: all that the agent has then seen, without the move that it fired
abbrev pub judged_on : Reply → List Entry → List Entry
judged_on (reply.Fired k) seen = take (k - 1) seen
judged_on r seen = seen

-- the version of the agent's own state after a reply: all that the fire was judged on, or the old version, as a plain
-- move is judged without the state
abbrev pub IsVersionAfter : {A : Type 0} → AgentAt A → AgentAt A → Bool → Reply → Type 0
IsVersionAfter old new true r = new.number ≡ old.number
IsVersionAfter old new false r = new.number ≡ length (judged_on r new.account.seen)

-- an agent after an answered fire: `Fired` has the move as its last entry and one more won attempt
abbrev pub after_fire : {A : Type 0} → AgentAt A → AgentAt A → List Named → Move → Reply → AgentAt A
after_fire old new reads M (reply.Fired k) =
    with_fired (has_polled old (judged_on (reply.Fired k) new.account.seen) new.misses new.number)
    (receipt_at (k - 1) (call.Fire reads M) (answer.Fire (reply.Fired k))) M
after_fire old new reads M r = after_answer old new (call.Fire reads M) (answer.Fire r)

-- a read was answered so: as the storage of one thread does after what the agent has then seen, which begins with
-- all that it had seen, and which its own state has then followed
pub record IsRead {A : Type 0} (meaning : A → Meaning) (old new : AgentAt A) (places : List Place) (r : ReadingView)
    : Type 0 where
  pub reply : read_answer r ≡ reply_to (machine_of meaning old.storage) (moves_seen new.account.seen) (call.Read places)
  pub begins : IsPrefix old.account.seen new.account.seen
  pub locations : r.places ≡ places
  pub agent : new ≡ after_answer old new (call.Read places) (read_answer r)
  pub level : IsUpToDate new

-- what an agent's own state has at these locations, which no look is made for: the answer of the storage of one thread
-- after the first moves that the agent has seen, as many as the number says, which is that of the state
pub record IsPeek {A : Type 0} (meaning : A → Meaning) (a : AgentAt A) (places : List Place) (r : ReadingView) : Type 0
  where
    pub number : r.number ≡ a.number
    pub within : r.number ≤ length a.account.seen
    pub reply : read_answer r ≡
        reply_to (machine_of meaning a.storage) (take r.number (moves_seen a.account.seen)) (call.Read places)
    pub locations : r.places ≡ places

-- a read was answered by the agent's own state, as a peek is: the agent has a receipt of it at the state's number, and
-- nothing else of it has changed
pub record IsOwnRead {A : Type 0} (meaning : A → Meaning) (old new : AgentAt A) (places : List Place) (r : ReadingView)
    : Type 0 where
  pub peek : IsPeek meaning old places r
  pub agent : new ≡ with_receipt old (receipt_at r.number (call.Read places) (read_answer r))

-- the smallest of the named locations that is stale after what the agent has then seen, or None
abbrev pub IsStaleRead : {A : Type 0} → (A → Meaning) → AgentAt A → List Named → Option Place → Type 0
IsStaleRead meaning a reads found =
    let m = machine_of meaning a.storage in
    found ≡ least_stale m.part m.init (moves_seen a.account.seen) reads

-- a fire was answered by this reply: it is that of the storage of one thread after a list of moves that begins with
-- all that had been seen
pub record IsReplied {A : Type 0} (meaning : A → Meaning) (old new : AgentAt A) (reads : List Named) (M : Move)
    (r : Reply) : Type 0 where
  pub reply : answer.Fire r ≡
      reply_to (machine_of meaning old.storage) (moves_seen (judged_on r new.account.seen)) (call.Fire reads M)
  pub begins : IsPrefix old.account.seen (judged_on r new.account.seen)
  pub agent : new ≡ after_fire old new reads M r

-- a move that fired finds each location that it names unchanged since the number under which it names it, as far as
-- these moves come before it
abbrev pub IsCoherentReply : {A : Type 0} → (A → Meaning) → AgentAt A → List Named → Move → Reply → Type 0
IsCoherentReply meaning new reads M (reply.Fired k) =
    IsCoherentAt (machine_of meaning new.storage) (moves_seen (judged_on (reply.Fired k) new.account.seen))
    (call.Fire reads M) (k - 1)
IsCoherentReply meaning new reads M r = Unit {0}

-- so many attempts were made, each of which added an entry to what is seen, and so many polls found nothing
pub record HasOffered {A : Type 0} (old new : AgentAt A) (offers polls : ℕ) : Type 0 where
  pub longer : length old.account.seen + offers ≤ length new.account.seen
  pub missed : Missed old polls new

-- how many attempts a fire made: the last one won, or 64 were lost, or fewer were lost before the last poll; each
-- attempt follows one poll that found nothing
abbrev pub MadeOffers : {A : Type 0} → AgentAt A → AgentAt A → Result Reply FireError → ℕ → Type 0
MadeOffers old new (Ok (reply.Fired k)) n = (1 ≤ n) × (n ≤ offers_limit) × HasOffered old new n n
MadeOffers old new (Ok r) n = (n < offers_limit) × HasOffered old new n (n + last_poll new)
MadeOffers old new (Err fire_error.ManyReads) n = (n ≡ 0) × (new ≡ old)
MadeOffers old new (Err (fire_error.Busy from to)) n = (n ≡ offers_limit) × HasOffered old new n n
MadeOffers old new (Err fire_error.Memory) n = (n < offers_limit) × HasOffered old new n (n + last_poll new)

-- `Busy` has what had been seen at the call's start and at its end
abbrev pub IsBusy : {A : Type 0} → AgentAt A → AgentAt A → FireError → Type 0
IsBusy old new (fire_error.Busy from to) = (from ≡ length old.account.seen) × (to ≡ length new.account.seen)
IsBusy old new e = Unit {0}

-- what a fire of an agent at its storage gives
pub record IsFire {A : Type 0} (meaning : A → Meaning) (old new : AgentAt A) (reads : List Named) (M : Move)
    (result : Result Reply FireError) : Type 0 where
  -- the agent stays itself, and what it has seen stays seen
  pub same : IsSameAgent old new
  pub seen : IsPrefix old.account.seen new.account.seen
  -- its own state has the old version or a later one, and after a reply just that one
  pub follows : FollowsOn old new
  pub stands : IfOk result (IsVersionAfter old new (is_plain reads M))
  -- a reply is that of the sequential storage, and what fired finds what it named unchanged
  pub answered : IfOk result (IsReplied meaning old new reads M)
  pub coherent : IfOk result (IsCoherentReply meaning new reads M)
  -- after an error it has looked on, and no more
  pub refused : OnErr result (new ≡ has_polled old new.account.seen new.misses new.number)
  pub busy : IfErr result (IsBusy old new)
  pub many : IsErrOf result fire_error.ManyReads ↔ (reads_limit < length reads)
  -- how many attempts it made; the polls that found nothing are one at least before a fired move, counted up to 2^64
  -- - 1, and 64 at most; and a busy fire saw as many moves as it lost attempts
  pub offers : (n : ℕ) × MadeOffers old new result n
  pub missed : (k : ℕ) → result ≡ Ok (reply.Fired k) → min (old.misses + 1) (2 ^ 64 - 1) ≤ new.misses
  pub few : new.misses ≤ old.misses + offers_limit
  pub lost : (from to : ℕ) → result ≡ Err (fire_error.Busy from to) → from + offers_limit ≤ to

-- what a fire gives that depends on scans: what a fire gives that names, behind the reads, what was found of the
-- scans
pub record IsFireOver {A : Type 0} (meaning : A → Meaning) (old new : AgentAt A) (reads : List Named)
    (scans : List Scanned) (M : Move) (result : Result Reply FireError) : Type 0 where
  pub same : IsSameAgent old new
  pub seen : IsPrefix old.account.seen new.account.seen
  -- its own state has the old version or a later one, and after a reply just that one
  pub follows : FollowsOn old new
  pub stands : IfOk result (IsVersionAfter old new (is_plain_over reads scans M))
  -- a reply is that of the sequential storage to the fire that names what was found too, and depends on the scans
  pub found : Option Named
  pub answered : IfOk result (IsReplied meaning old new (with_found reads found) M)
  pub coherent : IfOk result (IsCoherentReply meaning new (with_found reads found) M)
  pub depends : IfOk result (λ r.
      DependsOn (machine_of meaning new.storage) (moves_seen (judged_on r new.account.seen)) scans found r)
  -- as many reads and scans together as a fire may have reads
  pub many : IsErrOf result fire_error.ManyReads ↔ (reads_limit < length reads + length scans)
  -- the rest is as of any fire
  pub refused : OnErr result (new ≡ has_polled old new.account.seen new.misses new.number)
  pub busy : IfErr result (IsBusy old new)
  pub offers : (n : ℕ) × MadeOffers old new result n
  pub missed : (k : ℕ) → result ≡ Ok (reply.Fired k) → min (old.misses + 1) (2 ^ 64 - 1) ≤ new.misses
  pub few : new.misses ≤ old.misses + offers_limit
  pub lost : (from to : ℕ) → result ≡ Err (fire_error.Busy from to) → from + offers_limit ≤ to

-- a read looked on, but where it had too many locations
abbrev pub HasPolledFor : {A : Type 0} → AgentAt A → AgentAt A → ReadError → Type 0
HasPolledFor old new read_error.ManyLocations = new ≡ old
HasPolledFor old new read_error.Memory = Missed old (last_poll new) new

-- the state in which so many calls in a row leave a closure
abbrev pub Ran : {F : Type 0} → (F → F → Type 0) → F → ℕ → F → Type 0
Ran {F} step f zero g = f ≡ g
Ran {F} step f (suc n) g = (h : F) × step f h × Ran step h n g
