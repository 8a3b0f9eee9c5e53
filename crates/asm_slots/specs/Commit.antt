-- What the commit of the transaction in a slot does.
use Rattle.std.specs.Prelude.{◌≡◌, ◌⊎◌, ℕ, List, [], map, unwrap_or, MatchResult, Option, Result, Err}
use Rattle.asm_update.specs.Move.{Move}
use Rattle.asm_state.specs.declared.named.Named.{Named}
use Rattle.asm_step.specs.Layers.{one_move}
use Rattle.asm_storage.specs.Storage.{AgentAt}
use Rattle.asm_storage.specs.declared.call.Call.{Call}
use Rattle.asm_storage.specs.declared.call.Reply.{Reply}
use Rattle.asm_storage.specs.declared.error.FireError.{FireError}
use Rattle.asm_journal.specs.Event.{call_json_of}
use Rattle.asm_transaction.specs.Commit.{Commits, IsOneFire, IsPreview, NamesAll}
use Rattle.asm_transaction.specs.Reading.{IsOf}
use Rattle.asm_transaction.specs.Record.{Records}
use Rattle.asm_transaction.specs.View.{TransactionView}
use Rattle.asm_slots.specs.AgentAnswers.{IsLongOwnRead}
use Rattle.asm_slots.specs.AgentCalls.{ReportsFire, no_numbers}
use Rattle.asm_slots.specs.LongLines.{IsLongFire}
use Rattle.asm_slots.specs.Slots.{HoldBoth, Holds, LacksOne, an_agent}
use Rattle.asm_slots.specs.Standard.{Standard, meaning}
use Rattle.asm_slots.specs.declared.codes.Code.{Code}
use Rattle.asm_slots.specs.declared.codes.Code.TheVariants as code
use Rattle.asm_slots.specs.declared.content.Content.{Content}
use Rattle.asm_slots.specs.declared.read_and_fire.Numbers.{Numbers}
use Rattle.serde_json.specs.Written.{compact_text}

-- its one move and the reads that its commit declares have this property
abbrev pub Declares : (List Named → Move → Type 0) → TransactionView → Type 0
Declares P t = (reads : List Named) × (M : Move) × NamesAll t reads × (M ≡ unwrap_or (one_move t.layers) []) × P reads M

-- the line of its commit could be too long
abbrev pub IsLong : TransactionView → Type 0
IsLong = Declares IsLongFire

-- it can't
abbrev pub IsShort : TransactionView → Type 0
IsShort = Declares (λ reads M. ¬ IsLongFire reads M)

-- the line of a read of what its commit declares is too long, with the values in the agent's own state
abbrev pub IsLongToRecord : AgentAt Standard → TransactionView → Type 0
IsLongToRecord a = Declares (λ reads M. IsLongOwnRead (map (λ r. r.at) reads) a)

-- neither its line nor that of such a read is
abbrev pub IsShortToRecord : AgentAt Standard → TransactionView → Type 0
IsShortToRecord a = Declares (λ reads M. ¬ IsLongFire reads M × ¬ IsLongOwnRead (map (λ r. r.at) reads) a)

-- it is short if it is answered, and also with an error unless it leaves no receipt
abbrev pub IsFitting : Type 0 → AgentAt Standard → AgentAt Standard → Result Reply FireError → Type 0
IsFitting IsFit old new answer = MatchResult answer (λ k. IsFit) (λ e. IsFit ⊎ (new.account.receipts ≡ old.account.receipts))

-- a commit has this answer, which the call reports, and is short; or it is refused, and nothing changes
abbrev pub FiresOrIsLong : (Result Reply FireError → Type 0) → Type 0 → Type 0 → AgentAt Standard → AgentAt Standard → Numbers →
    Result (Unit {0}) Code → Type 0
FiresOrIsLong Has IsFit IsRefused old new n r =
    ((answer : Result Reply FireError) × Has answer × IsFitting IsFit old new answer × ReportsFire answer n r)
    ⊎ ((new ≡ old) × (n ≡ no_numbers) × (r ≡ Err code.LongLine) × IsRefused)

-- the commit of the transaction, if it is one of the agent, has this answer
abbrev pub HasCommitted : TransactionView → AgentAt Standard → AgentAt Standard → Numbers → Result (Unit {0}) Code → Type 0
HasCommitted t old new = FiresOrIsLong (λ answer. IsOf meaning old t → Commits meaning old new t answer) (IsShort t) (IsLong t) old new

-- one fire of the agent has this answer
abbrev pub HasFiredOnce : TransactionView → AgentAt Standard → AgentAt Standard → Numbers → Result (Unit {0}) Code → Type 0
HasFiredOnce t old new = FiresOrIsLong (IsOneFire meaning old new t) (IsShort t) (IsLong t) old new

-- what the transaction has read was recorded, and its commit has this answer
abbrev pub HasCommittedRecorded : TransactionView → AgentAt Standard → AgentAt Standard → Numbers → Result (Unit {0}) Code →
    Type 0
HasCommittedRecorded t old new = FiresOrIsLong (Records meaning old new t) (IsShortToRecord old t) (IsLong t ⊎ IsLongToRecord old t) old new

-- the agent commits the transaction; or a slot lacks its agent or its step, and nothing changes
abbrev pub CommitsIn : (TransactionView → AgentAt Standard → AgentAt Standard → Numbers → Result (Unit {0}) Code → Type 0) →
    Option Content → Option Content → Option Content → Numbers → Result (Unit {0}) Code → Type 0
CommitsIn HasDone agent after step n r =
    HoldBoth agent step (λ a t. Holds an_agent after (λ b. HasDone t a b n r))
    ⊎ (LacksOne agent step × (after ≡ agent) × (n ≡ no_numbers) × (r ≡ Err code.Empty))

-- the text of the fire that its commit makes, {"fire":[INSTR, ..],"reads":[NAMED, ..]}
abbrev pub IsOfferText : TransactionView → List ℕ → Type 0
IsOfferText t text = (offer : Call) × IsPreview t offer × (text ≡ compact_text (call_json_of offer))
