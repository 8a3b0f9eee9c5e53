-- The codes that calls return to C.
use Rattle.std.specs.Prelude.{◌≡◌, ◌⊎◌, ◌-◌, ℤ, pos, negsuc, List, [], ◌∷◌, ℕ, codes, int_lt, slice_index_or, if◌then◌else◌, Result, Ok, Err}
use Rattle.asm_slots.specs.declared.codes.Code.{Code}
use Rattle.asm_slots.specs.declared.codes.Code.TheVariants as variant

-- done; of a fire: fired; of a check: legal
abbrev pub ASM_DONE : ℤ
ASM_DONE = pos 0

-- the number of a code; the header says what each means
abbrev pub number_of : Code → ℤ
number_of variant.Stale = pos 1
number_of variant.Clash = pos 2
number_of variant.Memory = pos 3
number_of variant.Full = pos 4
number_of variant.Empty = pos 5
number_of variant.Capacity = pos 6
number_of variant.Small = pos 7
number_of variant.Busy = pos 8
number_of variant.Many = pos 9
number_of variant.NoAnswer = pos 10
number_of variant.Taken = pos 11
number_of variant.Number = pos 12
number_of variant.Missing = pos 13
number_of variant.Other = pos 14
number_of variant.Illegal = pos 15
number_of variant.NotJson = pos 16
number_of variant.Shape = pos 17
number_of variant.Version = pos 18
number_of variant.Cut = pos 19
number_of variant.Large = pos 20
number_of variant.Moved = pos 21
number_of variant.Deep = pos 22
number_of variant.Apart = pos 23
number_of variant.Agents = pos 24
number_of variant.Ahead = pos 25
number_of variant.Operand = pos 26
number_of variant.NoForm = pos 27
number_of variant.NoJournal = pos 28
number_of variant.NoPush = pos 29
number_of variant.NoAgent = pos 30
number_of variant.NoPart = pos 31
number_of variant.NotFull = pos 32
number_of variant.ManyCalls = pos 33
number_of variant.LongLine = pos 34
number_of variant.LongMove = pos 35
number_of variant.Name = pos 36
number_of variant.Order = pos 37
number_of variant.NotNext = pos 38
number_of variant.Opening = pos 39
number_of variant.Previous = pos 40
number_of variant.Damaged = pos 41
number_of variant.Counts = pos 42
number_of variant.LongRun = pos 43
number_of variant.OneSegment = pos 44
number_of variant.NoInstruction = pos 45

-- the number that C gets
abbrev pub answer_of : Result (Unit {0}) Code → ℤ
answer_of (Ok _) = ASM_DONE
answer_of (Err c) = number_of c

-- the number is that of an answer for which this holds
abbrev pub Replies : ℤ → (Result (Unit {0}) Code → Type 0) → Type 0
Replies number Holds = (r : Result (Unit {0}) Code) × (number ≡ answer_of r) × Holds r

-- the call is done, and this holds; or it is refused with a code, and that holds of the code
abbrev pub Answers : ℤ → Type 0 → (Code → Type 0) → Type 0
Answers answer Done Refused = ((answer ≡ ASM_DONE) × Done) ⊎ ((c : Code) × (answer ≡ number_of c) × Refused c)

-- the texts of the codes from 0 up to that of Deep
abbrev pub first_texts : List (List ℕ)
first_texts =
    codes "done" ∷
    codes "a location that was named, or of a function that was scanned, was written since" ∷
    codes "the updates of the move clash" ∷
    codes "out of memory" ∷
    codes "as many moves were fired as the capacity" ∷
    codes "a slot holds nothing of this kind, or is passed twice" ∷
    codes "the capacity is not 1 to 1,048,576" ∷
    codes "the buffer is too small" ∷
    codes "64 attempts to append were lost to other agents" ∷
    codes "more than 256 locations, or locations and scanned functions" ∷
    codes "no call was answered yet" ∷
    codes "the slot that was to be filled holds something else" ∷
    codes "the storage has, or had, another agent with this number" ∷
    codes "a move has no receipt among the agents that were returned" ∷
    codes "the two slots are of two storages" ∷
    codes "the journal is not legal" ∷
    codes "not JSON" ∷
    codes "JSON of another shape" ∷
    codes "a journal of another version" ∷
    codes "the journal is cut off" ∷
    codes "an amount or a sum is too large" ∷
    codes "the state of the agent is at another number of moves than the step" ∷
    codes "64 moves are pushed already" ∷ []

-- the texts of the codes from that of Apart on
abbrev pub further_texts : List (List ℕ)
further_texts =
    codes "a part opens with another state than the one before it leaves" ∷
    codes "the number of an agent is not below 256, or more than 256 agents are asked for" ∷
    codes "a location or a function is named at a number of moves that the agent has not seen" ∷
    codes "the verb, the kind, the number, the bytes and the amount make no instruction" ∷
    codes "there is no such form" ∷
    codes "no journal was made since an agent was returned or taken" ∷
    codes "no move is pushed" ∷
    codes "no agent with this number was returned" ∷
    codes "no part has begun" ∷
    codes "the state of the agent is at fewer moves than the storage has room for" ∷
    codes "more than the 4,294,967,295 calls of a journal" ∷
    codes "a line of more than 1,073,741,824 bytes" ∷
    codes "a move of more than 4,096 instructions" ∷
    codes "not the name of a segment" ∷
    codes "another call comes next" ∷
    codes "not the number of the next segment" ∷
    codes "segment 0 has events, or something before it" ∷
    codes "not the segment after the one before it" ∷
    codes "not the text that was saved" ∷
    codes "a segment has other counts than its name says" ∷
    codes "100,000,000 segments, or 2^64 moves or more" ∷
    codes "the only segment of a run is not dropped" ∷
    codes "the move has no instruction at this place" ∷ []

-- the text with this index among these, or that of no code if there is none
abbrev pub text_among : List (List ℕ) → ℤ → List ℕ
text_among texts (pos n) = slice_index_or texts n (codes "no code of this library")
text_among texts (negsuc n) = codes "no code of this library"

-- the index of a code among the further ones
abbrev pub further : ℤ → ℤ
further (pos n) = pos (n - 23)
further (negsuc n) = negsuc n

-- the text of a code
abbrev pub text_of_code : ℤ → List ℕ
text_of_code code = if int_lt code (number_of variant.Apart) then text_among first_texts code else text_among further_texts (further code)
