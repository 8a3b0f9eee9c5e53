-- Composition: one move that does what two moves in turn do.
use Rattle.std.specs.Prelude.{◌≡◌, ◌<◌, ◌≤◌, length, List, [], ◌∷◌, ◌++◌}
use Rattle.std.specs.Prelude.{map, Option, None, Some, is_some, if◌then◌else◌}
use Rattle.std.specs.Prelude.{Result, Ok, Err, IsOk, IsErr}
use Rattle.std.specs.Option.{option_map_or}
use Rattle.std.specs.declared.alloc.Global.{Global}
use Rattle.std.specs.declared.vec.Vec.{Vec}
use Rattle.asm_element.specs.Place.{Place}
use Rattle.asm_element.specs.Value.{undef}
use Rattle.asm_update.specs.Aggregator.{Meaning, Joined, NoJoin, Refused, TooLarge, after}
use Rattle.asm_element.specs.declared.value.Value.{Value}
use Rattle.asm_update.specs.Fire.{Part, GroupResult, res, fire, sequence, locations}
use Rattle.asm_update.specs.Limits.{instructions_limit}
use Rattle.asm_update.specs.Move.{Move, actions_at}
use Rattle.asm_update.specs.State.{State, IsProper}
use Rattle.asm_update.specs.declared.action.Action.{Action}
use Rattle.asm_update.specs.declared.action.Action.TheVariants.{Regular}
use Rattle.asm_update.specs.declared.action.Instruction.{Instruction}
use Rattle.asm_update.specs.declared.clash.Cause.{Cause}
use Rattle.asm_update.specs.declared.error.JoinError.{JoinError}
use Rattle.asm_update.specs.declared.error.JoinError.TheVariants as join_error
use Rattle.asm_aggregate.specs.Bundle.{Bundle, bundle_of, bundle_result}
use Rattle.asm_aggregate.specs.PairMeaning.{refused, unless}
use Rattle.asm_aggregate.specs.declared.composition.ComposeError.{ComposeError}
use Rattle.asm_aggregate.specs.declared.composition.ComposeError.TheVariants as compose_error

-- what actions give on a value: no actions leave it unchanged
abbrev pub gives : Part → Value → List Action → GroupResult
gives part v [] = Ok v
gives part v (x ∷ xs) = res part v (x ∷ xs)

-- the cause why there is no value, if there is none
abbrev pub cause_of : GroupResult → Option Cause
cause_of (Ok v) = None
cause_of (Err cause) = Some cause

-- the cause for which partial updates alone have no result on any value: their join with nothing is refused for it
abbrev pub alone_clash : Meaning → List Action → Option Cause
alone_clash a [] = None
alone_clash a (p ∷ ps) = refused (a.joins (p ∷ ps) [])

-- the clash of one move at a location whatever the old value is, which is no matter where a value is put: undef does
abbrev pub clash_on_any : Meaning → Bundle → Option Cause
clash_on_any a b = if is_some b.regular then cause_of (bundle_result a.part undef b) else alone_clash a b.partials

-- a value as the list of the one regular update that writes it
abbrev pub as_regular : GroupResult → Joined
as_regular (Ok v) = Ok (Regular v ∷ [])
as_regular (Err cause) = Err (Refused cause)

-- what does at a location what the first and then the second do. The first's clash comes first; else it is the
-- second's regular value, unless the second clashes of itself; else what the second gives on the first's regular
-- value; else the join of the partial updates of both
abbrev pub composed : Meaning → Bundle → Bundle → Joined
composed a first second =
    unless (clash_on_any a first)
    (option_map_or (λ w. unless (clash_on_any a second) (Ok (Regular w ∷ []))) second.regular
    (option_map_or (λ v. as_regular (after a v second.partials)) first.regular
    (a.joins first.partials second.partials)))

-- the instructions of these actions at a location
abbrev pub placed : Place → List Action → Move
placed l actions = map (λ x. record { at = l; action = x }) actions

-- the instructions in front of those that follow, or the refusal that follows
abbrev pub before : Move → Result Move (Place × NoJoin) → Result Move (Place × NoJoin)
before M (Ok N) = Ok (M ++ N)
before M (Err refusal) = Err refusal

-- the lists of all locations in order, or the first refusal, with its location
abbrev pub in_turn : List (Place × Joined) → Result Move (Place × NoJoin)
in_turn [] = Ok []
in_turn ((l, Ok actions) ∷ rest) = before (placed l actions) (in_turn rest)
in_turn ((l, Err refusal) ∷ rest) = Err (l, refusal)

-- what two moves compose to at a location
abbrev pub composed_at : Meaning → Move → Move → Place → Joined
composed_at a M N l = composed a (bundle_of (actions_at M l)) (bundle_of (actions_at N l))

-- the composition of two moves: what they compose to at each location that one of them writes, in ascending order
abbrev pub composition : Meaning → Move → Move → Result Move (Place × NoJoin)
composition a M N = in_turn (map (λ l. (l, composed_at a M N l)) (locations (M ++ N)))

-- the answer is the composition, or its refusal; a list of more than 4,096 is too long; an allocation failure says
-- nothing
abbrev pub IsComposition : Meaning → Move → Move → Result Move ComposeError → Type 0
IsComposition a M N (Ok C) = (composition a M N ≡ Ok C) × (length C ≤ instructions_limit)
IsComposition a M N (Err (compose_error.Clash c)) = composition a M N ≡ Err (c.at, Refused c.cause)
IsComposition a M N (Err (compose_error.Large l)) = composition a M N ≡ Err (l, TooLarge)
IsComposition a M N (Err compose_error.ManyInstructions) = (C : Move) × (composition a M N ≡ Ok C) × (instructions_limit < length C)
IsComposition a M N (Err compose_error.Memory) = Unit {0}

-- on each well-formed state that the first move fires on, the third does what the second does after it, clashes
-- included
abbrev pub IsSequence : Part → Move → Move → Move → Type 0
IsSequence part M N C = (A : State) → IsProper A → IsOk (fire part A M) → fire part A C ≡ sequence part A M N

-- no well-formed state lets the first and then the second fire
abbrev pub NeverFires : Part → Move → Move → Type 0
NeverFires part M N = (A : State) → IsProper A → IsErr (sequence part A M N)

-- firing what is answered is firing the two in turn, and where a location refuses, the two in turn never fire
abbrev pub KeepsSequence : Part → Move → Move → Result Move ComposeError → Type 0
KeepsSequence part M N (Ok C) = IsSequence part M N C
KeepsSequence part M N (Err (compose_error.Clash c)) = NeverFires part M N
KeepsSequence part M N (Err (compose_error.Large l)) = NeverFires part M N
KeepsSequence part M N (Err compose_error.ManyInstructions) = Unit {0}
KeepsSequence part M N (Err compose_error.Memory) = Unit {0}

-- the answer is the composition, however long it is
abbrev pub IsComposedList : Meaning → Move → Move → Result (Vec Instruction Global) ComposeError → Type 0
IsComposedList a M N (Ok list) = composition a M N ≡ Ok list.items
IsComposedList a M N (Err (compose_error.Clash c)) = composition a M N ≡ Err (c.at, Refused c.cause)
IsComposedList a M N (Err (compose_error.Large l)) = composition a M N ≡ Err (l, TooLarge)
IsComposedList a M N (Err compose_error.ManyInstructions) = ⊥
IsComposedList a M N (Err compose_error.Memory) = Unit {0}

-- the answer is the list, or that it is too long
abbrev pub IsLimited : Move → Result Move ComposeError → Type 0
IsLimited list (Ok C) = (C ≡ list) × (length list ≤ instructions_limit)
IsLimited list (Err compose_error.ManyInstructions) = instructions_limit < length list
IsLimited list (Err compose_error.Memory) = Unit {0}
IsLimited list (Err _) = ⊥

-- the answer is the refusal of this location; an allocation failure says nothing
abbrev pub IsRefusalAt : Place → JoinError → ComposeError → Type 0
IsRefusalAt l (join_error.Cause cause) (compose_error.Clash c) = (c.at ≡ l) × (c.cause ≡ cause)
IsRefusalAt l join_error.Large (compose_error.Large k) = k ≡ l
IsRefusalAt l error compose_error.Memory = Unit {0}
IsRefusalAt l _ _ = ⊥
