-- What is reported of a move on a state, and of two moves, all of them given as texts.
use Rattle.std.specs.Prelude.{◌≡◌, ◌⊎◌, ℕ, List, codes, Result, Ok, Err}
use Rattle.serde_json.specs.Written.{compact_text}
use Rattle.asm_element.specs.Place.{Place}
use Rattle.asm_update.specs.Move.{Move}
use Rattle.asm_update.specs.State.{State, Updates, val}
use Rattle.asm_update.specs.declared.clash.AggError.{AggError}
use Rattle.asm_update.specs.declared.clash.AggError.TheVariants as agg_error
use Rattle.asm_update.specs.declared.clash.Clash.{Clash}
use Rattle.asm_aggregate.specs.Bundle.{IsAggregate}
use Rattle.asm_aggregate.specs.Compose.{IsComposition, KeepsSequence}
use Rattle.asm_aggregate.specs.declared.composition.ComposeError.{ComposeError}
use Rattle.asm_aggregate.specs.declared.composition.ComposeError.TheVariants as compose_error
use Rattle.asm_storage.specs.declared.call.Reply.TheVariants as reply
use Rattle.asm_journal.specs.Element.{location_json_of}
use Rattle.asm_journal.specs.Event.{IsMoveForm, move_json_of, reply_json_of}
use Rattle.asm_journal.specs.Shape.{one_of}
use Rattle.asm_journal.specs.Text.{state_json_of}
use Rattle.asm_journal.specs.Value.{IsStateForm}
use Rattle.asm_slots.specs.Bytes.{AreMisread, ReadAsMove, ReadAsState}
use Rattle.asm_slots.specs.Standard.{standard, part}
use Rattle.asm_slots.specs.WrittenText.{HasNoText, HasText, LacksRoom}
use Rattle.asm_slots.specs.declared.codes.Code.{Code}
use Rattle.asm_slots.specs.declared.codes.Code.TheVariants as code

-- {"clash":[LOC,CAUSE]}
abbrev pub clash_text : Clash → List ℕ
clash_text c = compact_text (reply_json_of (reply.Clash c))

-- {"large":LOC}
abbrev pub large_text : Place → List ℕ
large_text l = compact_text (one_of (codes "large") (location_json_of l))

-- the bytes are JSON of a state and of a move, whose aggregation on the state has this answer
pub record HasAggregate (state instrs : List ℕ) (answer : Result Updates AggError) : Type 0 where
  pub old : State
  pub move : Move
  pub state_reads : ReadAsState state old
  pub move_reads : ReadAsMove instrs move
  pub aggregate : IsAggregate part (val old) move answer

-- the text has the updates, [PAIR, ..]
abbrev pub IsUpdatesOf : List ℕ → List ℕ → List ℕ → Type 0
IsUpdatesOf state instrs text =
    (U : Updates) × HasAggregate state instrs (Ok U) × (text ≡ compact_text (state_json_of U))

-- the text has the clash
abbrev pub IsClashOf : List ℕ → List ℕ → List ℕ → Type 0
IsClashOf state instrs text = (k : Clash) × HasAggregate state instrs (Err (agg_error.Clash k)) × (text ≡ clash_text k)

-- the updates are written
abbrev pub Aggregates : List ℕ → List ℕ → List ℕ → List ℕ → ℕ → Type 0
Aggregates state instrs = HasText (IsUpdatesOf state instrs)

-- the clash is written, or is too long; or the updates are too long, or one of the bytes is none of what it should be
abbrev pub DoesNotAggregate : List ℕ → List ℕ → List ℕ → List ℕ → ℕ → Code → Type 0
DoesNotAggregate state instrs out after written c =
    ((c ≡ code.Clash) × HasText (IsClashOf state instrs) out after written)
    ⊎ ((after ≡ out) × LacksRoom (IsClashOf state instrs) out written c)
    ⊎ HasNoText (IsUpdatesOf state instrs) (AreMisread IsStateForm IsMoveForm state instrs) out after written c

-- the bytes are JSON of two moves, whose composition, which fires as the two do in turn, has this answer
pub record HasComposition (first second : List ℕ) (answer : Result Move ComposeError) : Type 0 where
  pub one : Move
  pub two : Move
  pub first_reads : ReadAsMove first one
  pub second_reads : ReadAsMove second two
  pub composition : IsComposition standard one two answer
  pub sequence : KeepsSequence part one two answer

-- the text has the one move, [INSTR, ..]
abbrev pub IsOneMoveOf : List ℕ → List ℕ → List ℕ → Type 0
IsOneMoveOf first second text = (C : Move) × HasComposition first second (Ok C) × (text ≡ compact_text (move_json_of C))

-- the code and the text of moves that don't compose: the clash, or the location where an amount or a sum is too large
abbrev pub ReportsUncomposed : ComposeError → Code → List ℕ → Type 0
ReportsUncomposed (compose_error.Clash k) c text = (c ≡ code.Clash) × (text ≡ clash_text k)
ReportsUncomposed (compose_error.Large l) c text = (c ≡ code.Large) × (text ≡ large_text l)
ReportsUncomposed _ c text = ⊥

-- code and text report why there is no such move
abbrev pub IsWhyNot : List ℕ → List ℕ → Code → List ℕ → Type 0
IsWhyNot first second c text = (e : ComposeError) × HasComposition first second (Err e) × ReportsUncomposed e c text

-- the move would be too long, or one of the bytes is no move
abbrev pub IsUncomposed : List ℕ → List ℕ → Code → Type 0
IsUncomposed first second c =
    ((c ≡ code.LongMove) × HasComposition first second (Err compose_error.ManyInstructions))
    ⊎ AreMisread IsMoveForm IsMoveForm first second c

-- one move that does what the two moves do in turn is written
abbrev pub Composes : List ℕ → List ℕ → List ℕ → List ℕ → ℕ → Type 0
Composes first second = HasText (IsOneMoveOf first second)

-- why there is none is written, or is too long; or the move's text is too long, or there is none
abbrev pub DoesNotCompose : List ℕ → List ℕ → List ℕ → List ℕ → ℕ → Code → Type 0
DoesNotCompose first second out after written c =
    HasText (IsWhyNot first second c) out after written
    ⊎ ((after ≡ out) × ((k : Code) × LacksRoom (IsWhyNot first second k) out written c))
    ⊎ HasNoText (IsOneMoveOf first second) (IsUncomposed first second) out after written c
