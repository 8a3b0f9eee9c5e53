-- Two aggregators as one.
use Rattle.std.specs.Prelude.{Bool, ◌||◌, List, [], ◌∷◌, ◌++◌, if◌then◌else◌, Ok, Err, Option, None, Some}
use Rattle.asm_element.specs.declared.value.Value.{Value}
use Rattle.asm_update.specs.Aggregator.{Meaning, Joined, Refused, TooLarge}
use Rattle.asm_update.specs.Fire.{GroupResult}
use Rattle.asm_update.specs.declared.action.Action.{Action}
use Rattle.asm_update.specs.declared.action.Family.{Family}
use Rattle.asm_update.specs.declared.clash.Cause.{Cause}
use Rattle.asm_update.specs.declared.clash.Cause.TheVariants.{Mixed, Kind}
use Rattle.asm_aggregate.specs.Families.{common_family}

-- a family is owned by one of the two
abbrev pub pair_owns : Meaning → Meaning → Family → Bool
pair_owns a b f = a.owns f || b.owns f

-- the one's answer or the other's, as the family is owned; else the last
abbrev pub by_owner : {T : Type 0} → Meaning → Meaning → Option Family → T → T → T → T
by_owner a b None one other last = last
by_owner a b (Some f) one other last = if a.owns f then one else if b.owns f then other else last

-- what the part that owns the family gives, and `Mixed` where there are two families or none owns it
abbrev pub pair_result : Meaning → Meaning → Value → Option Value → List Action → GroupResult
pair_result a b old regular partials =
    by_owner a b (common_family partials) (a.part old regular partials) (b.part old regular partials) (Err Mixed)

-- the cause of a refusal, if it is a cause
abbrev pub refused : Joined → Option Cause
refused (Ok joined) = None
refused (Err (Refused cause)) = Some cause
refused (Err TooLarge) = None

-- why a list has no result on any value: what its owner says of it with nothing after it
abbrev pub cause_by_owner : Meaning → Meaning → List Action → Option Cause
cause_by_owner a b [] = None
cause_by_owner a b (x ∷ xs) =
    by_owner a b (common_family (x ∷ xs)) (refused (a.joins (x ∷ xs) [])) (refused (b.joins (x ∷ xs) [])) (Some Mixed)

-- the cause, or else what the rest gives
abbrev pub unless : Option Cause → Joined → Joined
unless (Some cause) rest = Err (Refused cause)
unless None rest = rest

-- each side's cause by its owner, then what the owner of their one family joins, and `Kind` where they are of two
abbrev pub pair_joins : Meaning → Meaning → List Action → List Action → Joined
pair_joins a b first second =
    unless (cause_by_owner a b first)
    (unless (cause_by_owner a b second)
    (by_owner a b (common_family (first ++ second)) (a.joins first second) (b.joins first second) (Err (Refused Kind))))

-- the aggregator of two
abbrev pub pair_meaning : Meaning → Meaning → Meaning
pair_meaning a b = record { owns = pair_owns a b; part = pair_result a b; joins = pair_joins a b }
