-- What becomes of a move after a list of moves.
use Rattle.std.specs.Prelude.{◌≡◌, ℕ, Bool, List, map, filter, fold, Option, Some, None, Result, Ok, Err, IsOk}
use Rattle.std.specs.Prelude.{if◌then◌else◌}
use Rattle.std.specs.Ordering.{is_lt}
use Rattle.std.specs.declared.alloc.AllocError.{AllocError}
use Rattle.asm_element.specs.Place.{Place, location_cmp}
use Rattle.asm_update.specs.Move.{Move}
use Rattle.asm_update.specs.State.{State, val}
use Rattle.asm_update.specs.Fire.{Part, aggregated, state_of}
use Rattle.asm_state.specs.FollowsFrom.{is_stale}
use Rattle.asm_state.specs.declared.named.Named.{Named}
use Rattle.asm_state.specs.declared.verdict.Objection.{Objection}
use Rattle.asm_state.specs.declared.verdict.Objection.TheVariants as objection
use Rattle.asm_state.specs.declared.verdict.Verdict.{Verdict}
use Rattle.asm_state.specs.declared.verdict.Verdict.TheVariants.{Stale, Clash, Ready}

-- the lesser of a location and the one found so far
abbrev pub lesser : Option Place → Place → Option Place
lesser None l = Some l
lesser (Some k) l = if is_lt (location_cmp l k) then Some l else Some k

-- the smallest of the locations
abbrev pub least : List Place → Option Place
least ls = fold lesser None ls

-- the smallest location that is named with a number at which the test finds it stale
abbrev pub least_named : (Place → ℕ → Bool) → List Named → Option Place
least_named stale reads = least (map (λ r. r.at) (filter (λ r. stale r.at r.number) reads))

-- the smallest location that is stale at a number under which it is named
abbrev pub least_stale : Part → State → List Move → List Named → Option Place
least_stale part A q reads = least_named (is_stale part A q) reads

-- the answer to a move after the moves: stale before a clash before the update set; an allocation failure says
-- nothing
abbrev pub IsVerdict : Part → State → List Move → List Named → Move → Result Verdict AllocError → Type 0
IsVerdict part A q reads M (Ok (Stale l)) = least_stale part A q reads ≡ Some l
IsVerdict part A q reads M (Ok (Clash c)) =
    (least_stale part A q reads ≡ None) × (aggregated part (val (state_of part A q)) M ≡ Err c)
IsVerdict part A q reads M (Ok (Ready U)) =
    (least_stale part A q reads ≡ None) × (aggregated part (val (state_of part A q)) M ≡ Ok U)
IsVerdict part A q reads M (Err e) = Unit {0}

-- the objection to a move after the moves: stale before a clash, and nothing where the move has an update set; a
-- refusal of memory says nothing
abbrev pub IsObjection : Part → State → List Move → List Named → Move → Result (Option Objection) AllocError → Type 0
IsObjection part A q reads M (Ok (Some (objection.Stale l))) = least_stale part A q reads ≡ Some l
IsObjection part A q reads M (Ok (Some (objection.Clash c))) =
    (least_stale part A q reads ≡ None) × (aggregated part (val (state_of part A q)) M ≡ Err c)
IsObjection part A q reads M (Ok None) =
    (least_stale part A q reads ≡ None) × IsOk (aggregated part (val (state_of part A q)) M)
IsObjection part A q reads M (Err e) = Unit {0}
