-- The least location that is named and stale, said without the walk that finds it.
use Rattle.std.specs.Prelude.{◌≡◌, ℕ, Bool, false, ◌&&◌, List, Option, Some, None, MatchOption}
use Rattle.std.specs.List.{list_any}
use Rattle.std.specs.Ordering.{eq_by_cmp}
use Rattle.asm_element.specs.Place.{Place, location_cmp}
use Rattle.asm_update.specs.Move.{IsLeast}
use Rattle.asm_state.specs.Verdict.{least_named}
use Rattle.asm_state.specs.declared.named.Named.{Named}
use Rattle.asm_state.specs.declared.verdict.Verdict.{Verdict}
use Rattle.asm_state.specs.declared.verdict.Verdict.TheVariants.{Stale, Clash, Ready}

-- whether some read names the location with a number at which it is stale
abbrev pub names_stale : (Place → ℕ → Bool) → List Named → Place → Bool
names_stale stale reads l = list_any (λ r. eq_by_cmp location_cmp r.at l && stale r.at r.number) reads

-- the location is named with such a number, and none that is comes before it; where there is none, no location is
abbrev pub IsLeastNamed : (Place → ℕ → Bool) → List Named → Option Place → Type 0
IsLeastNamed stale reads found =
    MatchOption found ((l : Place) → names_stale stale reads l ≡ false) (IsLeast (names_stale stale reads))

-- the walk finds just that location
abbrev pub FindsLeast : Type 0
FindsLeast = (stale : Place → ℕ → Bool) (reads : List Named) → IsLeastNamed stale reads (least_named stale reads)

-- the location that is stale by a verdict
abbrev pub stale_location : Verdict → Option Place
stale_location (Stale l) = Some l
stale_location (Clash c) = None
stale_location (Ready U) = None
