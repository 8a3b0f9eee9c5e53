-- What a step reads: the locations that its terms name, and the targets of partial updates that a later block follows.
use Rattle.std.specs.Prelude.{◌↔◌, List, [], ◌∷◌, ◌++◌, Contains}
use Rattle.std.specs.List.{flat_map}
use Rattle.std.specs.List.Sorted.{IsStrictlySortedBy}
use Rattle.asm_element.specs.Place.{Place, location_cmp}
use Rattle.asm_script.specs.Terms.{locations_in}
use Rattle.asm_script.specs.declared.block.TermAction.{TermAction}
use Rattle.asm_script.specs.declared.block.TermAction.TheVariants.{Put, Add, Remove, BagAdd, BagRemove, Increment}
use Rattle.asm_script.specs.declared.block.Block.{Block}

-- the locations whose values an action's term takes; an increment has no term
abbrev pub places_in : TermAction → List Place
places_in (Put t) = locations_in t
places_in (Add t) = locations_in t
places_in (Remove t) = locations_in t
places_in (BagAdd t n) = locations_in t
places_in (BagRemove t n) = locations_in t
places_in (Increment n) = []

-- the location of a partial update; `put` has none
abbrev pub target_of : Place → TermAction → List Place
target_of l (Put t) = []
target_of l (Add t) = l ∷ []
target_of l (Remove t) = l ∷ []
target_of l (BagAdd t n) = l ∷ []
target_of l (BagRemove t n) = l ∷ []
target_of l (Increment n) = l ∷ []

-- the locations whose values a block's terms take
abbrev pub taken : Block → List Place
taken b = flat_map (λ i. places_in i.action) b

-- the locations of a block's partial updates
abbrev pub changed : Block → List Place
changed b = flat_map (λ i. target_of i.at i.action) b

-- what the terms of all blocks take, and where all blocks but the last have partial updates
abbrev pub named : List Block → List Place
named [] = []
named (b ∷ []) = taken b
named (b ∷ c ∷ bs) = taken b ++ (changed b ++ named (c ∷ bs))

-- the list has each location that the step names once, and no other, in ascending order
pub record AreReads (step : List Block) (ls : List Place) : Type 0 where
  pub ascending : IsStrictlySortedBy location_cmp ls
  pub named : (l : Place) → Contains ls l ↔ Contains (named step) l
