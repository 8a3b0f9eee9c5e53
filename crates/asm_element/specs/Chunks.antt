-- A list of chunks, and the keys that are there.
use Rattle.asm_element.specs.declared.element.Element.{Element}
use Rattle.std.specs.Prelude.{◌≡◌, ℕ, ◌<◌, ◌+◌, List, [], ◌∷◌, ◌++◌, length, take, drop, suc, slice_index_or}
use Rattle.std.specs.BTreeMap.{insert_entry}
use Rattle.std.specs.Map.{keys_of}
use Rattle.std.specs.List.{AllByRecursion}
use Rattle.std.specs.List.Sorted.{IsStrictlySortedBy}
use Rattle.asm_element.specs.Element.{element_cmp}
use Rattle.asm_element.specs.Slots.{live, joined, key_of, count_of, AllBelow, AllAbove, IsGap}
use denote.Ref.{Bor}

-- the entries that are there, in order
abbrev pub there : List (List (Element × ℕ)) → List (Element × ℕ)
there cs = live (joined cs)

-- all keys ascend, from chunk to chunk, and no chunk is without keys
pub record AreChunks (cs : List (List (Element × ℕ))) : Type 0 where
  pub ordered : IsStrictlySortedBy element_cmp (keys_of (joined cs))
  pub filled : AllByRecursion (λ c. 0 < length c) cs

-- the key, if it is anywhere, is in the chunk at i
pub record IsPlace (cs : List (List (Element × ℕ))) (k : Element) (i : ℕ) : Type 0 where
  pub in_range : i < length cs
  pub below : AllBelow k (keys_of (joined (take i cs)))
  pub above : AllAbove k (keys_of (joined (drop (suc i) cs)))

-- the key would go at the place p of the chunk at i
pub record IsRoom (cs : List (List (Element × ℕ))) (k : Element) (i p : ℕ) : Type 0 where
  pub chunks : AreChunks cs
  pub place : IsPlace cs k i
  pub gap : IsGap (slice_index_or cs i []) k p

-- all keys are below this one
pub record IsEnd (cs : List (List (Element × ℕ))) (k : Element) : Type 0 where
  pub chunks : AreChunks cs
  pub below : AllBelow k (keys_of (joined cs))

-- new has one entry more than old
pub record Adds (old new : List (List (Element × ℕ))) (k : Element) (n : ℕ) : Type 0 where
  pub entries : there new ≡ insert_entry element_cmp (there old) k n
  pub count : length (there new) ≡ length (there old) + 1
  pub chunks : AreChunks new

-- the slots that are left, from a place in the first chunk on
abbrev pub left_from : List (List (Element × ℕ)) → ℕ → List (Element × ℕ)
left_from [] at = []
left_from (c ∷ cs) at = drop at c ++ joined cs

-- the slot at a place of a chunk
abbrev pub slot_at : Bor (List (Element × ℕ)) × ℕ → Element × ℕ
slot_at s = (key_of s.0.now s.1, count_of s.0.now s.1)
