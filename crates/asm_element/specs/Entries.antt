-- Entries in ascending order of their keys, each with a count that isn't 0, and how they change.
use Rattle.std.specs.Prelude.{ℕ, ◌≤◌, List, zero, suc, Option, Some, None, box_value}
use Rattle.std.specs.declared.boxed.Box.{Box}
use Rattle.std.specs.BTreeMap.{is_at}
use Rattle.std.specs.Map.{keys_of, lookup, set_value, remove_entry}
use Rattle.std.specs.List.{AllByRecursion}
use Rattle.asm_element.specs.declared.element.Element.{Element}
use Rattle.asm_element.specs.Element.{element_cmp}

-- what the entries have at the key
abbrev pub at : List (Element × ℕ) → Element → Option ℕ
at es k = lookup (is_at (element_cmp k)) es

-- a count as what is there: nothing where it is 0
abbrev pub held : ℕ → Option ℕ
held zero = None
held (suc n) = Some (suc n)

-- the entries with this count at a key that they have; where the count is 0 without it
abbrev pub assigned : List (Element × ℕ) → Element → ℕ → List (Element × ℕ)
assigned es k zero = remove_entry (is_at (element_cmp k)) es
assigned es k (suc n) = set_value (is_at (element_cmp k)) es (suc n)

-- 1 where an entry goes: the count was not 0, and is
abbrev pub gone : ℕ → ℕ → ℕ
gone zero n = 0
gone (suc m) zero = 1
gone (suc m) (suc n) = 0

-- no count is above the greatest one
abbrev pub AllFit : ℕ → List (Element × ℕ) → Type 0
AllFit most = AllByRecursion (λ e. e.1 ≤ most)

-- the entries of the chunks where there are some, and else of the tree
abbrev pub either : {Z : Type 0} → List (Element × ℕ) → Option (Box (List (Element × ℕ)) Z) → List (Element × ℕ)
either few None = few
either few (Some many) = box_value many
