-- What a list of actions adds and removes of each element, in a map by references to the elements.
use Rattle.std.specs.Prelude.{◌≡◌, ℕ, ◌+◌, ◌<◌, ◌≤◌, ◌^◌, List, unwrap_or}
use Rattle.std.specs.Borrow.{Bor}
use Rattle.std.specs.BTreeMap as tree
use Rattle.std.specs.declared.cmp.Ordering.{Ordering}
use Rattle.asm_element.specs.Element.{element_cmp}
use Rattle.asm_element.specs.declared.element.Element.{Element}
use Rattle.asm_update.specs.declared.action.Action.{Action}
use Rattle.asm_aggregate.specs.BagMeaning.{amount, amount_in}
use Rattle.asm_aggregate.specs.declared.bag_sums.Amounts.{Amounts}
use Rattle.asm_aggregate.specs.declared.side.Side.TheVariants.{Added, Removed}

-- the order of references to elements
abbrev pub ref_cmp : Bor Element → Bor Element → Ordering
ref_cmp p q = element_cmp p.now q.now

-- a reference to this element
abbrev pub to : Element → Bor Element
to e = record { ref_ptr = (0, 0); now = e }

-- no amount
abbrev pub nothing : Amounts
nothing = record { added = 0; removed = 0 }

-- the amounts that the map has of the element
abbrev pub sums_at : tree.BTreeMap (Bor Element) Amounts → Element → Amounts
sums_at t e = unwrap_or (tree.get ref_cmp t (to e)) nothing

-- both amounts are far below what a sum can be
pub record AreSmall (a : Amounts) : Type 0 where
  pub added : a.added < 2 ^ 127
  pub removed : a.removed < 2 ^ 127

-- the amounts of the element with those of one action more
pub record IsMoreAt (x : Action) (e : Element) (old new : Amounts) : Type 0 where
  pub added : new.added ≡ old.added + amount Added e x
  pub removed : new.removed ≡ old.removed + amount Removed e x
  pub added_most : new.added ≤ old.added + 4294967295
  pub removed_most : new.removed ≤ old.removed + 4294967295

-- the map has of each element what the actions add and remove, which is at most the bound
pub record AreSums (xs : List Action) (bound : ℕ) (t : tree.BTreeMap (Bor Element) Amounts) : Type 0 where
  pub added : (e : Element) → (sums_at t e).added ≡ amount_in Added xs e
  pub removed : (e : Element) → (sums_at t e).removed ≡ amount_in Removed xs e
  pub added_fits : (e : Element) → (sums_at t e).added ≤ bound
  pub removed_fits : (e : Element) → (sums_at t e).removed ≤ bound
