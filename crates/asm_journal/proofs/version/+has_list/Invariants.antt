use Rattle.std.proofs.Common.{◌≡◌, ◌≤◌, ◌+◌, ◌*◌, false}
use Rattle.std.specs.Prelude.{take}
use Rattle.serde_json.specs.Data.{depth, items_depth, members_depth}
use Rattle.serde_json.specs.View.{view, items_view, members_view}
use Rattle.asm_journal.specs.Shape.{items_have_list, members_have_list}
use Rattle.asm_journal.proofs.version.+has_list.Given as goal

-- how deep the value nests, twice, so that its items stand between it and each of them
abbrev pub decreases-has_list : goal.decreases-has_list
decreases-has_list l = 2 * depth (view l.json.now)

abbrev pub decreases-items_have_list : goal.decreases-items_have_list
decreases-items_have_list l = 1 + 2 * items_depth (items_view l.items.now)

abbrev pub decreases-members_have_list : goal.decreases-members_have_list
decreases-members_have_list l = 1 + 2 * members_depth (members_view l.members.now.entries)

-- none so far has a list
abbrev pub invariant-items_have_list-loop-item : goal.invariant-items_have_list-loop-item
invariant-items_have_list-loop-item l = items_have_list (items_view (take l.item-index l.items)) ≡ false

-- what is left has a list where they all have, and nests no deeper
abbrev pub invariant-members_have_list-loop-key : goal.invariant-members_have_list-loop-key
invariant-members_have_list-loop-key l =
    (members_have_list (members_view l.members.entries) ≡ members_have_list (members_view l.key-iterator))
    × (members_depth (members_view l.key-iterator) ≤ members_depth (members_view l.members.entries))
