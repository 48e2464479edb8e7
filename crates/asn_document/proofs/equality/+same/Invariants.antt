use Rattle.std.proofs.Common.{◌≡◌, drop}
use Rattle.asn_document.specs.Equality.{same_items, same_members}
use Rattle.serde_json.specs.View.{items_view, members_view}
use Rattle.asn_document.proofs.equality.+same.Given as goal

-- What is left to look at decides.
abbrev pub invariant-are_same_items-loop-item : goal.invariant-are_same_items-loop-item
invariant-are_same_items-loop-item l =
    same_items (items_view l.item-items) (items_view l.right.items) ≡ same_items (items_view (drop l.item-index l.item-items)) (items_view l.others.rest.now)

-- What is left to look at decides.
abbrev pub invariant-are_same_members-loop-key : goal.invariant-are_same_members-loop-key
invariant-are_same_members-loop-key l =
    same_members (members_view l.left.entries) (members_view l.right.entries) ≡ same_members (members_view l.key-iterator) (members_view l.others)
