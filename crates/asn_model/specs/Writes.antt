-- What makes written trees readable.
use Rattle.std.specs.Prelude.{◌≡◌, ℕ, List, [], ◌∷◌, true, Some, None, Ok}
use Rattle.asn_model.specs.Canonical.{canonical_text}
use Rattle.asn_model.specs.Leaf.{leaf}
use Rattle.asn_model.specs.Notation.{Notation}
use Rattle.asn_model.specs.Readable.{is_readable}
use Rattle.asn_model.specs.Shape.{Shape, are_distinct}
use Rattle.asn_model.specs.Sorting.{by_text}
use Rattle.asn_model.specs.Tree.{Tree, Slot, as_list, as_members, as_choice, first_repeated}
use Rattle.asn_model.specs.Value.{Value, Values, Slots, is_leaf_of, ordered_by}
use Rattle.asn_model.specs.Writable.{Writable}

-- The trees of elements, as slots.
abbrev pub value_slots : (Value → Tree) → Values → List Slot
value_slots tree Values.no_values = []
value_slots tree (Values.value v vs) = Some (tree v) ∷ value_slots tree vs

-- The names of members, in order.
abbrev pub slot_names : Slots → List (List ℕ)
slot_names Slots.no_slots = []
slot_names (Slots.absent n ms) = n ∷ slot_names ms
slot_names (Slots.present n v ms) = n ∷ slot_names ms

-- A look-up by name finds the tree of each present member, and nothing for an absent one.
abbrev pub Finds : (Value → Tree) → (List ℕ → Slot) → Slots → Type 0
Finds tree look Slots.no_slots = Unit {0}
Finds tree look (Slots.absent n ms) = (look n ≡ None) × Finds tree look ms
Finds tree look (Slots.present n v ms) = (look n ≡ Some (tree v)) × Finds tree look ms

-- Each value that can be written is written as a tree that says it.
pub record Writes (n : Notation) (tree : Value → Tree) : Type 0 where
  pub leaf : (s : Shape) (v : Value) → is_readable s ≡ true → is_leaf_of s v ≡ true → Writable n v → leaf n s (tree v) ≡ Some (Ok v)
  pub list : (vs : Values) → as_list n (tree (Value.list vs)) ≡ Some (value_slots tree vs)
  pub set : (vs : Values) → as_list n (tree (Value.bag vs)) ≡ Some (value_slots tree (ordered_by (by_text (canonical_text n)) vs))
  pub members : (ms : Slots) → are_distinct (slot_names ms) ≡ true → (look : List ℕ → Slot) × (as_members n (tree (Value.members ms)) ≡ Some look) × ((names : List (List ℕ)) → first_repeated n (tree (Value.members ms)) names ≡ None) × Finds tree look ms
  pub choice : (i : List ℕ) (v : Value) → as_choice n (tree (Value.choice i v)) ≡ Some (Some (i, tree v))
