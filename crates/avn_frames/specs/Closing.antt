-- What a closed frame is.
use Rattle.std.specs.Prelude.{ℕ, suc, List, [], ◌∷◌, Option, Some, None}
use Rattle.avn_grammar.specs.Tree.{Tree, Fields, sequence, sequence_of, choice, no_fields, field, absent}
use Rattle.avn_nodes.specs.TreeLists.{trees_in}
use Rattle.asn_model.specs.Canonical.{sorted_trees}
use Rattle.asn_slots.specs.Slots.{present_of}

-- The fields of slots, each with the name of its place, which is at least i.
abbrev pub named_from : (ℕ → List ℕ) → ℕ → List (Option Tree) → Fields
named_from name i [] = no_fields
named_from name i (None ∷ slots) = absent (name i) (named_from name (suc i) slots)
named_from name i (Some t ∷ slots) = field (name i) t (named_from name (suc i) slots)

-- The list of the slots that are present.
abbrev pub as_list : List (Option Tree) → Option Tree
as_list slots = Some (sequence_of (trees_in (present_of slots)))

-- The list of the slots that are present, in byte order of their texts.
abbrev pub as_set : List (Option Tree) → Option Tree
as_set slots = Some (sequence_of (sorted_trees (trees_in (present_of slots))))

-- The sequence of the slots, each with the name of its place.
abbrev pub as_members : (ℕ → List ℕ) → List (Option Tree) → Option Tree
as_members name slots = Some (sequence (named_from name 0 slots))

-- The choice of this identifier whose payload is the first slot, if that is present.
abbrev pub as_choice : List ℕ → List (Option Tree) → Option Tree
as_choice identifier [] = None
as_choice identifier (None ∷ slots) = None
as_choice identifier (Some t ∷ slots) = Some (choice identifier t)
