-- The parts of a value.
use Rattle.std.specs.List.{All, slice_get}
use Rattle.std.specs.Prelude.{◌≡◌, ◌⊎◌, ℕ, ◌≤◌, List, Option, Some, None, IfSome, false, map}
use Rattle.std.specs.Str.{bytes_eq}
use Rattle.avn_grammar.specs.Tree.{Tree as AvnTree, Trees as AvnTrees, sequence_of, no_trees}
use Rattle.avn_nodes.specs.Preorder.{NamedSlot}
use Rattle.asn_traits.specs.Leaf.{LeafFailure, list_mismatch, set_mismatch}
use Rattle.asn_traits.specs.Notation.{Notation}
use Rattle.asn_traits.specs.Shape.{SeqKind, place_named}
use Rattle.asn_traits.specs.Tree.{Slot, as_members, is_repeated}
use Rattle.asn_slots.specs.Trees.{trees_of}
use Rattle.asn_coding.specs.Opening.{IsFirstRepeated}
use Rattle.asn_names.specs.Rows.{NameRow, index_at, row_names}
use Rattle.avn_rules.specs.Pending.{IsSlot, value_at}
use Rattle.avn_rules.specs.declared.avn.take_apart.FieldSlots.{FieldSlots}
use Rattle.avn_rules.specs.declared.avn.take_apart.FieldSlots.TheVariants.{Found, Repeated}

-- The place of the name of an entry that is present.
abbrev pub place_of_slot : List (List ℕ) → NamedSlot → Option ℕ
place_of_slot names (name, Some t) = place_named bytes_eq names name
place_of_slot names (name, None) = None

-- The elements of a SEQUENCE OF, and none of another value.
abbrev pub elements_of : Option AvnTree → AvnTrees
elements_of (Some (sequence_of ts)) = ts
elements_of o = no_trees

-- The failure of a tree that is no list, where one of this kind is decoded.
abbrev pub list_failure : SeqKind → LeafFailure
list_failure SeqKind.sequence = list_mismatch Notation.avn
list_failure SeqKind.set = set_mismatch Notation.avn

-- Of the place and the one before, if there is one, this is the one whose field the type lists earlier.
pub record IsEarlier (rows : List NameRow) (before : Option ℕ) (place this : ℕ) : Type 0 where
  pub one : (this ≡ place) ⊎ (before ≡ Some this)
  pub first : index_at rows this ≤ index_at rows place
  pub first_before : IfSome before (λ other. index_at rows this ≤ index_at rows other)

-- What stands at the names of the rows in the members of a node: slots, and no name is repeated.
pub record AreFieldSlots (root : AvnTree) (node : ℕ) (rows : List NameRow) (slots : List (Option ℕ)) : Type 0 where
  pub at : (look : List ℕ → Slot) → as_members Notation.avn (value_at root node) ≡ Some look → trees_of (value_at root) slots ≡ map look (row_names rows)
  pub held : All (IsSlot root) slots
  pub once : All (λ name. is_repeated Notation.avn (value_at root node) name ≡ false) (row_names rows)

-- The slots of the rows in the members of a node, or the place of the first of the rows whose names are repeated there.
abbrev pub AreFound : AvnTree → ℕ → List NameRow → FieldSlots → Type 0
AreFound root node rows (Found slots) = AreFieldSlots root node rows slots.items
AreFound root node rows (Repeated place) = (row : NameRow) × (slice_get rows place ≡ Some row) × IsFirstRepeated Notation.avn (value_at root node) rows row
