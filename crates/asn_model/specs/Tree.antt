-- What a text decodes to before any type looks at it, and how each notation looks at it.
use Rattle.std.specs.Prelude.{ℕ, suc, List, [], ◌∷◌, Bool, Option, Some, None, ◌+◌, if◌then◌else◌, nat_le, false, option_map, map}
use Rattle.std.specs.Str.{bytes_eq}
use Rattle.std.specs.Char.{to_ascii_lowercase}
use Rattle.serde_json.specs.Data.{Data, Items, Members}
use Rattle.serde_json.specs.Find.{get_member}
use Rattle.avn_grammar.specs.Tree.{Tree as AvnTree, Trees as AvnTrees, Fields as AvnFields}
use Rattle.asn_model.specs.Notation.{Notation}

-- A JSON value or an AVN value.
pub data Tree : Type 0 where
  json : Data → Tree
  avn : AvnTree → Tree

-- A tree, or its absence.
abbrev pub Slot : Type 0
Slot = Option Tree

-- The number of values in a JSON value, itself included.
abbrev mutual
  pub data_nodes : Data → ℕ
  data_nodes Data.null = 1
  data_nodes (Data.boolean b) = 1
  data_nodes (Data.number n) = 1
  data_nodes (Data.string x) = 1
  data_nodes (Data.array ds) = suc (items_nodes ds)
  data_nodes (Data.object ms) = suc (members_nodes ms)

  -- The nodes of all elements.
  pub items_nodes : Items → ℕ
  items_nodes Items.no_items = 0
  items_nodes (Items.item d ds) = data_nodes d + items_nodes ds

  -- The nodes of all members.
  pub members_nodes : Members → ℕ
  members_nodes Members.no_members = 0
  members_nodes (Members.member n d ms) = data_nodes d + members_nodes ms

-- The number of values in an AVN value, itself included.
abbrev mutual
  pub avn_nodes : AvnTree → ℕ
  avn_nodes (AvnTree.boolean b) = 1
  avn_nodes AvnTree.null = 1
  avn_nodes (AvnTree.integer x) = 1
  avn_nodes (AvnTree.real x) = 1
  avn_nodes (AvnTree.octet_string o) = 1
  avn_nodes (AvnTree.bit_string o n) = 1
  avn_nodes (AvnTree.oid a) = 1
  avn_nodes (AvnTree.enumerated x) = 1
  avn_nodes (AvnTree.char_string x) = 1
  avn_nodes (AvnTree.sequence fs) = suc (fields_nodes fs)
  avn_nodes (AvnTree.sequence_of ts) = suc (trees_nodes ts)
  avn_nodes (AvnTree.choice n t) = suc (avn_nodes t)

  -- The nodes of all values.
  pub trees_nodes : AvnTrees → ℕ
  trees_nodes AvnTrees.no_trees = 0
  trees_nodes (AvnTrees.tree t ts) = avn_nodes t + trees_nodes ts

  -- The nodes of all present fields.
  pub fields_nodes : AvnFields → ℕ
  fields_nodes AvnFields.no_fields = 0
  fields_nodes (AvnFields.field n t fs) = avn_nodes t + fields_nodes fs
  fields_nodes (AvnFields.absent n fs) = fields_nodes fs

-- The number of values in a tree, itself included.
abbrev pub nodes : Tree → ℕ
nodes (Tree.json d) = data_nodes d
nodes (Tree.avn t) = avn_nodes t

-- The nodes of a slot's tree, and none where it is absent.
abbrev pub slot_nodes : Slot → ℕ
slot_nodes None = 0
slot_nodes (Some t) = nodes t

-- The nodes of the first pending slot.
abbrev pub head_nodes : List Slot → ℕ
head_nodes [] = 0
head_nodes (s ∷ rest) = slot_nodes s

-- The first pending slot, absent where none is pending.
abbrev pub head_slot : List Slot → Slot
head_slot [] = None
head_slot (s ∷ rest) = s

-- The elements of an array.
abbrev pub item_slots : Items → List Slot
item_slots Items.no_items = []
item_slots (Items.item d ds) = Some (Tree.json d) ∷ item_slots ds

-- The elements of a list in braces.
abbrev pub tree_slots : AvnTrees → List Slot
tree_slots AvnTrees.no_trees = []
tree_slots (AvnTrees.tree t ts) = Some (Tree.avn t) ∷ tree_slots ts

-- The member of that name.
abbrev pub member_slot : Members → List ℕ → Slot
member_slot ms name = option_map Tree.json (get_member name ms)

-- The slot, or the other one where it is absent.
abbrev pub or_else : Slot → Slot → Slot
or_else (Some t) s = Some t
or_else None s = s

-- The last present field of that name.
abbrev pub field_slot : AvnFields → List ℕ → Slot
field_slot AvnFields.no_fields name = None
field_slot (AvnFields.field n t fs) name = or_else (field_slot fs name) (if bytes_eq name n then Some (Tree.avn t) else None)
field_slot (AvnFields.absent n fs) name = field_slot fs name

-- How many present fields have that name.
abbrev pub times_present : AvnFields → List ℕ → ℕ
times_present AvnFields.no_fields name = 0
times_present (AvnFields.field n t fs) name = (if bytes_eq name n then 1 else 0) + times_present fs name
times_present (AvnFields.absent n fs) name = times_present fs name

-- Whether two or more present fields have that name. No object has a member twice once JSON is read.
abbrev pub is_repeated : Notation → Tree → List ℕ → Bool
is_repeated Notation.avn (Tree.avn (AvnTree.sequence fs)) name = nat_le 2 (times_present fs name)
is_repeated _ _ name = false

-- The first of the names that is repeated, if any is.
abbrev pub first_repeated : Notation → Tree → List (List ℕ) → Option (List ℕ)
first_repeated n t [] = None
first_repeated n t (name ∷ names) = if is_repeated n t name then Some name else first_repeated n t names

-- The elements of a tree that is a list.
abbrev pub as_list : Notation → Tree → Option (List Slot)
as_list Notation.jer (Tree.json (Data.array ds)) = Some (item_slots ds)
as_list Notation.avn (Tree.avn (AvnTree.sequence_of ts)) = Some (tree_slots ts)
as_list Notation.avn (Tree.avn (AvnTree.sequence AvnFields.no_fields)) = Some []
as_list _ _ = None

-- The slot of each name, of a tree that has members.
abbrev pub as_members : Notation → Tree → Option (List ℕ → Slot)
as_members Notation.jer (Tree.json (Data.object ms)) = Some (member_slot ms)
as_members Notation.avn (Tree.avn (AvnTree.sequence fs)) = Some (field_slot fs)
as_members Notation.avn (Tree.avn (AvnTree.sequence_of AvnTrees.no_trees)) = Some (λ n. None)
as_members _ _ = None

-- The identifier and the payload of a tree that is a choice, which in JSON are those of an object's only member, if it has one.
abbrev pub as_choice : Notation → Tree → Option (Option (List ℕ × Tree))
as_choice Notation.jer (Tree.json (Data.object Members.no_members)) = Some None
as_choice Notation.jer (Tree.json (Data.object (Members.member n d Members.no_members))) = Some (Some (n, Tree.json d))
as_choice Notation.avn (Tree.avn (AvnTree.choice n t)) = Some (Some (n, Tree.avn t))
as_choice _ _ = None

-- The identifiers are equal but for the case of ASCII letters.
abbrev pub same_identifier : List ℕ → List ℕ → Bool
same_identifier a b = bytes_eq (map to_ascii_lowercase a) (map to_ascii_lowercase b)
