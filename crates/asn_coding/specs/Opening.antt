-- What a decoder puts before the pending slots when it opens a tree.
use Rattle.std.specs.Prelude.{◌≡◌, ℕ, ◌<◌, ◌≤◌, List, [], ◌∷◌, ◌++◌, map, length, Option, Some, None, Result, Ok, Err, true, false}
use Rattle.std.specs.List.{All, Contains, slice_get}
use Rattle.asn_fault.specs.Failure.{failure_of}
use Rattle.asn_fault.specs.declared.decode.DecodeError.{DecodeError}
use Rattle.asn_core.specs.declared.tag.Tag.{Tag}
use Rattle.asn_model.specs.Leaf.{answer_kind, as_leaf, kind_of, kind_of_owned, IsOwned}
use Rattle.asn_model.specs.Notation.{Notation}
use Rattle.asn_model.specs.Shape.{Shape, SeqKind, Fields, FieldAdditions, Alternatives, AlternativeAdditions, place_named, alternative_named, alternative_tagged, all_alternatives}
use Rattle.asn_model.specs.Tree.{Tree, Slot, slot_nodes, head_slot, as_list, as_members, as_choice, is_repeated, same_identifier}
use Rattle.asn_model.specs.FailsWith.{FailsWith}
use Rattle.asn_coding.specs.Answer.{Refuses}
use Rattle.asn_names.specs.Rows.{NameRow, row_names}
use Rattle.asn_coding.specs.Tables.{ListsFields}
use Rattle.asn_coding.specs.declared.opening.Opened.{Opened}
use Rattle.asn_coding.specs.declared.opening.Opened.TheVariants.{Members, Repeated}
use Rattle.asn_model.specs.Value.{Value, Values, bag_of}
use Rattle.asn_model.specs.declared.leaves.LeafKind.{LeafKind}
use Rattle.asn_model.specs.declared.leaves.OwnedLeaf.{OwnedLeaf}

-- Each slot has fewer nodes.
abbrev pub AllBelow : ℕ → List Slot → Type 0
AllBelow n [] = Unit {0}
AllBelow n (s ∷ ss) = (slot_nodes s < n) × AllBelow n ss

-- The slot is a list of these elements.
pub data IsList (n : Notation) : Slot → List Slot → Type 0 where
  is_list : (t : Tree) (slots : List Slot) → as_list n t ≡ Some slots → IsList n (Some t) slots
  list_free : (slot : Slot) (slots : List Slot) → n ≡ Notation.other → IsList n slot slots

-- The slot has these slots at these names, none of which is repeated.
pub data HasMembers (n : Notation) : List (List ℕ) → Slot → List Slot → Type 0 where
  has_members : (names : List (List ℕ)) (t : Tree) (look : List ℕ → Slot) → as_members n t ≡ Some look → All (λ name. is_repeated n t name ≡ false) names → HasMembers n names (Some t) (map look names)
  members_free : (names : List (List ℕ)) (slot : Slot) (slots : List Slot) → n ≡ Notation.other → HasMembers n names slot slots

-- The payload stands in a slot, with the place of its identifier, or an absent slot without a place.
pub data IsChoice (n : Notation) : List (List ℕ) → Slot → Option ℕ → Slot → Type 0 where
  is_choice : (names : List (List ℕ)) (t u : Tree) (name : List ℕ) (k : ℕ) → as_choice n t ≡ Some (Some (name, u)) → place_named same_identifier names name ≡ Some k → IsChoice n names (Some t) (Some k) (Some u)
  is_unnamed : (names : List (List ℕ)) (t u : Tree) (name : List ℕ) → as_choice n t ≡ Some (Some (name, u)) → place_named same_identifier names name ≡ None → IsChoice n names (Some t) None None
  is_empty : (names : List (List ℕ)) (t : Tree) → as_choice n t ≡ Some None → IsChoice n names (Some t) None None
  choice_free : (names : List (List ℕ)) (slot : Slot) (place : Option ℕ) (put : Slot) → n ≡ Notation.other → IsChoice n names slot place put

-- The tree is a value of this kind, and the answer is that value.
pub record IsTaken (n : Notation) (k : LeafKind) (t : Tree) (x : OwnedLeaf) : Type 0 where
  pub value : Value
  pub reads : as_leaf n k t ≡ Ok value
  pub is : IsOwned value x
  pub kind : kind_of_owned x ≡ answer_kind k

-- The slot is a value of this kind, and the answer is that value.
pub data IsLeaf (n : Notation) (k : LeafKind) : Slot → OwnedLeaf → Type 0 where
  is_leaf : (t : Tree) (x : OwnedLeaf) → IsTaken n k t x → IsLeaf n k (Some t) x
  leaf_free : (slot : Slot) (x : OwnedLeaf) → n ≡ Notation.other → IsLeaf n k slot x

-- The first pending slot, a value of this kind, is gone, or it is none.
abbrev pub TakesLeaf : Notation → LeafKind → List Slot → Result OwnedLeaf DecodeError → List Slot → Type 0
TakesLeaf n k before (Ok x) after = (slot : Slot) × (before ≡ slot ∷ after) × (kind_of_owned x ≡ answer_kind k) × IsLeaf n k slot x
TakesLeaf n k before (Err e) after = (s : Shape) → kind_of s ≡ Some k → Refuses n (FailsWith n s (head_slot before)) (failure_of e)

-- The shape of SEQUENCE OF or SET OF, by the shape of its elements.
abbrev pub list_shape : SeqKind → Shape → Shape
list_shape SeqKind.sequence s = Shape.list_of s
list_shape SeqKind.set s = Shape.set_of s

-- The value of SEQUENCE OF or SET OF, by its elements.
abbrev pub list_value : SeqKind → Values → Value
list_value SeqKind.sequence vs = Value.list vs
list_value SeqKind.set vs = bag_of vs

-- The elements of the first pending slot stand in its place, each with fewer nodes, or it is no list.
abbrev pub OpensList : Notation → SeqKind → List Slot → Result ℕ DecodeError → List Slot → Type 0
OpensList n kind before (Ok count) after = (slot : Slot) × (slots : List Slot) × (rest : List Slot) × (before ≡ slot ∷ rest) × (after ≡ slots ++ rest) × (length slots ≡ count) × AllBelow (slot_nodes slot) slots × IsList n slot slots
OpensList n kind before (Err e) after = (s : Shape) → Refuses n (FailsWith n (list_shape kind s) (head_slot before)) (failure_of e)

-- Of the rows whose names are repeated in the tree, this one is the first by its place among the fields.
pub record IsFirstRepeated (n : Notation) (t : Tree) (rows : List NameRow) (row : NameRow) : Type 0 where
  pub listed : Contains rows row
  pub repeated : is_repeated n t row.name ≡ true
  pub first : All (λ (other : NameRow). is_repeated n t other.name ≡ true → row.index ≤ other.index) rows

-- The slots of these rows in the first pending slot stand in its place.
abbrev pub PutsMembers : Notation → List NameRow → List Slot → List Slot → Type 0
PutsMembers n rows before after = (slot : Slot) × (slots : List Slot) × (rest : List Slot) × (before ≡ slot ∷ rest) × (after ≡ slots ++ rest) × (length slots ≡ length rows) × AllBelow (slot_nodes slot) slots × HasMembers n (row_names rows) slot slots

-- The first pending slot has members, and of the rows whose names are repeated in it, the one at this place is the first by its place among the fields.
pub record RepeatsName (n : Notation) (rows : List NameRow) (before : List Slot) (place : ℕ) : Type 0 where
  pub tree : Tree
  pub rest : List Slot
  pub pending : before ≡ Some tree ∷ rest
  pub look : List ℕ → Slot
  pub members : as_members n tree ≡ Some look
  pub row : NameRow
  pub at : slice_get rows place ≡ Some row
  pub first : IsFirstRepeated n tree rows row

-- The first pending slot decodes to no value of a SEQUENCE or SET whose fields the rows list.
abbrev pub RefusesMembers : Notation → SeqKind → List NameRow → List Slot → DecodeError → Type 0
RefusesMembers n kind rows before e = (fs : Fields) (added : FieldAdditions) → ListsFields rows fs added → Refuses n (FailsWith n (Shape.seq kind fs added) (head_slot before)) (failure_of e)

-- The slots of these rows in the first pending slot stand in its place, or a name of the rows is repeated, or the slot has no members.
abbrev pub OpensMembers : Notation → SeqKind → List NameRow → List Slot → Result Opened DecodeError → List Slot → Type 0
OpensMembers n kind rows before (Ok Members) after = PutsMembers n rows before after
OpensMembers n kind rows before (Ok (Repeated place)) after = RepeatsName n rows before place
OpensMembers n kind rows before (Err e) after = RefusesMembers n kind rows before e

-- The same, where a repeated name is an error too.
abbrev pub OpensFields : Notation → SeqKind → List NameRow → List Slot → Result (Unit {0}) DecodeError → List Slot → Type 0
OpensFields n kind rows before (Ok u) after = PutsMembers n rows before after
OpensFields n kind rows before (Err e) after = RefusesMembers n kind rows before e

-- A choice's payload stands in its place, or an absent slot, or it is no choice.
abbrev pub OpensChoice : Notation → List (List ℕ) → List Slot → Result (Option ℕ) DecodeError → List Slot → Type 0
OpensChoice n names before (Ok place) after = (slot : Slot) × (put : Slot) × (rest : List Slot) × (before ≡ slot ∷ rest) × (after ≡ put ∷ rest) × (slot_nodes put < slot_nodes slot) × IsChoice n names slot place put
OpensChoice n names before (Err e) after = (alts : Alternatives) (added : AlternativeAdditions) → Refuses n (FailsWith n (Shape.choice alts added) (head_slot before)) (failure_of e)

-- What a choice's slot and the slot put for it say of the alternative.
pub data Chosen (n : Notation) (alts : Alternatives) : Slot → Slot → Option (List ℕ × Shape) → Type 0 where
  is_chosen : (t u : Tree) (name : List ℕ) (a : List ℕ × Shape) → as_choice n t ≡ Some (Some (name, u)) → alternative_named same_identifier alts name ≡ Some a → Chosen n alts (Some t) (Some u) (Some a)
  is_unknown : (t u : Tree) (name : List ℕ) → as_choice n t ≡ Some (Some (name, u)) → alternative_named same_identifier alts name ≡ None → Chosen n alts (Some t) None None
  is_bare : (t : Tree) → as_choice n t ≡ Some None → Chosen n alts (Some t) None None
  is_free : (slot put : Slot) (o : Option (List ℕ × Shape)) → n ≡ Notation.other → Chosen n alts slot put o

-- The same, by the tag of the alternative.
abbrev pub OpensAlternative : Notation → Alternatives → AlternativeAdditions → List Slot → Result Tag DecodeError → List Slot → Type 0
OpensAlternative n alts added before (Ok tag) after = (slot : Slot) × (put : Slot) × (rest : List Slot) × (before ≡ slot ∷ rest) × (after ≡ put ∷ rest) × (slot_nodes put < slot_nodes slot)
    × Chosen n (all_alternatives alts added) slot put (alternative_tagged (all_alternatives alts added) tag)
OpensAlternative n alts added before (Err e) after = Refuses n (FailsWith n (Shape.choice alts added) (head_slot before)) (failure_of e)
