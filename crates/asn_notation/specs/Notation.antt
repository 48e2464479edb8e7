-- The notations of types, with their parts.
use Rattle.std.specs.Prelude.{ℕ, List, [], ◌∷◌, Bool, true, false, not, if◌then◌else◌, Option, Some, None}
use Rattle.asn_model.specs.Shape.{Alphabet, SeqKind}

mutual
  -- What stands for a type.
  pub data Notation : Type 0 where
    boolean : Notation
    null : Notation
    integer : Notation
    octet_string : Notation
    bit_string : Notation
    object_identifier : Notation
    text : Alphabet → Notation
    bmp : Notation
    -- SEQUENCE or SET, with its components.
    members : SeqKind → Elements → Notation
    -- SEQUENCE OF or SET OF.
    list_of : SeqKind → Notation → Notation
    -- CHOICE, with its alternatives.
    choice : Elements → Notation
    -- ENUMERATED, with its items' identifiers, of which `None` is the extension marker.
    enumerated : List (Option (List ℕ)) → Notation
    -- The name of a type.
    reference : List ℕ → Notation

  -- An element between the braces of SEQUENCE, SET and CHOICE.
  pub data Element : Type 0 where
    -- The name of a component, its type, and whether it may be absent.
    component : List ℕ → Notation → Bool → Element
    -- The extension marker.
    marker : Element

  -- The elements between braces, in order.
  pub data Elements : Type 0 where
    no_elements : Elements
    element : Element → Elements → Elements

-- A type's name, and what it stands for.
pub record Assignment : Type 0 where
  pub name : List ℕ
  pub notation : Notation

-- The elements of a list, in order.
abbrev pub elements_of : List Element → Elements
elements_of [] = no_elements
elements_of (e ∷ es) = element e (elements_of es)

-- The element is the extension marker.
abbrev pub is_marker : Element → Bool
is_marker (component name n optional) = false
is_marker marker = true

-- The item is the extension marker.
abbrev pub is_item_marker : Option (List ℕ) → Bool
is_item_marker None = true
is_item_marker (Some name) = false

-- One of the entries passes.
abbrev pub any : {A : Type 0} → (A → Bool) → List A → Bool
any p [] = false
any p (x ∷ xs) = if p x then true else any p xs

-- At most one of the entries passes.
abbrev pub at_most_one : {A : Type 0} → (A → Bool) → List A → Bool
at_most_one p [] = true
at_most_one p (x ∷ xs) = if p x then not (any p xs) else at_most_one p xs
