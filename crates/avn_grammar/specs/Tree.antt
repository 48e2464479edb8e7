-- Values of the notation as trees. Texts and names are lists of bytes.
use Rattle.std.specs.Prelude.{ℕ, Bool, List}

mutual
  -- A value: numbers are their texts, and a bit string is its octets and its length in bits.
  pub data Tree : Type 0 where
    boolean : Bool → Tree
    null : Tree
    integer : List ℕ → Tree
    real : List ℕ → Tree
    octet_string : List ℕ → Tree
    bit_string : List ℕ → ℕ → Tree
    oid : List ℕ → Tree
    enumerated : List ℕ → Tree
    char_string : List ℕ → Tree
    sequence : Fields → Tree
    sequence_of : Trees → Tree
    choice : List ℕ → Tree → Tree

  -- The values of a list, in order.
  pub data Trees : Type 0 where
    no_trees : Trees
    tree : Tree → Trees → Trees

  -- The fields of a sequence, in order: a name with its value, or the name of a field that is absent.
  pub data Fields : Type 0 where
    no_fields : Fields
    field : List ℕ → Tree → Fields → Fields
    absent : List ℕ → Fields → Fields
