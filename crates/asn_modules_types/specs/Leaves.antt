-- The shapes of types without parts.
use Rattle.std.specs.Prelude.{ℕ, pos, negsuc, ◌-◌, ◌^◌, List, map, Bool, Option}
use Rattle.std.specs.Option.{option_map}
use Rattle.asn_linked_types.specs.Expansion.{no_values}
use Rattle.asn_model.specs.Shape.{Alphabet, Shape}
use Rattle.asn_model.specs.ShapeView.{alphabet_view}
use Rattle.asn_modules_grammar.specs.declared.notation.leaf.Closed.{Closed}
use Rattle.asn_modules_grammar.specs.declared.notation.leaf.Closed.TheVariants as closed
use Rattle.asn_modules_grammar.specs.declared.notation.leaf.Leaf.{Leaf}
use Rattle.asn_modules_grammar.specs.declared.notation.leaf.Leaf.TheVariants as leaf
use Rattle.asn_modules_grammar.specs.declared.notation.number.Item.{Item}
use Rattle.asn_modules_types.specs.Lists.{added_of, implied, root_of}
use Rattle.asn_modules_types.specs.Scopes.{name_in}

-- ANY has any octets; no value of another one of these is read.
abbrev pub closed_shape : Closed → Shape
closed_shape closed.Any = Shape.any
closed_shape c = no_values

-- TeletexString has any characters, as GeneralString.
abbrev pub leaf_shape : Leaf → Shape
leaf_shape leaf.Boolean = Shape.boolean
leaf_shape leaf.Null = Shape.null
leaf_shape leaf.OctetString = Shape.octets
leaf_shape leaf.ObjectIdentifier = Shape.oid
leaf_shape (leaf.Text a) = Shape.text (alphabet_view a)
leaf_shape leaf.Bmp = Shape.bmp
leaf_shape leaf.Teletex = Shape.text Alphabet.general
leaf_shape leaf.UtcTime = Shape.utc
leaf_shape leaf.GeneralizedTime = Shape.gen
leaf_shape leaf.Date = Shape.day
leaf_shape (leaf.Closed c) = closed_shape c

-- INTEGER: the numbers of 128 bits. Named numbers have no meaning but for a DEFAULT.
abbrev pub integer_shape : Shape
integer_shape = Shape.int (negsuc (2 ^ 127 - 1)) (pos (2 ^ 127 - 1)) 128

-- The identifiers of these items in their text.
abbrev pub item_names : List ℕ → List Item → List (List ℕ)
item_names text items = map (λ i. name_in text i.name) items

-- ENUMERATED, by its text, whether extensibility is implied there, and its items, of which `None`
-- is the extension marker. Their numbers have no meaning.
abbrev pub enumerated_shape : List ℕ → Bool → List (Option Item) → Shape
enumerated_shape text extensible items =
    Shape.enum (item_names text (root_of items))
    (option_map (item_names text) (implied extensible (added_of items)))
