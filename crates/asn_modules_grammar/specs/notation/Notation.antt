-- The types that stand in modules, with their parts.
use Rattle.std.specs.Prelude.{List, [], ◌∷◌, Bool, true, false, Option, Some, None}
use Rattle.std.specs.Option.{option_map}
use Rattle.asn_lexer.specs.declared.token.Token.{Token}
use Rattle.asn_model.specs.Shape.{SeqKind}
use Rattle.asn_modules_grammar.specs.declared.notation.leaf.Closed.TheVariants.{Parameterized}
use Rattle.asn_modules_grammar.specs.declared.notation.leaf.Leaf.{Leaf}
use Rattle.asn_modules_grammar.specs.declared.notation.leaf.Leaf.TheVariants.{Closed}
use Rattle.asn_modules_grammar.specs.declared.notation.notation.Presence.{Presence}
use Rattle.asn_modules_grammar.specs.declared.notation.number.Item.{Item}
use Rattle.asn_modules_grammar.specs.declared.notation.number.NamedNumber.{NamedNumber}
use Rattle.asn_modules_grammar.specs.declared.notation.size.Size.{Size}
use Rattle.asn_modules_grammar.specs.declared.notation.tag.TagNotation.{TagNotation}

mutual
  -- What stands for a type: its tags, the outermost first, what they tag, and the sizes that its
  -- constraints state.
  pub data Notation : Type 0 where
    notation : List TagNotation → Base → List Size → Notation

  -- What stands for a type without its tags and constraints.
  pub data Base : Type 0 where
    -- A type without parts.
    leaf : Leaf → Base
    -- INTEGER, with its named numbers.
    integer : List NamedNumber → Base
    -- BIT STRING, with its named bits.
    bit_string : List NamedNumber → Base
    -- ENUMERATED, with its items, of which `None` is the extension marker.
    enumerated : List (Option Item) → Base
    -- SEQUENCE or SET, with its members.
    members : SeqKind → Members → Base
    -- SEQUENCE OF or SET OF.
    list_of : SeqKind → Notation → Base
    -- CHOICE, with its alternatives.
    choice : Members → Base
    -- The name of a type, after that of its module where it is stated.
    reference : Option Token → Token → Base
    -- The name of a type with parameters, so, and the types that stand for them.
    instance_of : Option Token → Token → Notations → Base

  -- Types, in order.
  pub data Notations : Type 0 where
    no_notations : Notations
    another_notation : Notation → Notations → Notations

  -- An entry between the braces of SEQUENCE, SET and CHOICE.
  pub data Member : Type 0 where
    -- The name of a component or alternative, its type, and whether it may be absent.
    component : Token → Notation → Presence → Member
    -- The components of this type.
    components_of : Notation → Member
    -- Those between version brackets.
    group : Members → Member
    -- An extension marker.
    marker : Member

  -- The entries between braces, in order.
  pub data Members : Type 0 where
    no_members : Members
    member : Member → Members → Members

-- Such a type is a SEQUENCE or SET, or a name.
abbrev pub takes_components : Base → Bool
takes_components (members kind ms) = true
takes_components (reference home name) = true
takes_components (instance_of home name ns) = true
takes_components (leaf (Closed Parameterized)) = true
takes_components base = false

abbrev pub may_have_components : Notation → Bool
may_have_components (notation tags base sizes) = takes_components base

-- The entries of a list, in order.
abbrev pub members_of : List Member → Members
members_of [] = no_members
members_of (m ∷ ms) = member m (members_of ms)

-- The entry is an extension marker.
abbrev pub is_marker : Member → Bool
is_marker (component name n presence) = false
is_marker (components_of n) = false
is_marker (group ms) = false
is_marker marker = true

-- The types of a list, in order.
abbrev pub notations_of : List Notation → Notations
notations_of [] = no_notations
notations_of (n ∷ ns) = another_notation n (notations_of ns)

-- The types, if all are there.
abbrev pub all_types : List (Option Notation) → Option (List Notation)
all_types [] = Some []
all_types (None ∷ ns) = None
all_types (Some n ∷ ns) = option_map (λ ms. n ∷ ms) (all_types ns)

-- A type with actual parameters, by those: if some are no types, it has no values.
abbrev pub instance_or : Option Token → Token → Option (List Notation) → Base
instance_or home name None = leaf (Closed Parameterized)
instance_or home name (Some ns) = instance_of home name (notations_of ns)
