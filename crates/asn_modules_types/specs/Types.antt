-- The shapes of types as modules state them. Tags are by place: those that are stated mean nothing.
use Rattle.std.specs.Prelude.{ℕ, ℤ, suc, List, [], ◌∷◌, ◌++◌, length, map, Bool, true, false, if◌then◌else◌, Option, Some, None, option_map}
use Rattle.asn_expansion.specs.Expansion.{context_tag, list_shape, of_both}
use Rattle.asn_lexer.specs.declared.token.Token.{Token}
use Rattle.asn_linked_types.specs.Expansion.{no_values}
use Rattle.asn_model.specs.Shape.{Alternatives, AlternativeAdditions, Fields, FieldAdditions, Presence, SeqKind, Shape}
use Rattle.asn_modules_grammar.specs.notation.Notation.{Base, Member, Members, Notation, Notations, bit_string, choice, component, components_of, enumerated, group, instance_of, integer, leaf, list_of, marker, member, members, no_members, notation, reference}
use Rattle.asn_modules_grammar.specs.declared.notation.notation.Presence as stated
use Rattle.asn_modules_grammar.specs.declared.notation.notation.Presence.TheVariants.{Default, Optional, Required}
use Rattle.asn_modules_types.specs.Defaults.{default_of}
use Rattle.asn_modules_types.specs.Leaves.{enumerated_shape, integer_shape, leaf_shape}
use Rattle.asn_modules_types.specs.Lists.{added_of, all_known, if_marked, implied, root_of}
use Rattle.asn_modules_types.specs.Numbers.{named_number}
use Rattle.asn_modules_types.specs.Scopes.{Scope, name_in}
use Rattle.asn_modules_types.specs.Sizes.{sized}

-- A component of a SEQUENCE or SET, or an alternative of a CHOICE.
pub record Part : Type 0 where
  pub name : List ℕ
  pub presence : Presence
  pub shape : Shape

-- The fields, with tags from this number on.
abbrev pub fields_from : ℕ → List Part → Fields
fields_from tag [] = Fields.no_fields
fields_from tag (p ∷ ps) =
    Fields.field p.name (context_tag tag) p.presence p.shape (fields_from (suc tag) ps)

abbrev pub added_fields_from : ℕ → Option (List Part) → FieldAdditions
added_fields_from tag None = FieldAdditions.closed_fields
added_fields_from tag (Some ps) = FieldAdditions.extended_fields (fields_from tag ps)

-- The alternatives, with tags from this number on.
abbrev pub alternatives_from : ℕ → List Part → Alternatives
alternatives_from tag [] = Alternatives.no_alternatives
alternatives_from tag (p ∷ ps) =
    Alternatives.alternative p.name (context_tag tag) p.shape (alternatives_from (suc tag) ps)

abbrev pub added_alternatives_from : ℕ → Option (List Part) → AlternativeAdditions
added_alternatives_from tag None = AlternativeAdditions.closed_alternatives
added_alternatives_from tag (Some ps) =
    AlternativeAdditions.extended_alternatives (alternatives_from tag ps)

-- A part that is stated as required, and may be absent where it is an extension addition.
abbrev pub if_required : Presence → Presence
if_required Presence.required = Presence.optional
if_required p = p

-- The part as an extension addition: it may be absent, since a sender of an older version of the
-- type leaves it out (X.680, section 6).
abbrev pub relaxed : Part → Part
relaxed p = record { name = p.name; presence = if_required p.presence; shape = p.shape }

-- The root and the extension additions, of which there are none without a marker, by what entries
-- between braces are. There are no such lists where a part of them isn't understood.
abbrev pub lists_of : Bool → List (Option (Option Part)) → Option (List Part × Option (List Part))
lists_of extensible ps =
    of_both (λ root added. (root, option_map (map relaxed) added)) (all_known (root_of ps))
    (if_marked all_known (implied extensible (added_of ps)))

-- SEQUENCE or SET, by these lists: tags are by place, those of the root first.
abbrev pub members_shape : SeqKind → Option (List Part × Option (List Part)) → Shape
members_shape kind None = no_values
members_shape kind (Some lists) =
    Shape.seq kind (fields_from 0 lists.0) (added_fields_from (length lists.0) lists.1)

-- CHOICE, in the same way.
abbrev pub choice_shape : Option (List Part × Option (List Part)) → Shape
choice_shape None = no_values
choice_shape (Some lists) =
    Shape.choice (alternatives_from 0 lists.0) (added_alternatives_from (length lists.0) lists.1)

-- The number that a word names in the type, if it names one. It isn't known where it is by a value
-- that leads to none.
abbrev pub number_in_type : Scope → Notation → List ℕ → Option (Option ℤ)
number_in_type s (notation tags (integer ns) sizes) word = named_number s ns word
number_in_type s (notation tags (reference home name) sizes) word = s.number_named home name word
number_in_type s (notation tags base sizes) word = None

-- The shape of a component, by that of its type, where numbers are copied so: the value of a
-- DEFAULT is one of a shape, and not of a number.
abbrev pub component_shape : (ℕ → Shape) → stated.Presence → Shape → Shape
component_shape copied (Default v) (Shape.back n) = copied n
component_shape copied presence shape = shape

-- Whether a part may be absent: one between version brackets may, since they may be absent as a
-- whole. There is no presence where its DEFAULT isn't understood.
abbrev pub presence_of : Scope → Bool → Notation → Shape → stated.Presence → Option Presence
presence_of s grouped n shape Required =
    Some (if grouped then Presence.optional else Presence.required)
presence_of s grouped n shape Optional = Some Presence.optional
presence_of s grouped n shape (Default v) =
    option_map (λ p. Presence.default p) (default_of s (number_in_type s n) shape v)

-- The part that a component with the shape is, if its presence is understood.
abbrev pub part_of : Scope → Bool → Token → Notation → stated.Presence → Shape → Option Part
part_of s grouped name n presence shape =
    option_map (λ p. record { name = name_in s.text name; presence = p; shape = shape })
    (presence_of s grouped n shape presence)

-- Where components stand: in a SEQUENCE or a SET, and whether between version brackets there. In a
-- CHOICE it doesn't matter: alternatives have no presence, and there is no COMPONENTS OF.
pub record Place : Type 0 where
  pub kind : SeqKind
  pub grouped : Bool

abbrev pub outside_brackets : SeqKind → Place
outside_brackets kind = record { kind = kind; grouped = false }

abbrev pub between_brackets : Place → Place
between_brackets place = record { kind = place.kind; grouped = true }

-- What is known of types that stand in others, each by its name, after that of its module where it
-- is stated.
pub record Roots : Type 0 where
  -- The components that COMPONENTS OF the name is there, if they are understood.
  pub components : Place → Option Token → Token → Option (List Part)
  -- The shape of the type of the name with these actual parameters.
  pub instance : Option Token → Token → Notations → Shape

-- Those of a type of the second kind, where it is that of the type that they stand in.
abbrev pub of_kind : SeqKind → SeqKind → Option (List Part) → Option (List Part)
of_kind SeqKind.sequence SeqKind.sequence ps = ps
of_kind SeqKind.set SeqKind.set ps = ps
of_kind outer inner ps = None

-- What COMPONENTS OF is: these parts, or one that isn't understood.
abbrev pub included : Option (List Part) → List (Option (Option Part))
included None = Some None ∷ []
included (Some ps) = map (λ p. Some (Some p)) ps

abbrev mutual
  -- The shape of a type, where this is known of those that stand in it.
  pub notation_shape : Roots → Scope → Notation → Shape
  notation_shape roots s (notation tags base sizes) = sized s sizes (base_shape roots s base)

  -- That of a type without its tags and sizes.
  pub base_shape : Roots → Scope → Base → Shape
  base_shape roots s (leaf l) = leaf_shape l
  base_shape roots s (integer ns) = integer_shape
  base_shape roots s (bit_string ns) = Shape.bits None
  base_shape roots s (enumerated items) = enumerated_shape s.text s.extensible items
  base_shape roots s (members kind ms) =
      members_shape kind (lists_of s.extensible (parts roots s (outside_brackets kind) ms))
  base_shape roots s (list_of kind n) = list_shape kind (notation_shape roots s n)
  base_shape roots s (choice ms) =
      choice_shape (lists_of s.extensible (parts roots s (outside_brackets SeqKind.sequence) ms))
  base_shape roots s (reference home name) = s.type_named home name
  base_shape roots s (instance_of home name ns) = roots.instance home name ns

  -- What entries between braces are: parts, of which `None` is one that isn't understood, and
  -- extension markers, which are `None` in their place.
  pub parts : Roots → Scope → Place → Members → List (Option (Option Part))
  parts roots s place no_members = []
  parts roots s place (member m ms) = entry_parts roots s place m ++ parts roots s place ms

  pub entry_parts : Roots → Scope → Place → Member → List (Option (Option Part))
  entry_parts roots s place (component name n presence) =
      Some
      (part_of s place.grouped name n presence (component_shape s.copied presence (notation_shape roots s n)))
      ∷ []
  entry_parts roots s place (components_of n) = included (notation_roots roots s place n)
  entry_parts roots s place (group ms) = parts roots s (between_brackets place) ms
  entry_parts roots s place marker = None ∷ []

  -- What COMPONENTS OF a type is there: the components of its root (X.680, sections 25.4 and 25.5,
  -- 27.2), if it is a SEQUENCE in a SEQUENCE or a SET in a SET, and they are understood.
  pub notation_roots : Roots → Scope → Place → Notation → Option (List Part)
  notation_roots roots s place (notation tags base sizes) = base_roots roots s place base

  pub base_roots : Roots → Scope → Place → Base → Option (List Part)
  base_roots roots s place (members kind ms) =
      of_kind place.kind kind (all_known (root_of (parts roots s place ms)))
  base_roots roots s place (reference home name) = roots.components place home name
  base_roots roots s place base = None
