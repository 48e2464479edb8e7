-- The notations and modules that have a text.
use Rattle.std.specs.Prelude.{ℕ, suc, List, [], ◌∷◌, Bool, true, false, ◌&&◌, ◌||◌, not, nat_le, Option, Some, None}
use Rattle.avn_grammar.specs.WellFormed.{is_identifier}
use Rattle.asn_notation.specs.Notation.{Notation, Element, Elements, Assignment, members, list_of, choice, enumerated, reference, component, marker, no_elements, element, is_item_marker, at_most_one}
use Rattle.asn_notation.specs.Starts.{is_type_name}

-- The item is a word, or the extension marker.
abbrev pub is_proper_item : Option (List ℕ) → Bool
is_proper_item None = true
is_proper_item (Some name) = is_identifier name

-- All items are words or extension markers.
abbrev pub are_items_proper : List (Option (List ℕ)) → Bool
are_items_proper [] = true
are_items_proper (i ∷ items) = is_proper_item i && are_items_proper items

-- The extension marker is among the elements.
abbrev pub has_marker : Elements → Bool
has_marker no_elements = false
has_marker (element (component name n optional) es) = has_marker es
has_marker (element marker es) = true

-- The extension marker is among the elements at most once.
abbrev pub has_one_marker : Elements → Bool
has_one_marker no_elements = true
has_one_marker (element (component name n optional) es) = has_one_marker es
has_one_marker (element marker es) = not (has_marker es)

abbrev mutual
  -- The notation, at the level, has a text: its words are words, none nests deeper than the limit, and no alternative is optional.
  pub is_proper_notation : ℕ → ℕ → Notation → Bool
  is_proper_notation limit level (members kind es) = nat_le level limit && (has_one_marker es && are_elements_proper limit (suc level) true es)
  is_proper_notation limit level (list_of kind n) = nat_le level limit && is_proper_notation limit (suc level) n
  is_proper_notation limit level (choice es) = nat_le level limit && (has_one_marker es && are_elements_proper limit (suc level) false es)
  is_proper_notation limit level (enumerated items) = nat_le level limit && (at_most_one is_item_marker items && are_items_proper items)
  is_proper_notation limit level (reference name) = nat_le level limit && (is_identifier name && is_type_name name)
  is_proper_notation limit level n = nat_le level limit

  -- So has the element, whose notation is at the level, and which may be optional where that is allowed.
  pub is_element_proper : ℕ → ℕ → Bool → Element → Bool
  is_element_proper limit level allowed (component name n optional) = is_identifier name && ((allowed || not optional) && is_proper_notation limit level n)
  is_element_proper limit level allowed marker = true

  -- So have all elements.
  pub are_elements_proper : ℕ → ℕ → Bool → Elements → Bool
  are_elements_proper limit level allowed no_elements = true
  are_elements_proper limit level allowed (element e es) = is_element_proper limit level allowed e && are_elements_proper limit level allowed es

-- The name is that of a type, and the notation has a text.
abbrev pub is_proper_assignment : ℕ → Assignment → Bool
is_proper_assignment limit a = (is_identifier a.name && is_type_name a.name) && is_proper_notation limit 0 a.notation

-- All assignments have a text.
abbrev pub are_assignments_proper : ℕ → List Assignment → Bool
are_assignments_proper limit [] = true
are_assignments_proper limit (a ∷ more) = is_proper_assignment limit a && are_assignments_proper limit more
