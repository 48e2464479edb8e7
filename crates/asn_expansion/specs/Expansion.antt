-- The shapes of types that a module assigns.
use Rattle.std.specs.Prelude.{ℕ, zero, suc, pos, negsuc, ◌-◌, ◌^◌, List, [], ◌∷◌, Bool, true, false, if◌then◌else◌, Option, Some, None, option_map}
use Rattle.std.specs.Str.{bytes_eq}
use Rattle.asn_core.specs.declared.tag.Class.TheVariants.{Context}
use Rattle.asn_core.specs.declared.tag.Tag.{Tag}
use Rattle.asn_model.specs.Shape.{Shape, SeqKind, Fields, FieldAdditions, Alternatives, AlternativeAdditions, Presence, place_named}
use Rattle.asn_notation.specs.Notation.{Notation, Elements, Assignment, boolean, null, integer, octet_string, bit_string, object_identifier, text, bmp, members, list_of, choice, enumerated, reference, component, marker, no_elements, element}

-- The context tag with the number. Tags are automatic: from 0 over a list and then its additions.
abbrev pub context_tag : ℕ → Tag
context_tag n = record { class = Context; value = n }

-- Whether a component may be absent.
abbrev pub presence_of : Bool → Presence
presence_of true = Presence.optional
presence_of false = Presence.required

-- SEQUENCE OF or SET OF.
abbrev pub list_shape : SeqKind → Shape → Shape
list_shape SeqKind.sequence s = Shape.list_of s
list_shape SeqKind.set s = Shape.set_of s

-- The items up to the extension marker.
abbrev pub root_items : List (Option (List ℕ)) → List (List ℕ)
root_items [] = []
root_items (None ∷ items) = []
root_items (Some name ∷ items) = name ∷ root_items items

-- The items behind the extension marker, if there is one.
abbrev pub added_items : List (Option (List ℕ)) → Option (List (List ℕ))
added_items [] = None
added_items (None ∷ items) = Some (root_items items)
added_items (Some name ∷ items) = added_items items

-- What f makes of both, if they are there.
abbrev pub of_both : {A B C : Type 0} → (A → B → C) → Option A → Option B → Option C
of_both f None o = None
of_both f (Some a) o = option_map (λ b. f a b) o

abbrev mutual
  -- The shape of a notation in which the name of a type has the shape that f gives. There is none where one of them has none.
  pub notation_shape : (List ℕ → Option Shape) → Notation → Option Shape
  notation_shape f boolean = Some Shape.boolean
  notation_shape f null = Some Shape.null
  notation_shape f integer = Some (Shape.int (negsuc (2 ^ 127 - 1)) (pos (2 ^ 127 - 1)) 128)
  notation_shape f octet_string = Some Shape.octets
  notation_shape f bit_string = Some (Shape.bits None)
  notation_shape f object_identifier = Some Shape.oid
  notation_shape f (text a) = Some (Shape.text a)
  notation_shape f bmp = Some Shape.bmp
  notation_shape f (members kind es) = of_both (λ fs added. Shape.seq kind fs added) (root_fields f 0 es) (added_fields f 0 es)
  notation_shape f (list_of kind n) = option_map (λ s. list_shape kind s) (notation_shape f n)
  notation_shape f (choice es) = of_both (λ alts added. Shape.choice alts added) (root_alternatives f 0 es) (added_alternatives f 0 es)
  notation_shape f (enumerated items) = Some (Shape.enum (root_items items) (added_items items))
  notation_shape f (reference name) = f name

  -- The fields up to the extension marker, with tags from this number on.
  pub root_fields : (List ℕ → Option Shape) → ℕ → Elements → Option Fields
  root_fields f tag no_elements = Some Fields.no_fields
  root_fields f tag (element (component name n optional) es) = of_both (λ s fs. Fields.field name (context_tag tag) (presence_of optional) s fs) (notation_shape f n) (root_fields f (suc tag) es)
  root_fields f tag (element marker es) = Some Fields.no_fields

  -- The fields behind the extension marker, if there is one.
  pub added_fields : (List ℕ → Option Shape) → ℕ → Elements → Option FieldAdditions
  added_fields f tag no_elements = Some FieldAdditions.closed_fields
  added_fields f tag (element (component name n optional) es) = added_fields f (suc tag) es
  added_fields f tag (element marker es) = option_map (λ fs. FieldAdditions.extended_fields fs) (root_fields f tag es)

  -- The alternatives up to the extension marker, with tags from this number on.
  pub root_alternatives : (List ℕ → Option Shape) → ℕ → Elements → Option Alternatives
  root_alternatives f tag no_elements = Some Alternatives.no_alternatives
  root_alternatives f tag (element (component name n optional) es) = of_both (λ s alts. Alternatives.alternative name (context_tag tag) s alts) (notation_shape f n) (root_alternatives f (suc tag) es)
  root_alternatives f tag (element marker es) = Some Alternatives.no_alternatives

  -- The alternatives behind the extension marker, if there is one.
  pub added_alternatives : (List ℕ → Option Shape) → ℕ → Elements → Option AlternativeAdditions
  added_alternatives f tag no_elements = Some AlternativeAdditions.closed_alternatives
  added_alternatives f tag (element (component name n optional) es) = added_alternatives f (suc tag) es
  added_alternatives f tag (element marker es) = option_map (λ alts. AlternativeAdditions.extended_alternatives alts) (root_alternatives f tag es)

-- The notation that is assigned to the name.
abbrev pub notation_named : List Assignment → List ℕ → Option Notation
notation_named [] name = None
notation_named (a ∷ more) name = if bytes_eq name a.name then Some a.notation else notation_named more name

-- The shape of the notation, if there is one.
abbrev pub shape_of_found : (List ℕ → Option Shape) → Option Notation → Option Shape
shape_of_found f None = None
shape_of_found f (Some n) = notation_shape f n

-- What a name stands for that is open at this place, or that isn't open and whose notation has this shape.
abbrev pub back_or_loop : Option ℕ → Option Shape → Option Shape
back_or_loop (Some place) s = Some (Shape.back place)
back_or_loop None s = option_map (λ x. Shape.loop x) s

-- The expansion of a name where these names are open, the innermost first, and so many more may be open at once: where the name is open, its place among them; else the loop of its notation, expanded with the name put before them. There is none where more names would be open at once, or one isn't assigned.
unfoldable pub expansion : List Assignment → ℕ → List (List ℕ) → List ℕ → Option Shape
expansion assignments zero opened name = back_or_loop (place_named bytes_eq opened name) None
expansion assignments (suc more) opened name =
    back_or_loop (place_named bytes_eq opened name) (shape_of_found (expansion assignments more (name ∷ opened)) (notation_named assignments name))

-- The shape of the type of this name: its expansion with no open names. There is none where more names than the limit would be open at once.
abbrev pub type_shape : ℕ → List Assignment → List ℕ → Option Shape
type_shape limit assignments name = expansion assignments limit [] name
