-- The printed text of types, as X.680 has it.
use Rattle.std.specs.Prelude.{ℕ, suc, List, [], ◌∷◌, ◌++◌, ◌==◌, length, codes, decimal, Bool, true, false, Option, Some, None}
use Rattle.std.specs.Fmt.{signed_decimal}
use Rattle.std.specs.List.{flat_map, slice_get}
use Rattle.avn_grammar.specs.Chars.{quote_is_doubled}
use Rattle.asn_model.specs.Shape.{Shape, Fields, FieldAdditions, Alternatives, AlternativeAdditions, Plain, Presence}
use Rattle.asn_type_printing.specs.words.Words.{kind_word}
use Rattle.asn_type_printing.specs.Levels.{new_line}
use Rattle.asn_type_printing.specs.Names.{name_at}
use Rattle.asn_type_printing.specs.Reached.{reached}

-- What stands for a type without values.
abbrev pub without_values : List ℕ
without_values = codes "EXTERNAL -- no values are read --"

-- The value of a DEFAULT. A text stands between quotes, with each quote in it twice.
abbrev pub default_text : Plain → List ℕ
default_text (Plain.boolean true) = codes "TRUE"
default_text (Plain.boolean false) = codes "FALSE"
default_text (Plain.int n) = signed_decimal n
default_text (Plain.text t) = 34 ∷ (quote_is_doubled t ++ 34 ∷ [])
default_text (Plain.item i) = i

-- Whether a component may be absent, and what then stands for it.
abbrev pub presence_text : Presence → List ℕ
presence_text Presence.required = []
presence_text Presence.optional = codes " OPTIONAL"
presence_text (Presence.default p) = codes " DEFAULT " ++ default_text p

-- A comma, but none before the first entry of a list.
abbrev pub comma_text : Bool → List ℕ
comma_text true = []
comma_text false = codes ","

-- Items, each with a blank before it, and behind a comma but the first of a list.
abbrev pub item_list : Bool → List (List ℕ) → List ℕ
item_list first [] = []
item_list first (i ∷ is) = comma_text first ++ (codes " " ++ (i ++ item_list false is))

-- An ENUMERATED. Without items it is a type without values.
abbrev pub enumerated_text : List (List ℕ) → Option (List (List ℕ)) → List ℕ
enumerated_text [] None = without_values
enumerated_text (i ∷ is) None = codes "ENUMERATED {" ++ (item_list true (i ∷ is) ++ codes " }")
enumerated_text items (Some added) = codes "ENUMERATED {" ++ (item_list true items ++ (comma_text (length items == 0) ++ (codes " ..." ++ (item_list false added ++ codes " }"))))

-- A name at the beginning of a line, and a blank after it.
abbrev pub name_line : ℕ → Bool → List ℕ → List ℕ
name_line level first name = comma_text first ++ (new_line level ++ (name ++ codes " "))

-- The extension marker, at the beginning of a line.
abbrev pub marker_line : ℕ → Bool → List ℕ
marker_line level first = comma_text first ++ (new_line level ++ codes "...")

-- The closing brace, at the beginning of a line but where nothing is between the braces.
abbrev pub closing : ℕ → Bool → List ℕ
closing level true = codes "}"
closing level false = new_line level ++ codes "}"

-- There are no fields.
abbrev pub has_no_fields : Fields → Bool
has_no_fields Fields.no_fields = true
has_no_fields (Fields.field n t p s fs) = false

-- There are no alternatives.
abbrev pub has_no_alternatives : Alternatives → Bool
has_no_alternatives Alternatives.no_alternatives = true
has_no_alternatives (Alternatives.alternative i t s alts) = false

abbrev mutual
  -- A type at this level, by the names of types.
  pub type_text : List (List ℕ) → ℕ → Shape → List ℕ
  type_text names level (Shape.bits (Some size)) = codes "BIT STRING (SIZE (" ++ (decimal size ++ codes "))")
  type_text names level (Shape.enum items added) = enumerated_text items added
  type_text names level (Shape.seq kind fs added) = kind_word (Shape.seq kind fs added) ++ (codes " {" ++ (field_lines names (suc level) true fs ++ added_field_lines names level (has_no_fields fs) added))
  type_text names level (Shape.list_of s) = codes "SEQUENCE OF " ++ type_text names level s
  type_text names level (Shape.set_of s) = codes "SET OF " ++ type_text names level s
  type_text names level (Shape.table s) = codes "SEQUENCE OF " ++ type_text names level s
  type_text names level (Shape.choice alts added) = codes "CHOICE {" ++ (alternative_lines names (suc level) true alts ++ added_alternative_lines names level (has_no_alternatives alts) added)
  type_text names level (Shape.loop s) = without_values
  type_text names level (Shape.back number) = name_at names number
  type_text names level s = kind_word s

  -- A line for each field: behind a comma, but for the first of a list, its name, its type and whether it may be absent.
  pub field_lines : List (List ℕ) → ℕ → Bool → Fields → List ℕ
  field_lines names level first Fields.no_fields = []
  field_lines names level first (Fields.field n t p s fs) = name_line level first n ++ (type_text names level s ++ (presence_text p ++ field_lines names level false fs))

  -- The extension marker and the extension additions, if there are any, and the closing brace.
  pub added_field_lines : List (List ℕ) → ℕ → Bool → FieldAdditions → List ℕ
  added_field_lines names level first FieldAdditions.closed_fields = closing level first
  added_field_lines names level first (FieldAdditions.extended_fields fs) = marker_line (suc level) first ++ (field_lines names (suc level) false fs ++ closing level false)

  -- A line for each alternative.
  pub alternative_lines : List (List ℕ) → ℕ → Bool → Alternatives → List ℕ
  alternative_lines names level first Alternatives.no_alternatives = []
  alternative_lines names level first (Alternatives.alternative i t s alts) = name_line level first i ++ (type_text names level s ++ alternative_lines names level false alts)

  -- The extension marker and the extension additions, if there are any, and the closing brace.
  pub added_alternative_lines : List (List ℕ) → ℕ → Bool → AlternativeAdditions → List ℕ
  added_alternative_lines names level first AlternativeAdditions.closed_alternatives = closing level first
  added_alternative_lines names level first (AlternativeAdditions.extended_alternatives alts) = marker_line (suc level) first ++ (alternative_lines names (suc level) false alts ++ closing level false)

-- The assignment of a type, if there is one.
abbrev pub assignment_of : List (List ℕ) → ℕ → Option Shape → List ℕ
assignment_of names number None = []
assignment_of names number (Some s) = name_at names number ++ (codes " ::= " ++ (type_text names 0 s ++ 10 ∷ []))

-- The assignment of the type of a number.
abbrev pub assignment_text : List (List ℕ) → List Shape → ℕ → List ℕ
assignment_text names types number = assignment_of names number (slice_get types number)

-- The assignments of the types that the type of a number reaches, and its own before them.
abbrev pub types_text : List (List ℕ) → List Shape → ℕ → List ℕ
types_text names types number = flat_map (assignment_text names types) (reached types number)
