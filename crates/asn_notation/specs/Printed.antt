-- The printed text of notations, each with a text behind it.
use Rattle.std.specs.Prelude.{ℕ, List, [], ◌∷◌, ◌++◌, Bool, true, false, if◌then◌else◌, Option, Some, None}
use Rattle.asn_model.specs.Shape.{Alphabet, SeqKind}
use Rattle.asn_notation.specs.Notation.{Notation, Element, Elements, Assignment, boolean, null, integer, octet_string, bit_string, object_identifier, text, bmp, members, list_of, choice, enumerated, reference, component, marker, no_elements, element}
use Rattle.asn_notation.specs.Keywords.{keyword_text}
use Rattle.asn_notation.specs.declared.keyword.Keyword.{Keyword}
use Rattle.asn_notation.specs.declared.keyword.Keyword.TheVariants as keyword

-- A word with a space before it.
abbrev pub word_text : List ℕ → List ℕ → List ℕ
word_text w rest = 32 ∷ (w ++ rest)

-- A reserved word with a space before it.
abbrev pub keyword_print : Keyword → List ℕ → List ℕ
keyword_print k rest = word_text (keyword_text k) rest

-- The reserved word of a string type.
abbrev pub alphabet_keyword : Alphabet → Keyword
alphabet_keyword Alphabet.utf8 = keyword.Utf8String
alphabet_keyword Alphabet.numeric = keyword.NumericString
alphabet_keyword Alphabet.printable = keyword.PrintableString
alphabet_keyword Alphabet.visible = keyword.VisibleString
alphabet_keyword Alphabet.ia5 = keyword.Ia5String
alphabet_keyword Alphabet.universal = keyword.UniversalString
alphabet_keyword Alphabet.general = keyword.GeneralString
alphabet_keyword Alphabet.graphic = keyword.GraphicString

-- SEQUENCE or SET.
abbrev pub kind_keyword : SeqKind → Keyword
kind_keyword SeqKind.sequence = keyword.Sequence
kind_keyword SeqKind.set = keyword.Set

-- `{` with a space before it.
abbrev pub opened : List ℕ → List ℕ
opened rest = 32 ∷ 123 ∷ rest

-- `}` with a space before it.
abbrev pub closed : List ℕ → List ℕ
closed rest = 32 ∷ 125 ∷ rest

-- `...` with a space before it.
abbrev pub marker_text : List ℕ → List ℕ
marker_text rest = 32 ∷ 46 ∷ 46 ∷ 46 ∷ rest

-- OPTIONAL, if it is to stand there.
abbrev pub optional_text : Bool → List ℕ → List ℕ
optional_text optional rest = if optional then keyword_print keyword.Optional rest else rest

-- An item, or the extension marker.
abbrev pub item_text : Option (List ℕ) → List ℕ → List ℕ
item_text None rest = marker_text rest
item_text (Some name) rest = word_text name rest

-- A comma, but none before the first entry of a list.
abbrev pub comma_text : Bool → List ℕ → List ℕ
comma_text first rest = if first then rest else 44 ∷ rest

-- Items, each behind a comma but the first of a list.
abbrev pub item_run : Bool → List (Option (List ℕ)) → List ℕ → List ℕ
item_run first [] rest = rest
item_run first (i ∷ items) rest = comma_text first (item_text i (item_run false items rest))

-- The items between braces.
abbrev pub items_text : List (Option (List ℕ)) → List ℕ → List ℕ
items_text items rest = opened (item_run true items (closed rest))

abbrev mutual
  -- A notation with a space before it.
  pub notation_text : Notation → List ℕ → List ℕ
  notation_text boolean rest = keyword_print keyword.Boolean rest
  notation_text null rest = keyword_print keyword.Null rest
  notation_text integer rest = keyword_print keyword.Integer rest
  notation_text octet_string rest = keyword_print keyword.Octet (keyword_print keyword.String rest)
  notation_text bit_string rest = keyword_print keyword.Bit (keyword_print keyword.String rest)
  notation_text object_identifier rest = keyword_print keyword.Object (keyword_print keyword.Identifier rest)
  notation_text (text a) rest = keyword_print (alphabet_keyword a) rest
  notation_text bmp rest = keyword_print keyword.BmpString rest
  notation_text (members kind es) rest = keyword_print (kind_keyword kind) (opened (element_run true es (closed rest)))
  notation_text (list_of kind n) rest = keyword_print (kind_keyword kind) (keyword_print keyword.Of (notation_text n rest))
  notation_text (choice es) rest = keyword_print keyword.Choice (opened (element_run true es (closed rest)))
  notation_text (enumerated items) rest = keyword_print keyword.Enumerated (items_text items rest)
  notation_text (reference name) rest = word_text name rest

  -- An element with a space before it.
  pub element_text : Element → List ℕ → List ℕ
  element_text (component name n optional) rest = word_text name (notation_text n (optional_text optional rest))
  element_text marker rest = marker_text rest

  -- Elements, each behind a comma but the first of a list.
  pub element_run : Bool → Elements → List ℕ → List ℕ
  element_run first no_elements rest = rest
  element_run first (element e es) rest = comma_text first (element_text e (element_run false es rest))

-- The elements between braces.
abbrev pub elements_text : Elements → List ℕ → List ℕ
elements_text es rest = opened (element_run true es (closed rest))

-- The line of an assignment.
abbrev pub assignment_text : Assignment → List ℕ → List ℕ
assignment_text a rest = a.name ++ (32 ∷ 58 ∷ 58 ∷ 61 ∷ notation_text a.notation (10 ∷ rest))

-- A line for each assignment.
abbrev pub module_text : List Assignment → List ℕ
module_text [] = []
module_text (a ∷ more) = assignment_text a (module_text more)
