-- What a JSON value stands for as a value of ASN.1, and the shape that its values have.
use Rattle.std.specs.Prelude.{ℕ, ℤ, List, Option, Some, None, codes, String, string_bytes}
use Rattle.std.specs.declared.alloc.Global.{Global}
use Rattle.asn_model.specs.CharacterStrings.{universal_tag}
use Rattle.asn_model.specs.Shape.{Shape, Fields, Presence, Alternatives, closed_seq, closed_choice}
use Rattle.asn_model.specs.Value.{Value, Values, Slots}
use Rattle.asn_coding.specs.Terms.{context, signed, utf8_string}
use Rattle.serde_json.specs.Data.{Data, null, boolean, number, string, array, object, Items, no_items, item, Members, no_members, member}
use Rattle.serde_json.specs.Find.{as_i64}
use Rattle.serde_json.specs.View.{view}
use Rattle.serde_json.specs.Written.{number_text}
use Rattle.serde_json.specs.declared.value.Value.{Value as JsonValue}

-- The fields of an entry, by the shape of a document: the smallest tag of a document is that of BOOLEAN.
abbrev pub entry_fields_with : Shape → Fields
entry_fields_with document =
    Fields.field (codes "key") (universal_tag 12) Presence.required utf8_string
    (Fields.field (codes "value") (universal_tag 1) Presence.required document
    Fields.no_fields)

-- The alternatives of a document, by the shape of the documents in it.
abbrev pub alternatives_with : Shape → Alternatives
alternatives_with document =
    Alternatives.alternative (codes "null") (universal_tag 5) Shape.null
    (Alternatives.alternative (codes "bool") (universal_tag 1) Shape.boolean
    (Alternatives.alternative (codes "integer") (universal_tag 2) (signed 64)
    (Alternatives.alternative (codes "decimal") (context 2) Shape.decimal
    (Alternatives.alternative (codes "string") (universal_tag 12) utf8_string
    (Alternatives.alternative (codes "array") (context 1) (Shape.list_of document)
    (Alternatives.alternative (codes "object") (context 0) (Shape.table (closed_seq (entry_fields_with document)))
    Alternatives.no_alternatives))))))

-- The shape of a document: a CHOICE, which holds itself in an array and in an object.
abbrev pub document_shape : Shape
document_shape = Shape.loop (closed_choice (alternatives_with (Shape.back 0)))

-- The alternatives of a document.
abbrev pub document_alternatives : Alternatives
document_alternatives = alternatives_with document_shape

-- The fields of an entry.
abbrev pub entry_fields : Fields
entry_fields = entry_fields_with document_shape

-- The shape of an entry.
abbrev pub entry_shape : Shape
entry_shape = closed_seq entry_fields

-- The entry of that key and value.
abbrev pub entry : List ℕ → Value → Value
entry key v = Value.members (Slots.present (codes "key") (Value.text key) (Slots.present (codes "value") v Slots.no_slots))

-- The identifier of a number's alternative, by the number as an `i64`: a whole number that is none is from 2^63 to 2^64-1.
abbrev pub number_name : Option ℤ → List ℕ
number_name (Some z) = codes "integer"
number_name None = codes "decimal"

-- The payload of a number, by the number as an `i64` and its digits.
abbrev pub number_payload : Option ℤ → List ℕ → Value
number_payload (Some z) digits = Value.int z
number_payload None digits = Value.text digits

-- The identifier of the alternative.
abbrev pub document_name : Data → List ℕ
document_name null = codes "null"
document_name (boolean b) = codes "bool"
document_name (number n) = number_name (as_i64 n)
document_name (string s) = codes "string"
document_name (array ds) = codes "array"
document_name (object ms) = codes "object"

abbrev mutual
  -- The value in the alternative: the payload of the choice.
  pub document_payload : Data → Value
  document_payload null = Value.null
  document_payload (boolean b) = Value.boolean b
  document_payload (number n) = number_payload (as_i64 n) (number_text n)
  document_payload (string s) = Value.text s
  document_payload (array ds) = Value.list (item_values ds)
  document_payload (object ms) = Value.list (entry_values ms)

  -- The documents that the elements of an array stand for.
  pub item_values : Items → Values
  item_values no_items = Values.no_values
  item_values (item d ds) = Values.value (Value.choice (document_name d) (document_payload d)) (item_values ds)

  -- The entries that the members of an object stand for.
  pub entry_values : Members → Values
  entry_values no_members = Values.no_values
  entry_values (member k d ms) = Values.value (entry k (Value.choice (document_name d) (document_payload d))) (entry_values ms)

-- The document that the data of a JSON value stands for.
abbrev pub document_value : Data → Value
document_value d = Value.choice (document_name d) (document_payload d)

-- The document that a JSON value stands for.
abbrev pub json_value : JsonValue → Value
json_value v = document_value (view v)

-- The entry that a member of a map stands for.
abbrev pub json_entry : String Global × JsonValue → Value
json_entry e = entry (string_bytes e.0) (json_value e.1)
