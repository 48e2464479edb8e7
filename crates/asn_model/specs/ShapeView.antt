-- The shape that a `Shape` is.
use Rattle.std.specs.Prelude.{ℕ, pos, List, [], ◌∷◌, map, Option, Some, None, option_map, string_bytes}
use Rattle.std.specs.Global.{Vec}
use Rattle.asn_core.specs.declared.tag.Tag.{Tag}
use Rattle.asn_model.specs.Shape as spec
use Rattle.asn_model.specs.declared.shape_type.Alphabet.{Alphabet}
use Rattle.asn_model.specs.declared.shape_type.Alphabet.TheVariants as alphabet
use Rattle.asn_model.specs.declared.shape_type.SeqKind.{SeqKind}
use Rattle.asn_model.specs.declared.shape_type.SeqKind.TheVariants as kind
use Rattle.asn_model.specs.declared.shape_type.Plain.{Plain}
use Rattle.asn_model.specs.declared.shape_type.Plain.TheVariants as plain
use Rattle.asn_model.specs.declared.shape_type.PresenceShape.{PresenceShape}
use Rattle.asn_model.specs.declared.shape_type.PresenceShape.TheVariants as presence
use Rattle.asn_model.specs.declared.shape_type.FieldShape.{FieldShape}
use Rattle.asn_model.specs.declared.shape_type.AlternativeShape.{AlternativeShape}
use Rattle.asn_model.specs.declared.shape_type.Shape.{Shape}
use Rattle.asn_model.specs.declared.shape_type.Shape.TheOpen.{Shape-F, FieldShape-F, AlternativeShape-F, Null, Bool, Int, Bits, Octets, Any, Oid, Str, Bmp, Utc, Gen, Day, Decimal, Enum, Seq, ListOf, SetOf, Table, Choice, Loop, Back}
use Rattle.asn_model.specs.declared.shape_type.Shape.TheFolds.{fold-Shape}

-- The characters that an `Alphabet` is.
abbrev pub alphabet_view : Alphabet → spec.Alphabet
alphabet_view alphabet.Numeric = spec.Alphabet.numeric
alphabet_view alphabet.Printable = spec.Alphabet.printable
alphabet_view alphabet.Visible = spec.Alphabet.visible
alphabet_view alphabet.Ia5 = spec.Alphabet.ia5
alphabet_view alphabet.Utf8 = spec.Alphabet.utf8
alphabet_view alphabet.Universal = spec.Alphabet.universal
alphabet_view alphabet.General = spec.Alphabet.general
alphabet_view alphabet.Graphic = spec.Alphabet.graphic

-- The order of fields that a `SeqKind` is.
abbrev pub kind_view : SeqKind → spec.SeqKind
kind_view kind.Sequence = spec.SeqKind.sequence
kind_view kind.Set = spec.SeqKind.set

-- The value of a DEFAULT that a `Plain` is.
abbrev pub plain_view : Plain → spec.Plain
plain_view (plain.Bool b) = spec.Plain.boolean b
plain_view (plain.Int n) = spec.Plain.int n
plain_view (plain.Text t) = spec.Plain.text (string_bytes t)
plain_view (plain.Item i) = spec.Plain.item (string_bytes i)

-- The presence that a `PresenceShape` is.
abbrev pub presence_view : PresenceShape → spec.Presence
presence_view presence.Required = spec.Presence.required
presence_view presence.Optional = spec.Presence.optional
presence_view (presence.Default p) = spec.Presence.default (plain_view p)

-- The fields that these functions put in front, one after another.
abbrev pub fields_of : List (spec.Fields → spec.Fields) → spec.Fields
fields_of [] = spec.Fields.no_fields
fields_of (f ∷ fs) = f (fields_of fs)

-- The extension additions, if there is an extension marker.
abbrev pub added_fields_of : Option (List (spec.Fields → spec.Fields)) → spec.FieldAdditions
added_fields_of None = spec.FieldAdditions.closed_fields
added_fields_of (Some fs) = spec.FieldAdditions.extended_fields (fields_of fs)

-- The alternatives that these functions put in front, one after another.
abbrev pub alternatives_of : List (spec.Alternatives → spec.Alternatives) → spec.Alternatives
alternatives_of [] = spec.Alternatives.no_alternatives
alternatives_of (a ∷ alts) = a (alternatives_of alts)

-- The extension additions, if there is an extension marker.
abbrev pub added_alternatives_of : Option (List (spec.Alternatives → spec.Alternatives)) → spec.AlternativeAdditions
added_alternatives_of None = spec.AlternativeAdditions.closed_alternatives
added_alternatives_of (Some alts) = spec.AlternativeAdditions.extended_alternatives (alternatives_of alts)

-- One level of a `FieldShape`: it puts its field in front of others.
abbrev pub field_step : {A B : Type 0} → FieldShape-F spec.Shape A B → spec.Fields → spec.Fields
field_step f fs = spec.Fields.field (string_bytes f.name) f.tag (presence_view f.presence) f.shape fs

-- One level of an `AlternativeShape`: it puts its alternative in front of others.
abbrev pub alternative_step : {A B : Type 0} → AlternativeShape-F spec.Shape A B → spec.Alternatives → spec.Alternatives
alternative_step a alts = spec.Alternatives.alternative (string_bytes a.identifier) a.tag a.shape alts

-- One level of a `Shape`, with the views of its parts in their places.
abbrev pub shape_step : Shape-F spec.Shape (spec.Alternatives → spec.Alternatives) (spec.Fields → spec.Fields) → spec.Shape
shape_step Null = spec.Shape.null
shape_step Bool = spec.Shape.boolean
shape_step (Int least greatest width) = spec.Shape.int least (pos greatest) width
shape_step (Bits fixed) = spec.Shape.bits fixed
shape_step Octets = spec.Shape.octets
shape_step Any = spec.Shape.any
shape_step Oid = spec.Shape.oid
shape_step (Str alphabet) = spec.Shape.text (alphabet_view alphabet)
shape_step Bmp = spec.Shape.bmp
shape_step Utc = spec.Shape.utc
shape_step Gen = spec.Shape.gen
shape_step Day = spec.Shape.day
shape_step Decimal = spec.Shape.decimal
shape_step (Enum items added) = spec.Shape.enum (map string_bytes items.items) (option_map (λ v. map string_bytes v.items) added)
shape_step (Seq kind fields added) = spec.Shape.seq (kind_view kind) (fields_of fields.items) (added_fields_of (option_map (λ v. v.items) added))
shape_step (ListOf s) = spec.Shape.list_of s.value
shape_step (SetOf s) = spec.Shape.set_of s.value
shape_step (Table s) = spec.Shape.table s.value
shape_step (Choice alternatives added) = spec.Shape.choice (alternatives_of alternatives.items) (added_alternatives_of (option_map (λ v. v.items) added))
shape_step (Loop s) = spec.Shape.loop s.value
shape_step (Back k) = spec.Shape.back k

-- The shape that a `Shape` is.
abbrev pub shape_view : Shape → spec.Shape
shape_view = fold-Shape spec.Shape (spec.Alternatives → spec.Alternatives) (spec.Fields → spec.Fields) shape_step alternative_step field_step

-- The fields that `FieldShape`s are, in order.
abbrev pub field_views : List FieldShape → spec.Fields
field_views [] = spec.Fields.no_fields
field_views (f ∷ fs) = spec.Fields.field (string_bytes f.name) f.tag (presence_view f.presence) (shape_view f.shape) (field_views fs)

-- The extension additions, if there is an extension marker.
abbrev pub added_field_views : Option (Vec FieldShape) → spec.FieldAdditions
added_field_views None = spec.FieldAdditions.closed_fields
added_field_views (Some fs) = spec.FieldAdditions.extended_fields (field_views fs.items)

-- The alternatives that `AlternativeShape`s are, in order.
abbrev pub alternative_views : List AlternativeShape → spec.Alternatives
alternative_views [] = spec.Alternatives.no_alternatives
alternative_views (a ∷ alts) = spec.Alternatives.alternative (string_bytes a.identifier) a.tag (shape_view a.shape) (alternative_views alts)

-- The fields with one more at the end.
abbrev pub with_last_field : spec.Fields → List ℕ → Tag → spec.Presence → spec.Shape → spec.Fields
with_last_field spec.Fields.no_fields name tag presence shape = spec.Fields.field name tag presence shape spec.Fields.no_fields
with_last_field (spec.Fields.field n t p s fs) name tag presence shape = spec.Fields.field n t p s (with_last_field fs name tag presence shape)

-- The alternatives with one more at the end.
abbrev pub with_last_alternative : spec.Alternatives → List ℕ → Tag → spec.Shape → spec.Alternatives
with_last_alternative spec.Alternatives.no_alternatives identifier tag shape = spec.Alternatives.alternative identifier tag shape spec.Alternatives.no_alternatives
with_last_alternative (spec.Alternatives.alternative i t s alts) identifier tag shape = spec.Alternatives.alternative i t s (with_last_alternative alts identifier tag shape)
