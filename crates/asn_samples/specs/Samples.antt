-- The sample types, their names and their shapes.
use denote.Enum.Bare.{sameb}
use Rattle.std.specs.Prelude.{ℕ, List, [], ◌∷◌, ◌++◌, codes, bytes_eq, if◌then◌else◌, Option, Some, None}
use Rattle.asn_traits.specs.Shape.{Alphabet, Shape}
use Rattle.asn_coding.specs.Terms.{signed, unsigned, utf8_string}
use Rattle.asn_document.specs.Meaning.{document_shape}
use Rattle.asn_sample_choices.specs.ExtChoice.{ext_choice_shape}
use Rattle.asn_sample_choices.specs.Inner.{inner_shape}
use Rattle.asn_sample_choices.specs.NewPart.{new_part_shape}
use Rattle.asn_sample_choices.specs.NewReport.{new_report_shape}
use Rattle.asn_sample_choices.specs.OldPart.{old_part_shape}
use Rattle.asn_sample_choices.specs.OldReport.{old_report_shape}
use Rattle.asn_sample_choices.specs.SimpleChoice.{simple_choice_shape}
use Rattle.asn_sample_choices.specs.TestTypeA.{test_type_a_shape}
use Rattle.asn_sample_fields.specs.ConstrainedBitString.{constrained_bit_string_shape}
use Rattle.asn_sample_fields.specs.Defaulted.{defaulted_shape}
use Rattle.asn_sample_fields.specs.ExtEnum.{ext_enum_shape}
use Rattle.asn_sample_fields.specs.ExtensibleBitString.{extensible_bit_string_shape}
use Rattle.asn_sample_fields.specs.ExtensibleBitStringField.{extensible_bit_string_field_shape}
use Rattle.asn_sample_fields.specs.MarkSet.{mark_set_shape}
use Rattle.asn_sample_fields.specs.Nested.{nested_shape}
use Rattle.asn_sample_fields.specs.NewMode.{new_mode_shape}
use Rattle.asn_sample_fields.specs.OldMode.{old_mode_shape}
use Rattle.asn_sample_fields.specs.Renamed.{renamed_shape}
use Rattle.asn_sample_fields.specs.SimpleEnum.{simple_enum_shape}
use Rattle.asn_sample_fields.specs.Struct.{struct_shape}
use Rattle.asn_sample_fields.specs.Very.{very_shape}
use Rattle.asn_sample_fields.specs.WithNullOpt.{with_null_opt_shape}
use Rattle.asn_sample_trees.specs.Nest.{nest_shape}
use Rattle.asn_sample_trees.specs.NewTree.{new_tree_shape}
use Rattle.asn_sample_trees.specs.OldTree.{old_tree_shape}
use Rattle.asn_samples.specs.contracts.sample.Sample.{the_type}
use Rattle.asn_samples.specs.declared.sample.Sample.{Sample}
use Rattle.asn_samples.specs.declared.sample.Sample.TheVariants as sample_type

-- The sample types that need no description, each with its name and its shape.
abbrev pub plain_samples : List (List ℕ × Sample × Shape)
plain_samples =
    (codes "bool", sample_type.Bool, Shape.boolean)
    ∷ (codes "Null", sample_type.Null, Shape.null)
    ∷ (codes "u8", sample_type.U8, unsigned 8)
    ∷ (codes "i64", sample_type.I64, signed 64)
    ∷ (codes "u64", sample_type.U64, unsigned 64)
    ∷ (codes "u128", sample_type.U128, unsigned 128)
    ∷ (codes "Integer", sample_type.Integer, signed 128)
    ∷ (codes "Utf8String", sample_type.Utf8String, utf8_string)
    ∷ (codes "NumericString", sample_type.NumericString, Shape.text Alphabet.numeric)
    ∷ (codes "PrintableString", sample_type.PrintableString, Shape.text Alphabet.printable)
    ∷ (codes "VisibleString", sample_type.VisibleString, Shape.text Alphabet.visible)
    ∷ (codes "Ia5String", sample_type.Ia5String, Shape.text Alphabet.ia5)
    ∷ (codes "GeneralString", sample_type.GeneralString, Shape.text Alphabet.general)
    ∷ (codes "GraphicString", sample_type.GraphicString, Shape.text Alphabet.graphic)
    ∷ (codes "BmpString", sample_type.BmpString, Shape.bmp)
    ∷ (codes "UniversalString", sample_type.UniversalString, Shape.text Alphabet.universal)
    ∷ (codes "UtcTime", sample_type.UtcTime, Shape.utc)
    ∷ (codes "GeneralizedTime", sample_type.GeneralizedTime, Shape.gen)
    ∷ (codes "Date", sample_type.Date, Shape.day)
    ∷ (codes "SequenceOf<u8>", sample_type.SequenceOfU8, Shape.list_of (unsigned 8))
    ∷ (codes "SequenceOf<i64>", sample_type.SequenceOfI64, Shape.list_of (signed 64))
    ∷ (codes "SequenceOf<bool>", sample_type.SequenceOfBool, Shape.list_of Shape.boolean)
    ∷ (codes "SequenceOf<SimpleChoice>", sample_type.SequenceOfSimpleChoice, Shape.list_of simple_choice_shape)
    ∷ (codes "SetOf<u8>", sample_type.SetOfU8, Shape.set_of (unsigned 8))
    ∷ (codes "OctetString", sample_type.OctetString, Shape.octets)
    ∷ (codes "BitString", sample_type.BitString, Shape.bits None)
    ∷ (codes "Any", sample_type.Any, Shape.any)
    ∷ (codes "ObjectIdentifier", sample_type.ObjectIdentifier, Shape.oid)
    ∷ (codes "Document", sample_type.Document, document_shape)
    ∷ []

-- Those that are described, each with its name and its shape.
abbrev pub described_samples : List (List ℕ × Sample × Shape)
described_samples =
    (codes "Renamed", sample_type.Renamed, renamed_shape)
    ∷ (codes "Inner", sample_type.Inner, inner_shape)
    ∷ (codes "SimpleEnum", sample_type.SimpleEnum, simple_enum_shape)
    ∷ (codes "ExtEnum", sample_type.ExtEnum, ext_enum_shape)
    ∷ (codes "SimpleChoice", sample_type.SimpleChoice, simple_choice_shape)
    ∷ (codes "ExtChoice", sample_type.ExtChoice, ext_choice_shape)
    ∷ (codes "OldPart", sample_type.OldPart, old_part_shape)
    ∷ (codes "NewPart", sample_type.NewPart, new_part_shape)
    ∷ (codes "Nested", sample_type.Nested, nested_shape)
    ∷ (codes "Struct", sample_type.Struct, struct_shape)
    ∷ (codes "TestTypeA", sample_type.TestTypeA, test_type_a_shape)
    ∷ (codes "Very", sample_type.Very, very_shape)
    ∷ (codes "Defaulted", sample_type.Defaulted, defaulted_shape)
    ∷ (codes "MarkSet", sample_type.MarkSet, mark_set_shape)
    ∷ (codes "OldReport", sample_type.OldReport, old_report_shape)
    ∷ (codes "NewReport", sample_type.NewReport, new_report_shape)
    ∷ (codes "OldMode", sample_type.OldMode, old_mode_shape)
    ∷ (codes "NewMode", sample_type.NewMode, new_mode_shape)
    ∷ (codes "OldTree", sample_type.OldTree, old_tree_shape)
    ∷ (codes "NewTree", sample_type.NewTree, new_tree_shape)
    ∷ (codes "WithNullOpt", sample_type.WithNullOpt, with_null_opt_shape)
    ∷ (codes "ConstrainedBitString", sample_type.ConstrainedBitString, constrained_bit_string_shape)
    ∷ (codes "ExtensibleBitString", sample_type.ExtensibleBitString, extensible_bit_string_shape)
    ∷ (codes "ExtensibleBitStringField", sample_type.ExtensibleBitStringField, extensible_bit_string_field_shape)
    ∷ (codes "Nest", sample_type.Nest, nest_shape)
    ∷ []

-- All sample types, each with its name and its shape.
abbrev pub samples : List (List ℕ × Sample × Shape)
samples = plain_samples ++ described_samples

-- The sample type of the first row of that name.
abbrev pub sample_beside : List (List ℕ × Sample × Shape) → List ℕ → Option Sample
sample_beside [] name = None
sample_beside ((row_name, row_sample, row_shape) ∷ rows) name = if bytes_eq name row_name then Some row_sample else sample_beside rows name

-- The sample type of that name.
abbrev pub sample_named : List ℕ → Option Sample
sample_named name = sample_beside samples name

-- The shape of the first row of that sample type. Each one has its row.
abbrev pub shape_beside : List (List ℕ × Sample × Shape) → Sample → Shape
shape_beside [] sample = Shape.null
shape_beside ((row_name, row_sample, row_shape) ∷ rows) sample = if sameb the_type sample row_sample then row_shape else shape_beside rows sample

-- The shape of a sample type.
abbrev pub sample_shape : Sample → Shape
sample_shape sample = shape_beside samples sample
