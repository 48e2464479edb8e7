-- What the words that begin a type stand for.
use Rattle.std.specs.Prelude.{List, Bool, Option, Some, None}
use Rattle.std.specs.Option.{option_map}
use Rattle.asn_lexer.specs.declared.keyword.Keyword.{Keyword}
use Rattle.asn_lexer.specs.declared.keyword.Keyword.TheVariants as keyword
use Rattle.asn_lexer.specs.declared.kind.Kind.{Kind}
use Rattle.asn_lexer.specs.declared.token.Token.{Token}
use Rattle.asn_model.specs.Shape.{SeqKind}
use Rattle.asn_model.specs.ShapeView.{kind_view}
use Rattle.asn_model.specs.declared.shape_type.Alphabet.TheVariants as alphabet
use Rattle.asn_modules_grammar.specs.notation.Kinds.{past, is_identifier, is_pdv, is_string}
use Rattle.asn_modules_grammar.specs.notation.Starts as spec
use Rattle.asn_modules_grammar.specs.declared.notation.leaf.Closed.TheVariants as closed
use Rattle.asn_modules_grammar.specs.declared.notation.leaf.Leaf.{Leaf}
use Rattle.asn_modules_grammar.specs.declared.notation.leaf.Leaf.TheVariants.{Boolean, Null, OctetString, ObjectIdentifier, Text, Bmp, Teletex, UtcTime, GeneralizedTime, Date, Closed}
use Rattle.asn_modules_reader.specs.parts.Marks.{passes}
use Rattle.asn_modules_reader.specs.declared.parts.opening.Opening.{Opening}
use Rattle.asn_modules_reader.specs.declared.parts.opening.Opening.TheVariants as opening
use Rattle.asn_modules_reader.specs.declared.parts.start.Start.{Start}
use Rattle.asn_modules_reader.specs.declared.parts.start.Start.TheVariants as start

-- What a `Start` states.
abbrev pub start_view : Start → spec.Start
start_view (start.Leaf l) = spec.leaf l
start_view start.Integer = spec.integer
start_view start.BitString = spec.bit_string
start_view start.Enumerated = spec.enumerated
start_view (start.Members kind) = spec.members (kind_view kind)
start_view start.Choice = spec.choice
start_view (start.Reference home name) = spec.reference home name

-- What an `Opening` states.
abbrev pub opening_view : Opening → spec.Opening
opening_view (opening.Whole s) = spec.whole (start_view s)
opening_view (opening.Pair m s) = spec.pair (passes m) (start_view s)
opening_view opening.Any = spec.any
opening_view opening.ClassBody = spec.class_body
opening_view opening.InstanceOf = spec.instance_of
opening_view opening.NamedClass = spec.named_class
opening_view opening.Nothing = spec.nothing

-- What two words stand for of which the second passes, and what follows it.
abbrev pub pair_at : (Kind → Bool) → spec.Start → List Token → Option (spec.Start × List Token)
pair_at p s u = option_map (λ v. (s, v)) (past p u)

-- The type of character strings that the reserved word names.
abbrev pub text_by : Keyword → Option Leaf
text_by keyword.Utf8String = Some (Text alphabet.Utf8)
text_by keyword.NumericString = Some (Text alphabet.Numeric)
text_by keyword.PrintableString = Some (Text alphabet.Printable)
text_by keyword.VisibleString = Some (Text alphabet.Visible)
text_by keyword.Iso646String = Some (Text alphabet.Visible)
text_by keyword.Ia5String = Some (Text alphabet.Ia5)
text_by keyword.UniversalString = Some (Text alphabet.Universal)
text_by keyword.GeneralString = Some (Text alphabet.General)
text_by keyword.GraphicString = Some (Text alphabet.Graphic)
text_by keyword.BmpString = Some Bmp
text_by keyword.TeletexString = Some Teletex
text_by keyword.T61String = Some Teletex
text_by keyword.VideotexString = Some (Closed closed.Videotex)
text_by k = None

-- The other type without parts that the reserved word names alone.
abbrev pub plain_by : Keyword → Option Leaf
plain_by keyword.Boolean = Some Boolean
plain_by keyword.Null = Some Null
plain_by keyword.Real = Some (Closed closed.Real)
plain_by keyword.External = Some (Closed closed.External)
plain_by keyword.RelativeOid = Some (Closed closed.RelativeOid)
plain_by keyword.ObjectDescriptor = Some (Closed closed.ObjectDescriptor)
plain_by keyword.UtcTime = Some UtcTime
plain_by keyword.GeneralizedTime = Some GeneralizedTime
plain_by keyword.Date = Some Date
plain_by keyword.Time = Some (Closed closed.Time)
plain_by keyword.TimeOfDay = Some (Closed closed.TimeOfDay)
plain_by keyword.DateTime = Some (Closed closed.DateTime)
plain_by keyword.Duration = Some (Closed closed.Duration)
plain_by k = None

-- What another reserved word is, where a type may begin.
abbrev pub other_by : Keyword → spec.Opening
other_by keyword.Integer = spec.whole spec.integer
other_by keyword.Octet = spec.pair is_string (spec.leaf OctetString)
other_by keyword.Bit = spec.pair is_string spec.bit_string
other_by keyword.Object = spec.pair is_identifier (spec.leaf ObjectIdentifier)
other_by keyword.Enumerated = spec.whole spec.enumerated
other_by keyword.Sequence = spec.whole (spec.members SeqKind.sequence)
other_by keyword.Set = spec.whole (spec.members SeqKind.set)
other_by keyword.Choice = spec.whole spec.choice
other_by keyword.Any = spec.any
other_by keyword.Embedded = spec.pair is_pdv (spec.leaf (Closed closed.EmbeddedPdv))
other_by keyword.Character = spec.pair is_string (spec.leaf (Closed closed.CharacterString))
other_by keyword.Class = spec.class_body
other_by keyword.Instance = spec.instance_of
other_by keyword.TypeIdentifier = spec.named_class
other_by keyword.AbstractSyntax = spec.named_class
other_by k = spec.nothing
