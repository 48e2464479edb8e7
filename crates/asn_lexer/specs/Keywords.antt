-- The reserved words and their texts (X.680, section 12.38).
use Rattle.std.specs.Prelude.{ℕ, List, [], ◌∷◌, codes, if◌then◌else◌, Option, Some, None}
use Rattle.std.specs.Option.{option_or}
use Rattle.std.specs.Str.{bytes_eq}
use Rattle.asn_lexer.specs.declared.keyword.Keyword.{Keyword}
use Rattle.asn_lexer.specs.declared.keyword.Keyword.TheVariants as keyword

-- Those of a module's parts.
abbrev pub header_words : List (List ℕ × Keyword)
header_words =
    (codes "DEFINITIONS", keyword.Definitions) ∷ (codes "EXPLICIT", keyword.Explicit)
    ∷ (codes "IMPLICIT", keyword.Implicit) ∷ (codes "AUTOMATIC", keyword.Automatic)
    ∷ (codes "TAGS", keyword.Tags) ∷ (codes "EXTENSIBILITY", keyword.Extensibility)
    ∷ (codes "IMPLIED", keyword.Implied) ∷ (codes "BEGIN", keyword.Begin)
    ∷ (codes "END", keyword.End) ∷ (codes "EXPORTS", keyword.Exports) ∷ (codes "ALL", keyword.All)
    ∷ (codes "IMPORTS", keyword.Imports)
    ∷ (codes "FROM", keyword.From) ∷ (codes "WITH", keyword.With)
    ∷ (codes "SUCCESSORS", keyword.Successors) ∷ (codes "DESCENDANTS", keyword.Descendants)
    ∷ (codes "MACRO", keyword.Macro) ∷ (codes "CLASS", keyword.Class)
    ∷ (codes "INSTANCE", keyword.Instance) ∷ (codes "SYNTAX", keyword.Syntax)
    ∷ (codes "TYPE-IDENTIFIER", keyword.TypeIdentifier)
    ∷ (codes "ABSTRACT-SYNTAX", keyword.AbstractSyntax)
    ∷ (codes "INSTRUCTIONS", keyword.Instructions)
    ∷ (codes "ENCODING-CONTROL", keyword.EncodingControl) ∷ []

-- Those within types.
abbrev pub part_words : List (List ℕ × Keyword)
part_words =
    (codes "SIZE", keyword.Size) ∷ (codes "UNIVERSAL", keyword.Universal)
    ∷ (codes "APPLICATION", keyword.Application) ∷ (codes "PRIVATE", keyword.Private)
    ∷ (codes "OF", keyword.Of) ∷ (codes "BY", keyword.By) ∷ (codes "DEFINED", keyword.Defined)
    ∷ (codes "STRING", keyword.String)
    ∷ (codes "IDENTIFIER", keyword.Identifier) ∷ (codes "PDV", keyword.Pdv)
    ∷ (codes "OPTIONAL", keyword.Optional) ∷ (codes "DEFAULT", keyword.Default)
    ∷ (codes "COMPONENTS", keyword.Components) ∷ []

-- Those that begin types.
abbrev pub type_words : List (List ℕ × Keyword)
type_words =
    (codes "BOOLEAN", keyword.Boolean) ∷ (codes "NULL", keyword.Null)
    ∷ (codes "INTEGER", keyword.Integer) ∷ (codes "OCTET", keyword.Octet)
    ∷ (codes "BIT", keyword.Bit) ∷ (codes "OBJECT", keyword.Object)
    ∷ (codes "ENUMERATED", keyword.Enumerated) ∷ (codes "SEQUENCE", keyword.Sequence)
    ∷ (codes "SET", keyword.Set) ∷ (codes "CHOICE", keyword.Choice) ∷ (codes "ANY", keyword.Any)
    ∷ (codes "REAL", keyword.Real)
    ∷ (codes "EXTERNAL", keyword.External) ∷ (codes "EMBEDDED", keyword.Embedded)
    ∷ (codes "CHARACTER", keyword.Character) ∷ (codes "RELATIVE-OID", keyword.RelativeOid)
    ∷ (codes "ObjectDescriptor", keyword.ObjectDescriptor) ∷ (codes "OID-IRI", keyword.OidIri)
    ∷ (codes "RELATIVE-OID-IRI", keyword.RelativeOidIri) ∷ []

-- Those for character strings.
abbrev pub text_words : List (List ℕ × Keyword)
text_words =
    (codes "UTF8String", keyword.Utf8String) ∷ (codes "NumericString", keyword.NumericString)
    ∷ (codes "PrintableString", keyword.PrintableString)
    ∷ (codes "VisibleString", keyword.VisibleString)
    ∷ (codes "IA5String", keyword.Ia5String) ∷ (codes "UniversalString", keyword.UniversalString)
    ∷ (codes "GeneralString", keyword.GeneralString)
    ∷ (codes "GraphicString", keyword.GraphicString)
    ∷ (codes "BMPString", keyword.BmpString) ∷ (codes "ISO646String", keyword.Iso646String)
    ∷ (codes "TeletexString", keyword.TeletexString) ∷ (codes "T61String", keyword.T61String)
    ∷ (codes "VideotexString", keyword.VideotexString) ∷ []

-- Those for times.
abbrev pub time_words : List (List ℕ × Keyword)
time_words =
    (codes "UTCTime", keyword.UtcTime) ∷ (codes "GeneralizedTime", keyword.GeneralizedTime)
    ∷ (codes "DATE", keyword.Date) ∷ (codes "TIME", keyword.Time)
    ∷ (codes "TIME-OF-DAY", keyword.TimeOfDay) ∷ (codes "DATE-TIME", keyword.DateTime)
    ∷ (codes "DURATION", keyword.Duration) ∷ []

-- The reserved word among these that has the text.
abbrev pub keyword_among : List (List ℕ × Keyword) → List ℕ → Option Keyword
keyword_among [] text = None
keyword_among (k ∷ ks) text = if bytes_eq text k.0 then Some k.1 else keyword_among ks text

-- The reserved word that the text is.
unfoldable pub keyword_named : List ℕ → Option Keyword
keyword_named text =
    option_or (keyword_among type_words text)
    (option_or (keyword_among part_words text) (option_or (keyword_among text_words text)
    (option_or (keyword_among header_words text) (keyword_among time_words text))))
