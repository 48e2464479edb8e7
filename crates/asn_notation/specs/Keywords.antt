-- The reserved words and their texts.
use Rattle.std.specs.Prelude.{ℕ, List, [], ◌∷◌, codes, if◌then◌else◌, Option, Some, None}
use Rattle.std.specs.Str.{bytes_eq}
use Rattle.asn_notation.specs.declared.keyword.Keyword.{Keyword}
use Rattle.asn_notation.specs.declared.keyword.Keyword.TheVariants as keyword

-- The text of a reserved word.
abbrev pub keyword_text : Keyword → List ℕ
keyword_text keyword.Boolean = codes "BOOLEAN"
keyword_text keyword.Null = codes "NULL"
keyword_text keyword.Integer = codes "INTEGER"
keyword_text keyword.Octet = codes "OCTET"
keyword_text keyword.Bit = codes "BIT"
keyword_text keyword.String = codes "STRING"
keyword_text keyword.Object = codes "OBJECT"
keyword_text keyword.Identifier = codes "IDENTIFIER"
keyword_text keyword.Utf8String = codes "UTF8String"
keyword_text keyword.NumericString = codes "NumericString"
keyword_text keyword.PrintableString = codes "PrintableString"
keyword_text keyword.VisibleString = codes "VisibleString"
keyword_text keyword.Ia5String = codes "IA5String"
keyword_text keyword.UniversalString = codes "UniversalString"
keyword_text keyword.GeneralString = codes "GeneralString"
keyword_text keyword.GraphicString = codes "GraphicString"
keyword_text keyword.BmpString = codes "BMPString"
keyword_text keyword.Sequence = codes "SEQUENCE"
keyword_text keyword.Set = codes "SET"
keyword_text keyword.Of = codes "OF"
keyword_text keyword.Choice = codes "CHOICE"
keyword_text keyword.Enumerated = codes "ENUMERATED"
keyword_text keyword.Optional = codes "OPTIONAL"

-- All reserved words.
abbrev pub keywords : List Keyword
keywords =
    keyword.Boolean ∷ keyword.Null ∷ keyword.Integer ∷ keyword.Octet ∷ keyword.Bit ∷ keyword.String ∷ keyword.Object ∷ keyword.Identifier
    ∷ keyword.Utf8String ∷ keyword.NumericString ∷ keyword.PrintableString ∷ keyword.VisibleString ∷ keyword.Ia5String ∷ keyword.UniversalString ∷ keyword.GeneralString ∷ keyword.GraphicString ∷ keyword.BmpString
    ∷ keyword.Sequence ∷ keyword.Set ∷ keyword.Of ∷ keyword.Choice ∷ keyword.Enumerated ∷ keyword.Optional ∷ []

-- The first of these words that has the text.
abbrev pub keyword_among : List Keyword → List ℕ → Option Keyword
keyword_among [] text = None
keyword_among (k ∷ ks) text = if bytes_eq text (keyword_text k) then Some k else keyword_among ks text

-- The reserved word that the text is.
unfoldable pub keyword_named : List ℕ → Option Keyword
keyword_named text = keyword_among keywords text
