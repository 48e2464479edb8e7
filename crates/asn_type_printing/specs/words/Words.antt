-- The words that name kinds of types (X.680).
use Rattle.std.specs.Prelude.{ℕ, List, [], codes}
use Rattle.asn_model.specs.Shape.{Alphabet, SeqKind, Shape}

-- The type of character strings that has these characters.
abbrev pub string_word : Alphabet → List ℕ
string_word Alphabet.utf8 = codes "UTF8String"
string_word Alphabet.numeric = codes "NumericString"
string_word Alphabet.printable = codes "PrintableString"
string_word Alphabet.visible = codes "VisibleString"
string_word Alphabet.ia5 = codes "IA5String"
string_word Alphabet.general = codes "GeneralString"
string_word Alphabet.graphic = codes "GraphicString"
string_word Alphabet.universal = codes "UniversalString"

-- The kind of a type. A name of another type has none of its own.
abbrev pub kind_word : Shape → List ℕ
kind_word Shape.null = codes "NULL"
kind_word Shape.boolean = codes "BOOLEAN"
kind_word (Shape.int least greatest width) = codes "INTEGER"
kind_word (Shape.bits fixed) = codes "BIT STRING"
kind_word Shape.octets = codes "OCTET STRING"
kind_word Shape.any = codes "ANY"
kind_word Shape.oid = codes "OBJECT IDENTIFIER"
kind_word (Shape.text a) = string_word a
kind_word Shape.bmp = codes "BMPString"
kind_word Shape.utc = codes "UTCTime"
kind_word Shape.gen = codes "GeneralizedTime"
kind_word Shape.day = codes "DATE"
kind_word Shape.decimal = codes "INTEGER"
kind_word (Shape.enum items added) = codes "ENUMERATED"
kind_word (Shape.seq SeqKind.sequence fs added) = codes "SEQUENCE"
kind_word (Shape.seq SeqKind.set fs added) = codes "SET"
kind_word (Shape.list_of s) = codes "SEQUENCE OF"
kind_word (Shape.set_of s) = codes "SET OF"
kind_word (Shape.table s) = codes "SEQUENCE OF"
kind_word (Shape.choice alts added) = codes "CHOICE"
kind_word (Shape.loop s) = kind_word s
kind_word (Shape.back k) = []
