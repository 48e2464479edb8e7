-- What a tree decodes to by a shape whose values have no parts, and why it decodes to nothing.
use Rattle.std.specs.Prelude.{◌≡◌, ◌≤◌, ◌^◌, ℕ, ℤ, pos, List, ◌++◌, Option, Some, None, Result, Ok, Err, Bool, false, if◌then◌else◌, option_and_then, option_map, codes, string_bytes}
use Rattle.std.specs.Str.{chars, is_utf8}
use Rattle.serde_json.specs.Data.{Data, Num}
use Rattle.serde_json.specs.Find.{as_number, as_str, as_u64, get_member}
use Rattle.serde_json.specs.Written.{compact_text, has_float}
use Rattle.avn_grammar.specs.Tree.{Tree as AvnTree}
use Rattle.avn_grammar.specs.Print.{print}
use Rattle.hex.specs.Hex.{decode_of}
use Rattle.hex.specs.declared.error.FromHexError.{FromHexError}
use Rattle.asn_core.specs.Numbers.{signed}
use Rattle.asn_core.specs.declared.codec.Codec.{Codec}
use Rattle.asn_core.specs.declared.codec.Codec.TheVariants.{Jer, Avn}
use Rattle.asn_core.specs.declared.tag.Tag.{Tag}
use Rattle.asn_fault.specs.Failure.{Cause}
use Rattle.asn_strings.specs.Alphabets.{is_bmp, place_outside}
use Rattle.asn_times.specs.Meanings.{day_of_text, generalized_of_text, utc_of_text}
use Rattle.asn_model.specs.CharacterStrings.{alphabet_number, alphabet_of, bmp_number, outside_alphabet, universal_tag}
use Rattle.asn_core.specs.BitStrings.{all_bits, bits_of}
use Rattle.asn_model.specs.Arcs.{dotted_identifier, braced_arcs, checked_identifier}
use Rattle.asn_model.specs.BitLeaves.{no_bits, sized_bits}
use Rattle.asn_model.specs.Decimals.{is_decimal}
use Rattle.asn_model.specs.Digits.{signed_number}
use Rattle.asn_model.specs.Notation.{Notation}
use Rattle.asn_model.specs.Range.{is_between}
use Rattle.asn_model.specs.Shape.{Shape, SeqKind, all_items, is_item}
use Rattle.asn_model.specs.Tree.{Tree}
use Rattle.asn_model.specs.Value.{Value}
use Rattle.asn_model.specs.declared.leaves.LeafKind.{LeafKind}
use Rattle.asn_model.specs.declared.leaves.LeafKind.TheVariants.{Null, Boolean, Number, Text, Time, Date, Item, Octets, Any, Oid, Bits}
use Rattle.asn_model.specs.declared.leaves.Leaf.{Leaf}
use Rattle.asn_model.specs.declared.leaves.Leaf.TheVariants as put
use Rattle.asn_model.specs.declared.leaves.OwnedLeaf.{OwnedLeaf}
use Rattle.asn_model.specs.declared.leaves.OwnedLeaf.TheVariants as got
use Rattle.asn_model.specs.declared.words.TheConstants.{AVN_ARCS, AVN_BITS, AVN_CHOICE, AVN_ITEM, AVN_LIST, AVN_MEMBERS, AVN_NO_UTF8, AVN_NUMBER, AVN_OCTETS, AVN_SET, AVN_SET_OF, AVN_STRING, BOOLEAN, JER_ARCS, JER_ARRAY, JER_BITS, JER_DATE, JER_DIGITS, JER_ITEM, JER_NUMBER, JER_OBJECT, JER_ONE_MEMBER, JER_STRING, JER_TIME, JER_UNKNOWN, NO_DECIMAL, NULL}

-- Why a tree decodes to no value: it is of another kind than what is needed, or as told.
pub data LeafFailure : Type 0 where
  mismatch : List ℕ → LeafFailure
  because : Cause → LeafFailure

-- The codec whose errors a notation has.
abbrev pub codec_of : Notation → Codec
codec_of Notation.avn = Avn
codec_of _ = Jer

-- The text by which a mismatch names what was found, which nothing fixes for a JSON value that holds a float.
abbrev pub IsFound : Tree → List ℕ → Type 0
IsFound (Tree.json d) found = has_float d ≡ false → found ≡ compact_text d
IsFound (Tree.avn t) found = found ≡ print 0 t

-- The kind of the error that is of this failure of the tree.
pub data IsFailureOf (n : Notation) (t : Tree) : LeafFailure → Cause → Type 0 where
  is_mismatch : (needed found : List ℕ) → IsFound t found → IsFailureOf n t (LeafFailure.mismatch needed) (Cause.type_mismatch (codec_of n) needed found)
  is_because : (w : Cause) → IsFailureOf n t (LeafFailure.because w) w

-- A mismatch by the words of JER and those of AVN.
abbrev pub mismatch_of : Notation → List ℕ → List ℕ → LeafFailure
mismatch_of Notation.avn j a = LeafFailure.mismatch a
mismatch_of _ j a = LeafFailure.mismatch j

-- What is wrong with a JSON value that is no object, whatever it is.
abbrev pub no_object : LeafFailure
no_object = LeafFailure.because (Cause.type_mismatch Jer JER_OBJECT.now JER_UNKNOWN.now)

-- The failure of a tree that has no members.
abbrev pub members_mismatch : Notation → SeqKind → LeafFailure
members_mismatch Notation.avn SeqKind.sequence = LeafFailure.mismatch AVN_MEMBERS.now
members_mismatch Notation.avn SeqKind.set = LeafFailure.mismatch AVN_SET.now
members_mismatch _ kind = no_object

-- The failure of a tree that is no list.
abbrev pub list_mismatch : Notation → LeafFailure
list_mismatch n = mismatch_of n JER_ARRAY.now AVN_LIST.now

-- The failure of a tree that is no list, where a SET OF is read.
abbrev pub set_mismatch : Notation → LeafFailure
set_mismatch n = mismatch_of n JER_ARRAY.now AVN_SET_OF.now

-- The failure of a tree that is no choice, as an object of two members or more.
abbrev pub choice_mismatch : Notation → Tree → LeafFailure
choice_mismatch Notation.jer (Tree.json (Data.object ms)) = LeafFailure.mismatch JER_ONE_MEMBER.now
choice_mismatch n t = mismatch_of n JER_OBJECT.now AVN_CHOICE.now

-- The words by which a mismatch names the kind that is needed.
abbrev pub needed : Notation → LeafKind → List ℕ
needed Notation.avn Null = NULL.now
needed Notation.avn Boolean = BOOLEAN.now
needed Notation.avn Number = AVN_NUMBER.now
needed Notation.avn Text = AVN_STRING.now
needed Notation.avn Time = AVN_STRING.now
needed Notation.avn Date = AVN_STRING.now
needed Notation.avn Item = AVN_ITEM.now
needed Notation.avn Octets = AVN_OCTETS.now
needed Notation.avn Any = AVN_OCTETS.now
needed Notation.avn Oid = AVN_ARCS.now
needed Notation.avn (Bits size) = AVN_BITS.now
needed _ Null = NULL.now
needed _ Boolean = BOOLEAN.now
needed _ Number = JER_NUMBER.now
needed _ Text = JER_STRING.now
needed _ Time = JER_TIME.now
needed _ Date = JER_DATE.now
needed _ Item = JER_ITEM.now
needed _ Octets = JER_DIGITS.now
needed _ Any = JER_DIGITS.now
needed _ Oid = JER_ARCS.now
needed _ (Bits None) = JER_BITS.now
needed _ (Bits (Some size)) = JER_DIGITS.now

-- The number, or the failure.
abbrev pub number_or : LeafFailure → Option ℤ → Result Value LeafFailure
number_or b (Some n) = Ok (Value.int n)
number_or b None = Err b

-- The octets as text, or the failure where they aren't UTF-8.
abbrev pub utf8_octets : List ℕ → Result Value LeafFailure
utf8_octets o = if is_utf8 o then Ok (Value.text o) else Err (LeafFailure.because (Cause.custom AVN_NO_UTF8.now))

-- The octets of a hexadecimal text, or the failure.
abbrev pub octets_or : Result (List ℕ) FromHexError → Result Value LeafFailure
octets_or (Ok o) = Ok (Value.octets o)
octets_or (Err e) = Err (LeafFailure.because Cause.invalid_jer_octet_string)

-- The value, or the failure of what is wrong.
abbrev pub or_blame : Result Value Cause → Result Value LeafFailure
or_blame (Ok v) = Ok v
or_blame (Err w) = Err (LeafFailure.because w)

-- The length that a JSON value is, if it is a number that can be one.
abbrev pub length_in : Data → Option ℕ
length_in d = option_and_then as_u64 (as_number d)

-- The bits of digits and a length, if both are there, or the failure.
abbrev pub declared_bits : Option (List ℕ) → Option ℕ → Result Value LeafFailure
declared_bits (Some digits) (Some size) = or_blame (sized_bits None size no_bits (decode_of digits))
declared_bits digits size = Err (LeafFailure.mismatch (needed Notation.jer (Bits None)))

-- The value of this kind that a tree is, or why it is none.
abbrev pub as_leaf : Notation → LeafKind → Tree → Result Value LeafFailure
as_leaf Notation.jer Null (Tree.json Data.null) = Ok Value.null
as_leaf Notation.avn Null (Tree.avn AvnTree.null) = Ok Value.null
as_leaf Notation.jer Boolean (Tree.json (Data.boolean b)) = Ok (Value.boolean b)
as_leaf Notation.avn Boolean (Tree.avn (AvnTree.boolean b)) = Ok (Value.boolean b)
as_leaf Notation.jer Number (Tree.json (Data.number (Num.unsigned n))) = Ok (Value.int (pos n))
as_leaf Notation.jer Number (Tree.json (Data.number (Num.negative z))) = Ok (Value.int z)
as_leaf Notation.avn Number (Tree.avn (AvnTree.integer x)) = number_or (LeafFailure.because (Cause.integer_parse_error x)) (signed_number x)
as_leaf Notation.jer Text (Tree.json (Data.string x)) = Ok (Value.text x)
as_leaf Notation.avn Text (Tree.avn (AvnTree.char_string x)) = Ok (Value.text x)
as_leaf Notation.avn Text (Tree.avn (AvnTree.octet_string o)) = utf8_octets o
as_leaf Notation.jer Time (Tree.json (Data.string x)) = Ok (Value.text x)
as_leaf Notation.avn Time (Tree.avn (AvnTree.char_string x)) = Ok (Value.text x)
as_leaf Notation.avn Time (Tree.avn (AvnTree.octet_string o)) = utf8_octets o
as_leaf Notation.jer Date (Tree.json (Data.string x)) = Ok (Value.text x)
as_leaf Notation.avn Date (Tree.avn (AvnTree.char_string x)) = Ok (Value.text x)
as_leaf Notation.avn Date (Tree.avn (AvnTree.octet_string o)) = utf8_octets o
as_leaf Notation.jer Item (Tree.json (Data.string x)) = Ok (Value.item x)
as_leaf Notation.avn Item (Tree.avn (AvnTree.enumerated x)) = Ok (Value.item x)
as_leaf Notation.jer Octets (Tree.json (Data.string x)) = octets_or (decode_of x)
as_leaf Notation.avn Octets (Tree.avn (AvnTree.octet_string o)) = Ok (Value.octets o)
as_leaf Notation.jer Any (Tree.json (Data.string x)) = octets_or (decode_of x)
as_leaf Notation.avn Any (Tree.avn (AvnTree.octet_string o)) = Ok (Value.octets o)
as_leaf Notation.avn Any (Tree.avn t) = Ok (Value.octets (print 0 t))
as_leaf Notation.jer Oid (Tree.json (Data.string x)) = or_blame (dotted_identifier x)
as_leaf Notation.avn Oid (Tree.avn (AvnTree.oid arcs)) = or_blame (checked_identifier (Ok arcs))
as_leaf Notation.avn Oid (Tree.avn (AvnTree.sequence_of ts)) = or_blame (checked_identifier (braced_arcs ts))
as_leaf Notation.jer (Bits None) (Tree.json (Data.object ms)) = declared_bits (option_and_then as_str (get_member (codes "value") ms)) (option_and_then length_in (get_member (codes "length") ms))
as_leaf Notation.jer (Bits None) (Tree.json d) = Err no_object
as_leaf Notation.jer (Bits (Some size)) (Tree.json (Data.string x)) = or_blame (sized_bits (Some size) size Cause.invalid_jer_octet_string (decode_of x))
as_leaf Notation.avn (Bits size) (Tree.avn (AvnTree.bit_string o n)) = Ok (Value.bits (bits_of o n) size)
as_leaf Notation.avn (Bits size) (Tree.avn (AvnTree.octet_string o)) = Ok (Value.bits (all_bits o) size)
as_leaf n k t = Err (LeafFailure.mismatch (needed n k))

-- The kind that the values of a shape without parts have in a notation.
abbrev pub kind_of : Shape → Option LeafKind
kind_of Shape.null = Some Null
kind_of Shape.boolean = Some Boolean
kind_of (Shape.int least greatest width) = Some Number
kind_of (Shape.text a) = Some Text
kind_of Shape.bmp = Some Text
kind_of Shape.utc = Some Time
kind_of Shape.gen = Some Time
kind_of Shape.day = Some Date
kind_of Shape.decimal = Some Text
kind_of (Shape.enum items added) = Some Item
kind_of Shape.octets = Some Octets
kind_of Shape.any = Some Any
kind_of Shape.oid = Some Oid
kind_of (Shape.bits size) = Some (Bits size)
kind_of s = None

-- The value, unless a character is outside the alphabet of the type with this universal tag, after so many characters.
abbrev pub within_alphabet : Tag → Value → Option ℕ → Result Value LeafFailure
within_alphabet tag v None = Ok v
within_alphabet tag v (Some place) = Err (LeafFailure.because (outside_alphabet tag place))

-- The time that a text means, or the failure of one that means none.
abbrev pub time_or : List ℕ → (ℤ → Value) → Option ℤ → Result Value LeafFailure
time_or text value (Some n) = Ok (value n)
time_or text value None = Err (LeafFailure.because (Cause.invalid_date text))

-- Why a text is no number from 2^63 to 2^64-1.
abbrev pub no_decimal : List ℕ → Cause
no_decimal text = Cause.custom (NO_DECIMAL.now ++ text)

-- The value of the shape that a value of its kind is, or why it is none.
abbrev pub refine : Codec → Shape → Value → Result Value LeafFailure
refine c (Shape.int least greatest width) (Value.int n) = if is_between least greatest n then Ok (Value.int n) else Err (LeafFailure.because (Cause.integer_overflow width))
refine c (Shape.enum items added) (Value.item i) = if is_item (all_items items added) i then Ok (Value.item i) else Err (LeafFailure.because (Cause.invalid_enum_discriminant c i))
refine c (Shape.text a) (Value.text t) = within_alphabet (universal_tag (alphabet_number a)) (Value.text t) (place_outside (alphabet_of a) (chars t))
refine c Shape.bmp (Value.text t) = within_alphabet (universal_tag bmp_number) (Value.units (chars t)) (place_outside is_bmp (chars t))
refine c Shape.utc (Value.text t) = time_or t Value.utc (utc_of_text t)
refine c Shape.gen (Value.text t) = time_or t Value.gen (generalized_of_text t)
refine c Shape.day (Value.text t) = time_or t Value.day (day_of_text t)
refine c Shape.decimal (Value.text t) = if is_decimal t then Ok (Value.text t) else Err (LeafFailure.because (no_decimal t))
refine c s v = Ok v

-- The same, of an answer.
abbrev pub refined : Codec → Shape → Result Value LeafFailure → Result Value LeafFailure
refined c s (Ok v) = refine c s v
refined c s (Err b) = Err b

-- What a tree decodes to, or why it decodes to nothing, by a shape whose values have no parts.
abbrev pub leaf : Notation → Shape → Tree → Option (Result Value LeafFailure)
leaf n s t = option_map (λ k. refined (codec_of n) s (as_leaf n k t)) (kind_of s)

-- The value that is put.
abbrev pub leaf_value : Leaf → Value
leaf_value put.Null = Value.null
leaf_value (put.Boolean b) = Value.boolean b
leaf_value (put.Number n) = Value.int (signed n.negative n.magnitude)
leaf_value (put.Text s) = Value.text s.now
leaf_value (put.OwnedText s) = Value.text (string_bytes s)
leaf_value (put.Item s) = Value.item s.now
leaf_value (put.Octets o) = Value.octets o.now
leaf_value (put.Arcs a) = Value.arcs a.now
leaf_value (put.Bits bs size) = Value.bits bs.now size

-- The kind of the answer to what is asked for: a time or a date is returned as its text.
abbrev pub answer_kind : LeafKind → LeafKind
answer_kind Time = Text
answer_kind Date = Text
answer_kind k = k

-- The kind of an answer.
abbrev pub kind_of_owned : OwnedLeaf → LeafKind
kind_of_owned got.Null = Null
kind_of_owned (got.Boolean b) = Boolean
kind_of_owned (got.Number n) = Number
kind_of_owned (got.Text s) = Text
kind_of_owned (got.Item s) = Item
kind_of_owned (got.Octets o) = Octets
kind_of_owned (got.Any o) = Any
kind_of_owned (got.Oid a) = Oid
kind_of_owned (got.Bits bs size) = Bits size

-- The answer is this value.
abbrev pub IsOwned : Value → OwnedLeaf → Type 0
IsOwned v got.Null = v ≡ Value.null
IsOwned v (got.Boolean b) = v ≡ Value.boolean b
IsOwned v (got.Number (Some n)) = v ≡ Value.int (signed n.negative n.magnitude)
IsOwned v (got.Number None) = (negative : Bool) × (magnitude : ℕ) × (v ≡ Value.int (signed negative magnitude)) × (2 ^ 128 ≤ magnitude)
IsOwned v (got.Text s) = v ≡ Value.text (string_bytes s)
IsOwned v (got.Item s) = v ≡ Value.item (string_bytes s)
IsOwned v (got.Octets o) = v ≡ Value.octets o.items
IsOwned v (got.Any o) = v ≡ Value.octets o.items
IsOwned v (got.Oid a) = v ≡ Value.arcs a
IsOwned v (got.Bits bs size) = v ≡ Value.bits bs size
