-- A value that a tree is as one of a kind is of that kind.
use Rattle.std.proofs.Common.{◌≡◌, refl, ℕ, ◌==◌, List, Bool, true, false, Option, Some, None, Result, Ok, Err, length, if◌then◌else◌}
use Rattle.std.specs.Prelude.{codes, option_and_then}
use Rattle.std.specs.Str.{is_utf8}
use Rattle.std.specs.Int.{div_ceil}
use Rattle.std.specs.List.{slice_split}
use Rattle.serde_json.specs.Data.{Data, Num}
use Rattle.serde_json.specs.Find.{as_str, get_member}
use Rattle.serde_json.specs.Written.{compact_text}
use Rattle.hex.specs.Hex.{decode_of}
use Rattle.hex.specs.declared.error.FromHexError.{FromHexError}
use Rattle.avn_grammar.specs.Tree.{Tree as AvnTree}
use Rattle.asn_core.specs.BitStrings.{bits_of}
use Rattle.asn_core.specs.ObjectIdentifiers.{is_object_identifier}
use Rattle.asn_fault.specs.Failure.{Cause}
use Rattle.asn_model.specs.Arcs.{arc_numbers, braced_arcs, checked_identifier, identifier_or, listed_text}
use Rattle.asn_model.specs.BitLeaves.{another_length, no_bits, sized_bits}
use Rattle.asn_model.specs.Digits.{signed_number}
use Rattle.asn_model.specs.Leaf.{LeafFailure, as_leaf, declared_bits, length_in, number_or, octets_or, or_blame, utf8_octets}
use Rattle.asn_model.specs.Notation.{Notation}
use Rattle.asn_model.specs.Tree.{Tree}
use Rattle.asn_model.specs.Value.{Value, is_same_size}
use Rattle.asn_model.specs.declared.leaves.LeafKind.{LeafKind}
use Rattle.asn_model.specs.declared.leaves.LeafKind.TheVariants.{Null, Boolean, Number, Text, Time, Date, Item, Octets, Any, Oid, Bits}
use Rattle.asn_model.specs.declared.words.TheConstants.{AVN_NO_UTF8}
use Rattle.asn_model.proofs.BitsRead.{same-itself}

-- The value is of the kind. A time or a date is a text here.
abbrev pub is_of_kind : LeafKind → Value → Bool
is_of_kind Null Value.null = true
is_of_kind Boolean (Value.boolean b) = true
is_of_kind Number (Value.int n) = true
is_of_kind Text (Value.text t) = true
is_of_kind Time (Value.text t) = true
is_of_kind Date (Value.text t) = true
is_of_kind Item (Value.item i) = true
is_of_kind Octets (Value.octets o) = true
is_of_kind Any (Value.octets o) = true
is_of_kind Oid (Value.arcs a) = is_object_identifier a
is_of_kind (Bits m) (Value.bits bs n) = is_same_size m n
is_of_kind k v = false

-- The value of an answer is so.
abbrev pub Answers : (Value → Type 0) → Result Value LeafFailure → Type 0
Answers P (Ok v) = P v
Answers P (Err b) = Unit {0}

abbrev pub OfKind : LeafKind → Value → Type 0
OfKind k v = is_of_kind k v ≡ true

number-kind : (b : LeafFailure) (o : Option _) → Answers (OfKind Number) (number_or b o)
number-kind b None = tt
number-kind b (Some n) = refl

octets-kind : (r : Result (List ℕ) FromHexError) → Answers (OfKind Octets) (octets_or r)
octets-kind (Ok o) = refl
octets-kind (Err e) = tt

any-kind : (r : Result (List ℕ) FromHexError) → Answers (OfKind Any) (octets_or r)
any-kind (Ok o) = refl
any-kind (Err e) = tt

-- Octets that are UTF-8 are a text, of each kind that is one.
utf8-kind : (k : LeafKind) (o : List ℕ) → is_of_kind k (Value.text o) ≡ true → Answers (OfKind k) (utf8_octets o)
utf8-kind k o is = by (is_utf8 o)
  where
    by : (b : Bool) → Answers (OfKind k) (if b then Ok (Value.text o) else Err (LeafFailure.because (Cause.custom AVN_NO_UTF8.now)))
    by true = is
    by false = tt

identifier-kind : (cause : Cause) (o : Option (List ℕ)) → Answers (OfKind Oid) (or_blame (identifier_or cause o))
identifier-kind cause None = tt
identifier-kind cause (Some arcs) = by (is_object_identifier arcs) refl
  where
    by : (b : Bool) → is_object_identifier arcs ≡ b → Answers (OfKind Oid) (or_blame (if b then Ok (Value.arcs arcs) else Err cause))
    by true e = e
    by false e = tt

checked-kind : (r : Result (List ℕ) Cause) → Answers (OfKind Oid) (or_blame (checked_identifier r))
checked-kind (Ok arcs) = identifier-kind (Cause.invalid_oid (listed_text arcs)) (Some arcs)
checked-kind (Err w) = tt

sized-kind : (mark : Option ℕ) (size : ℕ) (bad : Cause) (r : Result (List ℕ) FromHexError) → Answers (OfKind (Bits mark)) (or_blame (sized_bits mark size bad r))
sized-kind mark size bad (Ok o) = by (length o == div_ceil size 8)
  where
    by : (b : Bool) → Answers (OfKind (Bits mark)) (or_blame (if b then Ok (Value.bits (bits_of o size) mark) else Err (another_length (length o) size)))
    by true = same-itself mark
    by false = tt
sized-kind mark size bad (Err e) = tt

declared-kind : (digits : Option (List ℕ)) (size : Option ℕ) → Answers (OfKind (Bits None)) (declared_bits digits size)
declared-kind (Some x) (Some k) = sized-kind None k no_bits (decode_of x)
declared-kind digits size = tt

-- What a tree is as a value of a kind is of the kind.
pub of_kind : (n : Notation) (k : LeafKind) (t : Tree) → Answers (OfKind k) (as_leaf n k t)
of_kind Notation.jer Null (Tree.json Data.null) = refl
of_kind Notation.avn Null (Tree.avn AvnTree.null) = refl
of_kind Notation.jer Boolean (Tree.json (Data.boolean b)) = refl
of_kind Notation.avn Boolean (Tree.avn (AvnTree.boolean b)) = refl
of_kind Notation.jer Number (Tree.json (Data.number (Num.unsigned n))) = refl
of_kind Notation.jer Number (Tree.json (Data.number (Num.negative z))) = refl
of_kind Notation.avn Number (Tree.avn (AvnTree.integer x)) = number-kind _ (signed_number x)
of_kind Notation.jer Text (Tree.json (Data.string x)) = refl
of_kind Notation.avn Text (Tree.avn (AvnTree.char_string x)) = refl
of_kind Notation.avn Text (Tree.avn (AvnTree.octet_string o)) = utf8-kind Text o refl
of_kind Notation.jer Time (Tree.json (Data.string x)) = refl
of_kind Notation.avn Time (Tree.avn (AvnTree.char_string x)) = refl
of_kind Notation.avn Time (Tree.avn (AvnTree.octet_string o)) = utf8-kind Time o refl
of_kind Notation.jer Date (Tree.json (Data.string x)) = refl
of_kind Notation.avn Date (Tree.avn (AvnTree.char_string x)) = refl
of_kind Notation.avn Date (Tree.avn (AvnTree.octet_string o)) = utf8-kind Date o refl
of_kind Notation.jer Item (Tree.json (Data.string x)) = refl
of_kind Notation.avn Item (Tree.avn (AvnTree.enumerated x)) = refl
of_kind Notation.jer Octets (Tree.json (Data.string x)) = octets-kind (decode_of x)
of_kind Notation.avn Octets (Tree.avn (AvnTree.octet_string o)) = refl
of_kind Notation.jer Any (Tree.json (Data.string x)) = any-kind (decode_of x)
of_kind Notation.avn Any (Tree.avn (AvnTree.octet_string o)) = refl
of_kind Notation.avn Any (Tree.avn t) = refl
of_kind Notation.jer Oid (Tree.json (Data.string x)) = identifier-kind (Cause.invalid_oid_string (compact_text (Data.string x))) (arc_numbers (slice_split (λ c. c == 46) x))
of_kind Notation.avn Oid (Tree.avn (AvnTree.oid arcs)) = checked-kind (Ok arcs)
of_kind Notation.avn Oid (Tree.avn (AvnTree.sequence_of ts)) = checked-kind (braced_arcs ts)
of_kind Notation.jer (Bits None) (Tree.json (Data.object ms)) = declared-kind (option_and_then as_str (get_member (codes "value") ms)) (option_and_then length_in (get_member (codes "length") ms))
of_kind Notation.jer (Bits None) (Tree.json d) = tt
of_kind Notation.jer (Bits (Some size)) (Tree.json (Data.string x)) = sized-kind (Some size) size Cause.invalid_jer_octet_string (decode_of x)
of_kind Notation.avn (Bits size) (Tree.avn (AvnTree.bit_string o n)) = same-itself size
of_kind Notation.avn (Bits size) (Tree.avn (AvnTree.octet_string o)) = same-itself size
of_kind n k t = tt
