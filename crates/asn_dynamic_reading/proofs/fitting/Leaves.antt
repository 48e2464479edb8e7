-- What a tree decodes to by a shape whose values have no parts is a value of the shape, if it is held.
use Rattle.std.proofs.Common.{◌≡◌, refl, subst, ℕ, ℤ, List, Bool, true, false, Option, Some, None, Result, Ok, Err, if◌then◌else◌, chars}
use Rattle.std.specs.Str.{is_utf8}
use Rattle.std.proofs.lemmas.Str.{IsUtf8-from_is_utf8}
use Rattle.avn_grammar.specs.Chars.{all}
use Rattle.avn_grammar.specs.WellFormed.{is_octet}
use Rattle.asn_core.specs.declared.codec.Codec.{Codec}
use Rattle.asn_core.specs.declared.tag.Tag.{Tag}
use Rattle.asn_strings.specs.Alphabets.{all_within, is_bmp, is_graphic, is_ia5, is_numeric, is_printable, is_visible, past_ascii_is_graphic, place_outside}
use Rattle.asn_strings.proofs.Places.{none_is_within}
use Rattle.asn_strings.proofs.Utf8Octets.{octets_within}
use Rattle.asn_times.specs.Meanings.{day_of_text, generalized_of_text, utc_of_text}
use Rattle.asn_model.specs.CharacterStrings.{alphabet_number, alphabet_of, bmp_number, is_string_of, universal_tag}
use Rattle.asn_model.specs.Decimals.{is_decimal}
use Rattle.asn_model.specs.Leaf.{LeafFailure, as_leaf, codec_of, leaf, refine, refined, time_or, within_alphabet}
use Rattle.asn_model.specs.Notation.{Notation}
use Rattle.asn_model.specs.Range.{is_between}
use Rattle.asn_model.specs.Shape.{Alphabet, Shape, all_items, is_item}
use Rattle.asn_model.specs.Tree.{Tree}
use Rattle.asn_model.specs.Value.{Value, is_leaf_of}
use Rattle.asn_model.specs.declared.leaves.LeafKind.{LeafKind}
use Rattle.asn_model.specs.declared.leaves.LeafKind.TheVariants.{Null, Boolean, Number, Text, Time, Date, Item, Octets, Any, Oid, Bits}
use Rattle.asn_model.proofs.Readables.{and-both}
use Rattle.asn_dynamic_reading.specs.fitting.HeldValue.{IsHeldValue}
use Rattle.asn_dynamic_reading.proofs.fitting.LeafKinds.{Answers, is_of_kind, of_kind}

-- The value is one of the shape, if it is held.
abbrev IsLeafOf : Shape → Value → Type 0
IsLeafOf s v = IsHeldValue v → is_leaf_of s v ≡ true

-- A text whose characters are within the alphabet of its type is a value of it.
string-fits : (a : Alphabet) (t : List ℕ) → place_outside (alphabet_of a) (chars t) ≡ None → is_utf8 t ≡ true → all is_octet t ≡ true → is_string_of a t ≡ true
string-fits Alphabet.numeric t e u o = and-both (is_utf8 t) (all_within is_numeric (chars t)) u ((none_is_within is_numeric (chars t)).0 e)
string-fits Alphabet.printable t e u o = and-both (is_utf8 t) (all_within is_printable (chars t)) u ((none_is_within is_printable (chars t)).0 e)
string-fits Alphabet.visible t e u o = and-both (is_utf8 t) (all_within is_visible (chars t)) u ((none_is_within is_visible (chars t)).0 e)
string-fits Alphabet.ia5 t e u o = and-both (is_utf8 t) (all_within is_ia5 (chars t)) u ((none_is_within is_ia5 (chars t)).0 e)
string-fits Alphabet.utf8 t e u o = u
string-fits Alphabet.universal t e u o = u
string-fits Alphabet.general t e u o = o
string-fits Alphabet.graphic t e u o =
    and-both (all is_octet t) (all_within is_graphic t) o (octets_within is_graphic past_ascii_is_graphic t (IsUtf8-from_is_utf8 t u) ((none_is_within is_graphic (chars t)).0 e))

placed-fits : (s : Shape) (tag : Tag) (v : Value) (place : Option ℕ) → (place ≡ None → IsLeafOf s v) → Answers (IsLeafOf s) (within_alphabet tag v place)
placed-fits s tag v None h = h refl
placed-fits s tag v (Some place) h = tt

timed-fits : (s : Shape) (text : List ℕ) (value : ℤ → Value) (o : Option ℤ) → ((k : ℤ) → IsLeafOf s (value k)) → Answers (IsLeafOf s) (time_or text value o)
timed-fits s text value None h = tt
timed-fits s text value (Some k) h = h k

tested-fits : (s : Shape) (b : Bool) (v : Value) (blame : LeafFailure) → (b ≡ true → IsLeafOf s v) → Answers (IsLeafOf s) (if b then Ok v else Err blame)
tested-fits s true v blame h = h refl
tested-fits s false v blame h = tt

no_kind : {P : Type 0} → false ≡ true → P
no_kind e = cc e

-- A value of a kind is refined to one of the shape.
abbrev Refines : Codec → Shape → LeafKind → Type 0
Refines c s k = (v : Value) → is_of_kind k v ≡ true → Answers (IsLeafOf s) (refine c s v)

null-fits : (c : Codec) → Refines c Shape.null Null
null-fits c Value.null e = λ h. refl
null-fits c v e = no_kind e

boolean-fits : (c : Codec) → Refines c Shape.boolean Boolean
boolean-fits c (Value.boolean b) e = λ h. refl
boolean-fits c v e = no_kind e

int-fits : (c : Codec) (l g : ℤ) (w : ℕ) → Refines c (Shape.int l g w) Number
int-fits c l g w (Value.int n) e = tested-fits (Shape.int l g w) (is_between l g n) (Value.int n) _ (λ b h. b)
int-fits c l g w v e = no_kind e

text-fits : (c : Codec) (a : Alphabet) → Refines c (Shape.text a) Text
text-fits c a (Value.text t) e = placed-fits (Shape.text a) (universal_tag (alphabet_number a)) (Value.text t) (place_outside (alphabet_of a) (chars t)) (λ none h. string-fits a t none h.0 h.1)
text-fits c a v e = no_kind e

bmp-fits : (c : Codec) → Refines c Shape.bmp Text
bmp-fits c (Value.text t) e = placed-fits Shape.bmp (universal_tag bmp_number) (Value.units (chars t)) (place_outside is_bmp (chars t)) (λ none h. (none_is_within is_bmp (chars t)).0 none)
bmp-fits c v e = no_kind e

utc-fits : (c : Codec) → Refines c Shape.utc Time
utc-fits c (Value.text t) e = timed-fits Shape.utc t Value.utc (utc_of_text t) (λ k h. h)
utc-fits c v e = no_kind e

gen-fits : (c : Codec) → Refines c Shape.gen Time
gen-fits c (Value.text t) e = timed-fits Shape.gen t Value.gen (generalized_of_text t) (λ k h. h)
gen-fits c v e = no_kind e

day-fits : (c : Codec) → Refines c Shape.day Date
day-fits c (Value.text t) e = timed-fits Shape.day t Value.day (day_of_text t) (λ k h. h)
day-fits c v e = no_kind e

decimal-fits : (c : Codec) → Refines c Shape.decimal Text
decimal-fits c (Value.text t) e = tested-fits Shape.decimal (is_decimal t) (Value.text t) _ (λ b h. b)
decimal-fits c v e = no_kind e

enum-fits : (c : Codec) (items : List (List ℕ)) (added : Option (List (List ℕ))) → Refines c (Shape.enum items added) Item
enum-fits c items added (Value.item i) e = tested-fits (Shape.enum items added) (is_item (all_items items added) i) (Value.item i) _ (λ b h. b)
enum-fits c items added v e = no_kind e

octets-fits : (c : Codec) → Refines c Shape.octets Octets
octets-fits c (Value.octets o) e = λ h. h
octets-fits c v e = no_kind e

any-fits : (c : Codec) → Refines c Shape.any Any
any-fits c (Value.octets o) e = λ h. h
any-fits c v e = no_kind e

oid-fits : (c : Codec) → Refines c Shape.oid Oid
oid-fits c (Value.arcs a) e = λ h. and-both _ _ h e
oid-fits c v e = no_kind e

bits-fits : (c : Codec) (m : Option ℕ) → Refines c (Shape.bits m) (Bits m)
bits-fits c m (Value.bits bs n) e = λ h. e
bits-fits c m v e = no_kind e

refined-fits : (c : Codec) (s : Shape) (k : LeafKind) (r : Result Value LeafFailure) → Answers (λ v. is_of_kind k v ≡ true) r → Refines c s k → Answers (IsLeafOf s) (refined c s r)
refined-fits c s k (Ok v) is h = h v is
refined-fits c s k (Err b) is h = tt

-- What a tree decodes to as a value without parts, if it is one.
abbrev LeafAnswers : Shape → Option (Result Value LeafFailure) → Type 0
LeafAnswers s None = Unit {0}
LeafAnswers s (Some r) = Answers (IsLeafOf s) r

leaf-answers : (n : Notation) (s : Shape) (t : Tree) → LeafAnswers s (leaf n s t)
leaf-answers n Shape.null t = refined-fits (codec_of n) Shape.null Null (as_leaf n Null t) (of_kind n Null t) (null-fits (codec_of n))
leaf-answers n Shape.boolean t = refined-fits (codec_of n) Shape.boolean Boolean (as_leaf n Boolean t) (of_kind n Boolean t) (boolean-fits (codec_of n))
leaf-answers n (Shape.int l g w) t = refined-fits (codec_of n) (Shape.int l g w) Number (as_leaf n Number t) (of_kind n Number t) (int-fits (codec_of n) l g w)
leaf-answers n (Shape.text a) t = refined-fits (codec_of n) (Shape.text a) Text (as_leaf n Text t) (of_kind n Text t) (text-fits (codec_of n) a)
leaf-answers n Shape.bmp t = refined-fits (codec_of n) Shape.bmp Text (as_leaf n Text t) (of_kind n Text t) (bmp-fits (codec_of n))
leaf-answers n Shape.utc t = refined-fits (codec_of n) Shape.utc Time (as_leaf n Time t) (of_kind n Time t) (utc-fits (codec_of n))
leaf-answers n Shape.gen t = refined-fits (codec_of n) Shape.gen Time (as_leaf n Time t) (of_kind n Time t) (gen-fits (codec_of n))
leaf-answers n Shape.day t = refined-fits (codec_of n) Shape.day Date (as_leaf n Date t) (of_kind n Date t) (day-fits (codec_of n))
leaf-answers n Shape.decimal t = refined-fits (codec_of n) Shape.decimal Text (as_leaf n Text t) (of_kind n Text t) (decimal-fits (codec_of n))
leaf-answers n (Shape.enum items added) t = refined-fits (codec_of n) (Shape.enum items added) Item (as_leaf n Item t) (of_kind n Item t) (enum-fits (codec_of n) items added)
leaf-answers n Shape.octets t = refined-fits (codec_of n) Shape.octets Octets (as_leaf n Octets t) (of_kind n Octets t) (octets-fits (codec_of n))
leaf-answers n Shape.any t = refined-fits (codec_of n) Shape.any Any (as_leaf n Any t) (of_kind n Any t) (any-fits (codec_of n))
leaf-answers n Shape.oid t = refined-fits (codec_of n) Shape.oid Oid (as_leaf n Oid t) (of_kind n Oid t) (oid-fits (codec_of n))
leaf-answers n (Shape.bits m) t = refined-fits (codec_of n) (Shape.bits m) (Bits m) (as_leaf n (Bits m) t) (of_kind n (Bits m) t) (bits-fits (codec_of n) m)
leaf-answers n s t = tt

-- What a tree decodes to by a shape whose values have no parts is a value of the shape, if it is held.
pub leaf-fits : (n : Notation) (s : Shape) (t : Tree) (v : Value) → leaf n s t ≡ Some (Ok v) → IsHeldValue v → is_leaf_of s v ≡ true
leaf-fits n s t v e = subst (LeafAnswers s) e (leaf-answers n s t)
