-- Values that are texts, as they are written and read.
use Rattle.std.proofs.Common.{◌≡◌, refl, sym, ap, ◌∙◌, subst, ℕ, ℤ, List, ◌∷◌, Bool, true, false, Some, None, Result, Ok, Err, ◌⊎◌, inl, inr, true≢false, String, Global, string_bytes, IfOk, IfErr, OnOk}
use Rattle.std.specs.Str.{chars, is_utf8, IsUtf8}
use Rattle.std.specs.Str.Lossy.{utf8_valid_len}
use Rattle.std.proofs.lemmas.Str.{IsUtf8-from_is_utf8, IsUtf8-string_bytes, is_utf8-from_IsUtf8}
use Rattle.serde_json.specs.Data.{Data}
use Rattle.avn_grammar.specs.Tree.{Tree as AvnTree}
use Rattle.asn_core.specs.declared.codec.Codec.{Codec}
use Rattle.asn_core.specs.declared.codec.Codec.TheVariants.{Ber}
use Rattle.asn_core.specs.declared.tag.Tag.{Tag}
use Rattle.asn_fault.specs.Failure.{Failure, Cause, at_root, failure_of}
use Rattle.asn_fault.specs.EncodeCause.{EncodeCause}
use Rattle.asn_fault.specs.declared.decode.DecodeError.{DecodeError}
use Rattle.asn_fault.specs.declared.encode.EncodeError.{EncodeError}
use Rattle.asn_strings.specs.Alphabets.{place_outside}
use Rattle.asn_strings.specs.Refusals.{refused_place}
use Rattle.asn_strings.specs.declared.fault.StringFault.{StringFault}
use Rattle.asn_strings.specs.declared.fault.StringFault.TheVariants as string
use Rattle.asn_times.specs.declared.faults.TimeFault.{TimeFault}
use Rattle.asn_times.specs.declared.faults.TimeFault.TheVariants as time
use Rattle.asn_model.specs.Canonical.{avn_tree, canonical_tree, jer_data}
use Rattle.asn_model.specs.CharacterStrings.{alphabet_number, alphabet_of, outside_alphabet, universal_tag}
use Rattle.asn_model.specs.Leaf.{LeafFailure, codec_of, kind_of, refine, within_alphabet, IsOwned}
use Rattle.asn_model.specs.Notation.{Notation, notation_of}
use Rattle.asn_model.specs.Shape.{Alphabet, Shape}
use Rattle.asn_model.specs.Tree.{Slot, Tree}
use Rattle.asn_model.specs.Value.{Fits, Value, is_leaf_of}
use Rattle.asn_model.specs.Writable.{FirstUnencodable, Writable, no_unicode, outside_years}
use Rattle.asn_model.specs.declared.leaves.LeafKind.{LeafKind}
use Rattle.asn_model.specs.declared.leaves.OwnedLeaf.{OwnedLeaf}
use Rattle.asn_coding.specs.Answer.{Answer, OfPlace}
use Rattle.asn_coding.specs.Opening.{IsLeaf}
use Rattle.asn_types.specs.TextTypes.{IsNoText, IsPutTime, IsStringRefusal, IsTimeOf, MakesOfText, IsEncodeFailure}
use Rattle.asn_coding.specs.Writing.{FailsToEncode, Frame, Puts, Written}
use Rattle.asn_coding.proofs.LeafValues.{leaf_refused, leaf_decodes}
use Rattle.asn_coding.proofs.Refusing.{out_of_memory}

-- What a type makes of the text that was taken is what its reader answers.
pub text_taken : {A : Type 0} {n : Notation} (s : Shape) (k : LeafKind) (value : A → Value) (codec : Codec) (slot : Slot) (before after : List Slot) (x y : OwnedLeaf) (text : List ℕ) (r : Result A DecodeError)
    → kind_of s ≡ Some k → x ≡ y → before ≡ slot ∷ after → IsLeaf n k slot x → ((v : Value) → IsOwned v y → v ≡ Value.text text) → notation_of codec ≡ n → MakesOfText s value codec text r → Answer n s value before r after
text_taken {A} {n} s k value codec slot before after x y text (Ok a) is same was leaf owned of made =
    (slot, was, leaf_decodes s k (value a) slot x y is same leaf (λ v o. ap (refine (codec_of n) s) (owned v o) ∙ made (codec_of n)))
text_taken {A} {n} s k value codec slot before after x y text (Err e) is same was leaf owned of (inl none) =
    leaf_refused s k none.cause none.place slot before after x y (failure_of e) is same was leaf (λ v o. ap (refine (codec_of n) s) (owned v o) ∙ none.refused (codec_of n)) none.is (inl (subst (λ m. OfPlace m none.cause none.place) of none.of))
text_taken s k value codec slot before after x y text (Err e) is same was leaf owned of (inr memory) = out_of_memory codec (failure_of e) memory of

-- A string that was made of a text within the alphabet.
pub string_made : (a : Alphabet) (p : ℕ → Bool) (text : List ℕ) (c : Codec) → alphabet_of a ≡ p → None ≡ place_outside p (chars text) → refine c (Shape.text a) (Value.text text) ≡ Ok (Value.text text)
string_made a p text c same none =
    ap (λ q. within_alphabet (universal_tag (alphabet_number a)) (Value.text text) (place_outside q (chars text))) same
    ∙ ap (within_alphabet (universal_tag (alphabet_number a)) (Value.text text)) (sym none)

-- A text with a character outside, of any type whose values a text is unless it has one.
pub outside_refused : (s : Shape) (tag : Tag) (v : Value) (p : ℕ → Bool) (text : List ℕ) (codec : Codec) (fault : StringFault) (e : Failure)
    → ((c : Codec) → refine c s (Value.text text) ≡ within_alphabet tag v (place_outside p (chars text))) → refused_place {T = Value} (Err fault) ≡ place_outside p (chars text) → IsStringRefusal tag fault codec e
    → IsNoText s text codec e ⊎ (e ≡ at_root Cause.out_of_memory codec)
outside_refused s tag v p text codec (string.Alphabet place) e refines at (inl is) =
    inl (record { cause = outside_alphabet tag place; place = codec; refused = λ c. refines c ∙ ap (within_alphabet tag v) (sym at); is = is; of = refl })
outside_refused s tag v p text codec (string.Alphabet place) e refines at (inr memory) = inr memory
outside_refused s tag v p text codec string.OutOfMemory e refines at memory = inr memory

within_set : (a : Alphabet) (p : ℕ → Bool) (tag : Tag) (text : List ℕ) → alphabet_of a ≡ p → tag ≡ universal_tag (alphabet_number a) → (c : Codec) → refine c (Shape.text a) (Value.text text) ≡ within_alphabet tag (Value.text text) (place_outside p (chars text))
within_set a p tag text same is c =
    ap (λ q. within_alphabet (universal_tag (alphabet_number a)) (Value.text text) (place_outside q (chars text))) same
    ∙ ap (λ t. within_alphabet t (Value.text text) (place_outside p (chars text))) (sym is)

-- A text with a character outside the set of a string type.
pub set_refused : (T : Type 0) (a : Alphabet) (p : ℕ → Bool) (tag : Tag) (text : List ℕ) (codec : Codec) (fault : StringFault) (e : Failure)
    → alphabet_of a ≡ p → tag ≡ universal_tag (alphabet_number a) → refused_place {T = T} (Err fault) ≡ place_outside p (chars text) → IsStringRefusal tag fault codec e
    → IsNoText (Shape.text a) text codec e ⊎ (e ≡ at_root Cause.out_of_memory codec)
set_refused T a p tag text codec (string.Alphabet place) e same is at refused =
    outside_refused (Shape.text a) tag (Value.text text) p text codec (string.Alphabet place) e (within_set a p tag text same is) at refused
set_refused T a p tag text codec string.OutOfMemory e same is at memory = inr memory

-- The time of a text, where the readings of the text are those of the shape.
pub time_made : (s : Shape) (value : ℤ → Value) (text : List ℕ) (codec : Codec) (read : Result ℤ TimeFault) (r : Result ℤ DecodeError) (Reads : ℤ → Type 0) (No : Type 0)
    → ((n : ℤ) (c : Codec) → Reads n → refine c s (Value.text text) ≡ Ok (value n)) → ((c : Codec) → No → refine c s (Value.text text) ≡ Err (LeafFailure.because (Cause.invalid_date text)))
    → IfOk read Reads → IfErr read (λ fault. (fault ≡ time.InvalidDate) × No) → IsTimeOf read text r → MakesOfText s value codec text r
time_made s value text codec (Ok n) r Reads No said refused reads none is = subst (MakesOfText s value codec text) (sym is) (λ c. said n c reads)
time_made s value text codec (Err fault) (Ok n) Reads No said refused reads none is = absurd is
time_made s value text codec (Err fault) (Err e) Reads No said refused reads none is =
    inl (record { cause = Cause.invalid_date text; place = Ber; refused = λ c. refused c none.1; is = is; of = refl })

-- The trees of values that are equal in both notations.
pub same_tree : (n : Notation) (v w : Value) → jer_data v ≡ jer_data w → avn_tree v ≡ avn_tree w → canonical_tree n v ≡ canonical_tree n w
same_tree Notation.jer v w json avn = ap Tree.json json
same_tree Notation.avn v w json avn = ap Tree.avn avn
same_tree Notation.other v w json avn = ap Tree.json json

-- A value that was put as its text is written.
pub text_written : {S : Type 0} {holds : S → List Frame → Type 0} {n : Notation} {old new : S} (s : Shape) (v : Value) (text : List ℕ) → canonical_tree n v ≡ canonical_tree n (Value.text text) → Writable n v → is_leaf_of s v ≡ true
    → Puts holds n (Value.text text) old new → Written holds n s v old new
text_written s v text same can fit puts = record { added = puts.added v same; fit = Fits.fits_leaf fit; writable = can }

no_such : {P : Type 0} {b : Bool} → b ≡ true → b ≡ false → P
no_such e f = absurd (true≢false (sym e ∙ f))

-- A text isn't blocked, so what refuses it is memory, and refuses the value too.
pub text_unwritten : {n : Notation} (v : Value) (text : List ℕ) (e : EncodeError) → is_utf8 text ≡ true → FailsToEncode n (Value.text text) e → FailsToEncode n v e
text_unwritten v text e utf8 (FailsToEncode.no_memory memory) = FailsToEncode.no_memory memory
text_unwritten v text e utf8 (FailsToEncode.blocked blocks of) = no_such utf8 blocks.0
text_unwritten v text e utf8 (FailsToEncode.write_free other) = FailsToEncode.write_free other

-- An error that says why a value is blocked.
pub told_unwritten : {n : Notation} (v : Value) (cause : EncodeCause) (e : EncodeError) → FirstUnencodable n v cause → IsEncodeFailure n cause e → FailsToEncode n v e
told_unwritten v cause e blocks (inl memory) = FailsToEncode.no_memory memory
told_unwritten {n} v cause e blocks (inr told) = FailsToEncode.blocked (subst (FirstUnencodable n v) (sym told.0) blocks) told.1

not_utf8 : (bytes : List ℕ) (b : Bool) → is_utf8 bytes ≡ b → (IsUtf8 bytes → ⊥) → b ≡ false
not_utf8 bytes true e h = absurd (h (IsUtf8-from_is_utf8 bytes e))
not_utf8 bytes false e h = refl

-- Octets that aren't UTF-8 block.
pub octets_block : (n : Notation) (octets : List ℕ) (place : ℕ) → (IsUtf8 octets → ⊥) → place ≡ utf8_valid_len octets → FirstUnencodable n (Value.text octets) (no_unicode n place)
octets_block n octets place none at = (not_utf8 octets (is_utf8 octets) refl none, ap (no_unicode n) at)

-- The tree of a value that is written as a text.
pub text_tree : (n : Notation) (v : Value) (made text : List ℕ) → jer_data v ≡ Data.string made → avn_tree v ≡ AvnTree.char_string made → text ≡ made → canonical_tree n v ≡ canonical_tree n (Value.text text)
text_tree n v made text json avn same = same_tree n v (Value.text made) json avn ∙ ap (λ t. canonical_tree n (Value.text t)) (sym same)

-- What holds of an answer in two ways.
pub both_ok : {A E : Type 0} (r : Result A E) (P Q R : A → Type 0) → ((x : A) → P x → Q x → R x) → IfOk r P → IfOk r Q → IfOk r R
both_ok (Ok x) P Q R f p q = f x p q
both_ok (Err e) P Q R f p q = tt

-- A time whose text was put is written.
pub time_written : {S : Type 0} (holds : S → List Frame → Type 0) (n : Notation) (old new : S) (s : Shape) (v : Value) (written : Result (String Global) TimeFault) (r : Result (Unit {0}) EncodeError)
    → IfOk written (λ text. (canonical_tree n v ≡ canonical_tree n (Value.text (string_bytes text))) × Writable n v) → is_leaf_of s v ≡ true → IsPutTime holds n written old r new → OnOk r (Written holds n s v old new)
time_written holds n old new s v (Ok text) (Ok u) is fit put = text_written s v (string_bytes text) is.0 is.1 fit put
time_written holds n old new s v (Ok text) (Err e) is fit put = tt
time_written holds n old new s v (Err fault) (Ok u) is fit put = absurd put
time_written holds n old new s v (Err fault) (Err e) is fit put = tt

-- A time that isn't written is refused, for its years or for memory.
pub time_unwritten : {S : Type 0} (holds : S → List Frame → Type 0) (n : Notation) (old new : S) (v : Value) (written : Result (String Global) TimeFault) (r : Result (Unit {0}) EncodeError) (Fails : TimeFault → Type 0)
    → (Fails time.InvalidDate → ⊥) → (Fails time.OutOfYears → FirstUnencodable n v outside_years) → IfErr written Fails → IsPutTime holds n written old r new → IfErr r (FailsToEncode n v)
time_unwritten holds n old new v (Ok text) (Ok u) Fails never blocks fails put = tt
time_unwritten holds n old new v (Ok text) (Err e) Fails never blocks fails put = text_unwritten v (string_bytes text) e (is_utf8-from_IsUtf8 (string_bytes text) (IsUtf8-string_bytes text)) put
time_unwritten holds n old new v (Err time.InvalidDate) (Ok u) Fails never blocks fails put = tt
time_unwritten holds n old new v (Err time.OutOfYears) (Ok u) Fails never blocks fails put = tt
time_unwritten holds n old new v (Err time.OutOfMemory) (Ok u) Fails never blocks fails put = tt
time_unwritten holds n old new v (Err time.InvalidDate) (Err e) Fails never blocks fails put = absurd (never fails)
time_unwritten holds n old new v (Err time.OutOfYears) (Err e) Fails never blocks fails put = told_unwritten v outside_years e (blocks fails) put
time_unwritten holds n old new v (Err time.OutOfMemory) (Err e) Fails never blocks fails put = FailsToEncode.no_memory put
