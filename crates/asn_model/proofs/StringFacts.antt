-- A character string that can be written is a text within its alphabet, and is read as that string.
use Rattle.std.proofs.Common.{◌≡◌, refl, ap, ◌∙◌, ℕ, List, Bool, true, ◌&&◌, None, Ok}
use Rattle.std.specs.Str.{chars, is_utf8}
use Rattle.std.proofs.lemmas.Str.{IsUtf8-from_is_utf8, is_utf8-from_IsUtf8, chars-encodes}
use Rattle.avn_grammar.specs.Chars.{all}
use Rattle.avn_grammar.specs.WellFormed.{is_octet}
use Rattle.asn_core.specs.declared.codec.Codec.{Codec}
use Rattle.asn_strings.specs.Alphabets.{all_within, is_any, is_bmp, is_graphic, is_ia5, is_numeric, is_printable, is_visible, past_ascii_is_graphic, place_outside}
use Rattle.asn_strings.specs.Units.{has_text, text_of_units}
use Rattle.asn_strings.proofs.Places.{none_is_within}
use Rattle.asn_strings.proofs.Utf8Octets.{characters_within, every_octet_within}
use Rattle.asn_model.specs.CharacterStrings.{alphabet_number, alphabet_of, bmp_number, is_string_of, universal_tag}
use Rattle.asn_model.specs.Leaf.{refine, within_alphabet}
use Rattle.asn_model.specs.Shape.{Alphabet, Shape}
use Rattle.asn_model.specs.Value.{Value}
use Rattle.asn_model.proofs.Readables.{and-right}

none_where : (p : ℕ → Bool) (t : List ℕ) → (is_utf8 t && all_within p (chars t)) ≡ true → place_outside p (chars t) ≡ None
none_where p t e = (none_is_within p (chars t)).1 (and-right (is_utf8 t) (all_within p (chars t)) e)

none_of_any : (t : List ℕ) → place_outside is_any (chars t) ≡ None
none_of_any t = (none_is_within is_any (chars t)).1 (every_octet_within is_any (λ _. refl) (chars t))

none_of_graphic : (t : List ℕ) → is_utf8 t ≡ true → (all is_octet t && all_within is_graphic t) ≡ true → place_outside is_graphic (chars t) ≡ None
none_of_graphic t u e =
    (none_is_within is_graphic (chars t)).1 (characters_within is_graphic past_ascii_is_graphic t (IsUtf8-from_is_utf8 t u) (and-right (all is_octet t) (all_within is_graphic t) e))

-- A text of the type has no character outside its alphabet.
pub none_outside : (a : Alphabet) (t : List ℕ) → is_utf8 t ≡ true → is_string_of a t ≡ true → place_outside (alphabet_of a) (chars t) ≡ None
none_outside Alphabet.numeric t u e = none_where is_numeric t e
none_outside Alphabet.printable t u e = none_where is_printable t e
none_outside Alphabet.visible t u e = none_where is_visible t e
none_outside Alphabet.ia5 t u e = none_where is_ia5 t e
none_outside Alphabet.utf8 t u e = none_of_any t
none_outside Alphabet.universal t u e = none_of_any t
none_outside Alphabet.general t u e = none_of_any t
none_outside Alphabet.graphic t u e = none_of_graphic t u e

-- A text of the type is a value of it.
pub string_kept : (c : Codec) (a : Alphabet) (t : List ℕ) → is_utf8 t ≡ true → is_string_of a t ≡ true → refine c (Shape.text a) (Value.text t) ≡ Ok (Value.text t)
string_kept c a t u e = ap (within_alphabet (universal_tag (alphabet_number a)) (Value.text t)) (none_outside a t u e)

-- Every text is a UTF8String.
pub utf8_kept : (c : Codec) (t : List ℕ) → refine c (Shape.text Alphabet.utf8) (Value.text t) ≡ Ok (Value.text t)
utf8_kept c t = ap (within_alphabet (universal_tag (alphabet_number Alphabet.utf8)) (Value.text t)) (none_of_any t)

-- The text of units is a value with these units.
pub units_kept : (c : Codec) (us : List ℕ) → has_text us ≡ true → all_within is_bmp us ≡ true → refine c Shape.bmp (Value.text (text_of_units us)) ≡ Ok (Value.units us)
units_kept c us can e =
    ap (λ cs. within_alphabet (universal_tag bmp_number) (Value.units cs) (place_outside is_bmp cs)) (chars-encodes us can)
    ∙ ap (within_alphabet (universal_tag bmp_number) (Value.units us)) ((none_is_within is_bmp us).1 e)

-- It is UTF-8.
pub units_utf8 : (us : List ℕ) → has_text us ≡ true → is_utf8 (text_of_units us) ≡ true
units_utf8 us can = is_utf8-from_IsUtf8 (text_of_units us) (us, (can, refl))
