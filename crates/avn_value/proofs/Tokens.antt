-- Tokens between apostrophes that were read.
use Rattle.avn_value.specs.declared.quoted.Radix.{Radix}
use Rattle.avn_value.specs.Radix.{letter_of}
use Rattle.std.specs.Prelude.{Result, Ok}
use Rattle.avn_cursor.specs.HexDigits.{inside, binary_digits, is_bit_value}
use Rattle.avn_cursor.proofs.DigitValues.{values_bits, values_digits}
use Rattle.avn_grammar.specs.Octets.{is_hex, hex_value, are_pairs, octets_of, is_bit, packed}
use Rattle.std.proofs.Common.{◌≡◌, ℕ, List, [], ◌∷◌, ◌++◌, Bool, refl, sym, ap, subst, ◌∙◌, true, false, map, length}
use Rattle.std.proofs.lemmas.List.{length-map}
use Rattle.avn_grammar.specs.declared.chars.CharClass.TheVariants as is
use Rattle.avn_grammar.specs.Chars.{class_of_next, tail, take_while, skip_while, is_not_apostrophe, without_whitespace, all}
use Rattle.avn_grammar.specs.Grammar.{Token, octets_token, bits_token}
use Rattle.avn_grammar.specs.Tree.{octet_string, bit_string}
use Rattle.avn_nodes.proofs.Extending.{extended-octets, extended-bits}
use Rattle.avn_nodes.specs.NodeLists.{NodeList, with_octets}
use Rattle.avn_value.specs.ReadNodes.{IsRead}
use Rattle.avn_nodes.specs.declared.node_kind.NodeKind.TheVariants as kind

pub octets_read : (w r octets : List ℕ) (s then : NodeList) → class_of_next w ≡ is.Apostrophe → skip_while is_not_apostrophe (tail w) ≡ 39 ∷ 72 ∷ r → are_pairs (without_whitespace (take_while is_not_apostrophe (tail w))) ≡ true → octets ≡ octets_of (without_whitespace (take_while is_not_apostrophe (tail w)))
    → then ≡ with_octets kind.OctetString octets 0 s → IsRead (λ t. Token w t r) s then false
octets_read w r octets s then l p h e f = (octet_string octets, subst (λ x. Token w (octet_string x) r) (sym e) (octets_token l p h), refl, f ∙ extended-octets s octets)

pub bits_read : (w r octets : List ℕ) (n : ℕ) (s then : NodeList) → class_of_next w ≡ is.Apostrophe → skip_while is_not_apostrophe (tail w) ≡ 39 ∷ 66 ∷ r → all is_bit (without_whitespace (take_while is_not_apostrophe (tail w))) ≡ true → octets ≡ packed (without_whitespace (take_while is_not_apostrophe (tail w)))
    → n ≡ length (without_whitespace (take_while is_not_apostrophe (tail w))) → then ≡ with_octets kind.BitString octets n s → IsRead (λ t. Token w t r) s then false
bits_read w r octets n s then l p h e k f =
    (bit_string octets n, subst (λ x. Token w (bit_string x n) r) (sym e) (subst (λ m. Token w (bit_string (packed (without_whitespace (take_while is_not_apostrophe (tail w)))) m) r) (sym k) (bits_token l p h)), refl, f ∙ extended-bits s octets n)

-- The digits up to an apostrophe were read, and what follows them.
pub record AreDigits (w vs rest : List ℕ) : Type 0 where
  pub hex : all is_hex (inside (tail w)) ≡ true
  pub values : vs ≡ map hex_value (inside (tail w))
  pub past : rest ≡ skip_while is_not_apostrophe (tail w)

pub digits_read : {E : Type 0} (w z p none vs : List ℕ) (b : Bool) → z ≡ tail w → none ≡ [] → b ≡ true → b ≡ all is_hex (inside z) → (◌≡◌ {A = Result Bool E} (Ok b) (Ok true) → p ≡ skip_while is_not_apostrophe z)
    → (◌≡◌ {A = Result Bool E} (Ok b) (Ok true) → vs ≡ none ++ map hex_value (inside z)) → AreDigits w vs p
digits_read w z p none vs b e f g h k l = record {
  hex = sym (h ∙ ap (λ x. all is_hex (inside x)) e) ∙ g;
  values = l (ap Ok g) ∙ ap (λ x. x ++ map hex_value (inside z)) f ∙ ap (λ x. map hex_value (inside x)) e;
  past = k (ap Ok g) ∙ ap (skip_while is_not_apostrophe) e;
}

pub closed_by : (w vs p r : List ℕ) (j k : Radix) → AreDigits w vs p → p ≡ 39 ∷ letter_of j ∷ r → j ≡ k → skip_while is_not_apostrophe (tail w) ≡ 39 ∷ letter_of k ∷ r
closed_by w vs p r j k d e f = sym d.past ∙ e ∙ ap (λ x. 39 ∷ letter_of x ∷ r) f

-- The digits are bits where their values are.
pub are_bits : (w vs p : List ℕ) (b : Bool) → AreDigits w vs p → all is_bit_value vs ≡ b → all is_bit (inside (tail w)) ≡ b
are_bits w vs p b d e = sym (values_bits (inside (tail w)) d.hex) ∙ ap (all is_bit_value) (sym d.values) ∙ e

pub packed_bits : (w vs p : List ℕ) → AreDigits w vs p → all is_bit (inside (tail w)) ≡ true → packed (binary_digits vs) ≡ packed (inside (tail w))
packed_bits w vs p d h = ap (λ x. packed (binary_digits x)) d.values ∙ ap packed (values_digits (inside (tail w)) h)

pub count_bits : (w vs p : List ℕ) → AreDigits w vs p → length vs ≡ length (inside (tail w))
count_bits w vs p d = ap length d.values ∙ length-map (inside (tail w)) hex_value
