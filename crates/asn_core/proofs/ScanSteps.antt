-- One step of a scan over a character.
use Rattle.std.proofs.Common.{arith, ℕ, ◌≡◌, ◌+◌, ◌≤◌, [], ◌∷◌, ◌++◌, MatchOption, length, List, Option, Some, None, drop, sym, ap, ◌∙◌, length-drop, ◌<◌, get_or, add-one, drop-cons, take, suc, append_assoc}
use Rattle.std.specs.Str.{IsCharBoundary, IsUtf8, chars, encode_utf8_all}
use Rattle.std.specs.Char.{len_utf8, encode_utf8}
use Rattle.std.proofs.lemmas.List.{nil_from_length}
use Rattle.std.proofs.lemmas.Str.{chars_past_char, drop_past_char, IsCharBoundary-past_char, chars-nil, encode_ascii, length-le-encodes, encodes-chars, IsUtf8-drop}
use lib.Utf8.{encode}
use Rattle.asn_core.specs.Seen.{after}

-- R is the first character of d, and rest is what follows it.
abbrev pub Steps : List ℕ → List ℕ → Option ℕ → Type 0
Steps d rest r = MatchOption r (length d ≡ 0) (λ c. d ≡ encode c ++ rest)

pub looked : (text rest : List ℕ) (p : ℕ) (r : Option ℕ) → IsUtf8 (drop p text) → Steps (drop p text) rest r
    → MatchOption r (after text p ≡ []) (λ c. after text p ≡ c ∷ after text (p + len_utf8 c))
unfolding after
looked text rest p None u h = ap chars (nil_from_length (drop p text) h) ∙ chars-nil
looked text rest p (Some c) u h = chars_past_char (drop p text) rest c u h ∙ ap (λ x. c ∷ chars x) (sym (drop_past_char text rest p c h))

pub stepped : (text rest : List ℕ) (p : ℕ) (r : Option ℕ) → p ≤ length text → IsUtf8 (drop p text) → Steps (drop p text) rest r
    → MatchOption r (p ≡ length text) (λ c. IsCharBoundary text (p + len_utf8 c))
stepped text rest p None le u h = omega (arith, length-drop p text)
stepped text rest p (Some c) le u h = IsCharBoundary-past_char text rest p c le u h

pub given : (X : Type 0) (r : Option ℕ) (d all rest : List ℕ) → all ≡ d → MatchOption r ((length all ≡ 0) × X) (λ c. all ≡ encode c ++ rest) → Steps d rest r
given X None d all rest e h = ap length (sym e) ∙ h.0
given X (Some c) d all rest e h = sym e ∙ h

-- An ASCII byte is a character.
pub ascii_steps : (text : List ℕ) (p : ℕ) → p < length text → get_or text p 0 < 128 → Steps (drop p text) (drop (p + 1) text) (Some (get_or text p 0))
ascii_steps text p h l = drop-cons text p 0 h ∙ ap (λ x. get_or text p 0 ∷ drop x text) (sym (add-one p)) ∙ ap (λ x. x ++ drop (p + 1) text) (sym (encode_ascii (get_or text p 0) l))

-- The first m characters, a character on.
pub take-step : (m k : ℕ) (u v : List ℕ) (c : ℕ) → m ≡ suc k → u ≡ c ∷ v → take m u ≡ c ∷ take k v
take-step m k u v c e f = ap (λ x. take x u) e ∙ ap (take (suc k)) f

pub copy-step : (m k : ℕ) (u v a b w : List ℕ) (c : ℕ) → m ≡ suc k → u ≡ c ∷ v → b ≡ a ++ encode_utf8 c → a ++ encode_utf8_all (take m u) ≡ w → b ++ encode_utf8_all (take k v) ≡ w
copy-step m k u v a b w c e f g h =
    ap (λ x. x ++ encode_utf8_all (take k v)) g ∙ append_assoc a (encode_utf8 c) (encode_utf8_all (take k v)) ∙ ap (λ x. a ++ encode_utf8_all x) (sym (take-step m k u v c e f)) ∙ h

pub count-step : (m k n : ℕ) (u v : List ℕ) (c w : ℕ) → m ≡ suc k → u ≡ c ∷ v → n + length (take m u) ≡ w → n + 1 + length (take k v) ≡ w
count-step m k n u v c w e f h = omega (arith, h, ap (λ (x : List ℕ). length x) (take-step m k u v c e f))

pub after-le : (text : List ℕ) (p : ℕ) → IsUtf8 text → IsCharBoundary text p → length (after text p) ≤ length text
unfolding after
after-le text p u b =
    omega (arith, length-le-encodes (chars (drop p text)), ap (λ (x : List ℕ). length x) (encodes-chars (drop p text) (IsUtf8-drop text p u b)), length-drop p text)
