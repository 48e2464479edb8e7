-- The text of units, one unit at a time.
use Rattle.std.proofs.Common.{◌≡◌, ℕ, ◌+◌, ◌<◌, ◌≤◌, ◌^◌, ⊎_elim, Bool, true, false, cond, not, ◌&&◌, List, [], ◌∷◌, ◌++◌, IsTrue, drop, get_or, length, encode_utf8, refl, sym, ap, ◌∙◌, arith, append_assoc, append-nil, map, ◌%◌}
use Rattle.std.specs.Char.{IsScalar, OutOfScalarRange}
use Rattle.std.specs.Int.{IsInRange}
use Rattle.std.proofs.Math.Utf8.{scalar, scalar_cases}
use Rattle.std.proofs.lemmas.Bool.Decides.{nat_tests}
use Rattle.std.proofs.lemmas.List.{drop_more, at_drop_all, length-append, length-drop}
use Rattle.std.proofs.lemmas.List.Folds.{drop_split}
use Rattle.std.proofs.lemmas.Str.{encode_ascii}
use Rattle.std.specs.List.{slice_range}
use Rattle.asn_strings.specs.Alphabets.{all_within, is_ia5}
use Rattle.asn_strings.specs.Units.{IsTextBefore, has_text, is_surrogate, text_of_units, units_valid_len}
use Rattle.asn_strings.proofs.Utf8Octets.{both}

pub nothing_before : (units : List ℕ) → IsTextBefore units 0 []
nothing_before units = record { text = refl; characters = refl; valid = omega arith }

-- What stands from the place on, where a unit is read there.
read_at : (units : List ℕ) (place unit : ℕ) → place < length units → unit ≡ get_or units place unit
    → drop place units ≡ unit ∷ drop (place + 1) units
read_at units place unit l e =
    drop_more units place unit l ∙ ap (λ u. u ∷ drop (place + 1) units) (sym e)

below_surrogates : (c : ℕ) → c < 55296 → is_surrogate c ≡ false
below_surrogates c h = grind (arith, nat_tests)

above_surrogates : (c : ℕ) → (57344 ≤ c) × (c < 1114112) → is_surrogate c ≡ false
above_surrogates c h = grind (arith, nat_tests)

-- A character is no surrogate.
no_surrogate : (c : ℕ) → IsScalar c → is_surrogate c ≡ false
no_surrogate c e = ⊎_elim (below_surrogates c) (above_surrogates c) (scalar_cases c e)

-- One unit more, a character.
pub one_before : (units : List ℕ) (place unit : ℕ) (written : List ℕ) → place < length units
    → unit ≡ get_or units place unit → IsScalar unit → IsTextBefore units place written
    → IsTextBefore units (place + 1) (written ++ encode_utf8 unit)
one_before units place unit written l e is before =
    let rest = drop (place + 1) units in
    let from = read_at units place unit l e in
    let valid : units_valid_len (drop place units) ≡ 1 + units_valid_len rest =
    ap units_valid_len from
    ∙ ap (λ b. cond (not b) (1 + units_valid_len rest) 0) (no_surrogate unit is) in
    record {
      text = append_assoc written (encode_utf8 unit) (text_of_units rest)
          ∙ ap (λ us. written ++ text_of_units us) (sym from) ∙ before.text;
      characters = ap (λ b. b && has_text rest) (sym is) ∙ ap has_text (sym from)
          ∙ before.characters;
      valid = let v = before.valid in omega arith;
    }

-- What units of ASCII add to the text of the units after them.
record AddsItself (piece rest : List ℕ) : Type 0 where
  text : text_of_units (piece ++ rest) ≡ piece ++ text_of_units rest
  characters : has_text (piece ++ rest) ≡ has_text rest
  valid : units_valid_len (piece ++ rest) ≡ length piece + units_valid_len rest

ascii_is_scalar : (unit : ℕ) → is_ia5 unit ≡ true → scalar unit ≡ true
ascii_is_scalar unit h = grind (arith, nat_tests)

ascii_is_below : (unit : ℕ) → is_ia5 unit ≡ true → unit < 128
ascii_is_below unit h = grind (arith, nat_tests)

ascii_ahead : (piece rest : List ℕ) → IsTrue (all_within is_ia5 piece) → AddsItself piece rest
ascii_ahead [] rest h = record { text = refl; characters = refl; valid = omega arith }
ascii_ahead (unit ∷ piece) rest h =
    let passing = both (is_ia5 unit) (all_within is_ia5 piece) h in
    let others = ascii_ahead piece rest passing.1 in
    let is = ascii_is_scalar unit passing.0 in
    record {
      text = ap (λ bs. bs ++ text_of_units (piece ++ rest))
          (encode_ascii unit (ascii_is_below unit passing.0)) ∙ ap (λ bs. unit ∷ bs) others.text;
      characters = ap (λ b. b && has_text (piece ++ rest)) is ∙ others.characters;
      valid =
          let one : units_valid_len (unit ∷ piece ++ rest) ≡ 1 + units_valid_len (piece ++ rest) =
          ap (λ b. cond (not b) (1 + units_valid_len (piece ++ rest)) 0) (no_surrogate unit is) in
          let v = others.valid in
          omega arith;
    }

-- A piece of ASCII more.
pub piece_before : (units : List ℕ) (place end : ℕ) (written : List ℕ) → place ≤ end
    → end ≤ length units → IsTrue (all_within is_ia5 (slice_range units place end))
    → IsTextBefore units place written
    → IsTextBefore units end (written ++ slice_range units place end)
piece_before units place end written l k within before =
    let piece = slice_range units place end in
    let rest = drop end units in
    let from = drop_split units place end l in
    let ahead = ascii_ahead piece rest within in
    record {
      text = append_assoc written piece (text_of_units rest)
          ∙ ap (λ bs. written ++ bs) (sym ahead.text) ∙ ap (λ us. written ++ text_of_units us) (sym from)
          ∙ before.text;
      characters = sym ahead.characters ∙ ap has_text (sym from) ∙ before.characters;
      valid =
          let v = before.valid in
          let e : units_valid_len (drop place units) ≡ length piece + units_valid_len rest =
          ap units_valid_len from ∙ ahead.valid in
          let all = sym (length-drop place units) ∙ ap length from ∙ length-append piece rest in
          let after = length-drop end units in
          omega arith;
    }

-- All units are characters.
pub all_before : (units : List ℕ) (place : ℕ) (written : List ℕ) → length units ≤ place
    → IsTextBefore units place written
    → (written ≡ text_of_units units) × IsTrue (has_text units)
all_before units place written l before =
    let text : written ++ text_of_units (drop place units) ≡ written =
    at_drop_all (λ us. written ++ text_of_units us) units place l ∙ append-nil written in
    let characters : has_text (drop place units) ≡ true = at_drop_all has_text units place l in
    (sym text ∙ before.text, sym before.characters ∙ characters)

surrogate_in : (c : ℕ) → IsInRange 0xD800 0xDFFF c → is_surrogate c ≡ true
surrogate_in c h = grind (arith, nat_tests)

too_high : (c : ℕ) → c < 2 ^ 16 → 0x11_0000 ≤ c → is_surrogate c ≡ true
too_high c l h = absurd (omega arith)

untold : (c : ℕ) (b : Bool) → scalar c ≡ b → is_surrogate c ≡ true → b ≡ false
untold c true e h = let f : true ≡ false = sym h ∙ no_surrogate c e in cc f
untold c false e h = refl

-- The first unit that is no character.
pub stopped_at : (units : List ℕ) (place unit : ℕ) (written : List ℕ) → place < length units
    → unit ≡ get_or units place unit → unit < 2 ^ 16 → OutOfScalarRange unit
    → IsTextBefore units place written
    → (has_text units ≡ false) × (place ≡ units_valid_len units)
stopped_at units place unit written l e small out before =
    let rest = drop (place + 1) units in
    let from = read_at units place unit l e in
    let is : is_surrogate unit ≡ true =
    ⊎_elim (surrogate_in unit) (too_high unit small) out in
    let none = untold unit (scalar unit) refl is in
    let characters : has_text (drop place units) ≡ false =
    ap has_text from ∙ ap (λ b. b && has_text rest) none in
    let valid : units_valid_len (drop place units) ≡ 0 =
    ap units_valid_len from ∙ ap (λ b. cond (not b) (1 + units_valid_len rest) 0) is in
    (sym before.characters ∙ characters, let v = before.valid in omega arith)

remainder_same : (unit : ℕ) → is_ia5 unit ≡ true → unit % 128 ≡ unit
remainder_same unit h = grind (arith, nat_tests)

-- A unit of ASCII is its own remainder by 128.
pub remainders_same : (units : List ℕ) → IsTrue (all_within is_ia5 units)
    → map (λ unit. unit % 128) units ≡ units
remainders_same [] h = refl
remainders_same (unit ∷ units) h =
    let passing = both (is_ia5 unit) (all_within is_ia5 units) h in
    ap (λ u. u ∷ map (λ v. v % 128) units) (remainder_same unit passing.0)
    ∙ ap (λ us. unit ∷ us) (remainders_same units passing.1)
