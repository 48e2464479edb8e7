-- What contracts see of a scan.
use Rattle.std.specs.Prelude.{ℕ, List, drop, refl}
use Rattle.std.specs.Coded.{Coded, code_by, coded×, coded_ℕ, coded_list}
use Rattle.std.specs.Str.{chars}

-- A scan's text, as bytes, and how many of its characters were looked at.
pub record Seen : Type 0 where
  pub text : List ℕ
  pub looks : ℕ

-- A scan as a pair.
abbrev pub seen_code : Coded Seen
seen_code = code_by (List ℕ × ℕ) (coded× (coded_list coded_ℕ) coded_ℕ) (λ e. (e.text, e.looks)) (λ p. record { text = p.0; looks = p.1 }) (λ _. refl)

-- The characters of the text from the place on.
unfoldable pub after : List ℕ → ℕ → List ℕ
after text place = chars (drop place text)
