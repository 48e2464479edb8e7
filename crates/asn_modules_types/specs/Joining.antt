-- Strings whose lines are joined byte by byte.
use Rattle.std.specs.Prelude.{◌≡◌, ◌≤◌, ℕ, List, ◌++◌, length, take, Bool, true, if◌then◌else◌}
use Rattle.asn_modules_types.specs.Strings.{ends_soon, joined}
use Rattle.asn_modules_types.specs.declared.lines.Joined.{Joined}

-- No more bytes stay than there are, and after the end of a line all do.
pub record IsFirm (j : Joined) : Type 0 where
  pub within : j.firm ≤ length j.bytes.items
  pub all : j.begun ≡ true → take j.firm j.bytes.items ≡ j.bytes.items

abbrev pub if_soon : Bool → ℕ → List ℕ → List ℕ
if_soon soon firm bytes = if soon then take firm bytes else bytes

-- What the string is if these bytes follow.
abbrev pub whole : Joined → List ℕ → List ℕ
whole j u = if_soon (ends_soon u) j.firm j.bytes.items ++ joined j.begun u
