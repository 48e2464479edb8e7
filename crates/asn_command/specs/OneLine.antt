-- Texts on one line.
use Rattle.std.specs.Prelude.{◌≡◌, ◌≢◌, ℕ, List, [], ◌∷◌, All, ◌==◌, if◌then◌else◌, IsUtf8, Option, Some, None, option_map, String, string_bytes}
use Rattle.std.specs.Global.{Global}
use Rattle.asn_command.specs.declared.one_line.Step.{Step}
use Rattle.asn_command.specs.declared.one_line.Step.TheVariants.{Stop, Skip, Put}
use Rattle.asn_command.specs.declared.one_line.Within.{Within}
use Rattle.asn_command.specs.declared.one_line.Within.TheVariants.{Line, Indentation, Text}

-- No byte is a line feed.
abbrev pub HasNoFeed : List ℕ → Type 0
HasNoFeed bytes = All (λ b. b ≢ 10) bytes

-- Where the byte after this one stands. A quote begins or ends a string.
abbrev pub behind : Within → ℕ → Within
behind Line b = if b == 34 then Text else (if b == 10 then Indentation else Line)
behind Indentation b =
    if b == 34 then Text
    else (if b == 10 then Indentation else (if b == 32 then Indentation else Line))
behind Text b = if b == 34 then Line else Text

-- What becomes of a byte: a blank for a line feed, which a string may not have, and nothing for a
-- blank after it.
abbrev pub step_of : Within → ℕ → Step
step_of Line b = if b == 10 then Put 32 else Put b
step_of Indentation b = if b == 10 then Put 32 else (if b == 32 then Skip else Put b)
step_of Text b = if b == 10 then Stop else Put b

-- What becomes of a byte, and what follows.
abbrev pub joined : Step → Option (List ℕ) → Option (List ℕ)
joined Stop rest = None
joined Skip rest = rest
joined (Put b) rest = option_map (λ bytes. b ∷ bytes) rest

-- The bytes on one line, of which the first stands there.
abbrev pub laid : Within → List ℕ → Option (List ℕ)
laid place [] = Some []
laid place (b ∷ bs) = joined (step_of place b) (laid (behind place b) bs)

-- The text on one line, if there is one.
abbrev pub one_line_text : List ℕ → Option (List ℕ)
one_line_text text = laid Line text

-- The text was laid out so, or can't be.
abbrev pub IsLaidOut : List ℕ → Option (String Global) → Type 0
IsLaidOut text (Some line) =
    (one_line_text text ≡ Some (string_bytes line)) × HasNoFeed (string_bytes line)
IsLaidOut text None = (bytes : List ℕ) → one_line_text text ≡ Some bytes → IsUtf8 bytes → ⊥
