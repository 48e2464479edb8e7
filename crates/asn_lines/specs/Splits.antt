-- How bytes are parted at line feeds.
use Rattle.std.specs.Prelude.{◌≡◌, ℕ, ◌<◌, List, [], ◌∷◌, ◌++◌, All, false, length}
use Rattle.asn_lines.specs.Lines.{is_feed}
use Rattle.asn_lines.specs.declared.limits.TheConstants.{MOST_LINES}
use Rattle.asn_streams.specs.Input.{input_limit}

-- No byte is a line feed.
abbrev pub HasNoFeed : List ℕ → Type 0
HasNoFeed bytes = All (λ b. is_feed b ≡ false) bytes

-- The line stands before the first line feed of the bytes, and the rest after it.
pub record IsFirstLine (bytes line rest : List ℕ) : Type 0 where
  pub plain : HasNoFeed line
  pub joined : bytes ≡ line ++ 10 ∷ rest

-- The bytes begin with these lines, each with a line feed after it, and go on with the rest.
pub data Splits : List ℕ → List (List ℕ) → List ℕ → Type 0 where
  no_line : (bytes : List ℕ) → Splits bytes [] bytes
  one_more : (line bytes : List ℕ) (lines : List (List ℕ)) (rest : List ℕ) → HasNoFeed line → Splits bytes lines rest → Splits (line ++ 10 ∷ bytes) (line ∷ lines) rest

-- Behind so many lines, whatever follows the bytes, their first line has more bytes than the limit, or a number above the limit.
pub data IsPastLimit (lines : ℕ) : List ℕ → Type 0 where
  long_line : (long rest : List ℕ) → HasNoFeed long → input_limit < length long → IsPastLimit lines (long ++ rest)
  last_number : (b : ℕ) (rest : List ℕ) → lines ≡ MOST_LINES → IsPastLimit lines (b ∷ rest)
