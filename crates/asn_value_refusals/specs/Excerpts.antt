-- The line of a text around a place of it.
use Rattle.std.specs.Prelude.{◌≡◌, ◌≢◌, ◌⊎◌, ◌-◌, ℕ, List, [], ◌∷◌, ◌++◌, All, chars, codes, drop, encode_utf8_all, length, map, take}
use Rattle.asn_value_refusals.specs.Visible.{visible}
use Rattle.asn_value_refusals.specs.declared.shown.TheConstants.{MOST_SHOWN}

-- No byte is a line feed.
abbrev pub HasNoFeed : List ℕ → Type 0
HasNoFeed bytes = All (λ b. b ≢ 10) bytes

-- The text ends with the line, which has no line feed and follows one, unless it is the whole text.
abbrev pub IsLastLine : List ℕ → List ℕ → Type 0
IsLastLine text line =
    HasNoFeed line × ((text ≡ line) ⊎ ((lines : List ℕ) × (text ≡ lines ++ 10 ∷ line)))

-- The text begins with the line, which has no line feed and stands before one, unless it is the
-- whole text.
abbrev pub IsFirstLine : List ℕ → List ℕ → Type 0
IsFirstLine text line =
    HasNoFeed line × ((text ≡ line) ⊎ ((lines : List ℕ) × (text ≡ line ++ 10 ∷ lines)))

-- How many characters are left out so that at most this many are shown.
abbrev pub left_out : List ℕ → ℕ
left_out cs = length cs - MOST_SHOWN

-- The last characters, at most so many.
abbrev pub shown_before : List ℕ → List ℕ
shown_before cs = drop (left_out cs) cs

-- Characters as they are shown.
abbrev pub shown_text : List ℕ → List ℕ
shown_text cs = encode_utf8_all (map visible cs)

-- A blank for each character.
abbrev pub blanks : List ℕ → List ℕ
blanks cs = encode_utf8_all (map (λ _. 32) cs)

-- Two lines, each after two blanks: what stands around the place on its line, at most so many
-- characters on either side, and a caret below the place.
pub record IsExcerpt (text : List ℕ) (offset : ℕ) (bytes : List ℕ) : Type 0 where
  pub before : List ℕ
  pub after : List ℕ
  pub begins : IsLastLine (take offset text) before
  pub ends : IsFirstLine (drop offset text) after
  pub is : bytes ≡ codes "  "
      ++ ((shown_text (shown_before (chars before)) ++ shown_text (take MOST_SHOWN (chars after))) ++ (codes "\n  " ++ (blanks (shown_before (chars before)) ++ codes "^\n")))
