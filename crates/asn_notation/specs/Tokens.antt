-- The tokens of the notation. A text is the list of its characters.
use Rattle.std.specs.Prelude.{ℕ, List, [], ◌∷◌, Bool, true, ◌&&◌, ◌==◌, codes, if◌then◌else◌, Option, Some, None}
use Rattle.avn_grammar.specs.Chars.{class_of_next, skip, skip_while, starts_with, tail, take_while, is_name}
use Rattle.avn_grammar.specs.declared.chars.CharClass.{CharClass}
use Rattle.avn_grammar.specs.declared.chars.CharClass.TheVariants as is
use Rattle.asn_notation.specs.Keywords.{keyword_named}
use Rattle.asn_notation.specs.declared.keyword.Keyword.{Keyword}

-- What a text begins with, past white space.
pub data Token : Type 0 where
  -- A word: an ASCII letter and all the letters, digits, `-` and `_` that follow it.
  word : List ℕ → Token
  -- `::=`
  assignment : Token
  open_brace : Token
  close_brace : Token
  comma : Token
  -- `...`, which is the extension marker.
  ellipsis : Token
  -- The text ends.
  end : Token
  -- No token.
  unknown : Token

-- The text begins with these characters.
abbrev pub begins : List ℕ → List ℕ → Bool
begins [] u = true
begins (c ∷ cs) u = starts_with (λ d. d == c) u && begins cs (tail u)

-- The token at the front of a text without leading white space that begins with this class.
abbrev pub token_of : CharClass → List ℕ → Token
token_of is.AtEnd w = end
token_of is.Letter w = word (take_while is_name w)
token_of is.OpenBrace w = open_brace
token_of is.CloseBrace w = close_brace
token_of is.Comma w = comma
token_of is.Colon w = if begins (codes "::=") w then assignment else unknown
token_of is.Other w = if begins (codes "...") w then ellipsis else unknown
token_of k w = unknown

-- What follows that token.
abbrev pub past_token_of : CharClass → List ℕ → List ℕ
past_token_of is.AtEnd w = w
past_token_of is.Letter w = skip_while is_name w
past_token_of is.Colon w = tail (tail (tail w))
past_token_of is.Other w = tail (tail (tail w))
past_token_of k w = tail w

-- The token that the text begins with.
unfoldable pub first_token : List ℕ → Token
first_token u = token_of (class_of_next (skip u)) (skip u)

-- What follows that token.
unfoldable pub past_token : List ℕ → List ℕ
past_token u = past_token_of (class_of_next (skip u)) (skip u)

-- The token is there, and no end of the text and no other characters.
abbrev pub IsToken : Token → Type 0
IsToken end = ⊥
IsToken unknown = ⊥
IsToken t = Unit {0}

-- The word that a token is.
abbrev pub word_of : Token → Option (List ℕ)
word_of (word w) = Some w
word_of t = None

-- The reserved word that a word is.
abbrev pub keyword_of : Option (List ℕ) → Option Keyword
keyword_of None = None
keyword_of (Some w) = keyword_named w

-- The word that the text begins with.
abbrev pub word_at : List ℕ → Option (List ℕ)
word_at u = word_of (first_token u)

-- The reserved word that the text begins with.
abbrev pub keyword_at : List ℕ → Option Keyword
keyword_at u = keyword_of (word_at u)
