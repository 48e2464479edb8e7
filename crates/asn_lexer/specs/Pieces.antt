-- What stands at the front of a text.
use Rattle.std.specs.Prelude.{ℕ, List, [], ◌∷◌, codes, drop, Bool, ◌&&◌, ◌==◌, nat_le, if◌then◌else◌, Option, Some}
use Rattle.std.specs.Option.{option_map, option_map_or}
use Rattle.avn_grammar.specs.Chars.{is_digit, is_letter, starts_with}
use Rattle.asn_lexer.specs.Blanks.{is_white, begins_white, past_spaced, past_line_comment, past_block_comment}
use Rattle.asn_lexer.specs.Fronts.{begins}
use Rattle.asn_lexer.specs.Keywords.{keyword_named}
use Rattle.asn_lexer.specs.Signs.{sign_at}
use Rattle.asn_lexer.specs.Words.{word_front, past_word, number_at, past_string, quoted_at}
use Rattle.asn_lexer.specs.declared.kind.Initial.{Initial}
use Rattle.asn_lexer.specs.declared.kind.Initial.TheVariants.{Capital, Small}
use Rattle.asn_lexer.specs.declared.kind.Kind.{Kind}
use Rattle.asn_lexer.specs.declared.kind.Kind.TheVariants.{Name, Reserved, Cstring}
use Rattle.asn_lexer.specs.declared.piece.Piece.{Piece}
use Rattle.asn_lexer.specs.declared.piece.Piece.TheVariants.{Blank, Token}

-- A capital letter.
abbrev pub is_capital : ℕ → Bool
is_capital c = nat_le 65 c && nat_le c 90

-- How a word begins.
abbrev pub initial_of : List ℕ → Initial
initial_of [] = Small
initial_of (c ∷ u) = if is_capital c then Capital else Small

-- A word is reserved, or a name.
abbrev pub word_kind : List ℕ → Kind
word_kind word = option_map_or (λ k. Reserved k) (keyword_named word) (Name (initial_of word))

-- A token of its kind, and what follows it.
abbrev pub as_token : Kind × List ℕ → Piece × List ℕ
as_token found = (Token found.0, found.1)

-- What stands at the front of a text, and what follows it: white space, a comment or the longest
-- token. There is none at the end of the text, before a comment, string or digits without an end,
-- and before any other character.
unfoldable pub piece_at : List ℕ → Option (Piece × List ℕ)
piece_at u =
    if begins_white u then Some (Blank, past_spaced is_white u)
    else if starts_with is_letter u then Some (Token (word_kind (word_front u)), past_word u)
    else if starts_with is_digit u then Some (as_token (number_at u))
    else if begins (codes "--") u then Some (Blank, past_line_comment (drop 2 u))
    else if begins (codes "/*") u
    then option_map (λ v. (Blank, v)) (past_block_comment 0 (drop 2 u))
    else if starts_with (λ c. c == 34) u
    then option_map (λ v. (Token Cstring, v)) (past_string (drop 1 u))
    else if starts_with (λ c. c == 39) u then option_map as_token (quoted_at (drop 1 u))
    else option_map as_token (sign_at u)
