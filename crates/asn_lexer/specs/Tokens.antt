-- The tokens of a text.
use Rattle.std.specs.Prelude.{◌≡◌, ◌≢◌, ℕ, ◌-◌, List, [], ◌∷◌, length, Some, None}
use Rattle.asn_lexer.specs.Pieces.{piece_at}
use Rattle.asn_lexer.specs.declared.kind.Kind.{Kind}
use Rattle.asn_lexer.specs.declared.piece.Piece.TheVariants as piece
use Rattle.asn_lexer.specs.declared.token.Token.{Token}

-- Where a rest of a text of this length begins.
abbrev pub place_before : ℕ → List ℕ → ℕ
place_before total rest = total - length rest

-- From u, a rest of a text of this length, these tokens stand up to the rest w, with blanks and
-- comments between.
pub data Reads (total : ℕ) : List ℕ → List Token → List ℕ → Type 0 where
  reads_none : {u : List ℕ} → Reads total u [] u
  reads_blank : {u v w : List ℕ} {ts : List Token} → piece_at u ≡ Some (piece.Blank, v)
      → Reads total v ts w → Reads total u ts w
  reads_token : {u v w : List ℕ} {ts : List Token} {k : Kind} → piece_at u ≡ Some (piece.Token k, v)
      → Reads total v ts w
      → Reads total u
      (record { kind = k; start = place_before total u; end = place_before total v } ∷ ts) w

-- The text has these tokens: it is nothing but them, blanks and comments.
abbrev pub HasTokens : List ℕ → List Token → Type 0
HasTokens text ts = Reads (length text) text ts []

-- At the place begins the first part of the text that is no token, no blank and no comment.
pub record StopsAt (text : List ℕ) (place : ℕ) : Type 0 where
  pub before : List Token
  pub rest : List ℕ
  pub reads : Reads (length text) text before rest
  pub more : rest ≢ []
  pub stuck : piece_at rest ≡ None
  pub here : place ≡ place_before (length text) rest
