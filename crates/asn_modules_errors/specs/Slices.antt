-- The texts of tokens.
use Rattle.std.specs.Prelude.{ℕ, List, slice_range}
use Rattle.asn_lexer.specs.declared.token.Token.{Token}

-- The bytes of the token in its text.
abbrev pub text_of : List ℕ → Token → List ℕ
text_of text t = slice_range text t.start t.end
