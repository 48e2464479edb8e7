-- Why no token begins at a place.
use Rattle.std.specs.Prelude.{ℕ, List, [], ◌∷◌, codes, if◌then◌else◌}
use Rattle.asn_lexer.specs.Fronts.{begins}
use Rattle.asn_modules_errors.specs.declared.no_token.NoToken.{NoToken}
use Rattle.asn_modules_errors.specs.declared.no_token.NoToken.TheVariants.{OpenComment, OpenString, OpenDigits, OtherChar}

-- Why no token begins with these characters, where none does.
abbrev pub no_token_of : List ℕ → NoToken
no_token_of u =
    if begins (codes "/*") u then OpenComment
    else if begins (34 ∷ []) u then OpenString
    else if begins (39 ∷ []) u then OpenDigits
    else OtherChar

abbrev pub no_token_text : NoToken → List ℕ
no_token_text OpenComment = codes "this comment isn't closed"
no_token_text OpenString = codes "this string isn't closed"
no_token_text OpenDigits = codes "these digits aren't closed by 'B or 'H"
no_token_text OtherChar = codes "no token begins with this character"
