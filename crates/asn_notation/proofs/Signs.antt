-- The tokens of printed texts.
use Rattle.std.proofs.Common.{◌≡◌, ℕ, List, [], ◌∷◌, ◌++◌, true, false, Some, refl, sym, ap, ◌∙◌}
use Rattle.std.proofs.lemmas.Bool.{and_parts}
use Rattle.avn_grammar.specs.Chars.{class_of_next, class_of_char, is_letter, is_name, skip, starts_with, all}
use Rattle.avn_grammar.specs.WellFormed.{is_identifier}
use Rattle.avn_grammar.proofs.PrintedTokens.{ident_of}
use Rattle.avn_grammar.proofs.RunsBefore.{lead-letter, skip-lead}
use Rattle.asn_notation.specs.Keywords.{keyword_text, keyword_named}
use Rattle.asn_notation.specs.Printed.{word_text, keyword_print, opened, closed, marker_text}
use Rattle.asn_notation.specs.Starts.{start_of, start_at, start_of_word, start_beside}
use Rattle.asn_notation.specs.Tokens.{Token, first_token, past_token, token_of, past_token_of, word_of, keyword_of, keyword_at}
use Rattle.asn_notation.specs.declared.keyword.Keyword.{Keyword}
use Rattle.asn_notation.specs.declared.keyword.Keyword.TheVariants as keyword

-- The text begins with the token, and the rest follows it.
pub record Begins (u : List ℕ) (t : Token) (rest : List ℕ) : Type 0 where
  pub token : first_token u ≡ t
  pub left : past_token u ≡ rest

-- No character of a word begins the text.
abbrev pub Stops : List ℕ → Type 0
Stops u = starts_with is_name u ≡ false

pub word_begins : (u w rest : List ℕ) → is_identifier w ≡ true → Stops rest → skip u ≡ w ++ rest → Begins u (Token.word w) rest
unfolding first_token past_token
word_begins u w rest i s e =
    let d = ident_of u w rest e i s in
    record { token = ap (λ k. token_of k (skip u)) d.starts ∙ ap (λ x. Token.word x) (sym d.longest); left = ap (λ k. past_token_of k (skip u)) d.starts ∙ sym d.left }

-- An identifier is not skipped.
pub skip-identifier : (w rest : List ℕ) → is_identifier w ≡ true → skip (w ++ rest) ≡ w ++ rest
skip-identifier w rest i =
    skip-lead (w ++ rest) (λ k. let q = lead-letter w rest (and_parts (starts_with is_letter w) (all is_name w) i).0 in let n : ⊥ = cc in n)

pub word_behind : (w rest : List ℕ) → is_identifier w ≡ true → Stops rest → Begins (word_text w rest) (Token.word w) rest
word_behind w rest i s = word_begins (word_text w rest) w rest i s (skip-identifier w rest i)

pub keyword_spelled : (k : Keyword) → is_identifier (keyword_text k) ≡ true
keyword_spelled keyword.Boolean = refl
keyword_spelled keyword.Null = refl
keyword_spelled keyword.Integer = refl
keyword_spelled keyword.Octet = refl
keyword_spelled keyword.Bit = refl
keyword_spelled keyword.String = refl
keyword_spelled keyword.Object = refl
keyword_spelled keyword.Identifier = refl
keyword_spelled keyword.Utf8String = refl
keyword_spelled keyword.NumericString = refl
keyword_spelled keyword.PrintableString = refl
keyword_spelled keyword.VisibleString = refl
keyword_spelled keyword.Ia5String = refl
keyword_spelled keyword.UniversalString = refl
keyword_spelled keyword.GeneralString = refl
keyword_spelled keyword.GraphicString = refl
keyword_spelled keyword.BmpString = refl
keyword_spelled keyword.Sequence = refl
keyword_spelled keyword.Set = refl
keyword_spelled keyword.Of = refl
keyword_spelled keyword.Choice = refl
keyword_spelled keyword.Enumerated = refl
keyword_spelled keyword.Optional = refl

pub keyword_found : (k : Keyword) → keyword_named (keyword_text k) ≡ Some k
unfolding keyword_named
keyword_found keyword.Boolean = refl
keyword_found keyword.Null = refl
keyword_found keyword.Integer = refl
keyword_found keyword.Octet = refl
keyword_found keyword.Bit = refl
keyword_found keyword.String = refl
keyword_found keyword.Object = refl
keyword_found keyword.Identifier = refl
keyword_found keyword.Utf8String = refl
keyword_found keyword.NumericString = refl
keyword_found keyword.PrintableString = refl
keyword_found keyword.VisibleString = refl
keyword_found keyword.Ia5String = refl
keyword_found keyword.UniversalString = refl
keyword_found keyword.GeneralString = refl
keyword_found keyword.GraphicString = refl
keyword_found keyword.BmpString = refl
keyword_found keyword.Sequence = refl
keyword_found keyword.Set = refl
keyword_found keyword.Of = refl
keyword_found keyword.Choice = refl
keyword_found keyword.Enumerated = refl
keyword_found keyword.Optional = refl

pub keyword_behind : (k : Keyword) (rest : List ℕ) → Stops rest → Begins (keyword_print k rest) (Token.word (keyword_text k)) rest
keyword_behind k rest s = word_behind (keyword_text k) rest (keyword_spelled k) s

pub keyword-begins : (u : List ℕ) (k : Keyword) (rest : List ℕ) → Begins u (Token.word (keyword_text k)) rest → keyword_at u ≡ Some k
keyword-begins u k rest b = ap (λ t. keyword_of (word_of t)) b.token ∙ keyword_found k

pub start-begins : (u : List ℕ) (k : Keyword) (rest : List ℕ) → Begins u (Token.word (keyword_text k)) rest → start_at u ≡ start_of k
start-begins u k rest b = ap (λ t. start_of_word (word_of t)) b.token ∙ ap (λ x. start_beside x (keyword_text k)) (keyword_found k)

pub opened_begins : (rest : List ℕ) → Begins (opened rest) Token.open_brace rest
unfolding first_token past_token class_of_char
opened_begins rest = record { token = refl; left = refl }

pub closed_begins : (rest : List ℕ) → Begins (closed rest) Token.close_brace rest
unfolding first_token past_token class_of_char
closed_begins rest = record { token = refl; left = refl }

pub comma_begins : (rest : List ℕ) → Begins (44 ∷ rest) Token.comma rest
unfolding first_token past_token class_of_char
comma_begins rest = record { token = refl; left = refl }

pub marker_begins : (rest : List ℕ) → Begins (marker_text rest) Token.ellipsis rest
unfolding first_token past_token class_of_char
marker_begins rest = record { token = refl; left = refl }

pub assignment_begins : (rest : List ℕ) → Begins (32 ∷ 58 ∷ 58 ∷ 61 ∷ rest) Token.assignment rest
unfolding first_token past_token class_of_char
assignment_begins rest = record { token = refl; left = refl }

pub end_begins : (u : List ℕ) → skip u ≡ [] → first_token u ≡ Token.end
unfolding first_token
end_begins u e = ap (λ x. token_of (class_of_next x) x) e
