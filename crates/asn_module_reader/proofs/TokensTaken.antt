-- What the tokens that are taken are.
use Rattle.std.proofs.Common.{◌≡◌, ◌≢◌, ℕ, ◌<◌, List, [], ◌∷◌, ◌++◌, Bool, true, false, if◌then◌else◌, Some, refl, sym, ap, ◌∙◌, length, arith}
use Rattle.std.proofs.lemmas.Str.Ascii.{encodes-IsAscii}
use Rattle.std.specs.Str.{encode_utf8_all}
use Rattle.avn_cursor.proofs.Steps.{ident-shorter}
use Rattle.avn_grammar.proofs.Digits.{every-front}
use Rattle.avn_grammar.proofs.Runs.{skip-le}
use Rattle.avn_grammar.proofs.RunsBefore.{ascii-every, name-low}
use Rattle.avn_grammar.specs.Chars.{class_of_next, is_name, skip, take_while, skip_while}
use Rattle.avn_grammar.specs.declared.chars.CharClass.{CharClass}
use Rattle.avn_grammar.specs.declared.chars.CharClass.TheVariants as is
use Rattle.asn_notation.specs.Grammar.{separator_of}
use Rattle.asn_notation.specs.Tokens.{Token, IsToken, begins, first_token, past_token, token_of, past_token_of}

-- A token that ends an entry is there.
pub separator_token : (t : Token) (more : Bool) → separator_of t ≡ Some more → IsToken t
separator_token (Token.word w) more e = tt
separator_token Token.assignment more e = tt
separator_token Token.open_brace more e = tt
separator_token Token.close_brace more e = tt
separator_token Token.comma more e = tt
separator_token Token.ellipsis more e = tt
separator_token Token.end more e = let n : ⊥ = cc in n
separator_token Token.unknown more e = let n : ⊥ = cc in n

-- The token behind white space.
pub token_is : (u s : List ℕ) (k : CharClass) (t : Token) → s ≡ skip u → class_of_next s ≡ k → token_of k s ≡ t → t ≡ first_token u
unfolding first_token
token_is u s k t e h m = sym m ∙ sym (ap (λ x. token_of x s) h) ∙ ap (λ x. token_of (class_of_next x) x) e

-- What follows it.
pub past_is : (u s v : List ℕ) (k : CharClass) → s ≡ skip u → class_of_next s ≡ k → v ≡ past_token_of k s → v ≡ past_token u
unfolding past_token
past_is u s v k e h m = m ∙ sym (ap (λ x. past_token_of x s) h) ∙ ap (λ x. past_token_of (class_of_next x) x) e

-- The characters of a word are its bytes.
pub word_bytes : (s bytes old : List ℕ) → old ≡ [] → bytes ≡ old ++ encode_utf8_all (take_while is_name s) → bytes ≡ take_while is_name s
word_bytes s bytes old n e =
    e ∙ ap (λ x. x ++ encode_utf8_all (take_while is_name s)) n ∙ encodes-IsAscii (take_while is_name s) (ascii-every is_name name-low (take_while is_name s) (every-front is_name s))

word_shorter : (s : List ℕ) → class_of_next s ≡ is.Letter → length (skip_while is_name s) < length s
word_shorter s h = ident-shorter s (take_while is_name s) (skip_while is_name s) (record { starts = h; longest = refl; left = refl })

pub word_left : (u s v : List ℕ) → s ≡ skip u → class_of_next s ≡ is.Letter → v ≡ skip_while is_name s → length v < length u
word_left u s v e h m = omega (arith, word_shorter s h, skip-le u, ap (λ (x : List ℕ). length x) e, ap (λ (x : List ℕ). length x) m)

sign_close : (b : Bool) (t : Token) → (t ≡ Token.close_brace → ⊥) → (if b then t else Token.unknown) ≡ Token.close_brace → ⊥
sign_close true t n e = n e
sign_close false t n e = let x : ⊥ = cc in x

-- Only a closing brace is the token of one.
pub close_class : (k : CharClass) (w : List ℕ) → token_of k w ≡ Token.close_brace → k ≡ is.CloseBrace
close_class is.AtEnd w e = let n : ⊥ = cc in absurd n
close_class is.Space w e = let n : ⊥ = cc in absurd n
close_class is.Letter w e = let n : ⊥ = cc in absurd n
close_class is.Digit w e = let n : ⊥ = cc in absurd n
close_class is.Minus w e = let n : ⊥ = cc in absurd n
close_class is.Quote w e = let n : ⊥ = cc in absurd n
close_class is.Apostrophe w e = let n : ⊥ = cc in absurd n
close_class is.OpenBrace w e = let n : ⊥ = cc in absurd n
close_class is.CloseBrace w e = refl
close_class is.Comma w e = let n : ⊥ = cc in absurd n
close_class is.Colon w e = absurd (sign_close (begins (58 ∷ 58 ∷ 61 ∷ []) w) Token.assignment (λ f. let n : ⊥ = cc in n) e)
close_class is.Underscore w e = let n : ⊥ = cc in absurd n
close_class is.Other w e = absurd (sign_close (begins (46 ∷ 46 ∷ 46 ∷ []) w) Token.ellipsis (λ f. let n : ⊥ = cc in n) e)

pub no_brace : (u : List ℕ) → class_of_next (skip u) ≢ is.CloseBrace → first_token u ≡ Token.close_brace → ⊥
unfolding first_token
no_brace u n e = n (close_class (class_of_next (skip u)) (skip u) e)

-- Any other class begins no token.
pub unknown_class : (k : CharClass) (w : List ℕ) → k ≢ is.AtEnd → k ≢ is.Letter → k ≢ is.OpenBrace → k ≢ is.CloseBrace → k ≢ is.Comma → k ≢ is.Colon → k ≢ is.Other → token_of k w ≡ Token.unknown
unknown_class is.AtEnd w a b c d e f g = absurd (a refl)
unknown_class is.Space w a b c d e f g = refl
unknown_class is.Letter w a b c d e f g = absurd (b refl)
unknown_class is.Digit w a b c d e f g = refl
unknown_class is.Minus w a b c d e f g = refl
unknown_class is.Quote w a b c d e f g = refl
unknown_class is.Apostrophe w a b c d e f g = refl
unknown_class is.OpenBrace w a b c d e f g = absurd (c refl)
unknown_class is.CloseBrace w a b c d e f g = absurd (d refl)
unknown_class is.Comma w a b c d e f g = absurd (e refl)
unknown_class is.Colon w a b c d e f g = absurd (f refl)
unknown_class is.Underscore w a b c d e f g = refl
unknown_class is.Other w a b c d e f g = absurd (g refl)
