-- Lines and columns, a byte further.
use Rattle.std.proofs.Common.{◌≡◌, ℕ, ◌+◌, suc, List, [], ◌∷◌, ◌++◌, Bool, true, false, not, cond, ap, ◌∙◌, arith}
use Rattle.std.proofs.lemmas.List.{reverse-append}
use Rattle.std.proofs.lemmas.List.Sums.{sum_by-append}
use Rattle.std.specs.List.{count_by}
use Rattle.avn_grammar.specs.Chars.{take_while}
use Rattle.asn_lexer.specs.Places.{is_line_feed, begins_char, last_line, line_after, column_after}

counted : (p : ℕ → Bool) (front : List ℕ) (c : ℕ) (n : ℕ) → cond (p c) 1 0 ≡ n → count_by p (front ++ c ∷ []) ≡ count_by p front + n
counted p front c n e = omega (arith, sum_by-append (λ x. cond (p x) 1 0) front (c ∷ []), e)

last_line_of : (front : List ℕ) (c : ℕ) (b : Bool) → is_line_feed c ≡ b → last_line (front ++ c ∷ []) ≡ cond (not b) (c ∷ last_line front) []
last_line_of front c b e = ap (take_while (λ d. not (is_line_feed d))) (reverse-append front (c ∷ [])) ∙ ap (λ x. cond (not x) (c ∷ last_line front) []) e

pub feed_line : (front : List ℕ) (c : ℕ) → is_line_feed c ≡ true → line_after (front ++ c ∷ []) ≡ line_after front + 1
feed_line front c e = omega (arith, counted is_line_feed front c 1 (ap (λ b. cond b 1 0) e))

pub feed_column : (front : List ℕ) (c : ℕ) → is_line_feed c ≡ true → column_after (front ++ c ∷ []) ≡ 1
feed_column front c e = ap (λ l. suc (count_by begins_char l)) (last_line_of front c true e)

pub other_line : (front : List ℕ) (c : ℕ) → is_line_feed c ≡ false → line_after (front ++ c ∷ []) ≡ line_after front
other_line front c e = omega (arith, counted is_line_feed front c 0 (ap (λ b. cond b 1 0) e))

column_on : (front : List ℕ) (c n : ℕ) → is_line_feed c ≡ false → cond (begins_char c) 1 0 ≡ n → column_after (front ++ c ∷ []) ≡ column_after front + n
column_on front c n e h =
    let line : count_by begins_char (last_line (front ++ c ∷ [])) ≡ count_by begins_char (c ∷ last_line front) = ap (count_by begins_char) (last_line_of front c false e) in
    omega (arith, line, sum_by-append (λ x. cond (begins_char x) 1 0) (c ∷ []) (last_line front), h)

pub char_column : (front : List ℕ) (c : ℕ) → is_line_feed c ≡ false → begins_char c ≡ true → column_after (front ++ c ∷ []) ≡ column_after front + 1
char_column front c e h = column_on front c 1 e (ap (λ b. cond b 1 0) h)

pub inner_column : (front : List ℕ) (c : ℕ) → is_line_feed c ≡ false → begins_char c ≡ false → column_after (front ++ c ∷ []) ≡ column_after front
inner_column front c e h = omega (arith, column_on front c 0 e (ap (λ b. cond b 1 0) h))

pub ruleset place_steps = (feed_line, feed_column, other_line, char_column, inner_column)
