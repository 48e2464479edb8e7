-- What follows a piece is shorter than what begins with it.
use Rattle.std.proofs.Common.{◌≡◌, ◌≤◌, ◌<◌, ℕ, zero, suc, List, [], ◌∷◌, Bool, true, false, ◌&&◌, ◌||◌, ◌==◌, codes, drop, length, length-drop, if◌then◌else◌, Option, Some, None, refl, ap, subst, ◌∙◌, arith}
use Rattle.std.specs.Prelude.{IfSome}
use Rattle.std.specs.Option.{option_map, option_or}
use Rattle.avn_grammar.specs.Chars.{is_digit, is_letter, skip_while, starts_with}
use Rattle.avn_grammar.specs.Octets.{is_hex}
use Rattle.avn_grammar.proofs.Runs.{past-le, past-step}
use Rattle.asn_lexer.specs.Blanks.{is_white, no_break_space, begins_white, past_spaced, ends_line, past_line_comment, past_block_comment}
use Rattle.asn_lexer.specs.Fronts.{begins}
use Rattle.asn_lexer.specs.Pieces.{as_token, piece_at}
use Rattle.asn_lexer.specs.Runs.{is_bit_or_white, is_hex_or_white}
use Rattle.asn_lexer.specs.Signs.{long_signs, sign_among, sign_of_char, short_sign_at, sign_at}
use Rattle.asn_lexer.specs.Words.{is_word_char, continues_word, past_word, begins_hex, begins_fraction, begins_exponent, past_sign, past_exponent, behind_digits, number_at, past_string, quoted_at}
use Rattle.asn_lexer.specs.declared.kind.Kind.{Kind}
use Rattle.asn_lexer.specs.declared.kind.Kind.TheVariants as kind
use Rattle.asn_lexer.specs.declared.piece.Piece.{Piece}
use Rattle.asn_lexer.specs.declared.piece.Piece.TheVariants.{Blank, Token}
use Rattle.asn_lexer.proofs.Spaces.{spaced_le, spaced_passes, spaced_skips}
use Rattle.asn_lexer.proofs.Words.{word_goes, word_le}

-- What holds either way holds of the choice.
either_way : {A : Type 0} (P : A → Type 0) (b : Bool) (x y : A) → (b ≡ true → P x) → (b ≡ false → P y) → P (if b then x else y)
either_way P true x y f g = f refl
either_way P false x y f g = g refl

drop_le : (n : ℕ) (u : List ℕ) → length (drop n u) ≤ length u
drop_le n u = omega (arith, length-drop n u)

-- The rest is at most, or less than, so long.
abbrev AtMost : ℕ → Option (List ℕ) → Type 0
AtMost n o = IfSome o (λ v. length v ≤ n)

abbrev Below : {A : Type 0} → ℕ → Option (A × List ℕ) → Type 0
Below n o = IfSome o (λ p. length p.1 < n)

line_le : (u : List ℕ) → length (past_line_comment u) ≤ length u
line_le [] = omega arith
line_le (c ∷ u) =
    either_way (λ v. length v ≤ length (c ∷ u)) (begins (codes "--") (c ∷ u)) (drop 1 u) (if ends_line c then c ∷ u else past_line_comment u) (λ _. omega (arith, drop_le 1 u)) (λ _.
    either_way (λ v. length v ≤ length (c ∷ u)) (ends_line c) (c ∷ u) (past_line_comment u) (λ _. omega arith) (λ _. omega (arith, line_le u)))

at_most : (m n : ℕ) (o : Option (List ℕ)) → m ≤ n → AtMost m o → AtMost n o
at_most m n None l h = tt
at_most m n (Some v) l h = omega (arith, l, h)

block_le : (n : ℕ) (u : List ℕ) → AtMost (length u) (past_block_comment n u)
block_le n [] = tt
block_le n (c ∷ []) = tt
block_le zero (c ∷ d ∷ u) =
    either_way (AtMost (length (c ∷ d ∷ u))) (begins (codes "*/") (c ∷ d ∷ u)) (Some u) (if begins (codes "/*") (c ∷ d ∷ u) then past_block_comment 1 u else past_block_comment zero (d ∷ u)) (λ _. omega arith) (λ _.
    either_way (AtMost (length (c ∷ d ∷ u))) (begins (codes "/*") (c ∷ d ∷ u)) (past_block_comment 1 u) (past_block_comment zero (d ∷ u))
    (λ _. at_most (length u) _ (past_block_comment 1 u) (omega arith) (block_le 1 u)) (λ _. at_most (length (d ∷ u)) _ (past_block_comment zero (d ∷ u)) (omega arith) (block_le zero (d ∷ u))))
block_le (suc n) (c ∷ d ∷ u) =
    either_way (AtMost (length (c ∷ d ∷ u))) (begins (codes "*/") (c ∷ d ∷ u)) (past_block_comment n u) (if begins (codes "/*") (c ∷ d ∷ u) then past_block_comment (suc (suc n)) u else past_block_comment (suc n) (d ∷ u))
    (λ _. at_most (length u) _ (past_block_comment n u) (omega arith) (block_le n u)) (λ _.
    either_way (AtMost (length (c ∷ d ∷ u))) (begins (codes "/*") (c ∷ d ∷ u)) (past_block_comment (suc (suc n)) u) (past_block_comment (suc n) (d ∷ u))
    (λ _. at_most (length u) _ (past_block_comment (suc (suc n)) u) (omega arith) (block_le (suc (suc n)) u)) (λ _. at_most (length (d ∷ u)) _ (past_block_comment (suc n) (d ∷ u)) (omega arith) (block_le (suc n) (d ∷ u))))

string_le : (u : List ℕ) → AtMost (length u) (past_string u)
string_le [] = tt
string_le (c ∷ []) = either_way (AtMost 1) (begins (34 ∷ []) (c ∷ [])) (Some []) None (λ _. omega arith) (λ _. tt)
string_le (c ∷ d ∷ u) =
    either_way (AtMost (length (c ∷ d ∷ u))) (begins (34 ∷ 34 ∷ []) (c ∷ d ∷ u)) (past_string u) (if begins (34 ∷ []) (c ∷ d ∷ u) then Some (d ∷ u) else past_string (d ∷ u))
    (λ _. at_most (length u) _ (past_string u) (omega arith) (string_le u)) (λ _.
    either_way (AtMost (length (c ∷ d ∷ u))) (begins (34 ∷ []) (c ∷ d ∷ u)) (Some (d ∷ u)) (past_string (d ∷ u)) (λ _. omega arith)
    (λ _. at_most (length (d ∷ u)) _ (past_string (d ∷ u)) (omega arith) (string_le (d ∷ u))))

or_false : (b : Bool) → (b || false) ≡ true → b ≡ true
or_false true h = refl
or_false false h = h

letter_continues : (c : ℕ) (u : List ℕ) → is_letter c ≡ true → continues_word (c ∷ u) ≡ true
letter_continues c u h = ap (λ b. (b || is_digit c || (c == 95)) || ((c == 45) && starts_with is_word_char u)) h

word_lt : (c : ℕ) (u : List ℕ) → is_letter c ≡ true → length (past_word (c ∷ u)) < suc (length u)
word_lt c u h = omega (arith, ap (λ v. length v) (word_goes (c ∷ u) (letter_continues c u h)), word_le u)

run_lt : (p : ℕ → Bool) (c : ℕ) (u : List ℕ) → p c ≡ true → length (skip_while p (c ∷ u)) < suc (length u)
run_lt p c u h = omega (arith, ap (λ v. length v) (past-step p (c ∷ u) u c h refl), past-le p u)

-- What follows white space is shorter.
white_lt : (c : ℕ) (u : List ℕ) → begins_white (c ∷ u) ≡ true → length (past_spaced is_white (c ∷ u)) < suc (length u)
white_lt c u h =
    elim (begins no_break_space (c ∷ u)) as (λ a. begins no_break_space (c ∷ u) ≡ a → (is_white c || a) ≡ true → length (past_spaced is_white (c ∷ u)) < suc (length u)) [
      | true ↦ λ e _. omega (arith, ap (λ v. length v) (spaced_skips is_white (c ∷ u) e), spaced_le is_white (drop 1 u), drop_le 1 u)
      | false ↦ λ e w. omega (arith, ap (λ v. length v) (spaced_passes is_white (c ∷ u) u c refl e (or_false (is_white c) w)), spaced_le is_white u)
    ] refl h

sign_le : (u : List ℕ) → length (past_sign u) ≤ length u
sign_le u = either_way (λ v. length v ≤ length u) (starts_with (λ c. (c == 43) || (c == 45)) u) (drop 1 u) u (λ _. drop_le 1 u) (λ _. omega arith)

exponent_le : (u : List ℕ) → length (past_exponent u) ≤ length u
exponent_le u = either_way (λ v. length v ≤ length u) (begins_exponent u) (skip_while is_digit (past_sign (drop 1 u))) u (λ _. omega (arith, past-le is_digit (past_sign (drop 1 u)), sign_le (drop 1 u), drop_le 1 u)) (λ _. omega arith)

digits_le : (u : List ℕ) → length (behind_digits u).1 ≤ length u
digits_le u =
    either_way {A = Kind × List ℕ} (λ f. length f.1 ≤ length u) (begins_fraction u) (kind.RealNumber, past_exponent (skip_while is_digit (drop 1 u))) (if begins_exponent u then (kind.RealNumber, past_exponent u) else (kind.Number, u))
    (λ _. omega (arith, exponent_le (skip_while is_digit (drop 1 u)), past-le is_digit (drop 1 u), drop_le 1 u)) (λ _.
    either_way {A = Kind × List ℕ} (λ f. length f.1 ≤ length u) (begins_exponent u) (kind.RealNumber, past_exponent u) (kind.Number, u) (λ _. exponent_le u) (λ _. omega arith))

number_lt : (c : ℕ) (u : List ℕ) → is_digit c ≡ true → length (number_at (c ∷ u)).1 < suc (length u)
unfolding number_at
number_lt c u h =
    either_way {A = Kind × List ℕ} (λ f. length f.1 < suc (length u)) (begins_hex (c ∷ u)) (kind.Number, skip_while is_hex (drop 1 u)) (behind_digits (skip_while is_digit (c ∷ u)))
    (λ _. omega (arith, past-le is_hex (drop 1 u), drop_le 1 u)) (λ _. omega (arith, digits_le (skip_while is_digit (c ∷ u)), run_lt is_digit c u h))

quoted_lt : (u : List ℕ) → Below (suc (length u)) (quoted_at u)
unfolding quoted_at
quoted_lt u =
    let v = past_spaced is_bit_or_white u in
    let w = past_spaced is_hex_or_white u in
    either_way (Below (suc (length u))) (begins (codes "'B") v) (Some (kind.Bstring, drop 2 v)) (if begins (codes "'H") w then Some (kind.Hstring, drop 2 w) else None)
    (λ _. omega (arith, drop_le 2 v, spaced_le is_bit_or_white u)) (λ _.
    either_way (Below (suc (length u))) (begins (codes "'H") w) (Some (kind.Hstring, drop 2 w)) None
    (λ _. omega (arith, drop_le 2 w, spaced_le is_hex_or_white u)) (λ _. tt))

-- The signs have characters.
abbrev AreSome : List (List ℕ × Kind) → Type 0
AreSome [] = Unit {0}
AreSome (s ∷ ss) = (0 < length s.0) × AreSome ss

among_lt : (ss : List (List ℕ × Kind)) (c : ℕ) (u : List ℕ) → AreSome ss → Below (suc (length u)) (sign_among ss (c ∷ u))
among_lt [] c u h = tt
among_lt (s ∷ ss) c u h =
    either_way (Below (suc (length u))) (begins s.0 (c ∷ u)) (Some (s.1, drop (length s.0) (c ∷ u))) (sign_among ss (c ∷ u))
    (λ _. omega (arith, length-drop (length s.0) (c ∷ u), h.0)) (λ _. among_lt ss c u h.1)

short_lt : (o : Option Kind) (u : List ℕ) → Below (suc (length u)) (option_map (λ k. (k, u)) o)
short_lt None u = tt
short_lt (Some k) u = omega arith

or_lt : (n : ℕ) (a b : Option (Kind × List ℕ)) → Below n a → Below n b → Below n (option_or a b)
or_lt n None b h k = k
or_lt n (Some x) b h k = h

sign_lt : (c : ℕ) (u : List ℕ) → Below (suc (length u)) (sign_at (c ∷ u))
unfolding sign_at
sign_lt c u = or_lt (suc (length u)) (sign_among long_signs (c ∷ u)) (short_sign_at (c ∷ u))
    (among_lt long_signs c u (omega arith, (omega arith, (omega arith, (omega arith, (omega arith, tt)))))) (short_lt (sign_of_char c) u)

token_lt : (n : ℕ) (o : Option (Kind × List ℕ)) → Below n o → Below n (option_map as_token o)
token_lt n None h = tt
token_lt n (Some f) h = h

rest_lt : (m n : ℕ) (p : Piece) (o : Option (List ℕ)) → m < n → AtMost m o → Below n (option_map (λ v. (p, v)) o)
rest_lt m n p None l h = tt
rest_lt m n p (Some v) l h = omega (arith, l, h)

-- The last of the choices of a piece.
abbrev marks_at : ℕ → List ℕ → Option (Piece × List ℕ)
marks_at c u =
    if c == 34 then option_map (λ v. (Token kind.Cstring, v)) (past_string u)
    else if c == 39 then option_map as_token (quoted_at u)
    else option_map as_token (sign_at (c ∷ u))

marks_lt : (c : ℕ) (u : List ℕ) → Below (suc (length u)) (marks_at c u)
marks_lt c u =
    either_way (Below (suc (length u))) (c == 34) _ _ (λ _. rest_lt (length u) _ (Token kind.Cstring) (past_string u) (omega arith) (string_le u)) (λ _.
    either_way (Below (suc (length u))) (c == 39) _ _ (λ _. token_lt _ (quoted_at u) (quoted_lt u)) (λ _. token_lt _ (sign_at (c ∷ u)) (sign_lt c u)))

begins_lt : (c : ℕ) (u : List ℕ) → Below (suc (length u)) (piece_at (c ∷ u))
unfolding piece_at
begins_lt c u =
    either_way (Below (suc (length u))) (begins_white (c ∷ u)) _ _ (λ h. white_lt c u h) (λ _.
    either_way (Below (suc (length u))) (is_letter c) _ _ (λ h. word_lt c u h) (λ _.
    either_way (Below (suc (length u))) (is_digit c) _ _ (λ h. number_lt c u h) (λ _.
    either_way (Below (suc (length u))) (begins (codes "--") (c ∷ u)) _ _ (λ _. omega (arith, line_le (drop 1 u), drop_le 1 u)) (λ _.
    either_way (Below (suc (length u))) (begins (codes "/*") (c ∷ u)) _ _
    (λ _. rest_lt (length (drop 1 u)) _ Blank (past_block_comment 0 (drop 1 u)) (omega (arith, drop_le 1 u)) (block_le 0 (drop 1 u)))
    (λ _. marks_lt c u)))))

-- At the end stands no piece.
pub none_at_end : (u : List ℕ) → length u < 1 → None ≡ piece_at u
unfolding piece_at sign_at
none_at_end [] l = refl
none_at_end (c ∷ u) l = absurd (omega (arith, l))

pub piece_lt : (u v : List ℕ) (p : Piece) → piece_at u ≡ Some (p, v) → length v < length u
piece_lt [] v p e = let x : ◌≡◌ {A = Option (Piece × List ℕ)} None (Some (p, v)) = none_at_end [] (omega arith) ∙ e in absurd (let y : ⊥ = cc in y)
piece_lt (c ∷ u) v p e = subst (Below (suc (length u))) e (begins_lt c u)
