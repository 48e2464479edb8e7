-- The first word of a line.
use Rattle.std.proofs.Common.{◌≡◌, ◌≢◌, ◌≤◌, ◌<◌, ◌-◌, ◌==◌, ℕ, suc, List, [], ◌∷◌, ◌++◌, length, take, drop, get_or, Bool, true, false, cond, not, refl, sym, ap, ap₂, ◌∙◌, inl, inr, arith, add-one, drop-cons}
use Rattle.std.specs.Prelude.{All, filter}
use Rattle.std.proofs.Math.Nat.{eq-or-lt_of_le}
use Rattle.std.proofs.Math.Seq.{split_at}
use Rattle.std.proofs.lemmas.Bool.{ne_eqb}
use Rattle.std.proofs.lemmas.List.{take_all, drop_all, length-take-le}
use Rattle.std.proofs.lemmas.List.Elements.{All-from_get_or}
use Rattle.std.proofs.lemmas.List.Sums.{passes_at_first, fails_before_first, prefix_len-le-length}
use Rattle.std.proofs.lemmas.List.Splits.{slice_split_first, slice_split_none}
use Rattle.std.specs.List.{position_or_len, after_first}
use Rattle.std.specs.Io.BufRead.{ends_with_byte, strip_last}
use Rattle.asn_convert.specs.Lines.{is_blank, words}

-- a blank in front is passed over
pub words-blank : (b : ℕ) (xs : List ℕ) → is_blank b ≡ true → words (b ∷ xs) ≡ words xs
words-blank b xs h = rw h refl

-- ---- a byte at the end

last_byte : (xs : List ℕ) (c : ℕ) → 0 < length xs → get_or xs (length xs - 1) 0 ≡ c → xs ≡ take (length xs - 1) xs ++ c ∷ []
last_byte xs c some e =
    let cut = split_at xs (length xs - 1) 0 (omega arith) in
    let none : drop (suc (length xs - 1)) xs ≡ [] = drop_all (suc (length xs - 1)) xs (omega arith) in
    cut ∙ ap (λ ys. take (length xs - 1) xs ++ get_or xs (length xs - 1) 0 ∷ ys) none ∙ ap (λ y. take (length xs - 1) xs ++ y ∷ []) e

keeps_whole : (xs : List ℕ) (c : ℕ) (b : Bool) → ends_with_byte c xs ≡ b → ((front : List ℕ) → xs ≢ front ++ c ∷ []) → xs ≡ cond b (take (length xs - 1) xs) xs
keeps_whole xs c false e none = refl
keeps_whole xs c true e none = absurd (none (take (length xs - 1) xs) (last_byte xs c (grind arith) (grind arith)))

pub no_last : (xs : List ℕ) (c : ℕ) → ((front : List ℕ) → xs ≢ front ++ c ∷ []) → xs ≡ strip_last c xs
no_last xs c none = keeps_whole xs c _ refl none

-- ---- a word in front

keep_word : (w : List ℕ) (ws : List (List ℕ)) → 0 < length w → cond (not (length w == 0)) (w ∷ ws) ws ≡ w ∷ ws
keep_word w ws some = rw (ne_eqb (length w) 0 (λ e. omega arith)) refl

longer : (xs : List ℕ) (n : ℕ) → 0 < n → n ≤ length xs → 0 < length (take n xs)
longer xs n some h = rw (length-take-le n xs h) some

ends_inside : (xs : List ℕ) → 0 < position_or_len is_blank xs → position_or_len is_blank xs < length xs → words xs ≡ take (position_or_len is_blank xs) xs ∷ words (drop (position_or_len is_blank xs) xs)
ends_inside xs some inside =
    let n = position_or_len is_blank xs in
    let blank = passes_at_first is_blank xs 0 inside in
    let rest : words (drop n xs) ≡ words (after_first is_blank xs) =
    ap words (drop-cons xs n 0 inside) ∙ words-blank (get_or xs n 0) (drop (suc n) xs) blank ∙ ap (λ k. words (drop k xs)) (sym (add-one n)) in
    ap (filter (λ w. not (length w == 0))) (slice_split_first is_blank xs 0 inside)
    ∙ keep_word (take n xs) (words (after_first is_blank xs)) (longer xs n some (omega arith))
    ∙ ap (λ ws. take n xs ∷ ws) (sym rest)

ends_with_text : (xs : List ℕ) → 0 < position_or_len is_blank xs → position_or_len is_blank xs ≡ length xs → words xs ≡ take (position_or_len is_blank xs) xs ∷ words (drop (position_or_len is_blank xs) xs)
ends_with_text xs some whole =
    let n = position_or_len is_blank xs in
    let plain : All (λ x. is_blank x ≡ false) xs = All-from_get_or (λ x. is_blank x ≡ false) xs 0 (λ i h. fails_before_first is_blank xs i 0 (omega arith)) in
    ap (filter (λ w. not (length w == 0))) (slice_split_none is_blank xs plain)
    ∙ keep_word xs [] (omega arith)
    ∙ ap₂ (λ w ws. w ∷ ws) (sym (take_all n xs (omega arith))) (ap words (sym (drop_all n xs (omega arith))))

pub words-word : (xs : List ℕ) → 0 < position_or_len is_blank xs → words xs ≡ take (position_or_len is_blank xs) xs ∷ words (drop (position_or_len is_blank xs) xs)
words-word xs some = elim (eq-or-lt_of_le (prefix_len-le-length (λ x. not (is_blank x)) xs)) [ inl e ↦ ends_with_text xs some e | inr h ↦ ends_inside xs some h ]
