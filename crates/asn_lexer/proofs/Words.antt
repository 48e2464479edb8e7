-- How words and strings are passed over, a step at a time.
use Rattle.std.proofs.Common.{◌≡◌, ◌≤◌, ◌<◌, ℕ, zero, suc, ◌-◌, List, [], ◌∷◌, ◌++◌, Bool, true, false, take, drop, length, length-append, arith, if◌then◌else◌, Some, None, refl, ap, sym, ◌∙◌}
use Rattle.std.proofs.Math.Seq.{take-append_seam}
use Rattle.std.proofs.lemmas.Bool.Decides.{nat_tests}
use Rattle.std.specs.Str.{IsAscii}
use Rattle.asn_lexer.specs.Fronts.{begins}
use Rattle.asn_lexer.specs.Words.{continues_word, word_front, past_word, past_string}
use Rattle.asn_lexer.proofs.Fronts.{one_begins}

pub word_goes : (v : List ℕ) → continues_word v ≡ true → past_word v ≡ past_word (drop 1 v)
word_goes [] h = refl
word_goes (c ∷ u) h = ap (λ b. if b then past_word u else c ∷ u) h

pub word_ends : (v : List ℕ) → continues_word v ≡ false → past_word v ≡ v
word_ends [] h = refl
word_ends (c ∷ u) h = ap (λ b. if b then past_word u else c ∷ u) h

pub ruleset word_steps = (word_goes, word_ends)

ascii_more : (c : ℕ) (v : List ℕ) → c < 128 → IsAscii v → IsAscii (c ∷ v)
ascii_more c v l h zero = l
ascii_more c v l h (suc i) = h i

-- The word and what follows it.
pub word_splits : (u : List ℕ) → u ≡ word_front u ++ past_word u
word_splits [] = refl
word_splits (c ∷ u) =
    elim (continues_word (c ∷ u)) as (λ b. c ∷ u ≡ (if b then c ∷ word_front u else []) ++ (if b then past_word u else c ∷ u)) [
      | true ↦ ap (λ v. c ∷ v) (word_splits u)
      | false ↦ refl
    ]

pub word_le : (u : List ℕ) → length (past_word u) ≤ length u
word_le u = omega (arith, ap (λ v. length v) (word_splits u), length-append (word_front u) (past_word u))

pub word_taken : (u : List ℕ) → take (length u - length (past_word u)) u ≡ word_front u
word_taken u =
    let e : length u - length (past_word u) ≡ length (word_front u) = omega (arith, ap (λ v. length v) (word_splits u), length-append (word_front u) (past_word u)) in
    ap (λ n. take n u) e ∙ ap (take (length (word_front u))) (word_splits u) ∙ take-append_seam (word_front u) (past_word u)

-- The character is one of ASCII.
letter_small : (c : ℕ) (u : List ℕ) → continues_word (c ∷ u) ≡ true → c < 128
letter_small c u h = grind (arith, nat_tests)

pub word_ascii : (u : List ℕ) → IsAscii (word_front u)
word_ascii [] = λ i. omega arith
word_ascii (c ∷ u) =
    elim (continues_word (c ∷ u)) as (λ b. continues_word (c ∷ u) ≡ b → IsAscii (if b then c ∷ word_front u else [])) [
      | true ↦ λ h. ascii_more c (word_front u) (letter_small c u h) (word_ascii u)
      | false ↦ λ h i. omega arith
    ] refl

string_two : (c d : ℕ) (u : List ℕ) (a b : Bool) → begins (34 ∷ 34 ∷ []) (c ∷ d ∷ u) ≡ a → begins (34 ∷ []) (c ∷ d ∷ u) ≡ b
    → past_string (c ∷ d ∷ u) ≡ (if a then past_string u else if b then Some (d ∷ u) else past_string (d ∷ u))
string_two c d u a b e f =
    ap (λ x. if x then past_string u else if begins (34 ∷ []) (c ∷ d ∷ u) then Some (d ∷ u) else past_string (d ∷ u)) e
    ∙ ap (λ y. if a then past_string u else if y then Some (d ∷ u) else past_string (d ∷ u)) f

pub string_doubles : (v : List ℕ) → begins (34 ∷ 34 ∷ []) v ≡ true → past_string v ≡ past_string (drop 2 v)
string_doubles [] h = let x : ⊥ = cc in absurd x
string_doubles (c ∷ []) h = absurd (one_begins 34 34 c h)
string_doubles (c ∷ d ∷ u) h = string_two c d u true _ h refl

pub string_ends : (v : List ℕ) → begins (34 ∷ 34 ∷ []) v ≡ false → begins (34 ∷ []) v ≡ true → past_string v ≡ Some (drop 1 v)
string_ends [] e h = let x : ⊥ = cc in absurd x
string_ends (c ∷ []) e h = ap (λ b. if b then Some [] else None) h
string_ends (c ∷ d ∷ u) e h = string_two c d u false true e h

string_on : (c : ℕ) (u : List ℕ) → begins (34 ∷ 34 ∷ []) (c ∷ u) ≡ false → begins (34 ∷ []) (c ∷ u) ≡ false → past_string (c ∷ u) ≡ past_string u
string_on c [] e h = ap (λ b. if b then Some [] else None) h
string_on c (d ∷ u) e h = string_two c d u false false e h

pub string_goes : (v u : List ℕ) (c : ℕ) → v ≡ c ∷ u → begins (34 ∷ 34 ∷ []) v ≡ false → begins (34 ∷ []) v ≡ false → past_string v ≡ past_string u
string_goes v u c s e h = ap past_string s ∙ string_on c u (sym (ap (begins (34 ∷ 34 ∷ [])) s) ∙ e) (sym (ap (begins (34 ∷ [])) s) ∙ h)

pub ruleset string_steps = (string_doubles, string_ends, string_goes)
