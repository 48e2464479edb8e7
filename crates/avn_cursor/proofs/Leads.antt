-- What a character is, of what it is to the grammar.
use Rattle.std.proofs.Common.{◌≡◌, ℕ, Bool, true, false, cond, ◌==◌, refl, sym, ap, ◌∙◌}
use Rattle.std.proofs.lemmas.Bool.{eqb-true}
use Rattle.avn_grammar.specs.Chars.{class_of_char, is_space, is_letter, is_digit}
use Rattle.avn_grammar.specs.declared.chars.CharClass.{CharClass}
use Rattle.avn_grammar.specs.declared.chars.CharClass.TheVariants as is

-- The test of the characters that are a letter, a digit or a quote to the grammar.
abbrev test_of : CharClass → ℕ → Bool
test_of is.Letter c = is_letter c
test_of is.Digit c = is_digit c
test_of is.Quote c = c == 34
test_of _ c = true

chosen : (c : ℕ) (b : Bool) (x y : CharClass) → (b ≡ true → test_of x c ≡ true) → test_of y c ≡ true → test_of (cond b x y) c ≡ true
chosen c true x y f g = f refl
chosen c false x y f g = g

passes_its_test : (c : ℕ) → test_of (class_of_char c) c ≡ true
unfolding class_of_char
passes_its_test c =
    chosen c (is_space c) _ _ (λ h. refl) (chosen c (is_letter c) _ _ (λ h. h) (chosen c (is_digit c) _ _ (λ h. h) (chosen c (c == 45) _ _ (λ h. refl) (chosen c (c == 34) _ _ (λ h. h)
    (chosen c (c == 39) _ _ (λ h. refl) (chosen c (c == 123) _ _ (λ h. refl) (chosen c (c == 125) _ _ (λ h. refl) (chosen c (c == 44) _ _ (λ h. refl) (chosen c (c == 58) _ _ (λ h. refl)
    (chosen c (c == 95) _ _ (λ h. refl) refl))))))))))

pub lead_letter : (c : ℕ) → class_of_char c ≡ is.Letter → is_letter c ≡ true
lead_letter c h = ap (λ k. test_of k c) (sym h) ∙ passes_its_test c

pub lead_digit : (c : ℕ) → class_of_char c ≡ is.Digit → is_digit c ≡ true
lead_digit c h = ap (λ k. test_of k c) (sym h) ∙ passes_its_test c

pub lead_quote : (c : ℕ) → class_of_char c ≡ is.Quote → c ≡ 34
lead_quote c h = eqb-true c 34 (ap (λ k. test_of k c) (sym h) ∙ passes_its_test c)
