-- The first number that isn't taken.
use Rattle.std.proofs.Common.{◌≡◌, ◌≤◌, ℕ, suc, ℤ, pos, ◌+◌, ◌-◌, ◌<◌, ◌+ℤ◌, List, true, false, if◌then◌else◌, ap, ◌∙◌, arith}
use Rattle.std.specs.Ordering.{int_eq}
use Rattle.std.specs.Set.{is_member}
use Rattle.asn_modules_rules.specs.numbers.Numbered.{first_free}

one_less : (count i : ℕ) → i < count → count - i ≡ suc (count - (i + 1))
one_less count i h = omega arith

pub free_here : (count i : ℕ) (taken : List ℤ) (n : ℤ) → i < count → is_member int_eq taken n ≡ false → first_free (count - i) taken n ≡ n
free_here count i taken n h f =
    ap (λ k. first_free k taken n) (one_less count i h) ∙ ap (λ b. if b then first_free (count - (i + 1)) taken (n +ℤ pos 1) else n) f

pub free_later : (count i : ℕ) (taken : List ℤ) (n : ℤ) → i < count → is_member int_eq taken n ≡ true → first_free (count - i) taken n ≡ first_free (count - (i + 1)) taken (n +ℤ pos 1)
free_later count i taken n h t =
    ap (λ k. first_free k taken n) (one_less count i h) ∙ ap (λ b. if b then first_free (count - (i + 1)) taken (n +ℤ pos 1) else n) t

pub free_last : (count i : ℕ) (taken : List ℤ) (n : ℤ) → count ≤ i → first_free (count - i) taken n ≡ n
free_last count i taken n h = let none : count - i ≡ 0 = omega arith in ap (λ k. first_free k taken n) none
