-- Numbers within a range and outside it.
use Rattle.std.proofs.Common.{◌≡◌, refl, ap, ◌∙◌, arith, ℤ, ◌≤ℤ◌, ◌<ℤ◌, int_lt, Bool, true, false, not, ◌&&◌, ◌⊎◌, inl, inr}
use Rattle.std.specs.Int.Signed.{lt_z_no}
use Rattle.std.proofs.lemmas.Float.{T_from_true}
use Rattle.std.proofs.lemmas.Int.{ints}
use Rattle.asn_model.specs.Range.{at_most, is_between}
use Rattle.asn_model.proofs.Readables.{and-left, and-right, and-both}

holds : (b : Bool) (x y : ℤ) → int_lt y x ≡ b → x ≤ℤ y → not b ≡ true
holds true x y e h = absurd (omega (arith, ints))
holds false x y e h = refl

fails : (b : Bool) (x y : ℤ) → int_lt y x ≡ b → y <ℤ x → not b ≡ false
fails true x y e h = refl
fails false x y e h = absurd (omega (arith, ints))

and-fails : (a : Bool) → (a && false) ≡ false
and-fails true = refl
and-fails false = refl

pub between : (l g n : ℤ) → l ≤ℤ n → n ≤ℤ g → is_between l g n ≡ true
between l g n low high = and-both (at_most l n) (at_most n g) (holds (int_lt n l) l n refl low) (holds (int_lt g n) n g refl high)

pub outside : (l g n : ℤ) → (n <ℤ l) ⊎ (g <ℤ n) → is_between l g n ≡ false
outside l g n (inl low) = ap (λ b. b && at_most n g) (fails (int_lt n l) l n refl low)
outside l g n (inr high) = ap (λ b. at_most l n && b) (fails (int_lt g n) n g refl high) ∙ and-fails (at_most l n)

pub inside : (l g n : ℤ) → is_between l g n ≡ true → (l ≤ℤ n) × (n ≤ℤ g)
inside l g n e = (lt_z_no (T_from_true _ (and-left (at_most l n) (at_most n g) e)), lt_z_no (T_from_true _ (and-right (at_most l n) (at_most n g) e)))
