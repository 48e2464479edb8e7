-- How many bits there are.
use Rattle.std.proofs.Common.{◌≡◌, refl, arith, ℕ, zero, suc, [], ◌∷◌, length, false}
use Rattle.std.proofs.lemmas.List.{length-append}
use Rattle.asn_example_values.specs.Examples.{zeros}

pub length_of_zeros : (n : ℕ) → length (zeros n) ≡ n
length_of_zeros zero = refl
length_of_zeros (suc n) = omega (arith, length-append (zeros n) (false ∷ []), length_of_zeros n)
