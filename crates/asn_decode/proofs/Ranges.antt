-- Numbers that are one of a type, or none.
use Rattle.std.proofs.Common.{◌≡◌, ℕ, ℤ, pos, Some, None, Ok, Err}
use Rattle.asn_core.specs.Numbers.{OfParts}
use Rattle.asn_core.specs.declared.codec.Codec.{Codec}
use Rattle.asn_fault.specs.Failure.{Cause}
use Rattle.asn_model.specs.Leaf.{LeafFailure, refine}
use Rattle.asn_model.specs.Shape.{Shape}
use Rattle.asn_model.specs.Value.{Value}
use Rattle.asn_coding.proofs.LeafValues.{number_decodes, number_refused}

-- A value that is a number of the type decodes to it.
pub number_is : {A : Type 0} (number : A → ℤ) {least : ℤ} {greatest : ℕ} (width : ℕ) (c : Codec) (v : Value) (x : A) → (n : ℤ) × (v ≡ Value.int n) × OfParts number least greatest n (Some x) → refine c (Shape.int least (pos greatest) width) v ≡ Ok (Value.int (number x))
number_is {A} number {least} {greatest} width c v x (n, is, (same, low, high)) = number_decodes c least (pos greatest) n (number x) width v is same low high

-- A value that is a number outside the type overflows it.
pub number_overflows : {A : Type 0} (number : A → ℤ) {least : ℤ} {greatest : ℕ} (width : ℕ) (c : Codec) (v : Value) → (n : ℤ) × (v ≡ Value.int n) × OfParts {A = A} number least greatest n None → refine c (Shape.int least (pos greatest) width) v ≡ Err (LeafFailure.because (Cause.integer_overflow width))
number_overflows {A} number {least} {greatest} width c v (n, is, out) = number_refused c least (pos greatest) n width v is out
