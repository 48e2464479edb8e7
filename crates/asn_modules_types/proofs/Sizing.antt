-- Sizes of types.
use Rattle.std.proofs.Common.{◌≡◌, ◌≤◌, ◌<◌, ◌+◌, ◌^◌, ℕ, ℤ, pos, negsuc, List, true, false, Bool, if◌then◌else◌, nat_eq, nat_lt, Option, Some, None, Result, Ok, Err, refl, sym, ap, ◌∙◌, arith, drop, get_or, length, w64}
use Rattle.std.proofs.lemmas.Bool.{eq-eqb, eqb-true, lt-ltb, ltb-true}
use Rattle.std.proofs.lemmas.Int.{ints}
use Rattle.std.proofs.lemmas.List.{drop_all, drop_more}
use Rattle.std.specs.Int.{FitsUnsigned}
use Rattle.std.specs.Option.{option_and_then}
use Rattle.std.specs.Prelude.{unsigned_abs}
use Rattle.std.specs.Result.{OkIff, result_ok}
use Rattle.asn_expansion.specs.Expansion.{of_both}
use Rattle.asn_lexer.specs.declared.kind.Kind.{Kind}
use Rattle.asn_lexer.specs.declared.kind.Kind.TheVariants as kind
use Rattle.asn_lexer.specs.declared.token.Token.{Token}
use Rattle.asn_model.specs.Shape.{Shape}
use Rattle.asn_modules_grammar.specs.declared.notation.size.Size.{Size}
use Rattle.asn_modules_grammar.specs.declared.notation.value.Value.TheVariants as value
use Rattle.asn_modules_types.specs.Numbers.{number_at}
use Rattle.asn_modules_types.specs.Scopes.{Scope}
use Rattle.asn_modules_types.specs.Sizes.{fixed_by, only_between, shape_fixed, size_end, size_of, sized}

-- What a conversion to an unsigned number of 64 bits gives.
pub converted_size : {E : Type 0} (x : ℤ) (r : Result ℕ E) → OkIff r (FitsUnsigned w64 x) (unsigned_abs x) → result_ok r ≡ size_of x
converted_size (pos n) (Ok k) h =
    let small : n < 2 ^ 64 = omega (arith, ints, h.0.1) in
    ap Some h.1 ∙ sym (ap (λ b. if b then Some n else None) (lt-ltb n (2 ^ 64) small))
converted_size (pos n) (Err e) h = by (nat_lt n (2 ^ 64)) refl
  where
    by : (b : Bool) → nat_lt n (2 ^ 64) ≡ b → None ≡ (if b then Some n else None)
    by true is = let small = ltb-true n (2 ^ 64) is in absurd (h (omega (arith, ints), omega (arith, ints, small)))
    by false is = refl
converted_size (negsuc n) (Ok k) h = absurd (omega (arith, ints, h.0.0))
converted_size (negsuc n) (Err e) h = refl

-- The end of a size that is no number is the name of a value.
pub size_named : (s : Scope) (k : Kind) (t : Token) → (k ≡ kind.Number → ⊥) → size_end s k t ≡ option_and_then size_of (number_at s (value.Word t))
size_named s kind.Number t h = absurd (h refl)
size_named s k t h = refl

-- One size more.
pub sized_more : (s : Scope) (zs : List Size) (i : ℕ) (d : Size) (shape : Shape) → i < length zs → sized s (drop i zs) shape ≡ sized s (drop (i + 1) zs) (shape_fixed (fixed_by s (get_or zs i d)) shape)
sized_more s zs i d shape h = ap (λ l. sized s l shape) (drop_more zs i d h)

pub sized_end : (s : Scope) (zs : List Size) (i : ℕ) (shape : Shape) → length zs ≤ i → sized s (drop i zs) shape ≡ shape
sized_end s zs i shape h = ap (λ l. sized s l shape) (drop_all i zs h)

-- What a size says, by its ends.
pub fixed_low : (s : Scope) (z : Size) → None ≡ size_end s z.low.kind z.low → None ≡ fixed_by s z
fixed_low s z e = ap (λ o. of_both only_between o (size_end s z.high.kind z.high)) e

fixed_ends : (s : Scope) (z : Size) (low : ℕ) (high : Option ℕ) → Some low ≡ size_end s z.low.kind z.low → high ≡ size_end s z.high.kind z.high → of_both only_between (Some low) high ≡ fixed_by s z
fixed_ends s z low high e f = ap (of_both only_between (Some low)) f ∙ ap (λ o. of_both only_between o (size_end s z.high.kind z.high)) e

pub fixed_high : (s : Scope) (z : Size) (low : ℕ) → Some low ≡ size_end s z.low.kind z.low → None ≡ size_end s z.high.kind z.high → None ≡ fixed_by s z
fixed_high s z low e f = fixed_ends s z low None e f

pub fixed_same : (s : Scope) (z : Size) (low high : ℕ) → Some low ≡ size_end s z.low.kind z.low → Some high ≡ size_end s z.high.kind z.high → low ≡ high → Some (Some low) ≡ fixed_by s z
fixed_same s z low high e f is = sym (ap (λ b. Some (if b then Some low else None)) (eq-eqb low high is)) ∙ fixed_ends s z low (Some high) e f

pub fixed_other : (s : Scope) (z : Size) (low high : ℕ) → Some low ≡ size_end s z.low.kind z.low → Some high ≡ size_end s z.high.kind z.high → (low ≡ high → ⊥) → Some None ≡ fixed_by s z
fixed_other s z low high e f other = by (nat_eq low high) refl ∙ fixed_ends s z low (Some high) e f
  where
    by : (b : Bool) → nat_eq low high ≡ b → Some None ≡ Some (only_between low high)
    by true is = absurd (other (eqb-true low high is))
    by false is = sym (ap (λ b. Some (if b then Some low else None)) is)
