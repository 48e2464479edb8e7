-- Sizes as they stand in modules.
use Rattle.std.specs.Prelude.{ℕ, ℤ, pos, negsuc, nat_eq, List, [], ◌∷◌, if◌then◌else◌, Option, Some, None}
use Rattle.std.specs.Option.{option_and_then}
use Rattle.asn_expansion.specs.Expansion.{of_both}
use Rattle.asn_lexer.specs.declared.kind.Kind.{Kind}
use Rattle.asn_lexer.specs.declared.kind.Kind.TheVariants as kind
use Rattle.asn_lexer.specs.declared.token.Token.{Token}
use Rattle.asn_linked_types.specs.Expansion.{no_values}
use Rattle.asn_model.specs.Shape.{Shape, shape_under}
use Rattle.asn_modules_grammar.specs.declared.notation.size.Size.{Size}
use Rattle.asn_modules_grammar.specs.declared.notation.value.Value.TheVariants as value
use Rattle.asn_modules_rules.specs.numbers.Stated.{within_bits}
use Rattle.asn_modules_types.specs.Numbers.{number_at, number_in}
use Rattle.asn_modules_types.specs.Scopes.{Scope}

-- The number, if it isn't negative and has at most 64 bits.
abbrev pub size_of : ℤ → Option ℕ
size_of (pos n) = within_bits 64 (Some n)
size_of (negsuc n) = None

-- What an end of a size is, by its kind: a number, or the name of a value that leads to one.
abbrev pub size_end : Scope → Kind → Token → Option ℕ
size_end s kind.Number t = number_in 64 s.text t
size_end s k t = option_and_then size_of (number_at s (value.Word t))

-- The number that lies between these ends alone, if there is one.
abbrev pub only_between : ℕ → ℕ → Option ℕ
only_between low high = if nat_eq low high then Some low else None

-- What the size says, if both of its ends are known: the number that it admits alone, or that it
-- admits several.
abbrev pub fixed_by : Scope → Size → Option (Option ℕ)
fixed_by s z = of_both only_between (size_end s z.low.kind z.low) (size_end s z.high.kind z.high)

-- The shape by what the size says. Only that of a BIT STRING has a size, on which the form of its
-- values in JSON depends (X.697): where an end isn't known, there are none.
abbrev pub shape_fixed : Option (Option ℕ) → Shape → Shape
shape_fixed None (Shape.bits fixed) = no_values
shape_fixed None shape = shape
shape_fixed (Some None) shape = shape
shape_fixed (Some (Some n)) shape = shape_under (Some n) shape

-- The shape under these sizes, the innermost first. The outermost one that admits one number alone
-- fixes it.
abbrev pub sized : Scope → List Size → Shape → Shape
sized s [] shape = shape
sized s (z ∷ zs) shape = sized s zs (shape_fixed (fixed_by s z) shape)
