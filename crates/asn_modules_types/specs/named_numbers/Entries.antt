-- The named numbers of types, as entries of a table.
use Rattle.std.specs.Prelude.{ℕ, suc, List, [], ◌∷◌, ◌++◌, map}
use Rattle.asn_modules_errors.specs.Slices.{text_of}
use Rattle.asn_modules_types.specs.named_numbers.Named.{StatedType, numbers_in}
use Rattle.asn_modules_grammar.specs.declared.notation.number.Constant.{Constant}
use Rattle.asn_modules_grammar.specs.declared.notation.number.NamedNumber.{NamedNumber}

-- These named numbers of the type of number n in its text.
abbrev pub entries_in : ℕ → List ℕ → List NamedNumber → List ((ℕ × List ℕ) × Constant)
entries_in n text ns = map (λ e. ((n, text_of text e.name), e.number)) ns

-- Those of these types, of which the first has number n.
abbrev pub entries_of : ℕ → List StatedType → List ((ℕ × List ℕ) × Constant)
entries_of n [] = []
entries_of n (t ∷ ts) = entries_in n t.text (numbers_in t.notation) ++ entries_of (suc n) ts
