-- Sizes among constraints, read one at a time.
use Rattle.std.proofs.Common.{◌≡◌, List, [], ◌∷◌, ◌++◌, true, false, Option, Some, None, refl, sym, ap, subst, ◌∙◌}
use Rattle.asn_lexer.specs.declared.token.Token.{Token}
use Rattle.asn_modules_grammar.specs.headers.Fronts.{first_is}
use Rattle.asn_modules_grammar.specs.notation.Grammar.{sizes_of}
use Rattle.asn_modules_grammar.specs.notation.Lists.{no_more}
use Rattle.asn_modules_grammar.specs.notation.Sizes.{ConstraintsParse, begins_constraint, constraint_at}
use Rattle.asn_modules_grammar.specs.declared.notation.size.Size.{Size}
use Rattle.asn_modules_reader.specs.parts.Sizes.{SizesParse}
use Rattle.asn_modules_reader.proofs.parts.Runs.{Going, going_start, going_next, going_end, going_none}
use Rattle.asn_modules_reader.proofs.parts.Repeats.{repeated_step, repeated_none}

-- The sizes that were read stand from the start to here.
abbrev pub SizesGo : List Token → List Token → List Size → Type 0
SizesGo start here sizes = (cs : List (Option Size)) × Going ConstraintsParse start here cs × (sizes ≡ sizes_of cs)

pub sizes_start : (start here : List Token) (sizes : List Size) → here ≡ start → sizes ≡ [] → SizesGo start here sizes
sizes_start start here sizes e n = ([], going_start ConstraintsParse start here [] e refl, n)

more_sizes : (cs : List (Option Size)) (c : Option Size) → sizes_of (cs ++ c ∷ []) ≡ sizes_of cs ++ sizes_of (c ∷ [])
more_sizes [] c = refl
more_sizes (None ∷ cs) c = more_sizes cs c
more_sizes (Some s ∷ cs) c = ap (λ l. s ∷ l) (more_sizes cs c)

pub sizes_next : (start here there : List Token) (sizes more : List Size) (c : Option Size) → SizesGo start here sizes → first_is begins_constraint here ≡ true → constraint_at here ≡ Some (c, there)
    → more ≡ sizes ++ sizes_of (c ∷ []) → SizesGo start there more
sizes_next start here there sizes more c g b e m = (
  g.0 ++ c ∷ [],
  going_next ConstraintsParse start here there g.0 (g.0 ++ c ∷ []) c g.1 (repeated_step begins_constraint constraint_at here there c b e) refl,
  m ∙ ap (λ l. l ++ sizes_of (c ∷ [])) g.2 ∙ sym (more_sizes g.0 c),
)

pub sizes_end : (start here : List Token) (sizes : List Size) → SizesGo start here sizes → first_is begins_constraint here ≡ false → SizesParse start sizes here
sizes_end start here sizes g b = (g.0, going_end ConstraintsParse start here here g.0 g.1 (no_more b), g.2)

pub sizes_none : (start here : List Token) (sizes : List Size) → SizesGo start here sizes → first_is begins_constraint here ≡ true → constraint_at here ≡ None → (xs : List Size) (rest : List Token) → SizesParse start xs rest → ⊥
sizes_none start here sizes g b e xs rest p = going_none ConstraintsParse start here g.0 g.1 (repeated_none begins_constraint constraint_at here b e) p.0 rest p.1
