-- Types with parameters (X.683), and the types that stand in the places of those.
use Rattle.std.specs.Prelude.{ℕ, List, [], ◌∷◌, Bool, true, false, if◌then◌else◌, Option, Some, None}
use Rattle.std.specs.Str.{bytes_eq}
use Rattle.asn_lexer.specs.declared.token.Token.{Token}
use Rattle.asn_modules_errors.specs.Slices.{text_of}
use Rattle.asn_modules_grammar.specs.notation.Notation.{Base, Notation, Notations, another_notation, no_notations, notation, reference}
use Rattle.asn_modules_grammar.specs.declared.notation.size.Size.{Size}

-- The number of the type that a name stands for, after that of its module where it is stated.
abbrev pub Finder : Type 0
Finder = Option Token → Token → Option ℕ

-- The names of parameters, each with the number of the type that stands in its place; `None` where
-- no name of a known type does.
abbrev pub Bindings : Type 0
Bindings = List (Token × Option ℕ)

-- The type is a name alone.
abbrev pub base_is_named : Base → Bool
base_is_named (reference home name) = true
base_is_named base = false

abbrev pub is_named : Notation → Bool
is_named (notation tags base sizes) = base_is_named base

-- The number of the type that this one is the name of.
abbrev pub base_number : Finder → Base → Option ℕ
base_number find (reference home name) = find home name
base_number find base = None

abbrev pub unconstrained : List Size → Bool
unconstrained [] = true
unconstrained (s ∷ ss) = false

-- That of an actual parameter: one with a size is no name.
abbrev pub argument_number : Finder → Notation → Option ℕ
argument_number find (notation tags base sizes) =
    if unconstrained sizes then base_number find base else None

-- Actual parameters as a list.
abbrev pub listed : Notations → List Notation
listed no_notations = []
listed (another_notation n ns) = n ∷ listed ns

-- Parameters, each with what stands in its place.
abbrev pub bindings : Finder → List Token → List Notation → Bindings
bindings find [] ns = []
bindings find (p ∷ ps) [] = []
bindings find (p ∷ ps) (n ∷ ns) = (p, argument_number find n) ∷ bindings find ps ns

-- What stands in the place of the name, where it is that of a parameter.
abbrev pub bound : List ℕ → Bindings → Token → Option (Option ℕ)
bound text [] name = None
bound text (b ∷ bs) name =
    if bytes_eq (text_of text b.0) (text_of text name) then Some b.1 else bound text bs name

abbrev pub bound_or : Option (Option ℕ) → Option ℕ → Option ℕ
bound_or None other = other
bound_or (Some n) other = n

-- What names stand for where parameters have these in their places: a name without a module is
-- first that of a parameter.
abbrev pub bound_find : List ℕ → Bindings → Finder → Finder
bound_find text bs find None name = bound_or (bound text bs name) (find None name)
bound_find text bs find (Some home) name = find (Some home) name
