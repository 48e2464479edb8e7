-- The types and values that modules assign, by their numbers.
use Rattle.std.specs.Prelude.{ℕ, suc, List, [], ◌∷◌, ◌++◌, filter_map, Option, option_map}
use Rattle.asn_lexer.specs.declared.token.Token.{Token}
use Rattle.asn_modules_names.specs.lookup.Entries.{name_as}
use Rattle.asn_modules_names.specs.lookup.Homes.{Home, homes}
use Rattle.asn_modules_names.specs.declared.lookup.sort.Sort.{Sort}
use Rattle.asn_modules_types.specs.named_numbers.Named.{StatedType}
use Rattle.asn_modules_names.specs.Mentions.{Source}
use Rattle.asn_modules_grammar.specs.notation.Modules.{Assignment, type_assignment, value_assignment, template_assignment}
use Rattle.asn_modules_grammar.specs.notation.Notation.{Notation}

-- An assignment, with its module and the number of that.
pub record Assigned : Type 0 where
  pub number : ℕ
  pub home : Home
  pub assignment : Assignment

-- The assignment in the module of number k, where it is of the sort.
abbrev pub assigned_as : Sort → ℕ → Home → Assignment → Option Assigned
assigned_as sort k h a =
    option_map (λ t. record { number = k; home = h; assignment = a }) (name_as sort a)

-- Those of the sort among the assignments of a module.
abbrev pub assigned_in : Sort → ℕ → Home → List Assignment → List Assigned
assigned_in sort k h assignments = filter_map (assigned_as sort k h) assignments

-- Those of these modules, of which the first has number k.
abbrev pub assigned_of : Sort → ℕ → List Home → List Assigned
assigned_of sort k [] = []
assigned_of sort k (h ∷ hs) =
    assigned_in sort k h h.parsed.assignments ++ assigned_of sort (suc k) hs

-- The types or values that are assigned, each at the place of its number.
abbrev pub assigned : Sort → List Source → List Assigned
assigned sort ss = assigned_of sort 0 (homes ss)

-- The type that is assigned, or that of the value.
abbrev pub notation_of : Assignment → Notation
notation_of (type_assignment name n) = n
notation_of (value_assignment name n v) = n
notation_of (template_assignment name ps n) = n

-- The names of its parameters.
abbrev pub parameters_of : Assignment → List Token
parameters_of (template_assignment name ps n) = ps
parameters_of a = []

-- The type with the text that it stands in.
abbrev pub stated_type : Assigned → StatedType
stated_type a = record { text = a.home.source.text; notation = notation_of a.assignment }
