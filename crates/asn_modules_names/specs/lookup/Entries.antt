-- What modules assign and import, as entries of tables.
use Rattle.std.specs.Prelude.{ℕ, suc, List, [], ◌∷◌, ◌++◌, map, Option, Some, None}
use Rattle.std.specs.List.{cons_option, filter_map}
use Rattle.std.specs.Option.{option_map}
use Rattle.asn_modules_grammar.specs.headers.Headers.{Header}
use Rattle.asn_lexer.specs.declared.token.Token.{Token}
use Rattle.asn_modules_names.specs.lookup.Homes.{Home, bytes_in}
use Rattle.asn_modules_names.specs.declared.lookup.sort.Sort.{Sort}
use Rattle.asn_modules_names.specs.declared.lookup.sort.Sort.TheVariants.{Types, Values, Templates}
use Rattle.asn_modules_names.specs.Assigned.{module_name}
use Rattle.asn_modules_grammar.specs.notation.Modules.{Assignment, type_assignment, value_assignment, template_assignment}

-- The names of modules, each with the number of its module; the first has number k.
abbrev pub module_entries : ℕ → List Home → List (List ℕ × ℕ)
module_entries k [] = []
module_entries k (h ∷ hs) =
    cons_option (option_map (λ t. (bytes_in h t, k)) (module_name h.parsed))
    (module_entries (suc k) hs)

-- The name that is assigned, where the assignment is of the sort.
abbrev pub name_as : Sort → Assignment → Option Token
name_as Types (type_assignment name n) = Some name
name_as Types a = None
name_as Values (value_assignment name n value) = Some name
name_as Values a = None
name_as Templates (template_assignment name ps n) = Some name
name_as Templates a = None

-- The names that these assignments of a module assign, of those of the sort, each after the number
-- of the module.
abbrev pub keys_in : Sort → ℕ → Home → List Assignment → List (ℕ × List ℕ)
keys_in sort k h assignments =
    filter_map (λ a. option_map (λ t. (k, bytes_in h t)) (name_as sort a)) assignments

-- Those of these modules, of which the first has number k.
abbrev pub keys_of : Sort → ℕ → List Home → List (ℕ × List ℕ)
keys_of sort k [] = []
keys_of sort k (h ∷ hs) = keys_in sort k h h.parsed.assignments ++ keys_of sort (suc k) hs

-- Each with its number, of which the first is n.
abbrev pub numbered : {A : Type 0} → ℕ → List A → List (A × ℕ)
numbered n [] = []
numbered n (x ∷ xs) = (x, n) ∷ numbered (suc n) xs

-- What the module imports: names, and the name of their module.
abbrev pub imports_of : Option Header → List (List Token × Token)
imports_of None = []
imports_of (Some h) = h.imports

-- These names, imported by the module of the number, each with the name of the module that it is
-- imported from.
abbrev pub imported_in : ℕ → Home → Token → List Token → List ((ℕ × List ℕ) × List ℕ)
imported_in k h from names = map (λ t. ((k, bytes_in h t), bytes_in h from)) names

abbrev pub imports_in : ℕ → Home → List (List Token × Token) → List ((ℕ × List ℕ) × List ℕ)
imports_in k h [] = []
imports_in k h (i ∷ is) = imported_in k h i.1 i.0 ++ imports_in k h is

-- Those of these modules, of which the first has number k.
abbrev pub import_entries : ℕ → List Home → List ((ℕ × List ℕ) × List ℕ)
import_entries k [] = []
import_entries k (h ∷ hs) = imports_in k h (imports_of h.parsed.header) ++ import_entries (suc k) hs
