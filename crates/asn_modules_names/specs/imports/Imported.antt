-- What modules may import (X.680, section 13).
use Rattle.std.specs.Prelude.{ℕ, List, [], ◌∷◌, ◌++◌, filter, map, Bool, true, false, ◌&&◌, if◌then◌else◌, Option, Some, None}
use Rattle.std.specs.Option.{option_map}
use Rattle.std.specs.Str.{bytes_eq}
use Rattle.asn_modules_grammar.specs.headers.Headers.{Header}
use Rattle.asn_lexer.specs.declared.token.Token.{Token}
use Rattle.asn_model.specs.Shape.{is_item}
use Rattle.asn_modules_errors.specs.declared.cause.NameRule.{NameRule}
use Rattle.asn_modules_errors.specs.declared.cause.NameRule.TheVariants.{NotExported, NotHeld, OwnImport}
use Rattle.asn_modules_names.specs.lookup.Entries.{imports_of}
use Rattle.asn_modules_names.specs.lookup.Homes.{Home, bytes_in}
use Rattle.asn_modules_names.specs.Assigned.{assigned_name, first_found, module_name}
use Rattle.asn_modules_names.specs.Faults.{Fault, fault_of}
use Rattle.asn_modules_names.specs.Mentions.{mention_in}
use Rattle.asn_modules_grammar.specs.notation.Modules.{Assignment}

-- The token is this name.
abbrev pub is_token : Home → List ℕ → Option Token → Bool
is_token h name None = false
is_token h name (Some t) = bytes_eq name (bytes_in h t)

-- The module has this name.
abbrev pub is_named : Home → List ℕ → Bool
is_named h name = is_token h name (module_name h.parsed)

-- The first of the modules of this name.
abbrev pub module_named : List Home → List ℕ → Option Home
module_named [] name = None
module_named (h ∷ hs) name = if is_named h name then Some h else module_named hs name

-- The names that these assignments of the module assign.
abbrev pub assigned_by : Home → List Assignment → List (List ℕ)
assigned_by h assignments = map (λ a. bytes_in h (assigned_name a)) assignments

-- The module assigns the name, to a type or a value.
abbrev pub is_assigned : List ℕ → Home → Bool
is_assigned name h = is_item (assigned_by h h.parsed.assignments) name

-- The one that the list has, where it has one alone.
abbrev pub sole : {A : Type 0} → List A → Option A
sole [] = None
sole (x ∷ []) = Some x
sole (x ∷ y ∷ ys) = None

-- The only one of the modules that assigns the name.
abbrev pub only_assigning : List Home → List ℕ → Option Home
only_assigning all name = sole (filter (is_assigned name) all)

-- The names that a module exports; none where it exports all.
abbrev pub exports_of : Option Header → Option (List Token)
exports_of None = None
exports_of (Some h) = h.exports

-- The name is one of these tokens.
abbrev pub is_one_of : Home → List Token → List ℕ → Bool
is_one_of h names name = is_item (map (bytes_in h) names) name

abbrev pub is_among : Home → Option (List Token) → List ℕ → Bool
is_among h None name = true
is_among h (Some names) name = is_one_of h names name

-- The module exports the name.
abbrev pub is_exported : Home → List ℕ → Bool
is_exported h name = is_among h (exports_of h.parsed.header) name

-- The module, if there is one, exports the name.
abbrev pub is_exported_by : Option Home → List ℕ → Bool
is_exported_by None name = true
is_exported_by (Some h) name = is_exported h name

-- The names that these imports of the module list.
abbrev pub imported_names : Home → List (List Token × Token) → List (List ℕ)
imported_names h [] = []
imported_names h (i ∷ is) = map (bytes_in h) i.0 ++ imported_names h is

-- The names that the module assigns or imports, of which another module may import each (X.680,
-- section 13).
abbrev pub held_names : Home → List (List ℕ)
held_names h = assigned_by h h.parsed.assignments ++ imported_names h (imports_of h.parsed.header)

-- The module, if there is one, assigns or imports the name.
abbrev pub is_held_by : Option Home → List ℕ → Bool
is_held_by None name = true
is_held_by (Some h) name = is_item (held_names h) name

abbrev pub held_rule : Option Home → List ℕ → Option NameRule
held_rule named name = if is_held_by named name then None else Some NotHeld

-- The rule that a module breaks by importing the name from itself, or from the module of the name
-- that it states, if there is one, all modules being these: that one exports the name, and so does
-- the only one that assigns it; and that one assigns it, or imports it itself.
abbrev pub import_rule : List Home → Bool → Option Home → List ℕ → Option NameRule
import_rule all true named name = Some OwnImport
import_rule all false named name =
    if is_exported_by named name && is_exported_by (only_assigning all name) name
    then held_rule named name else Some NotExported

-- What breaks a rule in importing these.
abbrev pub import_fault : List Home → Home → Bool → Option Home → Token → Option Fault
import_fault all h is_own named t =
    option_map (λ r. fault_of r (mention_in h.source t))
    (import_rule all is_own named (bytes_in h t))

-- The first of the names that the module imports from this one.
abbrev pub names_fault : List Home → Home → List Token × Token → Option Fault
names_fault all h i =
    first_found
    (import_fault all h (is_named h (bytes_in h i.1)) (module_named all (bytes_in h i.1))) i.0

-- The first of those that the module imports.
abbrev pub imports_fault : List Home → Home → Option Fault
imports_fault all h = first_found (names_fault all h) (imports_of h.parsed.header)

-- The first of those that one of the modules of these texts imports.
abbrev pub first_import_fault : List Home → Option Fault
first_import_fault all = first_found (imports_fault all) all
