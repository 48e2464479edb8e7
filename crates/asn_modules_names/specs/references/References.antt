-- The names that types refer to.
use Rattle.std.specs.Prelude.{ℕ, suc, List, [], ◌∷◌, ◌++◌, if◌then◌else◌, Option, Some, None}
use Rattle.std.specs.List.{cons_option}
use Rattle.std.specs.Option.{option_or}
use Rattle.asn_lexer.specs.declared.token.Token.{Token}
use Rattle.asn_modules_errors.specs.declared.cause.NameRule.TheVariants.{NotAssigned}
use Rattle.asn_modules_names.specs.lookup.Homes.{Home, bytes_in}
use Rattle.asn_modules_names.specs.lookup.Lookup.{is_known}
use Rattle.asn_modules_names.specs.declared.lookup.sort.Sort.{Sort}
use Rattle.asn_modules_names.specs.declared.lookup.sort.Sort.TheVariants.{Types, Values, Templates}
use Rattle.asn_modules_names.specs.Assigned.{first_found}
use Rattle.asn_modules_names.specs.Faults.{Fault, fault_of}
use Rattle.asn_modules_names.specs.Mentions.{Source, mention_in}
use Rattle.asn_modules_grammar.specs.notation.Modules.{Assignment, type_assignment, value_assignment, template_assignment}
use Rattle.asn_modules_grammar.specs.notation.Notation.{Notation, Base, Member, Members, notation, leaf, integer, bit_string, enumerated, members, list_of, choice, reference, component, components_of, group, marker, no_members, member}
use Rattle.asn_modules_names.specs.references.ValueNames.{value_name}

abbrev mutual
  -- The names of types that the type refers to without a module, in order.
  pub references : Notation → List Token
  references (notation tags base sizes) = base_references base

  pub base_references : Base → List Token
  base_references (members kind ms) = members_references ms
  base_references (list_of kind n) = references n
  base_references (choice ms) = members_references ms
  base_references (reference None name) = name ∷ []
  base_references (reference (Some home) name) = []
  base_references base = []

  pub member_references : Member → List Token
  member_references (component name n presence) = references n
  member_references (components_of n) = references n
  member_references (group ms) = members_references ms
  member_references marker = []

  pub members_references : Members → List Token
  members_references no_members = []
  members_references (member m ms) = member_references m ++ members_references ms

-- Those that an assignment refers to, with the type of a value. A type with parameters may name
-- those.
abbrev pub assignment_references : Assignment → List Token
assignment_references (type_assignment name n) = references n
assignment_references (value_assignment name n value) = references n
assignment_references (template_assignment name ps n) = []

-- The names of types that it refers to, or those of values.
abbrev pub references_as : Sort → Assignment → List Token
references_as Types a = assignment_references a
references_as Values a = cons_option (value_name a) []
references_as Templates a = []

abbrev pub all_references : Sort → List Assignment → List Token
all_references sort [] = []
all_references sort (a ∷ more) = references_as sort a ++ all_references sort more

-- The name in the module of number k, where it isn't known there.
abbrev pub unknown : Sort → List Source → ℕ → Home → Token → Option Fault
unknown sort ss k h t =
    if is_known sort ss k (bytes_in h t) then None
    else Some (fault_of NotAssigned (mention_in h.source t))

-- The first name of a type, or of a value, that a module, of which the first has number k, refers
-- to and neither assigns nor imports.
abbrev pub first_unknown : Sort → List Source → ℕ → List Home → Option Fault
first_unknown sort ss k [] = None
first_unknown sort ss k (h ∷ hs) =
    option_or (first_found (unknown sort ss k h) (all_references sort h.parsed.assignments))
    (first_unknown sort ss (suc k) hs)
