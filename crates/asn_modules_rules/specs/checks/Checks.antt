-- The rules on names and numbers together.
use Rattle.std.specs.Prelude.{List, Option}
use Rattle.std.specs.Option.{option_or}
use Rattle.asn_modules_names.specs.imports.Imported.{first_import_fault}
use Rattle.asn_modules_rules.specs.included.TooLarge.{first_too_large}
use Rattle.asn_modules_rules.specs.lists.Listed.{first_listed_twice}
use Rattle.asn_modules_names.specs.lookup.Homes.{homes}
use Rattle.asn_modules_names.specs.declared.lookup.sort.Sort.TheVariants.{Types, Values}
use Rattle.asn_modules_names.specs.Faults.{Fault}
use Rattle.asn_modules_names.specs.Mentions.{Source}
use Rattle.asn_modules_names.specs.Names.{first_fault}
use Rattle.asn_modules_rules.specs.numbers.Faults.{first_number_fault}
use Rattle.asn_modules_names.specs.references.References.{first_unknown}
use Rattle.asn_modules_rules.specs.values.ValueLinks.{first_endless}

-- The first name of a value that is neither assigned nor imported, else the first that leads to no
-- value.
abbrev pub first_in_values : List Source → Option Fault
first_in_values ss = option_or (first_unknown Values ss 0 (homes ss)) (first_endless ss)

-- The first name that breaks a rule on values, else the first that is too large for COMPONENTS OF.
abbrev pub first_in_assigned : List Source → Option Fault
first_in_assigned ss = option_or (first_in_values ss) (first_too_large ss)

-- The first name that is imported against a rule, else the first name of a type that is neither
-- assigned nor imported, else the first that breaks a rule on what is assigned.
abbrev pub first_missing : List Source → Option Fault
first_missing ss =
    option_or (first_import_fault (homes ss))
    (option_or (first_unknown Types ss 0 (homes ss)) (first_in_assigned ss))

-- The first name or number in a list that breaks a rule.
abbrev pub first_in_lists : List Source → Option Fault
first_in_lists ss = option_or (first_listed_twice ss) (first_number_fault ss)

-- The first name or number that breaks a rule: in the names of modules and those that they assign,
-- else in a list, else in what is imported, referred to or included.
abbrev pub first_broken : List Source → Option Fault
first_broken ss = option_or (first_fault ss) (option_or (first_in_lists ss) (first_missing ss))
