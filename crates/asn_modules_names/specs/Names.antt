-- The rules on names.
use Rattle.std.specs.Prelude.{List, Option}
use Rattle.std.specs.Option.{option_or}
use Rattle.asn_modules_names.specs.Assigned.{assigned_again, first_found, named_again}
use Rattle.asn_modules_names.specs.Faults.{Fault}
use Rattle.asn_modules_names.specs.Mentions.{Source}

-- The first name that breaks a rule: of a module, else one that is assigned.
abbrev pub first_fault : List Source → Option Fault
first_fault ss = option_or (named_again ss) (first_found assigned_again ss)
