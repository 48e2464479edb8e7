-- The values that are the names of others.
use Rattle.std.specs.Prelude.{ℕ, suc, List, [], ◌∷◌, ◌++◌, filter_map, is_some, length, map, Bool, if◌then◌else◌, Option, Some, None}
use Rattle.std.specs.Option.{option_and_then, option_or}
use Rattle.asn_modules_errors.specs.declared.cause.NameRule.TheVariants.{NoValue}
use Rattle.asn_modules_names.specs.lookup.Homes.{Home, bytes_in, homes}
use Rattle.asn_modules_names.specs.lookup.Lookup.{found}
use Rattle.asn_modules_names.specs.declared.lookup.sort.Sort.TheVariants.{Values}
use Rattle.asn_modules_names.specs.Faults.{Fault, fault_of}
use Rattle.asn_modules_names.specs.Mentions.{Mention, Source, mention_in, mention_view}
use Rattle.asn_modules_grammar.specs.notation.Modules.{Assignment, type_assignment, value_assignment, template_assignment}
use Rattle.asn_modules_names.specs.references.ValueNames.{value_name}
use Rattle.asn_modules_rules.specs.values.Leads.{leads}
use Rattle.asn_modules_rules.specs.declared.values.links.ValueLink as code

-- A value that is assigned: its name, and the number of the value that it is the name of, if it is
-- one.
pub record ValueLink : Type 0 where
  pub name : Mention
  pub next : Option ℕ

abbrev pub link_view : code.ValueLink → ValueLink
link_view l = record { name = mention_view l.name; next = l.next }

-- The number of the value whose name is assigned in the module of number k.
abbrev pub next_of : List Source → ℕ → Home → Assignment → Option ℕ
next_of ss k h a = option_and_then (λ t. found Values ss k None (bytes_in h t)) (value_name a)

-- What is assigned there, where it is a value.
abbrev pub link_as : List Source → ℕ → Home → Assignment → Option ValueLink
link_as ss k h (type_assignment name n) = None
link_as ss k h (template_assignment name ps n) = None
link_as ss k h (value_assignment name n v) =
    Some
    (record { name = mention_in h.source name; next = next_of ss k h (value_assignment name n v) })

-- The values among the assignments of a module.
abbrev pub links_in : List Source → ℕ → Home → List Assignment → List ValueLink
links_in ss k h assignments = filter_map (link_as ss k h) assignments

-- Those of these modules, of which the first has number k.
abbrev pub links_of : List Source → ℕ → List Home → List ValueLink
links_of ss k [] = []
links_of ss k (h ∷ hs) = links_in ss k h h.parsed.assignments ++ links_of ss (suc k) hs

-- The first of these values, whose numbers begin with n, whose number passes.
abbrev pub endless_from : (ℕ → Bool) → ℕ → List ValueLink → Option Fault
endless_from f n [] = None
endless_from f n (l ∷ ls) =
    option_or (if f n then Some (fault_of NoValue l.name) else None) (endless_from f (suc n) ls)

-- The first value whose names go on past as many others as there are values, and so without an end.
abbrev pub first_endless_in : List ValueLink → Option Fault
first_endless_in ls = endless_from (λ n. is_some (leads (map (λ l. l.next) ls) (length ls) n)) 0 ls

abbrev pub first_endless : List Source → Option Fault
first_endless ss = first_endless_in (links_of ss 0 (homes ss))
