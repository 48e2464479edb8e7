-- The names in the lists of types.
use Rattle.std.specs.Prelude.{List, [], ◌∷◌, ◌++◌, map, Option}
use Rattle.std.specs.Option.{option_map}
use Rattle.std.specs.List.{filter_map}
use Rattle.asn_lexer.specs.declared.token.Token.{Token}
use Rattle.asn_modules_errors.specs.declared.cause.NameRule.TheVariants.{ListedTwice}
use Rattle.asn_modules_rules.specs.lists.Written.{Written, all_written}
use Rattle.asn_modules_names.specs.Assigned.{first_found}
use Rattle.asn_modules_names.specs.Faults.{Fault}
use Rattle.asn_modules_names.specs.Mentions.{Source, mention_in}
use Rattle.asn_modules_names.specs.Repeats.{repeated}
use Rattle.asn_modules_grammar.specs.notation.Notation.{Base, Member, Members, integer, bit_string, enumerated, members, choice, component, components_of, group, marker, no_members, member}
use Rattle.asn_modules_grammar.specs.declared.notation.number.Item.{Item}
use Rattle.asn_modules_grammar.specs.declared.notation.number.NamedNumber.{NamedNumber}

abbrev mutual
  -- The name of an entry between braces; those between version brackets belong to the list around
  -- them.
  pub member_names : Member → List Token
  member_names (component name n presence) = name ∷ []
  member_names (components_of n) = []
  member_names (group ms) = members_names ms
  member_names marker = []

  -- The names of the components or alternatives between braces, in order.
  pub members_names : Members → List Token
  members_names no_members = []
  members_names (member m ms) = member_names m ++ members_names ms

-- The names of items, in order.
abbrev pub item_names : List (Option Item) → List Token
item_names items = filter_map (λ i. option_map (λ x. x.name) i) items

-- The names of named numbers or bits, in order.
abbrev pub number_names : List NamedNumber → List Token
number_names numbers = map (λ n. n.name) numbers

-- The names in the list that the type has between braces, if it has one, in order.
abbrev pub listed_names : Base → List Token
listed_names (integer numbers) = number_names numbers
listed_names (bit_string bits) = number_names bits
listed_names (enumerated items) = item_names items
listed_names (members kind ms) = members_names ms
listed_names (choice ms) = members_names ms
listed_names base = []

-- The first name that stands a second time in the list of the type.
abbrev pub listed_twice : Written → Option Fault
listed_twice w = repeated ListedTwice (map (mention_in w.source) (listed_names w.base))

-- The first of the types in these texts that has one.
abbrev pub first_listed_twice : List Source → Option Fault
first_listed_twice ss = first_found listed_twice (all_written ss)
