-- The names that stand after COMPONENTS OF.
use Rattle.std.specs.Prelude.{List, [], ◌++◌, map, Option, Some, None}
use Rattle.std.specs.List.{cons_option}
use Rattle.asn_modules_rules.specs.declared.included.names.TypeName.{TypeName}
use Rattle.asn_modules_grammar.specs.notation.Notation.{Notation, Base, Member, Members, notation, members, list_of, choice, reference, component, components_of, group, marker, no_members, member, members_of}
use Rattle.asn_modules_grammar.specs.declared.notation.notation.Member as code
use Rattle.asn_modules_reader.specs.Views.{member_view}

-- The name that a type is, if it is one.
abbrev pub base_name : Base → Option TypeName
base_name (reference home name) = Some (record { home = home; name = name })
base_name base = None

abbrev pub name_of : Notation → Option TypeName
name_of (notation tags base sizes) = base_name base

abbrev mutual
  -- Those names within the type, in order.
  pub behind : Notation → List TypeName
  behind (notation tags base sizes) = base_behind base

  pub base_behind : Base → List TypeName
  base_behind (members kind ms) = members_behind ms
  base_behind (list_of kind n) = behind n
  base_behind (choice ms) = members_behind ms
  base_behind base = []

  pub member_behind : Member → List TypeName
  member_behind (component name n presence) = behind n
  member_behind (components_of n) = cons_option (name_of n) (behind n)
  member_behind (group ms) = members_behind ms
  member_behind marker = []

  pub members_behind : Members → List TypeName
  members_behind no_members = []
  members_behind (member m ms) = member_behind m ++ members_behind ms

-- Those names within these entries.
abbrev pub entries_behind : List code.Member → List TypeName
entries_behind ms = members_behind (members_of (map member_view ms))
