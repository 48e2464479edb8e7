-- The types that stand in modules, with those within them.
use Rattle.std.specs.Prelude.{List, [], ◌∷◌, ◌++◌, map}
use Rattle.asn_modules_rules.specs.declared.lists.written.WrittenType as code
use Rattle.asn_modules_names.specs.Mentions.{Source, source_view}
use Rattle.asn_modules_grammar.specs.notation.Modules.{Assignment, Module, type_assignment, value_assignment, template_assignment}
use Rattle.asn_modules_grammar.specs.notation.Notation.{Notation, Base, Member, Members, notation, members, list_of, choice, component, components_of, group, marker, no_members, member}
use Rattle.asn_modules_reader.specs.Views.{base_view}

abbrev mutual
  -- The type without its tags and constraints, and then those within it, in order.
  pub bases : Notation → List Base
  bases (notation tags base sizes) = base ∷ bases_within base

  pub bases_within : Base → List Base
  bases_within (members kind ms) = members_bases ms
  bases_within (list_of kind n) = bases n
  bases_within (choice ms) = members_bases ms
  bases_within base = []

  pub member_bases : Member → List Base
  member_bases (component name n presence) = bases n
  member_bases (components_of n) = bases n
  member_bases (group ms) = members_bases ms
  member_bases marker = []

  pub members_bases : Members → List Base
  members_bases no_members = []
  members_bases (member m ms) = member_bases m ++ members_bases ms

-- The type of an assignment, or of the value that it assigns.
abbrev pub assigned_type : Assignment → Notation
assigned_type (type_assignment name n) = n
assigned_type (value_assignment name n value) = n
assigned_type (template_assignment name ps n) = n

-- A type that stands in a text, without its tags and constraints.
pub record Written : Type 0 where
  pub source : Source
  pub base : Base

abbrev pub written_in : Source → Base → Written
written_in s b = record { source = s; base = b }

abbrev pub written_view : code.WrittenType → Written
written_view w = written_in (source_view w.source.now) (base_view w.base.now)

-- The types that stand in these assignments of the text, in order.
abbrev pub assignments_written : Source → List Assignment → List Written
assignments_written s [] = []
assignments_written s (a ∷ more) =
    map (written_in s) (bases (assigned_type a)) ++ assignments_written s more

-- Those of these modules of the text.
abbrev pub modules_written : Source → List Module → List Written
modules_written s [] = []
modules_written s (m ∷ ms) = assignments_written s m.assignments ++ modules_written s ms

-- Those of these texts.
abbrev pub all_written : List Source → List Written
all_written [] = []
all_written (s ∷ ss) = modules_written s s.modules ++ all_written ss
