-- How many bytes COMPONENTS OF includes, and how deep its types nest.
use Rattle.std.specs.Prelude.{ℕ, suc, ◌+◌, ◌-◌, max, nat_le, ◌&&◌, if◌then◌else◌, Option, Some, None}
use Rattle.asn_lexer.specs.declared.token.Token.{Token}
use Rattle.asn_modules_rules.specs.included.Sizes.{constraints_size, presence_size, reference_size}
use Rattle.asn_modules_rules.specs.declared.included.limits.TheConstants.{INSTANCE_SIZE, TYPE_SIZE}
use Rattle.asn_modules_grammar.specs.notation.Notation.{Notation, Base, Member, Members, notation, integer, enumerated, members, list_of, choice, reference, instance_of, component, components_of, group, marker, no_members, member}
use Rattle.asn_modules_rules.specs.sizes.Sizes.{items_size, name_size, numbers_size}

-- So many bytes, in types that nest to so many levels.
pub record Extent : Type 0 where
  pub size : ℕ
  pub levels : ℕ

abbrev pub nothing : Extent
nothing = record { size = 0; levels = 0 }

-- So many bytes, without a level.
abbrev pub of_size : ℕ → Extent
of_size n = record { size = n; levels = 0 }

-- A type, or a name, and these within it.
abbrev pub around : Extent → Extent
around e = record { size = TYPE_SIZE + e.size; levels = suc e.levels }

-- These beside others.
abbrev pub beside : Extent → Extent → Extent
beside e f = record { size = e.size + f.size; levels = max e.levels f.levels }

-- How many of so many bytes are left after these, where there are as many and the levels are
-- enough.
abbrev pub left_behind : Extent → ℕ → ℕ → Option ℕ
left_behind e left levels =
    if nat_le e.size left && nat_le e.levels levels then Some (left - e.size) else None

-- What names after COMPONENTS OF include, each after that of its module where it is stated.
abbrev pub Inclusions : Type 0
Inclusions = Option Token → Token → Extent

-- Such a name, with what it includes.
abbrev pub named_extent : Inclusions → Option Token → Token → Extent
named_extent f home name = beside (of_size (reference_size home name)) (f home name)

abbrev mutual
  -- A type with all that stands within it, where names after COMPONENTS OF include these.
  pub type_extent : Inclusions → Notation → Extent
  type_extent f (notation tags base sizes) =
      around (beside (of_size (constraints_size sizes)) (base_extent f base))

  pub base_extent : Inclusions → Base → Extent
  base_extent f (integer ns) = of_size (numbers_size ns)
  base_extent f (enumerated items) = of_size (items_size items)
  base_extent f (members kind ms) = members_extent f ms
  base_extent f (list_of kind n) = type_extent f n
  base_extent f (choice ms) = members_extent f ms
  base_extent f (reference home name) = of_size (reference_size home name)
  base_extent f (instance_of home name ns) = of_size INSTANCE_SIZE
  base_extent f base = nothing

  pub member_extent : Inclusions → Member → Extent
  member_extent f (component name n presence) =
      beside (of_size (name_size name + presence_size presence)) (type_extent f n)
  member_extent f (components_of n) = included_extent f n
  member_extent f (group ms) = members_extent f ms
  member_extent f marker = nothing

  pub members_extent : Inclusions → Members → Extent
  members_extent f no_members = nothing
  members_extent f (member m ms) = beside (member_extent f m) (members_extent f ms)

  -- A type after COMPONENTS OF with what it includes: the components of its root, or of that of
  -- the type that it is the name of (X.680, section 25.4).
  pub included_extent : Inclusions → Notation → Extent
  included_extent f (notation tags base sizes) = around (root_extent f base)

  pub root_extent : Inclusions → Base → Extent
  root_extent f (members kind ms) = front_extent f ms
  root_extent f (reference home name) = named_extent f home name
  root_extent f base = nothing

  -- The root: what stands before the first extension marker, and after the second one.
  pub front_extent : Inclusions → Members → Extent
  front_extent f no_members = nothing
  front_extent f (member marker ms) = tail_extent f ms
  front_extent f (member m ms) = beside (member_extent f m) (front_extent f ms)

  -- After the first marker: extension additions are passed over up to the second one.
  pub tail_extent : Inclusions → Members → Extent
  tail_extent f no_members = nothing
  tail_extent f (member marker ms) = members_extent f ms
  tail_extent f (member m ms) = tail_extent f ms
