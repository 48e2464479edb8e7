-- What contracts see of where names after COMPONENTS OF stand.
use Rattle.std.specs.Prelude.{ℕ, List, map}
use Rattle.asn_modules_rules.specs.included.Extents.{Extent, Inclusions, members_extent}
use Rattle.asn_modules_rules.specs.included.TooLarge.{included, inclusions}
use Rattle.asn_modules_rules.specs.included.Types.{type_view}
use Rattle.asn_modules_rules.specs.declared.included.scope.Scope.{Scope}
use Rattle.asn_modules_names.specs.lookup.Homes.{home_view}
use Rattle.asn_modules_names.specs.Mentions.{Source}
use Rattle.asn_modules_grammar.specs.notation.Notation.{members_of}
use Rattle.asn_modules_grammar.specs.declared.notation.notation.Member.{Member}
use Rattle.asn_modules_reader.specs.Views.{member_view}

-- What names there include, past at most so many names.
abbrev pub inclusions_in : List Source → Scope → ℕ → Inclusions
inclusions_in ss s names =
    inclusions ss s.number (home_view s.home) (included ss (map type_view s.types.now) names)

-- What is within these entries.
abbrev pub entries_extent : Inclusions → List Member → Extent
entries_extent f ms = members_extent f (members_of (map member_view ms))
