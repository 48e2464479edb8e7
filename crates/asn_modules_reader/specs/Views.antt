-- What contracts see of the parts of types.
use Rattle.std.specs.Prelude.{List, Option, Some, None}
use Rattle.asn_modules_grammar.specs.notation.Notation as spec
use Rattle.asn_modules_grammar.specs.notation.View.{base_step, component_step, member_step, extension_step, members_step, notation_step}
use Rattle.asn_modules_grammar.specs.declared.notation.notation.Base.{Base}
use Rattle.asn_modules_grammar.specs.declared.notation.notation.Base.TheFolds.{fold-Base, fold-Member}
use Rattle.asn_modules_grammar.specs.declared.notation.notation.Member.{Member}

-- The type without tags and constraints that a `Base` is.
abbrev pub base_view : Base → spec.Base
base_view =
    fold-Base spec.Base spec.Member spec.Member (List spec.Member)
    (List spec.Member) spec.Notation base_step component_step member_step extension_step members_step notation_step

-- The entry that a `Member` is.
abbrev pub member_view : Member → spec.Member
member_view =
    fold-Member spec.Base spec.Member spec.Member (List spec.Member)
    (List spec.Member) spec.Notation base_step component_step member_step extension_step members_step notation_step

-- The entry, of which `None` is an extension marker.
abbrev pub member_seen : Option Member → spec.Member
member_seen None = spec.marker
member_seen (Some m) = member_view m
