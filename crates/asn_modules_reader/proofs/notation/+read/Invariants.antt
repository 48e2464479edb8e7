use Rattle.std.proofs.Common.{◌≡◌, ◌≤◌, ◌+◌, ◌*◌, length, map, nat_le, true}
use Rattle.std.specs.List.{count_by}
use Rattle.asn_lexer.specs.declared.kind.Kind.TheVariants as kind
use Rattle.asn_modules_grammar.specs.notation.Grammar.{ArgumentsParse, MembersParse}
use Rattle.asn_modules_grammar.specs.notation.View.{component_view, notation_view}
use Rattle.asn_modules_reader.specs.parts.EntryLists.{entries_of, is_marker}
use Rattle.asn_modules_reader.proofs.parts.Runs.{Going}
use Rattle.asn_modules_reader.specs.Views.{member_seen}
use Rattle.asn_modules_reader.proofs.ArgumentsRead.{given}
use Rattle.asn_modules_reader.proofs.notation.+read.Given as goal

abbrev pub decreases-read_notation : goal.decreases-read_notation
decreases-read_notation l = 8 * length l.tokens.now

abbrev pub decreases-read_base : goal.decreases-read_base
decreases-read_base l = 8 * length l.tokens.now + 4

abbrev pub decreases-read_named : goal.decreases-read_named
decreases-read_named l = 8 * length l.tokens.now + 3

abbrev pub decreases-read_arguments : goal.decreases-read_arguments
decreases-read_arguments l = 8 * length l.tokens.now + 3

abbrev pub invariant-read_arguments-arguments : goal.invariant-read_arguments-arguments
invariant-read_arguments-arguments l = Going (ArgumentsParse 64 l.level) l.tokens l.rest (given (map notation_view l.arguments.items)) × (length l.rest ≤ length l.tokens)

abbrev pub decreases-read_arguments-arguments : goal.decreases-read_arguments-arguments
decreases-read_arguments-arguments l = length l.rest

abbrev pub decreases-read_members : goal.decreases-read_members
decreases-read_members l = 8 * length l.tokens.now + 3

abbrev pub decreases-read_choice : goal.decreases-read_choice
decreases-read_choice l = 8 * length l.tokens.now + 3

abbrev pub decreases-read_braces : goal.decreases-read_braces
decreases-read_braces l = 8 * length l.tokens.now + 3

abbrev pub decreases-read_member : goal.decreases-read_member
decreases-read_member l = 8 * length l.tokens.now + 2

abbrev pub decreases-read_group : goal.decreases-read_group
decreases-read_group l = 8 * length l.tokens.now + 2

abbrev pub decreases-read_component : goal.decreases-read_component
decreases-read_component l = 8 * length l.tokens.now + 1

abbrev pub decreases-read_components_of : goal.decreases-read_components_of
decreases-read_components_of l = 8 * length l.tokens.now

abbrev pub invariant-read_group-components : goal.invariant-read_group-components
invariant-read_group-components l = Going (MembersParse 64 l.level l.fields kind.CloseVersion) l.tokens l.rest (map component_view l.components.items) × (length l.rest ≤ length l.tokens)

abbrev pub decreases-read_group-components : goal.decreases-read_group-components
decreases-read_group-components l = length l.rest

abbrev pub invariant-read_braces-members : goal.invariant-read_braces-members
invariant-read_braces-members l = Going (MembersParse 64 l.level l.fields kind.CloseBrace) l.tokens l.rest (map member_seen (entries_of l.entries)) × (nat_le (count_by is_marker (entries_of l.entries)) 2 ≡ true) × (length l.rest ≤ length l.tokens)

abbrev pub decreases-read_braces-members : goal.decreases-read_braces-members
decreases-read_braces-members l = length l.rest
