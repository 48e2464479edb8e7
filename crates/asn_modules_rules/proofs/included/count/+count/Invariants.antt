use Rattle.std.proofs.Common.{◌≡◌, ◌+◌, ◌*◌, List, drop}
use Rattle.asn_modules_rules.specs.included.Scopes.{inclusions_in}
use Rattle.asn_modules_rules.proofs.included.Past.{past_all}
use Rattle.asn_modules_names.specs.lookup.Indexes.{IsIndexOf}
use Rattle.asn_modules_names.specs.declared.lookup.sort.Sort.TheVariants.{Types}
use Rattle.asn_modules_names.specs.Mentions.{Source}
use Rattle.asn_modules_grammar.specs.notation.View.{component_view}
use Rattle.asn_modules_reader.specs.Views.{member_view}
use Rattle.asn_modules_rules.proofs.included.count.+count.Given as goal

-- Each type, and each name after COMPONENTS OF, takes a level.
abbrev pub decreases-past_type : goal.decreases-past_type
decreases-past_type l = 8 * l.depth.levels

abbrev pub decreases-past_included : goal.decreases-past_included
decreases-past_included l = 8 * l.depth.levels

abbrev pub decreases-past_inclusion : goal.decreases-past_inclusion
decreases-past_inclusion l = 8 * l.depth.levels + 1

abbrev pub decreases-past_named : goal.decreases-past_named
decreases-past_named l = 8 * l.depth.levels + 2

abbrev pub decreases-past_component : goal.decreases-past_component
decreases-past_component l = 8 * l.depth.levels + 1

abbrev pub decreases-past_components : goal.decreases-past_components
decreases-past_components l = 8 * l.depth.levels + 2

abbrev pub decreases-past_entry : goal.decreases-past_entry
decreases-past_entry l = 8 * l.depth.levels + 3

abbrev pub decreases-past_entries : goal.decreases-past_entries
decreases-past_entries l = 8 * l.depth.levels + 4

abbrev pub decreases-past_root : goal.decreases-past_root
decreases-past_root l = 8 * l.depth.levels + 5

abbrev pub decreases-past_members : goal.decreases-past_members
decreases-past_members l = 8 * l.depth.levels + 6

abbrev pub decreases-past_base : goal.decreases-past_base
decreases-past_base l = 8 * l.depth.levels + 7

-- The entries that are left leave of the rest what all leave.
abbrev pub invariant-past_entries-loop-entry : goal.invariant-past_entries-loop-entry
invariant-past_entries-loop-entry l = (ss : List Source) → IsIndexOf Types ss l.scope.index.now
    → past_all (inclusions_in ss l.scope l.depth.names) l.depth.levels member_view l.entries l.left ≡ past_all (inclusions_in ss l.scope l.depth.names) l.depth.levels member_view (drop l.entry-index l.entries) l.rest

abbrev pub invariant-past_components-loop-component : goal.invariant-past_components-loop-component
invariant-past_components-loop-component l = (ss : List Source) → IsIndexOf Types ss l.scope.index.now
    → past_all (inclusions_in ss l.scope l.depth.names) l.depth.levels component_view l.components l.left ≡ past_all (inclusions_in ss l.scope l.depth.names) l.depth.levels component_view (drop l.component-index l.components) l.rest
