use Rattle.std.proofs.Common.{◌≡◌, ◌++◌, map, drop}
use Rattle.asn_modules_rules.specs.lists.Extensions.{entries_written}
use Rattle.asn_modules_rules.specs.lists.Written.{written_view}
use Rattle.asn_modules_rules.proofs.lists.Collecting.{components_written}
use Rattle.asn_modules_rules.proofs.lists.within.+types.Given as goal
use Rattle.asn_modules_names.specs.Mentions.{source_view}

abbrev pub invariant-add_entries-loop-entry : goal.invariant-add_entries-loop-entry
invariant-add_entries-loop-entry l = map written_view l.fn.found.items ++ entries_written (source_view l.source) l.entries ≡ map written_view l.found.items ++ entries_written (source_view l.source) (drop l.entry-index l.entries)

abbrev pub invariant-add_components-loop-component : goal.invariant-add_components-loop-component
invariant-add_components-loop-component l = map written_view l.fn.found.items ++ components_written (source_view l.source) l.components ≡ map written_view l.found.items ++ components_written (source_view l.source) (drop l.component-index l.components)
