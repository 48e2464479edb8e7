use Rattle.std.proofs.Common.{◌≡◌, ◌++◌, drop}
use Rattle.asn_modules_rules.specs.included.Behind.{entries_behind}
use Rattle.asn_modules_rules.proofs.included.Behinds.{components_behind}
use Rattle.asn_modules_rules.proofs.included.names.+behind.Given as goal

abbrev pub invariant-add_entries-loop-entry : goal.invariant-add_entries-loop-entry
invariant-add_entries-loop-entry l = l.fn.names.items ++ entries_behind l.entries ≡ l.names.items ++ entries_behind (drop l.entry-index l.entries)

abbrev pub invariant-add_components-loop-component : goal.invariant-add_components-loop-component
invariant-add_components-loop-component l = l.fn.names.items ++ components_behind l.components ≡ l.names.items ++ components_behind (drop l.component-index l.components)
