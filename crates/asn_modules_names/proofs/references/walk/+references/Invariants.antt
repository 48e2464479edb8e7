use Rattle.std.proofs.Common.{◌≡◌, ◌++◌, drop}
use Rattle.asn_modules_names.specs.references.Extensions.{entries_references}
use Rattle.asn_modules_names.proofs.references.Referring.{components_references}
use Rattle.asn_modules_names.proofs.references.walk.+references.Given as goal

abbrev pub invariant-add_entries-loop-entry : goal.invariant-add_entries-loop-entry
invariant-add_entries-loop-entry l = l.fn.names.items ++ entries_references l.entries ≡ l.names.items ++ entries_references (drop l.entry-index l.entries)

abbrev pub invariant-add_components-loop-component : goal.invariant-add_components-loop-component
invariant-add_components-loop-component l = l.fn.names.items ++ components_references l.components ≡ l.names.items ++ components_references (drop l.component-index l.components)
