use Rattle.std.proofs.Common.{◌≡◌, ◌++◌, drop}
use Rattle.asn_modules_rules.specs.lists.Extensions.{entries_names}
use Rattle.asn_modules_rules.proofs.lists.members.add_entries.Given as goal

abbrev pub invariant-loop-entry : goal.invariant-loop-entry
invariant-loop-entry l = l.fn.names.items ++ entries_names l.entries ≡ l.names.items ++ entries_names (drop l.entry-index l.entries)
