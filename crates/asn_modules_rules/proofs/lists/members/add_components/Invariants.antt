use Rattle.std.proofs.Common.{◌≡◌, ◌++◌, drop}
use Rattle.asn_modules_rules.proofs.lists.Collecting.{components_names}
use Rattle.asn_modules_rules.proofs.lists.members.add_components.Given as goal

abbrev pub invariant-loop-component : goal.invariant-loop-component
invariant-loop-component l = l.fn.names.items ++ components_names l.components ≡ l.names.items ++ components_names (drop l.component-index l.components)
