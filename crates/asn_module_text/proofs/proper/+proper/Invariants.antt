use Rattle.std.proofs.Common.{◌≡◌, drop}
use Rattle.asn_notation.specs.Proper.{are_elements_proper}
use Rattle.asn_module_text.proofs.Printing.{elements_seen}
use Rattle.asn_module_text.proofs.proper.+proper.Given as goal

abbrev pub invariant-are_all_proper-loop-component : goal.invariant-are_all_proper-loop-component
invariant-are_all_proper-loop-component l = are_elements_proper 64 l.level l.allowed (elements_seen l.components) ≡ are_elements_proper 64 l.level l.allowed (elements_seen (drop l.component-index l.components))
