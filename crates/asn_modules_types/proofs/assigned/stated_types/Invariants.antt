use Rattle.std.proofs.Common.{◌≡◌, ◌++◌, map}
use Rattle.asn_modules_types.specs.named_numbers.Views.{type_view}
use Rattle.asn_modules_types.proofs.Numbering.{stated_from}
use Rattle.asn_modules_types.proofs.assigned.stated_types.Given as goal

abbrev pub invariant-loop-assigned : goal.invariant-loop-assigned
invariant-loop-assigned l = stated_from l.types 0 ≡ map type_view l.stated.items ++ stated_from l.types l.assigned-index
