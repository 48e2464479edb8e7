use Rattle.std.proofs.Common.{◌≡◌, map}
use Rattle.asn_modules.specs.Names.{type_name_view}
use Rattle.asn_modules.proofs.Naming.{names_before}
use Rattle.asn_modules.proofs.names.names_of.Given as goal

abbrev pub invariant-loop-assigned : goal.invariant-loop-assigned
invariant-loop-assigned l = map type_name_view l.names.items ≡ names_before l.types l.assigned-index
