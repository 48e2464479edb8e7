use Rattle.std.proofs.Common.{◌≡◌, map, drop}
use Rattle.asn_expansion.specs.Places.{is_placed}
use Rattle.asn_notation.specs.Names.{first_failing, module_references}
use Rattle.asn_notation.specs.View.{assignment_view}
use Rattle.asn_module.proofs.read.check_names.Given as goal

abbrev pub invariant-loop-assignment : goal.invariant-loop-assignment
invariant-loop-assignment l =
    first_failing (λ n. is_placed l.places n) (module_references (map assignment_view l.candidate.assignments.items))
    ≡ first_failing (λ n. is_placed l.places n) (module_references (map assignment_view (drop l.assignment-index l.candidate.assignments.items)))
