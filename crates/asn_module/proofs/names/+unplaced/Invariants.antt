use Rattle.std.proofs.Common.{◌≡◌, map, drop}
use Rattle.asn_expansion.specs.Places.{is_placed}
use Rattle.asn_notation.specs.Names.{element_references, first_failing}
use Rattle.asn_notation.specs.Notation.{elements_of}
use Rattle.asn_notation.specs.View.{component_view}
use Rattle.asn_module.proofs.names.+unplaced.Given as goal

abbrev pub invariant-first_unplaced_among-loop-component : goal.invariant-first_unplaced_among-loop-component
invariant-first_unplaced_among-loop-component l =
    first_failing (λ n. is_placed l.places n) (element_references (elements_of (map component_view l.components)))
    ≡ first_failing (λ n. is_placed l.places n) (element_references (elements_of (map component_view (drop l.component-index l.components))))
