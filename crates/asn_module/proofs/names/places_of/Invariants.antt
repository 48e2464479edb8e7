use Rattle.std.proofs.Common.{◌≡◌, map, take, drop}
use Rattle.asn_expansion.specs.Places.{ArePlaces}
use Rattle.asn_notation.specs.Names.{assigned_names, first_repeated, first_repeated_in}
use Rattle.asn_notation.specs.View.{assignment_view}
use Rattle.asn_module.proofs.names.places_of.Given as goal

abbrev pub invariant-loop-place : goal.invariant-loop-place
invariant-loop-place l =
    ArePlaces l.places (assigned_names (map assignment_view (take l.place l.assignments)))
    × (first_repeated (map assignment_view l.assignments) ≡ first_repeated_in (assigned_names (map assignment_view (take l.place l.assignments))) (assigned_names (map assignment_view (drop l.place l.assignments))))
