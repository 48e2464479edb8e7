use Rattle.std.proofs.Common.{◌≡◌, ◌-◌, length, map}
use Rattle.asn_model.specs.ShapeView.{shape_view}
use Rattle.asn_type_printing.specs.Reached.{reached, reached_from}
use Rattle.asn_type_printing.proofs.reached.reached.Given as goal

-- When the types that are left are gone into, all are found.
abbrev pub invariant-loop-place : goal.invariant-loop-place
invariant-loop-place l = reached_from (map shape_view l.types) (length l.types - l.place) l.found.keys l.place ≡ reached (map shape_view l.types) l.fn.number
