use Rattle.std.proofs.Common.{◌≡◌, ◌++◌, ◌-◌, List, map, take}
use Rattle.asn_coding.specs.SetFields.{placed}
use Rattle.asn_parts.specs.Names.{counted}
use Rattle.asn_parts.specs.Listed.{fields_in}
use Rattle.asn_parts.proofs.Orders.{Spot, spot_of}
use Rattle.asn_parts.proofs.order.places_as_read.Given as goal

-- The spots of the fields so far.
abbrev pub invariant-loop-place : goal.invariant-loop-place
invariant-loop-place g l = (around : List _) → l.spots.items ≡ map spot_of (take l.place (placed 0 (fields_in (g.P.Part.shape around l.part))))

-- The places of the spots so far.
abbrev pub invariant-loop-spot : goal.invariant-loop-spot
invariant-loop-spot g l = l.order.items ≡ map (λ (s : Spot). s.0) (take l.spot-index l.spot-items)

-- And the places after them so far.
abbrev pub invariant-loop-place-2 : goal.invariant-loop-place-2
invariant-loop-place-2 g l = l.order.items ≡ map (λ (s : Spot). s.0) l.spots.items ++ counted l.root (l.place - l.root)
