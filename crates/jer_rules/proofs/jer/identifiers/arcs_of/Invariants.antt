use Rattle.std.proofs.Common.{◌≡◌, ◌==◌, drop, map}
use Rattle.std.specs.List.{slice_split}
use Rattle.asn_traits.specs.Arcs.{arc_numbers}
use Rattle.jer_rules.proofs.ArcsTaken.{arcs_after}
use Rattle.jer_rules.proofs.jer.identifiers.arcs_of.Given as goal

-- The arcs so far stand before those of the parts that are left.
abbrev pub invariant-loop-part : goal.invariant-loop-part
invariant-loop-part l = arc_numbers (slice_split (λ c. c == 46) l.text) ≡ arcs_after l.arcs.items (arc_numbers (drop l.part-index (map (λ x. x.now) l.part-items)))
