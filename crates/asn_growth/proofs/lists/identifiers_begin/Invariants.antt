use Rattle.std.proofs.Common.{◌≡◌, drop}
use Rattle.std.specs.Str.{bytes_eq}
use Rattle.asn_model.specs.Shape.{identifiers}
use Rattle.asn_model.specs.ShapeView.{alternative_views}
use Rattle.asn_growth.specs.Reasons.{begins}
use Rattle.asn_growth.proofs.lists.identifiers_begin.Given as goal

-- The rest of the newer list begins with that of the older one where the lists do.
abbrev pub invariant-loop-index : goal.invariant-loop-index
invariant-loop-index l = begins bytes_eq (identifiers (alternative_views (drop l.index l.old))) (identifiers (alternative_views (drop l.index l.new))) ≡ begins bytes_eq (identifiers (alternative_views (l.old))) (identifiers (alternative_views (l.new)))
