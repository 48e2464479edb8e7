use Rattle.std.proofs.Common.{◌≡◌, drop}
use Rattle.asn_model.specs.Shape.{tag_eq, tags}
use Rattle.asn_model.specs.ShapeView.{alternative_views}
use Rattle.asn_growth.specs.Reasons.{begins}
use Rattle.asn_growth.proofs.lists.alternative_tags_begin.Given as goal

-- The rest of the newer list begins with that of the older one where the lists do.
abbrev pub invariant-loop-index : goal.invariant-loop-index
invariant-loop-index l = begins tag_eq (tags (alternative_views (drop l.index l.old))) (tags (alternative_views (drop l.index l.new))) ≡ begins tag_eq (tags (alternative_views (l.old))) (tags (alternative_views (l.new)))
