use Rattle.std.proofs.Common.{◌≡◌, drop}
use Rattle.asn_model.specs.Shape.{tag_eq}
use Rattle.asn_model.specs.ShapeView.{field_views}
use Rattle.asn_growth.specs.Parts.{field_tags}
use Rattle.asn_growth.specs.Reasons.{begins}
use Rattle.asn_growth.proofs.lists.field_tags_begin.Given as goal

-- The rest of the newer list begins with that of the older one where the lists do.
abbrev pub invariant-loop-index : goal.invariant-loop-index
invariant-loop-index l = begins tag_eq (field_tags (field_views (drop l.index l.old))) (field_tags (field_views (drop l.index l.new))) ≡ begins tag_eq (field_tags (field_views (l.old))) (field_tags (field_views (l.new)))
