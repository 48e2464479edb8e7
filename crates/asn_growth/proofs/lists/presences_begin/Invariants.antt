use Rattle.std.proofs.Common.{◌≡◌, drop}
use Rattle.asn_model.specs.ShapeView.{field_views}
use Rattle.asn_growth.specs.Parts.{presences}
use Rattle.asn_growth.specs.Reasons.{same_presence}
use Rattle.asn_growth.specs.Reasons.{begins}
use Rattle.asn_growth.proofs.lists.presences_begin.Given as goal

-- The rest of the newer list begins with that of the older one where the lists do.
abbrev pub invariant-loop-index : goal.invariant-loop-index
invariant-loop-index l = begins same_presence (presences (field_views (drop l.index l.old))) (presences (field_views (drop l.index l.new))) ≡ begins same_presence (presences (field_views (l.old))) (presences (field_views (l.new)))
