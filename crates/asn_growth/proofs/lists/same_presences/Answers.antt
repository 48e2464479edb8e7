use Rattle.std.proofs.Common.{◌∙◌}
use Rattle.std.proofs.lemmas.Bool.{ne_eqb}
use Rattle.asn_model.specs.ShapeView.{field_views}
use Rattle.asn_growth.specs.Parts.{presences}
use Rattle.asn_growth.specs.Reasons.{same_presence}
use Rattle.asn_growth.proofs.Viewed.{as_long, presences_counted, not_as_long}
use Rattle.asn_growth.proofs.lists.same_presences.Goals as goal

pub returns-then-old-new : goal.returns-then-old-new
returns-then-old-new c = c.presences_begin.ensures ∙ as_long same_presence (presences (field_views c.args.old.now)) (presences (field_views c.args.new.now)) (presences_counted c.args.old.now) (presences_counted c.args.new.now) c.if-old-new.true

pub returns-else-old-new : goal.returns-else-old-new
returns-else-old-new c = ne_eqb _ _ c.if-old-new.false ∙ not_as_long same_presence (presences (field_views c.args.old.now)) (presences (field_views c.args.new.now)) (presences_counted c.args.old.now) (presences_counted c.args.new.now) c.if-old-new.false
