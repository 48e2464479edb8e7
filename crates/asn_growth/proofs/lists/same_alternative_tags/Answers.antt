use Rattle.std.proofs.Common.{◌∙◌}
use Rattle.std.proofs.lemmas.Bool.{ne_eqb}
use Rattle.asn_model.specs.Shape.{tags, tag_eq}
use Rattle.asn_model.specs.ShapeView.{alternative_views}
use Rattle.asn_growth.proofs.Viewed.{as_long, alternative_tags_counted, not_as_long}
use Rattle.asn_growth.proofs.lists.same_alternative_tags.Goals as goal

pub returns-then-old-new : goal.returns-then-old-new
returns-then-old-new c = c.alternative_tags_begin.ensures ∙ as_long tag_eq (tags (alternative_views c.args.old.now)) (tags (alternative_views c.args.new.now)) (alternative_tags_counted c.args.old.now) (alternative_tags_counted c.args.new.now) c.if-old-new.true

pub returns-else-old-new : goal.returns-else-old-new
returns-else-old-new c = ne_eqb _ _ c.if-old-new.false ∙ not_as_long tag_eq (tags (alternative_views c.args.old.now)) (tags (alternative_views c.args.new.now)) (alternative_tags_counted c.args.old.now) (alternative_tags_counted c.args.new.now) c.if-old-new.false
