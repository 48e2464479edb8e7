use Rattle.std.proofs.Common.{◌∙◌}
use Rattle.std.proofs.lemmas.Bool.{ne_eqb}
use Rattle.asn_model.specs.Shape.{tag_eq}
use Rattle.asn_model.specs.ShapeView.{field_views}
use Rattle.asn_growth.specs.Parts.{field_tags}
use Rattle.asn_growth.proofs.Viewed.{as_long, field_tags_counted, not_as_long}
use Rattle.asn_growth.proofs.lists.same_field_tags.Goals as goal

pub returns-then-old-new : goal.returns-then-old-new
returns-then-old-new c = c.field_tags_begin.ensures ∙ as_long tag_eq (field_tags (field_views c.args.old.now)) (field_tags (field_views c.args.new.now)) (field_tags_counted c.args.old.now) (field_tags_counted c.args.new.now) c.if-old-new.true

pub returns-else-old-new : goal.returns-else-old-new
returns-else-old-new c = ne_eqb _ _ c.if-old-new.false ∙ not_as_long tag_eq (field_tags (field_views c.args.old.now)) (field_tags (field_views c.args.new.now)) (field_tags_counted c.args.old.now) (field_tags_counted c.args.new.now) c.if-old-new.false
