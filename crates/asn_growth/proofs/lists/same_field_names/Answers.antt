use Rattle.std.proofs.Common.{◌∙◌}
use Rattle.std.proofs.lemmas.Bool.{ne_eqb}
use Rattle.std.specs.Str.{bytes_eq}
use Rattle.asn_model.specs.Shape.{field_names}
use Rattle.asn_model.specs.ShapeView.{field_views}
use Rattle.asn_growth.proofs.Viewed.{as_long, names_counted, not_as_long}
use Rattle.asn_growth.proofs.lists.same_field_names.Goals as goal

pub returns-then-old-new : goal.returns-then-old-new
returns-then-old-new c = c.field_names_begin.ensures ∙ as_long bytes_eq (field_names (field_views c.args.old.now)) (field_names (field_views c.args.new.now)) (names_counted c.args.old.now) (names_counted c.args.new.now) c.if-old-new.true

pub returns-else-old-new : goal.returns-else-old-new
returns-else-old-new c = ne_eqb _ _ c.if-old-new.false ∙ not_as_long bytes_eq (field_names (field_views c.args.old.now)) (field_names (field_views c.args.new.now)) (names_counted c.args.old.now) (names_counted c.args.new.now) c.if-old-new.false
