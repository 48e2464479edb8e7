use Rattle.std.proofs.Common.{refl}
use Rattle.asn_model.proofs.Viewing.{field_views-push}
use Rattle.asn_fields.proofs.shape_parts.FieldShapes.push_of.Goals as goal

pub returns : goal.returns
returns c = rw (c.in_ok-push.ensures.items, field_views-push c.args.self.now.items.items _, c.in_ok-name.ensures.ok) refl
