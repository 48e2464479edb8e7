use Rattle.std.proofs.Common.{refl}
use Rattle.asn_model.proofs.Viewing.{alternative_views-push}
use Rattle.asn_fields.proofs.shape_parts.AlternativeShapes.alternative_of.Goals as goal

pub returns : goal.returns
returns c = rw (c.in_ok-push.ensures.items, alternative_views-push c.args.self.now.items.items _, c.in_ok-identifier.ensures.ok) refl
