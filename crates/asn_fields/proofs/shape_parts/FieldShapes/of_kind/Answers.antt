use Rattle.asn_model.proofs.Viewing.{sequence_viewed}
use Rattle.asn_fields.proofs.shape_parts.FieldShapes.of_kind.Goals as goal

pub returns : goal.returns
returns c = sequence_viewed c.args.kind c.args.self.items c.args.added
