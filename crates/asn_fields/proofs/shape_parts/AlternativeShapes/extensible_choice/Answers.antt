use Rattle.std.proofs.Common.{Some}
use Rattle.asn_model.proofs.Viewing.{choice_viewed}
use Rattle.asn_fields.proofs.shape_parts.AlternativeShapes.extensible_choice.Goals as goal

pub returns : goal.returns
returns c = choice_viewed c.args.self.items (Some c.args.added.items)
