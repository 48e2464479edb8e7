use Rattle.std.proofs.Common.{◌∙◌}
use Rattle.asn_model.proofs.ArcsParsed.{parsed-arc}
use Rattle.asn_model.proofs.arcs.arc_of.Goals as goal

pub returns : goal.returns
returns c = c.ok.ensures.value ∙ parsed-arc c.args.text.now c.parse.result c.parse.ensures.value.0
