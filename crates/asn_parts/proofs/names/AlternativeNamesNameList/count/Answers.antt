use Rattle.std.proofs.Common.{◌∙◌, [], sym}
use Rattle.asn_model.specs.Shape.{identifiers}
use Rattle.asn_parts.specs.Listed.{alternatives_in}
use Rattle.asn_coding.proofs.NameRows.{length-numbered}
use Rattle.asn_parts.proofs.names.AlternativeNamesNameList.count.Goals as goal

pub returns : goal.returns
returns g c = c.alternative_count.ensures ∙ sym (length-numbered 0 (identifiers (alternatives_in (g.P.Part.shape [] c.args.self.now.part))))
