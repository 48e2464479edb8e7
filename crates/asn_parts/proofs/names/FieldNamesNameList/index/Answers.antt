use Rattle.std.proofs.Common.{◌≡◌, ◌+◌, ◌∙◌, [], arith}
use Rattle.asn_model.specs.Components.{component_names}
use Rattle.asn_parts.specs.Listed.{fields_in}
use Rattle.asn_coding.proofs.NameRows.{index-numbered, length-numbered}
use Rattle.asn_parts.proofs.names.FieldNamesNameList.index.Goals as goal

pub returns : goal.returns
returns g c =
    let names = component_names (fields_in (g.P.Part.shape [] c.args.self.now.part)) in
    let zeroth : c.args.place ≡ 0 + c.args.place = omega arith in
    zeroth ∙ index-numbered 0 c.args.place names (omega (arith, c.requires, length-numbered 0 names))
