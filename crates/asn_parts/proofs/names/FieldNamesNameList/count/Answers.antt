use Rattle.std.proofs.Common.{◌∙◌, [], sym}
use Rattle.std.proofs.lemmas.List.{length-map}
use Rattle.asn_model.specs.Components.{Component, component_names}
use Rattle.asn_parts.specs.Listed.{fields_in}
use Rattle.asn_coding.proofs.NameRows.{length-numbered}
use Rattle.asn_parts.proofs.names.FieldNamesNameList.count.Goals as goal

pub returns : goal.returns
returns g c =
    let cs = fields_in (g.P.Part.shape [] c.args.self.now.part) in
    c.field_count.ensures ∙ sym (length-numbered 0 (component_names cs) ∙ length-map cs (λ (c : Component). c.name))
