use Rattle.std.proofs.Common.{◌∙◌, [], ap, arith, get_or, sym}
use Rattle.std.proofs.lemmas.List.{length-map}
use Rattle.asn_model.specs.Components.{Component, component_names}
use Rattle.asn_parts.specs.Listed.{fields_in}
use Rattle.asn_parts.specs.Parts.{component_of}
use Rattle.asn_parts.proofs.NameRows.{component-name}
use Rattle.asn_coding.proofs.NameRows.{length-numbered, names-numbered}
use Rattle.asn_parts.proofs.names.FieldNamesNameList.name.Goals as goal

pub field-requires : goal.field-requires
field-requires g c =
    let cs = fields_in (g.P.Part.shape [] c.args.self.now.part) in
    omega (arith, c.requires, length-numbered 0 (component_names cs), length-map cs (λ (c : Component). c.name))

pub returns : goal.returns
returns g c =
    let cs = fields_in (g.P.Part.shape [] c.args.self.now.part) in
    sym (ap (λ l. get_or l c.args.place []) (names-numbered 0 (component_names cs)) ∙ component-name cs c.args.place (component_of (g.P.Part.shape []) c.field.result) (c.field.ensures []))
