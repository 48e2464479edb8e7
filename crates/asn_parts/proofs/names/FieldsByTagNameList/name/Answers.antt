use Rattle.std.proofs.Common.{◌≡◌, ◌≤◌, ◌∙◌, [], ap, arith, get_or, length, sym}
use Rattle.std.proofs.lemmas.List.{get_or_past, length-map}
use Rattle.asn_model.specs.Components.{Component, component_names}
use Rattle.asn_parts.specs.Listed.{fields_in}
use Rattle.asn_parts.specs.Parts.{component_of}
use Rattle.asn_parts.proofs.NameRows.{at-name, component-name, place-at}
use Rattle.asn_parts.proofs.names.FieldsByTagNameList.name.Goals as goal

pub returns-then-field-field_count : goal.returns-then-field-field_count
returns-then-field-field_count g c =
    let cs = fields_in (g.P.Part.shape [] c.args.self.now.part) in
    let order = c.args.self.now.order.items in
    let k = c.index-field.result.now in
    let there : k ≡ get_or order c.args.place k = omega arith in
    let here = place-at (component_names cs) order c.args.place k c.requires there in
    sym (at-name (component_names cs) order c.args.place c.requires ∙ ap (λ j. get_or (component_names cs) j []) (sym here) ∙ component-name cs k (component_of (g.P.Part.shape []) c.field.result) (c.field.ensures []))

pub returns-else-field-field_count : goal.returns-else-field-field_count
returns-else-field-field_count g c =
    let cs = fields_in (g.P.Part.shape [] c.args.self.now.part) in
    let order = c.args.self.now.order.items in
    let k = c.index-field.result.now in
    let there : k ≡ get_or order c.args.place k = omega arith in
    let here = place-at (component_names cs) order c.args.place k c.requires there in
    let past : length (component_names cs) ≤ k = omega (arith, c.if-field-field_count.false, c.field_count.ensures, length-map cs (λ (c : Component). c.name)) in
    sym (at-name (component_names cs) order c.args.place c.requires ∙ ap (λ j. get_or (component_names cs) j []) (sym here) ∙ get_or_past (component_names cs) k [] past)
