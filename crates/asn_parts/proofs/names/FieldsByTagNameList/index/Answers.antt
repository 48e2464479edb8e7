use Rattle.std.proofs.Common.{◌≡◌, ◌∙◌, [], ap, arith, get_or, sym}
use Rattle.asn_model.specs.Components.{component_names}
use Rattle.asn_parts.specs.Listed.{fields_in}
use Rattle.asn_parts.proofs.NameRows.{at-index, place-at}
use Rattle.asn_parts.proofs.names.FieldsByTagNameList.index.Goals as goal

pub returns : goal.returns
returns g c =
    let names = component_names (fields_in (g.P.Part.shape [] c.args.self.now.part)) in
    let order = c.args.self.now.order.items in
    let k = c.index.result.now in
    let there : k ≡ get_or order c.args.place k = omega arith in
    place-at names order c.args.place k c.requires there ∙ sym (ap (λ l. get_or l c.args.place 0) (at-index names order))
