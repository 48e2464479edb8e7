use Rattle.std.proofs.Common.{◌∙◌}
use Rattle.asn_model.specs.Value.{Value}
use Rattle.asn_types.proofs.TextLeaves.{octets_block, told_unwritten}
use Rattle.asn_dynamic.proofs.encoding.leaves.write_text.Goals as goal

pub returns-in-Err-clause-refused : goal.returns-in-Err-clause-refused
returns-in-Err-clause-refused g c =
    let octets = c.args.octets.now in
    told_unwritten (Value.text octets) _ c.no_unicode.result (octets_block g.E.Encoder.notation octets c.valid_up_to.result c.in-Err.ensures.cases.0 (c.valid_up_to.ensures ∙ c.in-Err.ensures.valid_len)) c.no_unicode.ensures
