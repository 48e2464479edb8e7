use Rattle.std.proofs.Common.{rules, ◌∙◌}
use Rattle.asn_core.proofs.Padding.{bits_of-padded}
use Rattle.asn_dynamic_values.proofs.copies.copy_of_bits.Goals as goal

pub returns : goal.returns
returns c = c.from_first_bits.ensures ∙ bits_of-padded c.in_ok-octets.octets.items c.len.result c.args.bits.now (search rules) c.len.ensures
