use Rattle.std.proofs.Common.{◌≤◌, length, ap, ◌∙◌, arith}
use Rattle.std.proofs.lemmas.List.{take_all}
use Rattle.asn_core.specs.BitStrings.{all_bits, bits_of}
use Rattle.asn_core.proofs.Padding.{length-all_bits}
use Rattle.avn_rules.proofs.avn.bits.whole_bits.Goals as goal

pub returns : goal.returns
returns c =
    let octets = c.args.octets.now in
    let within : length (all_bits octets) ≤ c.in_ok-size.size = omega (arith, length-all_bits octets, c.in_ok-size.ensures.1, c.well_formed) in
    c.from_first_bits.ensures ∙ ap (λ x. bits_of x c.in_ok-size.size) c.in-Ok.ensures.items ∙ take_all c.in_ok-size.size (all_bits octets) within
