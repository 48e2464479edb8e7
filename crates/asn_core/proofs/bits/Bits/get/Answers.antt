use Rattle.std.proofs.Common.{arith, ap, ◌∙◌}
use Rattle.std.specs.List.{slice_get}
use Rattle.asn_core.specs.BitStrings.{all_bits}
use Rattle.asn_core.proofs.HeldBits.{octet-there, bit-seen}
use Rattle.asn_core.proofs.bits.Bits.get.Goals as goal

pub bit_at-requires : goal.bit_at-requires
bit_at-requires c =
    let s = c.self.inside in
    omega (arith, c.as_slice.ensures.len, octet-there s.octets.items s.bit_count c.args.self.now c.self.invariant c.self.view_is c.args.place (omega arith))

pub returns : goal.returns
returns c =
    let s = c.self.inside in
    bit-seen s.octets.items s.bit_count c.args.self.now c.self.invariant c.self.view_is c.args.place c.bit_at.result (omega arith)
    (c.bit_at.ensures ∙ ap (λ x. slice_get (all_bits x) c.args.place) c.as_slice.ensures.value)
