use Rattle.std.proofs.Common.{◌≡◌, length, arith}
use Rattle.asn_core.specs.BitStrings.{bits_of}
use Rattle.asn_core.proofs.HeldBits.{first-held, first-seen, all-counted, first-counted}
use Rattle.asn_core.proofs.bits.Bits.from_first_bits.Goals as goal
use Rattle.asn_core.proofs.bits.Bits.from_first_bits.Goals.{then-len-at_most, else-len-at_most}

pub invariant_of-result : goal.invariant_of-result
invariant_of-result c =
    let o = c.args.octets.items in
    let n : c.if-len-at_most.bit_count ≡ length (bits_of o c.args.at_most) = elim c.if-len-at_most.branch [
      | then-len-at_most w ↦ omega (arith, w.bit_count-is, all-counted o c.args.at_most (omega (arith, c.args.octets.ok.0)), c.args.octets.ok.0)
      | else-len-at_most w ↦ omega (arith, w.bit_count-is, first-counted o c.args.at_most (omega (arith, c.args.octets.ok.0)))
    ] in
    first-held o c.args.at_most c.if-len-at_most.bit_count c.keep_first_bits.new.octets.items c.keep_first_bits.ensures n

pub returns : goal.returns
returns c =
    let o = c.args.octets.items in
    let n : c.if-len-at_most.bit_count ≡ length (bits_of o c.args.at_most) = elim c.if-len-at_most.branch [
      | then-len-at_most w ↦ omega (arith, w.bit_count-is, all-counted o c.args.at_most (omega (arith, c.args.octets.ok.0)), c.args.octets.ok.0)
      | else-len-at_most w ↦ omega (arith, w.bit_count-is, first-counted o c.args.at_most (omega (arith, c.args.octets.ok.0)))
    ] in
    first-seen o c.args.at_most c.if-len-at_most.bit_count c.keep_first_bits.new.octets.items c.keep_first_bits.ensures n
