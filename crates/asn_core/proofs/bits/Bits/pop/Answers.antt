use Rattle.std.proofs.Common.{◌≡◌, ◌+◌, ◌++◌, ◌∷◌, [], List, Bool, Some, arith, ap, sym, ◌∙◌}
use Rattle.std.specs.List.{slice_get}
use Rattle.asn_core.specs.BitStrings.{all_bits}
use Rattle.asn_core.proofs.HeldBits.{octet-there, first-held, first-seen, front-counted, last-split}
use Rattle.asn_core.proofs.bits.Bits.pop.Goals as goal

pub bit_at-bit-requires : goal.bit_at-bit-requires
bit_at-bit-requires c =
    let s = c.self.inside in
    omega (arith, c.as_slice.ensures.len, octet-there s.octets.items s.bit_count c.args.self.now c.self.invariant c.self.view_is c.in_ok-last.last (omega (arith, c.in_ok-last.ensures)), s.octets.ok.0)

pub invariant_of-self : goal.invariant_of-self
invariant_of-self c =
    let s = c.self.inside in
    let k : s.bit_count ≡ c.in_ok-last.last + 1 = omega (arith, c.in_ok-last.ensures) in
    first-held s.octets.items c.in_ok-last.last c.in_ok-last.last c.keep_first_bits.new.octets.items c.keep_first_bits.ensures (front-counted s.octets.items s.bit_count c.in_ok-last.last c.self.invariant k)

pub returns : goal.returns
returns c =
    let s = c.self.inside in
    let k : s.bit_count ≡ c.in_ok-last.last + 1 = omega (arith, c.in_ok-last.ensures) in
    let bit : Some c.bit_at-bit.result ≡ slice_get (all_bits s.octets.items) c.in_ok-last.last = c.bit_at-bit.ensures ∙ ap (λ x. slice_get (all_bits x) c.in_ok-last.last) c.as_slice.ensures.value in
    sym c.self.view_is ∙ last-split s.octets.items s.bit_count c.in_ok-last.last c.self.invariant k c.bit_at-bit.result bit
    ∙ ap (λ (x : List Bool). x ++ c.bit_at-bit.result ∷ []) (sym (first-seen s.octets.items c.in_ok-last.last c.in_ok-last.last c.keep_first_bits.new.octets.items c.keep_first_bits.ensures (front-counted s.octets.items s.bit_count c.in_ok-last.last c.self.invariant k)))
