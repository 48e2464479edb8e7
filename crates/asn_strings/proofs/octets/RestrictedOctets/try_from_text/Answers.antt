-- The octets of characters in the alphabet are in it.
use Rattle.asn_strings.proofs.Utf8Octets.{octets_within}
use Rattle.asn_strings.proofs.octets.RestrictedOctets.try_from_text.Goals as goal

pub invariant_of-result : goal.invariant_of-result
invariant_of-result g c =
    let octets =
    octets_within g.C.CharacterSet.alphabet g.met.C.OctetSet.past_ascii c.args.text.now
    c.utf8.text c.in_default.ensures.within in
    rw (c.in_ok-from_slice.ensures.items, c.as_bytes.ensures.value) octets
