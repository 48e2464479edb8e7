-- Each octet is in the alphabet.
use Rattle.asn_strings.proofs.Utf8Octets.{every_octet_within}
use Rattle.asn_strings.proofs.octets.RestrictedOctets.from_octets.Goals as goal

pub invariant_of-result : goal.invariant_of-result
invariant_of-result g c =
    every_octet_within g.C.CharacterSet.alphabet g.met.C.EveryOctet.every_octet c.args.octets.items
