-- The octets of characters in the alphabet are in it.
use Rattle.std.proofs.Common.{IsTrue, chars, string_bytes}
use Rattle.std.proofs.lemmas.Str.{IsUtf8-string_bytes}
use Rattle.asn_strings.specs.Alphabets.{all_within}
use Rattle.asn_strings.proofs.Utf8Octets.{octets_within}
use Rattle.asn_strings.proofs.octets.RestrictedOctets.from_string.Goals as goal

pub invariant_of-result : goal.invariant_of-result
invariant_of-result g c =
    let alphabet = g.C.CharacterSet.alphabet in
    let bytes = string_bytes c.args.text in
    let characters : IsTrue (all_within alphabet (chars bytes)) =
    rw c.as_str.ensures.value at c.in_default.ensures.within in
    let utf8 = IsUtf8-string_bytes c.args.text in
    let octets = octets_within alphabet g.met.C.OctetSet.past_ascii bytes utf8 characters in
    rw c.into_bytes.ensures.value octets
