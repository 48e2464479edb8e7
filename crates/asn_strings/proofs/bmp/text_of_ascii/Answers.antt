-- Octets of ASCII are a text.
use Rattle.std.proofs.Common.{◌≡◌, ◌∙◌, IfOk, IsUtf8, ap, subst, sym}
use Rattle.std.proofs.lemmas.Str.{IsUtf8-from_ascii}
use Rattle.std.specs.String.{string_vec}
use Rattle.asn_strings.specs.Alphabets.{is_ia5}
use Rattle.asn_strings.specs.PastAscii.{ia5_lacks}
use Rattle.asn_strings.proofs.Utf8Octets.{in_ascii}
use Rattle.asn_strings.proofs.bmp.text_of_ascii.Goals as goal

pub unwrap-requires : goal.unwrap-requires
unwrap-requires c =
    let utf8 = IsUtf8-from_ascii _ (in_ascii is_ia5 ia5_lacks c.args.units.now c.requires) in
    c.from_utf8.ensures.succeeds (subst IsUtf8 (sym c.in_ok-octets.ensures) utf8)

pub returns : goal.returns
returns c =
    let same : string_vec c.unwrap.result ≡ c.in_ok-octets.octets =
    subst (λ r. IfOk r (λ text. string_vec text ≡ c.in_ok-octets.octets)) c.unwrap.ensures
    c.from_utf8.ensures.ok in
    ap (λ octets. octets.items) same ∙ c.in_ok-octets.ensures
