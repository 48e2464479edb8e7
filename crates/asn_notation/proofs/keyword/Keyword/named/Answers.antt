use Rattle.asn_notation.specs.Keywords.{keyword_named, keywords}
use Rattle.asn_notation.proofs.Words.{none_among}
use Rattle.asn_notation.proofs.keyword.Keyword.named.Goals as goal

pub returns-in_default : goal.returns-in_default
unfolding keyword_named
returns-in_default c =
    let n = c.in_default in
    none_among keywords c.args.text.now (n.not-BOOLEAN, (n.not-NULL, (n.not-INTEGER, (n.not-OCTET, (n.not-BIT, (n.not-STRING, (n.not-OBJECT, (n.not-IDENTIFIER, (n.not-UTF8String, (n.not-NumericString, (n.not-PrintableString, (n.not-VisibleString, (n.not-IA5String, (n.not-UniversalString, (n.not-GeneralString, (n.not-GraphicString, (n.not-BMPString, (n.not-SEQUENCE, (n.not-SET, (n.not-OF, (n.not-CHOICE, (n.not-ENUMERATED, (n.not-OPTIONAL, tt)))))))))))))))))))))))
