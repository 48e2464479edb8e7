use Rattle.asn_samples.specs.Samples.{plain_samples}
use Rattle.asn_samples.proofs.Rows.{none_named}
use Rattle.asn_samples.proofs.sample.plain_named.Goals as goal

pub returns-in_default : goal.returns-in_default
returns-in_default c =
    let n = c.in_default in
    none_named plain_samples c.args.name.now (n.not-bool, (n.not-Null, (n.not-u8, (n.not-i64, (n.not-u64, (n.not-u128, (n.not-Integer, (n.not-Utf8String, (n.not-NumericString, (n.not-PrintableString, (n.not-VisibleString, (n.not-Ia5String, (n.not-GeneralString, (n.not-GraphicString, (n.not-BmpString, (n.not-UniversalString, (n.not-UtcTime, (n.not-GeneralizedTime, (n.not-Date, (n.not-text, (n.not-text-2, (n.not-text-3, (n.not-text-4, (n.not-text-5, (n.not-OctetString, (n.not-BitString, (n.not-Any, (n.not-ObjectIdentifier, (n.not-Document, tt)))))))))))))))))))))))))))))
