use Rattle.asn_samples.specs.Samples.{described_samples}
use Rattle.asn_samples.proofs.Rows.{none_named}
use Rattle.asn_samples.proofs.sample.described_named.Goals as goal

pub returns-in_default : goal.returns-in_default
returns-in_default c =
    let n = c.in_default in
    none_named described_samples c.args.name.now (n.not-Renamed, (n.not-Inner, (n.not-SimpleEnum, (n.not-ExtEnum, (n.not-SimpleChoice, (n.not-ExtChoice, (n.not-OldPart, (n.not-NewPart, (n.not-Nested, (n.not-Struct, (n.not-TestTypeA, (n.not-Very, (n.not-Defaulted, (n.not-MarkSet, (n.not-OldReport, (n.not-NewReport, (n.not-OldMode, (n.not-NewMode, (n.not-OldTree, (n.not-NewTree, (n.not-WithNullOpt, (n.not-ConstrainedBitString, (n.not-ExtensibleBitString, (n.not-ExtensibleBitStringField, (n.not-Nest, tt)))))))))))))))))))))))))
