use Rattle.std.proofs.Common.{arith, map}
use Rattle.asn_coding.proofs.NameRows.{length-identifiers, name-identifier}
use Rattle.asn_coding.proofs.name_tables.IdentifiersNameList.name.Goals as goal

pub identifier-requires : goal.identifier-requires
identifier-requires c = omega (arith, c.requires, length-identifiers c.args.self.now.0.now)

pub returns : goal.returns
returns c = name-identifier (map (λ s. s.now) c.args.self.now.0.now) c.args.place c.identifier.result.now c.identifier.ensures
