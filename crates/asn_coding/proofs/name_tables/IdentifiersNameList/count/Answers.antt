use Rattle.std.proofs.Common.{sym}
use Rattle.asn_coding.proofs.NameRows.{length-identifiers}
use Rattle.asn_coding.proofs.name_tables.IdentifiersNameList.count.Goals as goal

pub returns : goal.returns
returns c = sym (length-identifiers c.args.self.now.0.now)
