use Rattle.std.proofs.Common.{◌++◌}
use Rattle.asn_coding.proofs.NameRows.{name-field}
use Rattle.asn_coding.proofs.name_tables.TableNamesNameList.name.Goals as goal

pub returns : goal.returns
returns c = name-field (c.args.self.now.root.now ++ c.args.self.now.additions.now) c.args.place c.field.result.now c.field.ensures
