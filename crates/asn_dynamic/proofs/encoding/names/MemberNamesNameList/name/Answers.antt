use Rattle.std.proofs.Common.{arith}
use Rattle.asn_coding.proofs.NameRows.{name-identifier}
use Rattle.asn_dynamic.specs.encoding.Sent.{member_names}
use Rattle.asn_dynamic.proofs.encoding.Members.{count-members}
use Rattle.asn_dynamic.proofs.encoding.names.MemberNamesNameList.name.Goals as goal

pub member_name-requires : goal.member_name-requires
member_name-requires c = omega (arith, c.requires, count-members c.args.self.now.members.now)

pub returns : goal.returns
returns c = name-identifier (member_names c.args.self.now.members.now) c.args.place c.member_name.result.now c.member_name.ensures
