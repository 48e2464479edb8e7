use Rattle.std.proofs.Common.{sym}
use Rattle.asn_dynamic.proofs.encoding.Members.{count-members}
use Rattle.asn_dynamic.proofs.encoding.names.MemberNamesNameList.count.Goals as goal

pub returns : goal.returns
returns c = sym (count-members c.args.self.now.members.now)
