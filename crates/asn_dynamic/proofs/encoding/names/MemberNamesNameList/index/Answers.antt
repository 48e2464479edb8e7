use Rattle.std.proofs.Common.{◌≡◌, ◌<◌, ◌+◌, ◌∙◌, arith, length}
use Rattle.asn_coding.proofs.NameRows.{index-numbered, length-numbered}
use Rattle.asn_dynamic.specs.encoding.Sent.{member_names}
use Rattle.asn_dynamic.proofs.encoding.names.MemberNamesNameList.index.Goals as goal

pub returns : goal.returns
returns c =
    let names = member_names c.args.self.now.members.now in
    let below : c.args.place < length names = omega (arith, c.requires, length-numbered 0 names) in
    let zeroth : c.args.place ≡ 0 + c.args.place = omega arith in
    zeroth ∙ index-numbered 0 c.args.place names below
