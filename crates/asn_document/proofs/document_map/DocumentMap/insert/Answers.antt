use Rattle.std.proofs.Common.{string_bytes}
use Rattle.asn_document.proofs.Whole.{put_whole}
use Rattle.serde_json.specs.View.{view}
use Rattle.asn_document.proofs.document_map.DocumentMap.insert.Goals as goal

pub invariant_of-self : goal.invariant_of-self
invariant_of-self c =
    record { whole = put_whole c.put_member.result c.args.self.now.members.entries _ (string_bytes c.args.key) (view c.into_value.result) c.put_member.ensures.put c.put_member.ensures.kept c.into_value.ensures.whole c.args.self.now.whole }
