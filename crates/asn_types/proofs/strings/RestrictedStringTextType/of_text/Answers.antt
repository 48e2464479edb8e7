use Rattle.std.proofs.Common.{ℕ, List}
use Rattle.asn_types.proofs.TextLeaves.{set_refused}
use Rattle.asn_types.proofs.strings.RestrictedStringTextType.of_text.Goals as goal

pub returns-in-Err : goal.returns-in-Err
returns-in-Err g c = set_refused (List ℕ) g.C.NamedSet.name _ c.tag_of_set.result _ c.args.codec c.in-Err.fault _ g.met.C.NamedSet.same c.tag_of_set.ensures c.in-Err.ensures.outside c.string_refusal.ensures
