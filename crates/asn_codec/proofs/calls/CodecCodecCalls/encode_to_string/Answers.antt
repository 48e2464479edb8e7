use Rattle.std.proofs.Common.{subst}
use Rattle.asn_traits.specs.Notation.{IsText}
use Rattle.asn_codec.proofs.Naming.{jer_not_written, avn_not_written, other_codec, other_unwritten}
use Rattle.asn_codec.proofs.calls.CodecCodecCalls.encode_to_string.Goals as goal

pub returns-in-Jer-clause-refused : goal.returns-in-Jer-clause-refused
returns-in-Jer-clause-refused g c = jer_not_written c.args.self _ c.encode.result c.in-Jer.is c.encode.ensures.refused

pub returns-in-Avn-clause-refused : goal.returns-in-Avn-clause-refused
returns-in-Avn-clause-refused g c = avn_not_written c.args.self _ c.encode-in-Avn.result c.in-Avn.is c.encode-in-Avn.ensures.refused

pub returns-in_default : goal.returns-in_default
returns-in_default g c =
    let h = other_codec c.args.self c.in_default.not-Jer c.in_default.not-Avn in
    record { text = tt; reads_back = tt; notation = tt; fits = tt; writable = tt; refused = other_unwritten c.args.self _ _ h c.encode_refusal.ensures; complete = λ t w. absurd (subst IsText h t) }
