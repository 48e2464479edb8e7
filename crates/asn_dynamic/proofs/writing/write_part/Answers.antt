use Rattle.std.proofs.Common.{subst}
use Rattle.asn_codec.proofs.Naming.{avn_not_written, jer_not_written, other_codec, other_unwritten}
use Rattle.asn_model.specs.Notation.{IsText}
use Rattle.asn_dynamic.proofs.writing.write_part.Goals as goal

pub returns-in-Jer-clause-refused : goal.returns-in-Jer-clause-refused
returns-in-Jer-clause-refused g c = jer_not_written c.args.notation _ c.write_jer.result c.in-Jer.is c.write_jer.ensures.refused

pub returns-in-Avn-clause-refused : goal.returns-in-Avn-clause-refused
returns-in-Avn-clause-refused g c = avn_not_written c.args.notation _ c.write_avn.result c.in-Avn.is c.write_avn.ensures.refused

pub returns-in_default : goal.returns-in_default
returns-in_default g c =
    let h = other_codec c.args.notation c.in_default.not-Jer c.in_default.not-Avn in
    record { text = tt; reads_back = tt; notation = tt; writable = tt; refused = other_unwritten c.args.notation _ _ h c.no_text_encoded.ensures; complete = λ t w. absurd (subst IsText h t) }
