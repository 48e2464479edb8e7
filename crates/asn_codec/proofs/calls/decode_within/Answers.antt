use Rattle.std.proofs.Common.{subst}
use Rattle.asn_fault.specs.Failure.{failure_of}
use Rattle.asn_traits.specs.Notation.{notation_of}
use Rattle.asn_codec.specs.Texts.{TextDecodesTo}
use Rattle.asn_codec.proofs.Naming.{jer_value, jer_refused, jer_complete, avn_value_of, avn_refused, avn_complete, other_codec, other_unread, no_tree}
use Rattle.asn_codec.proofs.calls.decode_within.Goals as goal

pub returns-in-Jer-clause-value : goal.returns-in-Jer-clause-value
returns-in-Jer-clause-value g c = jer_value failure_of c.args.limit c.args.codec _ _ g.T.AsnType.value_of c.decode.result c.in-Jer.is c.decode.ensures.value

pub returns-in-Jer-clause-refused : goal.returns-in-Jer-clause-refused
returns-in-Jer-clause-refused g c = jer_refused failure_of c.args.limit c.args.codec _ _ c.decode.result c.in-Jer.is c.decode.ensures.refused

pub returns-in-Jer-clause-complete : goal.returns-in-Jer-clause-complete
returns-in-Jer-clause-complete g c = λ v h. jer_complete failure_of c.args.limit _ c.args.input.now g.T.AsnType.value_of c.decode.result c.decode.ensures.complete v (subst (λ k. TextDecodesTo c.args.limit (notation_of k) g.T.AsnType.shape_of c.args.input.now v) c.in-Jer.is h)

pub returns-in-Avn-clause-value : goal.returns-in-Avn-clause-value
returns-in-Avn-clause-value g c = avn_value_of failure_of c.args.limit c.args.codec _ _ g.T.AsnType.value_of c.decode_within.result c.in-Avn.is c.decode_within.ensures.value

pub returns-in-Avn-clause-refused : goal.returns-in-Avn-clause-refused
returns-in-Avn-clause-refused g c = avn_refused failure_of c.args.limit c.args.codec _ _ c.decode_within.result c.in-Avn.is c.decode_within.ensures.refused

pub returns-in-Avn-clause-complete : goal.returns-in-Avn-clause-complete
returns-in-Avn-clause-complete g c = λ v h. avn_complete failure_of c.args.limit _ c.args.input.now g.T.AsnType.value_of c.decode_within.result c.decode_within.ensures.complete v (subst (λ k. TextDecodesTo c.args.limit (notation_of k) g.T.AsnType.shape_of c.args.input.now v) c.in-Avn.is h)

pub returns-in_default : goal.returns-in_default
returns-in_default g c =
    let h = other_codec c.args.codec c.in_default.not-Jer c.in_default.not-Avn in
    record { value = tt; refused = other_unread c.args.limit c.args.codec _ _ _ h c.decode_refusal.ensures; complete = λ v says. absurd (no_tree (subst (λ n. TextDecodesTo c.args.limit n g.T.AsnType.shape_of c.args.input.now v) h says)) }
