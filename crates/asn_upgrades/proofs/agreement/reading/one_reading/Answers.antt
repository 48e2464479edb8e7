use Rattle.std.proofs.Common.{Some, subst}
use Rattle.asn_codec.proofs.Again.{one_tree}
use Rattle.asn_model.specs.DecodesTo.{DecodesTo}
use Rattle.asn_model.specs.Notation.{notation_of}
use Rattle.asn_model.proofs.Meanings.{apart, one}
use Rattle.asn_upgrades.proofs.Refusing.{refused_tree}
use Rattle.asn_upgrades.proofs.agreement.Refusals.{alike}
use Rattle.asn_upgrades.proofs.agreement.reading.one_reading.Goals as goal

pub returns : goal.returns
returns c = record {
  values = λ limit codec s text v w is a b.
      let n = notation_of codec in
      one is a.says (subst (λ t. DecodesTo n s (Some t) w) (one_tree limit n text b.tree a.tree b.has a.has) b.says);
  no_refusal = λ limit codec s text v f is a refused. apart is a.says (refused_tree codec s text a.tree f a.has refused);
  refusals = λ limit codec s text f g a b. alike limit codec s text f g a b;
}
