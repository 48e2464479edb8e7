use Rattle.std.proofs.Common.{inl, inr}
use Rattle.std.proofs.lemmas.Result.{IfErr-weaker, IfOk-weaker}
use Rattle.asn_fault.specs.Failure.{failure_of}
use Rattle.asn_model.specs.Notation.{notation_of}
use Rattle.asn_upgrades.proofs.Reading.{handed, newer_lifted, newer_missing}
use Rattle.asn_upgrades.proofs.versions.decode_as_newer.Goals as goal

pub returns-clause-lifted : goal.returns-clause-lifted
returns-clause-lifted g c = λ v is fit can back shallow.
    let n = notation_of c.args.codec in
    let k = handed n g.Old.AsnType.shape_of g.New.AsnType.shape_of c.args.text.now v is g.met.Old.AsnType.readable g.met.New.AsnType.readable c.requires fit can back shallow in
    IfOk-weaker c.decode_from_str.result _ _ (λ x h. newer_lifted n g.New.AsnType.shape_of c.args.text.now v (g.New.AsnType.value_of x) k h) c.decode_from_str.ensures.value

pub returns-clause-missing : goal.returns-clause-missing
returns-clause-missing g c = λ v is fit can back shallow.
    let n = notation_of c.args.codec in
    let k = handed n g.Old.AsnType.shape_of g.New.AsnType.shape_of c.args.text.now v is g.met.Old.AsnType.readable g.met.New.AsnType.readable c.requires fit can back shallow in
    IfErr-weaker c.decode_from_str.result _ _
    (λ e h. elim h [ inl m ↦ inl m | inr f ↦ inr (newer_missing c.args.codec g.New.AsnType.shape_of c.args.text.now v (failure_of e) k f) ])
    c.decode_from_str.ensures.refused
