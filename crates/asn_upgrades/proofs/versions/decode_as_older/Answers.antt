use Rattle.std.proofs.Common.{inl, inr}
use Rattle.std.proofs.lemmas.Result.{IfErr-weaker, IfOk-weaker}
use Rattle.asn_fault.specs.Failure.{failure_of}
use Rattle.asn_upgrades.proofs.Reading.{older_known, older_projected, older_unknown}
use Rattle.asn_upgrades.proofs.versions.decode_as_older.Goals as goal

pub returns-clause-known : goal.returns-clause-known
returns-clause-known g c = λ t v has d known.
    c.decode_from_str.ensures.complete _ (older_known c.args.codec g.Old.AsnType.shape_of g.New.AsnType.shape_of c.args.input.now t v g.met.Old.AsnType.readable c.requires has d known)

pub returns-clause-projected : goal.returns-clause-projected
returns-clause-projected g c = λ t v has d.
    IfOk-weaker c.decode_from_str.result _ _
    (λ x h. older_projected c.args.codec g.Old.AsnType.shape_of g.New.AsnType.shape_of c.args.input.now t v g.met.Old.AsnType.readable c.requires has d (g.Old.AsnType.value_of x) h)
    c.decode_from_str.ensures.value

pub returns-clause-unknown : goal.returns-clause-unknown
returns-clause-unknown g c = λ t v has d.
    IfErr-weaker c.decode_from_str.result _ _
    (λ e h. elim h [
      | inl m ↦ inl m
      | inr k ↦ inr (older_unknown c.args.codec g.Old.AsnType.shape_of g.New.AsnType.shape_of c.args.input.now t v g.met.Old.AsnType.readable c.requires has d (failure_of e) k)
    ])
    c.decode_from_str.ensures.refused
