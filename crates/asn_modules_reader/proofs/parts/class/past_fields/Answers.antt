use Rattle.std.proofs.Common.{refl, ◌∙◌, arith}
use Rattle.asn_modules_reader.proofs.parts.Fields.{fields_end, name_past, name_missing}
use Rattle.asn_modules_reader.proofs.parts.class.past_fields.Goals as goal

pub fields-init : goal.fields-init
fields-init c = (refl, omega arith)

pub fields-preserved : goal.fields-preserved
fields-preserved c =
    let n = c.in-Some-take.ensures in (
      c.fields.invariant.0 ∙ c.in-Some.ensures.1 ∙ name_past c.in-Some-take._name c.in-Some-take.behind.now c.in-Some.naming.now n.0 n.1,
      omega (arith, c.fields.invariant.1, c.in-Some.ensures.2, n.2),
    )
