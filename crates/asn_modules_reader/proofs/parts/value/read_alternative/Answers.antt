use Rattle.std.proofs.Common.{refl, ◌∙◌, arith}
use Rattle.asn_modules_reader.proofs.parts.ValuesRead.{answered, next_alternative, last_alternative}
use Rattle.asn_modules_reader.proofs.parts.value.read_alternative.Goals as goal

pub alternatives-init : goal.alternatives-init
alternatives-init c = (refl, omega arith)

pub returns-in_default-clause-found : goal.returns-in_default-clause-found
returns-in_default-clause-found c =
    answered _ _ c.read_last.result (c.alternatives.invariant.0 ∙ last_alternative c.args.word c.alternatives.rest.now c.in_default.ensures) c.read_last.ensures.found

pub alternatives-preserved : goal.alternatives-preserved
alternatives-preserved c = (
  c.alternatives.invariant.0 ∙ next_alternative c.args.word c.in-Some._word c.in-Some.after.now c.alternatives.rest.now c.in-Some.ensures.0,
  omega (arith, c.alternatives.invariant.1, c.in-Some.ensures.1),
)
