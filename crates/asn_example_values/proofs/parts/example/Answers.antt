use Rattle.std.proofs.lemmas.Result.{IfOk-weaker}
use Rattle.asn_model.specs.ShapeView.{shape_view}
use Rattle.asn_example_values.proofs.Values.{made-fits, none-fits}
use Rattle.asn_example_values.proofs.parts.example.Goals as goal

pub returns-clause-fits : goal.returns-clause-fits
returns-clause-fits c = IfOk-weaker c.value_of.result _ _ (made-fits _ (shape_view c.args.shape.now)) c.value_of.ensures

pub returns-clause-none : goal.returns-clause-none
returns-clause-none c = λ read. IfOk-weaker c.value_of.result _ _ (λ v e. none-fits _ (shape_view c.args.shape.now) v read e) c.value_of.ensures
