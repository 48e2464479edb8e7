use Rattle.std.proofs.Common.{◌≡◌, Err, IfOk, Some, ap, length, map, subst, arith}
use Rattle.std.proofs.lemmas.Result.{IfOk-weaker}
use Rattle.asn_growth.specs.Parts.{node_count}
use Rattle.asn_model.specs.ShapeView.{shape_view}
use Rattle.asn_notation.specs.View.{assignment_view}
use Rattle.asn_expansion.specs.Expansion.{expansion}
use Rattle.asn_expansion.specs.Large.{HasMore}
use Rattle.asn_expansion.specs.declared.fault.ExpansionFault.TheVariants.{TooLarge}
use Rattle.asn_expansion.proofs.Opening.{none_opened}
use Rattle.asn_expansion.proofs.names.expand.Goals as goal

pub shape_of_name-requires-clause-few : goal.shape_of_name-requires-clause-few
shape_of_name-requires-clause-few c = omega (arith, ap (λ l. length l) none_opened)

pub returns-clause-few : goal.returns-clause-few
returns-clause-few c = IfOk-weaker c.shape_of_name.result _ _ (λ s h. omega (arith, h)) c.shape_of_name.ensures.taken

pub returns-clause-ok : goal.returns-clause-ok
returns-clause-ok c = subst (λ l. IfOk c.shape_of_name.result (λ s. expansion (map assignment_view c.args.assignments.now) 64 l c.args.name.now ≡ Some (shape_view s))) none_opened c.shape_of_name.ensures.ok

pub returns-clause-large : goal.returns-clause-large
returns-clause-large c = subst (λ l. c.shape_of_name.result ≡ Err TooLarge → HasMore node_count 65536 (expansion (map assignment_view c.args.assignments.now) 64 l c.args.name.now)) none_opened c.shape_of_name.ensures.large
