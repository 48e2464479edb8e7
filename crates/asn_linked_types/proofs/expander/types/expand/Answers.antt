use Rattle.std.proofs.Common.{◌≡◌, Err, IfOk, ap, length, subst, arith}
use Rattle.std.proofs.lemmas.Result.{IfOk-weaker}
use Rattle.asn_expansion.specs.declared.fault.ExpansionFault.TheVariants.{TooLarge}
use Rattle.asn_linked_types.specs.expander.Large.{IsTooLarge}
use Rattle.asn_linked_types.proofs.expander.Opening.{none-opened, outermost}
use Rattle.asn_model.specs.ShapeView.{shape_view}
use Rattle.asn_linked_types.proofs.expander.types.expand.Goals as goal

pub shape_of_type-requires-clause-depth : goal.shape_of_type-requires-clause-depth
shape_of_type-requires-clause-depth c = ap length none-opened

pub returns-clause-ok : goal.returns-clause-ok
returns-clause-ok c = subst (λ x. IfOk c.shape_of_type.result (λ s. shape_view s ≡ x)) (outermost c.args.types.now c.args.number) c.shape_of_type.ensures.ok

pub returns-clause-nodes : goal.returns-clause-nodes
returns-clause-nodes c = IfOk-weaker c.shape_of_type.result _ _ (λ s h. omega (arith, h)) c.shape_of_type.ensures.taken

pub returns-clause-large : goal.returns-clause-large
returns-clause-large c = subst (λ x. c.shape_of_type.result ≡ Err TooLarge → IsTooLarge x) (outermost c.args.types.now c.args.number) c.shape_of_type.ensures.large
