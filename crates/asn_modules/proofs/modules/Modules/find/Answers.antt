use Rattle.std.proofs.Common.{◌∙◌, ap, map}
use Rattle.asn_linked_types.specs.Linked.{are_linked}
use Rattle.asn_model.specs.ShapeView.{shape_view}
use Rattle.asn_modules.proofs.Opening.{opened-readable}
use Rattle.asn_modules.proofs.modules.Modules.find.Goals as goal

pub returns-in-Some-clause-readable : goal.returns-in-Some-clause-readable
returns-in-Some-clause-readable c =
    opened-readable c.as_slice.result.now _ c.of_type.result (ap (λ l. are_linked (map shape_view l)) c.as_slice.ensures.value ∙ c.args.self.now.linked) c.of_type.ensures.is
