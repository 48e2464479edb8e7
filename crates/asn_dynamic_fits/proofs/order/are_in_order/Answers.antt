use Rattle.std.proofs.Common.{rules}
use Rattle.std.proofs.lemmas.Fn.{always_returns_same}
use Rattle.asn_dynamic_fits.proofs.Neighbours.{answer-is}
use Rattle.asn_dynamic_fits.proofs.Ordered.{order-decides, upto_next_value}
use Rattle.asn_dynamic_values.specs.DynView.{dyn_value}
use Rattle.asn_dynamic_fits.proofs.order.are_in_order.Goals as goal

pub returns : goal.returns
returns c =
    let xs = c.args.elements.now in
    order-decides xs c.is_sorted_by.result (answer-is (λ v w. upto_next_value (dyn_value v) (dyn_value w)) xs c.is_sorted_by.result
    (c.is_sorted_by.ensures.cases (λ v w. upto_next_value (dyn_value v) (dyn_value w)) (always_returns_same _ _ _ (λ a r q k. search rules))))
