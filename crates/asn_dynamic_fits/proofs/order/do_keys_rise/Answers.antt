use Rattle.std.proofs.Common.{rules}
use Rattle.std.proofs.lemmas.Fn.{always_returns_same}
use Rattle.asn_dynamic_fits.proofs.Neighbours.{answer-is}
use Rattle.asn_dynamic_fits.proofs.Ordered.{below_next, keys-decided}
use Rattle.asn_dynamic_values.specs.DynView.{dyn_value}
use Rattle.asn_dynamic_fits.proofs.order.do_keys_rise.Goals as goal

pub returns : goal.returns
returns c =
    let xs = c.args.entries.now in
    keys-decided xs c.is_sorted_by.result (answer-is (λ v w. below_next (dyn_value v) (dyn_value w)) xs c.is_sorted_by.result
    (c.is_sorted_by.ensures.cases (λ v w. below_next (dyn_value v) (dyn_value w)) (always_returns_same _ _ _ (λ a r q k. search rules))))
