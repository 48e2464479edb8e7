use Rattle.std.proofs.Common.{◌∙◌, ap, sym, Some}
use Rattle.asn_dynamic_fits.specs.Contents.{bag_in}
use Rattle.asn_dynamic_values.specs.DynView.{dyn_value}
use Rattle.asn_dynamic_values.proofs.Views.{view-Bag}
use Rattle.asn_model.specs.Value.{values}
use Rattle.asn_dynamic_fits.proofs.contents.bag_of.Goals as goal

pub returns-in-Bag : goal.returns-in-Bag
returns-in-Bag c =
    ap (λ l. Some (values dyn_value l)) c.as_slice.ensures.value
    ∙ sym (ap (λ v. bag_in (dyn_value v)) c.in-Bag.is ∙ ap bag_in (view-Bag c.in-Bag.elements))
