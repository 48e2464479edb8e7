use Rattle.std.proofs.Common.{◌∙◌, ap}
use Rattle.asn_dynamic_fits.proofs.Having.{item-decides, item-other}
use Rattle.asn_dynamic_values.specs.DynView.{dyn_value}
use Rattle.asn_model.specs.Shape.{is_item}
use Rattle.asn_parts.specs.Listed.{items_in}
use Rattle.asn_dynamic_fits.proofs.membership.is_item.Goals as goal

pub returns-in-Some : goal.returns-in-Some
returns-in-Some g c around items added is =
    let i = c.in-Some.item.now in
    item-decides items added (dyn_value c.args.value.now) i c.has_item.result c.in-Some.ensures (c.has_item.ensures around ∙ ap (λ s. is_item (items_in s) i) is)

pub returns-in-None : goal.returns-in-None
returns-in-None g c around items added is = item-other items added (dyn_value c.args.value.now) c.in-None.ensures
