use Rattle.std.proofs.Common.{◌∙◌, ap, sym, Some}
use Rattle.asn_dynamic_fits.specs.Contents.{list_in}
use Rattle.asn_dynamic_values.specs.DynView.{dyn_value}
use Rattle.asn_dynamic_values.proofs.Views.{view-List}
use Rattle.asn_model.specs.Value.{values}
use Rattle.asn_dynamic_fits.proofs.contents.list_of.Goals as goal

pub returns-in-List : goal.returns-in-List
returns-in-List c =
    ap (λ l. Some (values dyn_value l)) c.as_slice.ensures.value
    ∙ sym (ap (λ v. list_in (dyn_value v)) c.in-List.is ∙ ap list_in (view-List c.in-List.elements))
