use Rattle.std.proofs.Common.{◌∙◌, ap, refl, sym, Some}
use Rattle.asn_coding.specs.SetFields.{kept_slot}
use Rattle.asn_dynamic_values.specs.DynView.{dyn_value}
use Rattle.asn_model.specs.ShapeView.{plain_view, presence_view}
use Rattle.asn_dynamic_reading.proofs.Plains.{default-kept, default-left}
use Rattle.asn_dynamic_reading.proofs.fields.kept_value.Goals as goal

pub returns-then-is_plain : goal.returns-then-is_plain
returns-then-is_plain c =
    let v = dyn_value c.args.value in
    sym (ap (λ p. kept_slot (presence_view p) (Some v)) c.in-Default.is ∙ default-left (plain_view c.in-Default.plain) v (sym c.is_plain.ensures ∙ c.if-is_plain.true))

pub returns-else-is_plain : goal.returns-else-is_plain
returns-else-is_plain c =
    let v = dyn_value c.args.value in
    sym (ap (λ p. kept_slot (presence_view p) (Some v)) c.in-Default.is ∙ default-kept (plain_view c.in-Default.plain) v (sym c.is_plain.ensures ∙ c.if-is_plain.false))

pub returns-in-Required : goal.returns-in-Required
returns-in-Required c = sym (ap (λ p. kept_slot (presence_view p) (Some (dyn_value c.args.value))) c.in-Required.is)

pub returns-in-Optional : goal.returns-in-Optional
returns-in-Optional c = sym (ap (λ p. kept_slot (presence_view p) (Some (dyn_value c.args.value))) c.in-Optional.is)
