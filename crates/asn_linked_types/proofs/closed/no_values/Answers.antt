use Rattle.std.proofs.Common.{◌∙◌, None, ap, map, string_bytes, subst}
use Rattle.asn_linked_types.proofs.Within.{enum-viewed}
use Rattle.asn_linked_types.proofs.Expanding.{none-fits}
use Rattle.asn_model.specs.Shape.{Shape}
use Rattle.asn_model.specs.Value.{Fits}
use Rattle.asn_linked_types.proofs.closed.no_values.Goals as goal

pub returns : goal.returns
returns c =
    let viewed = enum-viewed c.new.result None ∙ ap (λ l. Shape.enum (map string_bytes l) None) c.new.ensures.items in
    record { is = viewed; none = λ v h. none-fits v (subst (λ s. Fits s v) viewed h) }
