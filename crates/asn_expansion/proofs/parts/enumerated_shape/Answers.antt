use Rattle.std.proofs.Common.{ap, ◌∙◌, map, string_bytes}
use Rattle.asn_expansion.proofs.Items.{items_made}
use Rattle.asn_expansion.proofs.parts.enumerated_shape.Goals as goal

pub returns : goal.returns
returns c =
    items_made c.args.items.now.items c.args.added.now c.in_ok-items.items c.in_ok-added.added (c.in_ok-items.ensures ∙ ap (λ xs. map string_bytes xs) c.deref.ensures.value) c.in_ok-added.ensures
