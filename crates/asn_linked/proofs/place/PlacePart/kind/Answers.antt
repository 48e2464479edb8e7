use Rattle.std.proofs.Common.{sym, subst}
use Rattle.asn_linked.specs.Places.{named_shape, part_view, place_shape}
use Rattle.asn_linked_types.specs.Expansion.{linked_shape}
use Rattle.asn_parts.specs.Chain.{bodies_of}
use Rattle.asn_parts.specs.Parts.{IsKind}
use Rattle.asn_linked.proofs.place.PlacePart.kind.Goals as goal

pub returns-in-Some : goal.returns-in-Some
returns-in-Some c =
    let p = c.args.self.now in
    let around = bodies_of c.args.around.now in
    subst (λ o. IsKind place_shape around c.kind_of.result (linked_shape (named_shape around p) (part_view p.number o))) (sym c.in-Some.is) c.kind_of.ensures

pub returns-in-None : goal.returns-in-None
returns-in-None c =
    let p = c.args.self.now in
    let around = bodies_of c.args.around.now in
    subst (λ o. IsKind place_shape around c.named.result (linked_shape (named_shape around p) (part_view p.number o))) (sym c.in-None.is) c.named.ensures
