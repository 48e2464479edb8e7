use Rattle.std.proofs.Common.{◌∙◌, [], None, ap, sym, subst}
use Rattle.asn_linked.specs.Places.{named_shape, place_shape}
use Rattle.asn_linked.proofs.Linked.{leaf-linked}
use Rattle.asn_linked_types.specs.Expansion.{linked_shape, linked_fields, linked_added_fields, linked_alternatives, linked_added_alternatives}
use Rattle.asn_model.specs.Shape.{Shape}
use Rattle.asn_parts.specs.Chain.{bodies_of}
use Rattle.asn_parts.specs.Parts.{IsKind}
use Rattle.asn_linked.proofs.place.Place.kind_of.Goals as goal

pub returns-in-Leaf : goal.returns-in-Leaf
returns-in-Leaf c =
    let f = named_shape (bodies_of c.args.around.now) c.args.self.now in
    ap (linked_shape f) c.in-Leaf.ensures ∙ leaf-linked f c.in-Leaf.leaf

pub returns-in-Enumerated : goal.returns-in-Enumerated
returns-in-Enumerated c =
    let f = named_shape (bodies_of c.args.around.now) c.args.self.now in
    let e = c.in-Enumerated.ensures in
    (e.0, e.1, ap (linked_shape f) e.2)

pub returns-in-Sequence : goal.returns-in-Sequence
returns-in-Sequence c =
    let f = named_shape (bodies_of c.args.around.now) c.args.self.now in
    let e = c.in-Sequence.ensures in
    (linked_fields f e.0, linked_added_fields f e.1, ap (linked_shape f) e.2)

pub returns-in-Set : goal.returns-in-Set
returns-in-Set c =
    let f = named_shape (bodies_of c.args.around.now) c.args.self.now in
    let e = c.in-Set.ensures in
    (linked_fields f e.0, linked_added_fields f e.1, ap (linked_shape f) e.2)

pub returns-in-ListOf : goal.returns-in-ListOf
returns-in-ListOf c =
    let around = bodies_of c.args.around.now in
    ap (linked_shape (named_shape around c.args.self.now)) c.in-ListOf.ensures ∙ ap Shape.list_of (sym (c.within.ensures around))

pub returns-in-SetOf : goal.returns-in-SetOf
returns-in-SetOf c =
    let around = bodies_of c.args.around.now in
    ap (linked_shape (named_shape around c.args.self.now)) c.in-SetOf.ensures ∙ ap Shape.set_of (sym (c.within-in-SetOf.ensures around))

pub returns-in-Table : goal.returns-in-Table
returns-in-Table c =
    let around = bodies_of c.args.around.now in
    ap (linked_shape (named_shape around c.args.self.now)) c.in-Table.ensures ∙ ap Shape.table (sym (c.within-in-Table.ensures around))

pub returns-in-Choice : goal.returns-in-Choice
returns-in-Choice c =
    let f = named_shape (bodies_of c.args.around.now) c.args.self.now in
    let e = c.in-Choice.ensures in
    (linked_alternatives f e.0, linked_added_alternatives f e.1, ap (linked_shape f) e.2)

pub returns-in-Loop : goal.returns-in-Loop
returns-in-Loop c =
    let f = named_shape (bodies_of c.args.around.now) c.args.self.now in
    ([], None, ap (linked_shape f) c.in-Loop.ensures)

pub returns-in-Back : goal.returns-in-Back
returns-in-Back c =
    let around = bodies_of c.args.around.now in
    subst (λ s. IsKind place_shape around c.named.result (linked_shape (named_shape around c.args.self.now) s)) (sym c.in-Back.ensures) c.named.ensures
