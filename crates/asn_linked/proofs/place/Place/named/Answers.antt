use Rattle.std.proofs.Common.{◌<◌, ◌∙◌, [], None, Some, ap, length, refl, sym}
use Rattle.std.proofs.lemmas.Bool.{ltb-false, ltb-true}
use Rattle.asn_linked.proofs.Placing.{named-back, named-full, named-loop, named-none}
use Rattle.asn_model.specs.ShapeView.{shape_view}
use Rattle.asn_parts.specs.Chain.{bodies_of}
use Rattle.asn_linked.proofs.place.Place.named.Goals as goal

pub returns-in-Some : goal.returns-in-Some
returns-in-Some c = named-back (bodies_of c.args.around.now) c.args.self.now c.args.number c.in-Some.place (sym c.in-Some.ensures.found)

pub returns-then-not-are_fewer : goal.returns-then-not-are_fewer
returns-then-not-are_fewer c =
    let around = bodies_of c.args.around.now in
    let closed = sym c.in_default.ensures.found in
    ([], None, named-full around c.args.self.now c.args.number closed (ltb-false _ _ (sym c.are_fewer.ensures ∙ c.if-not-are_fewer.true)))

pub returns-in-Some-get : goal.returns-in-Some-get
returns-in-Some-get c =
    let around = bodies_of c.args.around.now in
    let place = c.args.self.now in
    let closed = sym c.in_default.ensures.found in
    let few : length around < place.count = ltb-true _ _ (sym c.are_fewer.ensures ∙ c.if-not-are_fewer.false) in
    let found = c.in-Some-get.ensures.lookup in
    named-loop around place c.args.number closed (record { types = place.types; count = place.count; number = c.args.number; part = Some c.in-Some-get.body }) c.in-Some-get.body.now few found.3.0 refl refl refl (ap shape_view found.1)

pub returns-in-None : goal.returns-in-None
returns-in-None c =
    let around = bodies_of c.args.around.now in
    let closed = sym c.in_default.ensures.found in
    ([], None, named-none around c.args.self.now c.args.number closed c.in-None.ensures.lookup.3)
