use Rattle.std.proofs.Common.{◌<◌, List, length, refl, ap, sym, ◌∙◌, arith}
use Rattle.asn_model.specs.ShapeView.{field_views, presence_view}
use Rattle.asn_model.specs.declared.shape_type.FieldShape.{FieldShape}
use Rattle.asn_growth.specs.Parts.{presences}
use Rattle.asn_growth.specs.Reasons.{same_presence}
use Rattle.asn_growth.proofs.Prefixes.{Compared, same-entry, too-long}
use Rattle.asn_growth.proofs.lists.presences_begin.Goals as goal

compared : Compared (λ (l : List FieldShape). presences (field_views l)) (λ (x : FieldShape). presence_view x.presence)
compared = record { none = refl; more = λ x xs. refl }

pub returns-then-old-new : goal.returns-then-old-new
returns-then-old-new c = too-long same_presence (λ (l : List FieldShape). presences (field_views l)) (λ (x : FieldShape). presence_view x.presence) compared c.args.old.now c.args.new.now c.if-old-new.true

pub loop-index-preserved : goal.loop-index-preserved
loop-index-preserved c =
    let i = c.loop-index.index in
    let beside : i < length c.args.new.now = omega (arith, c.loop-index-test.true, c.if-old-new.false) in
    let same = ap (λ (z : FieldShape). same_presence (presence_view c.index-old-index.result.presence) (presence_view z.presence)) c.index-new-index.is ∙ sym c.if-not-same_presence.ensures in
    same-entry same_presence (λ (l : List FieldShape). presences (field_views l)) (λ (x : FieldShape). presence_view x.presence) compared c.args.old.now c.args.new.now i c.index-old-index.result c.index-new-index.result _ c.loop-index-test.true beside c.index-old-index.is c.index-new-index.is same c.loop-index.invariant
