use Rattle.std.proofs.Common.{◌<◌, List, length, refl, ap, sym, ◌∙◌, arith}
use Rattle.asn_model.specs.Shape.{tag_eq, tags}
use Rattle.asn_model.specs.ShapeView.{alternative_views}
use Rattle.asn_model.specs.declared.shape_type.AlternativeShape.{AlternativeShape}
use Rattle.asn_growth.proofs.Prefixes.{Compared, same-entry, too-long}
use Rattle.asn_growth.proofs.lists.alternative_tags_begin.Goals as goal

compared : Compared (λ (l : List AlternativeShape). tags (alternative_views l)) (λ (x : AlternativeShape). x.tag)
compared = record { none = refl; more = λ x xs. refl }

pub returns-then-old-new : goal.returns-then-old-new
returns-then-old-new c = too-long tag_eq (λ (l : List AlternativeShape). tags (alternative_views l)) (λ (x : AlternativeShape). x.tag) compared c.args.old.now c.args.new.now c.if-old-new.true

pub loop-index-preserved : goal.loop-index-preserved
loop-index-preserved c =
    let i = c.loop-index.index in
    let beside : i < length c.args.new.now = omega (arith, c.loop-index-test.true, c.if-old-new.false) in
    let same = ap (λ (z : AlternativeShape). tag_eq c.index-old-index.result.tag z.tag) c.index-new-index.is ∙ sym c.if-not-same_tag.ensures in
    same-entry tag_eq (λ (l : List AlternativeShape). tags (alternative_views l)) (λ (x : AlternativeShape). x.tag) compared c.args.old.now c.args.new.now i c.index-old-index.result c.index-new-index.result _ c.loop-index-test.true beside c.index-old-index.is c.index-new-index.is same c.loop-index.invariant
