use Rattle.std.proofs.Common.{◌<◌, List, length, refl, ap, sym, ◌∙◌, arith, string_bytes}
use Rattle.std.specs.Str.{bytes_eq}
use Rattle.asn_model.specs.Shape.{identifiers}
use Rattle.asn_model.specs.ShapeView.{alternative_views}
use Rattle.asn_model.specs.declared.shape_type.AlternativeShape.{AlternativeShape}
use Rattle.asn_growth.proofs.Prefixes.{Compared, same-entry, too-long, not-false}
use Rattle.asn_growth.proofs.lists.identifiers_begin.Goals as goal

compared : Compared (λ (l : List AlternativeShape). identifiers (alternative_views l)) (λ (x : AlternativeShape). string_bytes x.identifier)
compared = record { none = refl; more = λ x xs. refl }

pub returns-then-old-new : goal.returns-then-old-new
returns-then-old-new c = too-long bytes_eq (λ (l : List AlternativeShape). identifiers (alternative_views l)) (λ (x : AlternativeShape). string_bytes x.identifier) compared c.args.old.now c.args.new.now c.if-old-new.true

pub loop-index-preserved : goal.loop-index-preserved
loop-index-preserved c =
    let i = c.loop-index.index in
    let beside : i < length c.args.new.now = omega (arith, c.loop-index-test.true, c.if-old-new.false) in
    let same = ap (λ z. bytes_eq z (string_bytes c.index-new-index.result.identifier)) (sym c.as_str.ensures.value) ∙ ap (λ z. bytes_eq c.as_str.result.now z) (ap (λ (x : AlternativeShape). string_bytes x.identifier) c.index-new-index.is ∙ sym c.as_str-in-loop-index.ensures.value) ∙ not-false _ c.if-ne.ensures in
    same-entry bytes_eq (λ (l : List AlternativeShape). identifiers (alternative_views l)) (λ (x : AlternativeShape). string_bytes x.identifier) compared c.args.old.now c.args.new.now i c.index-old-index.result c.index-new-index.result _ c.loop-index-test.true beside c.index-old-index.is c.index-new-index.is same c.loop-index.invariant
