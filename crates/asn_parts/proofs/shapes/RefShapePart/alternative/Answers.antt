use Rattle.std.proofs.Common.{◌≡◌, ◌<◌, ◌≤◌, ◌-◌, ◌∙◌, Some, ap, arith, get_or, length, sym}
use Rattle.asn_model.specs.Shape.{alternative_at}
use Rattle.asn_model.specs.Enclosing.{entries_of}
use Rattle.asn_model.specs.ShapeView.{shape_view}
use Rattle.asn_parts.specs.Listed.{alternatives_in}
use Rattle.asn_parts.proofs.ShapeViews.{added-alternative, no-alternative, root-alternative}
use Rattle.asn_parts.proofs.shapes.RefShapePart.alternative.Goals as goal

pub returns-then-place-len : goal.returns-then-place-len
returns-then-place-len c around =
    let s = c.in-Choice in
    let below : c.args.place < length s.alternatives.items = omega (arith, c.if-place-len.true, c.len.ensures) in
    ap (λ x. alternative_at (alternatives_in (shape_view x)) c.args.place) s.is
    ∙ root-alternative s.alternatives s.added c.args.place c.index.result.now below c.index.ensures
    ∙ sym (ap (λ x. Some x) c.alternative_part.ensures)

pub returns-in-Some : goal.returns-in-Some
returns-in-Some c around =
    let s = c.in-Choice in
    let past : length s.alternatives.items ≤ c.args.place = omega (arith, c.if-place-len.false, c.len.ensures) in
    let found = c.in-Some.ensures.lookup in
    let own : c.len-in-Choice.result ≡ length s.alternatives.items = omega (arith, c.len-in-Choice.ensures) in
    let below : c.args.place - length s.alternatives.items < length (entries_of s.added) = omega (arith, found.3.0, ap length c.entries.ensures, c.len-in-Choice.ensures) in
    ap (λ x. alternative_at (alternatives_in (shape_view x)) c.args.place) s.is
    ∙ added-alternative s.alternatives s.added c.args.place c.in-Some.alternative.now past below
    (found.1 ∙ (λ i. get_or (c.entries.ensures i) (c.args.place - own i) c.in-Some.alternative.now))
    ∙ sym (ap (λ x. Some x) c.alternative_part-in-Some.ensures)

pub returns-in-None : goal.returns-in-None
returns-in-None c around =
    let s = c.in-Choice in
    let past : length s.alternatives.items ≤ c.args.place = omega (arith, c.if-place-len.false, c.len.ensures) in
    let over : length (entries_of s.added) ≤ c.args.place - length s.alternatives.items = omega (arith, c.in-None.ensures.lookup.3, ap length c.entries.ensures, c.len-in-Choice.ensures) in
    ap (λ x. alternative_at (alternatives_in (shape_view x)) c.args.place) s.is ∙ no-alternative s.alternatives s.added c.args.place past over
