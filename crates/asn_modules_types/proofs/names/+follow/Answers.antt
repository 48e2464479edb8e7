use Rattle.std.proofs.Common.{◌≡◌, ◌+◌, ◌-◌, ◌∙◌, None, ap, arith, map, sym}
use Rattle.asn_model.specs.ShapeView.{shape_view}
use Rattle.asn_modules_grammar.specs.notation.View.{notation_view}
use Rattle.asn_modules_types.specs.Known.{assigned_view, sources_of}
use Rattle.asn_modules_types.specs.Linked.{base_of, is_numbered, no_roots, scope_of}
use Rattle.asn_modules_types.specs.Sizes.{sized}
use Rattle.asn_modules_types.proofs.Following.{follows, follows_none, follows_number, follows_unit}
use Rattle.asn_modules_types.proofs.Seen.{back_viewed, notation_made, notation_out}
use Rattle.asn_modules_types.proofs.names.+follow.Goals as goal

pub named_type-returns-then-more-eq0 : goal.named_type-returns-then-more-eq0
named_type-returns-then-more-eq0 t c = c.no_values.ensures.is ∙ sym (follows_none (sources_of c.args.names.now) c.args.more c.args.number c.if-more-eq0.true)

pub named_type-returns-in-Some-2 : goal.named_type-returns-in-Some-2
named_type-returns-in-Some-2 t c =
    let ss = sources_of c.args.names.now in
    let less = c.args.more - 1 in
    let above : c.args.more ≡ less + 1 = omega (arith, c.if-more-eq0.false) in
    let a = assigned_view c.in-Some.assigned in
    let s = scope_of ss less a.number a.home in
    let n = c.notation_of-notation.result.now in
    let unit = rw c.in-Some-2.is at c.in_ok-shape-in-Some.ensures in
    notation_made no_roots s n (shape_view c.in-Some-2.shape) (shape_view c.sized.result) unit.1 (c.sized.ensures less ∙ ap (λ l. sized s l (shape_view c.in-Some-2.shape)) c.as_slice.ensures.value)
    ∙ follows_unit ss c.args.more less c.args.number above (map assigned_view c.args.names.now.types.now) c.requires.known.types a c.in-Some.ensures.there (notation_view n) (sym c.notation_of-notation.ensures)
    (ap (λ x. is_numbered (base_of x)) (notation_out n) ∙ unit.0)

pub named_type-returns-in-None-2 : goal.named_type-returns-in-None-2
named_type-returns-in-None-2 t c =
    let ss = sources_of c.args.names.now in
    let less = c.args.more - 1 in
    let above : c.args.more ≡ less + 1 = omega (arith, c.if-more-eq0.false) in
    let n = c.notation_of-notation.result.now in
    let numbered = rw c.in-None-2.is at c.in_ok-shape-in-Some.ensures in
    back_viewed c.args.number
    ∙ follows_number ss c.args.more less c.args.number above (map assigned_view c.args.names.now.types.now) c.requires.known.types (assigned_view c.in-Some.assigned) c.in-Some.ensures.there (notation_view n) (sym c.notation_of-notation.ensures)
    (ap (λ x. is_numbered (base_of x)) (notation_out n) ∙ numbered)

pub named_type-returns-in-None : goal.named_type-returns-in-None
named_type-returns-in-None t c =
    let less = c.args.more - 1 in
    let above : c.args.more ≡ less + 1 = omega (arith, c.if-more-eq0.false) in
    c.no_values-in-None.ensures.is
    ∙ follows (sources_of c.args.names.now) c.args.more less c.args.number above (map assigned_view c.args.names.now.types.now) c.requires.known.types None c.in-None.ensures.there
