use Rattle.std.proofs.Common.{◌≡◌, ◌+◌, ◌-◌, ◌∙◌, ap, arith, sym, false}
use Rattle.std.proofs.lemmas.Result.{IfOk-weaker}
use Rattle.std.specs.Option.{option_map}
use Rattle.asn_model.specs.ShapeView.{plain_view, shape_view}
use Rattle.asn_modules_types.specs.Defaults.{plain_in, suited}
use Rattle.asn_modules_types.specs.Known.{sources_of, stated_view}
use Rattle.asn_modules_types.proofs.Leading.{leads_here, leads_no_further, leads_nowhere, leads_on}
use Rattle.asn_modules_types.proofs.defaults.+defaults.Goals as goal

pub returns-in-Some : goal.returns-in-Some
returns-in-Some t c =
    leads_here (λ x. suited (shape_view c.args.shape.now) (plain_in (shape_view c.args.shape.now) x.0 x.1))
    (sources_of c.args.scope.now.names.now) false c.args.more (stated_view c.args.stated) (plain_view c.in-Some.plain) (sym (ap (option_map plain_view) c.in-Some.is) ∙ c.in_ok-plain.ensures)

pub returns-then-more-eq0 : goal.returns-then-more-eq0
returns-then-more-eq0 t c =
    leads_no_further (λ x. suited (shape_view c.args.shape.now) (plain_in (shape_view c.args.shape.now) x.0 x.1))
    (sources_of c.args.scope.now.names.now) false c.args.more (stated_view c.args.stated) c.if-more-eq0.true (sym (ap (option_map plain_view) c.in_default.is) ∙ c.in_ok-plain.ensures)

pub returns-in-Some-next_value : goal.returns-in-Some-next_value
returns-in-Some-next_value t c =
    let less = c.args.more - 1 in
    let above : c.args.more ≡ less + 1 = omega (arith, c.if-more-eq0.false) in
    IfOk-weaker c.default_from.result _ _
    (λ o e. e ∙ leads_on (λ x. suited (shape_view c.args.shape.now) (plain_in (shape_view c.args.shape.now) x.0 x.1))
    (sources_of c.args.scope.now.names.now) false c.args.more less (stated_view c.args.stated) (stated_view c.in-Some-next_value.next) above (sym (ap (option_map plain_view) c.in_default.is) ∙ c.in_ok-plain.ensures) c.in-Some-next_value.ensures) c.default_from.ensures

pub returns-in-None : goal.returns-in-None
returns-in-None t c =
    let less = c.args.more - 1 in
    let above : c.args.more ≡ less + 1 = omega (arith, c.if-more-eq0.false) in
    leads_nowhere (λ x. suited (shape_view c.args.shape.now) (plain_in (shape_view c.args.shape.now) x.0 x.1))
    (sources_of c.args.scope.now.names.now) false c.args.more less (stated_view c.args.stated) above (sym (ap (option_map plain_view) c.in_default.is) ∙ c.in_ok-plain.ensures) c.in-None.ensures
