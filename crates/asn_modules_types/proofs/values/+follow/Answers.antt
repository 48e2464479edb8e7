use Rattle.std.proofs.Common.{◌≡◌, ◌+◌, ◌-◌, ◌∙◌, arith, sym, true}
use Rattle.asn_modules_types.specs.Known.{sources_of, stated_view}
use Rattle.asn_modules_types.specs.Numbers.{number_of_value}
use Rattle.asn_modules_types.proofs.Leading.{leads_no_further, leads_nowhere, leads_on, leads_some, none_is}
use Rattle.asn_modules_types.proofs.values.+follow.Goals as goal

pub returns-then-is_some : goal.returns-then-is_some
returns-then-is_some t c =
    leads_some (λ x. number_of_value x.0 x.1) (sources_of c.args.names.now) true c.args.more (stated_view c.args.stated) c.number_of_value-number.result c.number_of_value-number.ensures (sym c.is_some.ensures ∙ c.if-is_some.true)

pub returns-then-more-eq0 : goal.returns-then-more-eq0
returns-then-more-eq0 t c =
    leads_no_further (λ x. number_of_value x.0 x.1) (sources_of c.args.names.now) true c.args.more (stated_view c.args.stated) c.if-more-eq0.true
    (none_is c.number_of_value-number.result _ c.number_of_value-number.ensures (sym c.is_some.ensures ∙ c.if-is_some.false))

pub returns-in-Some : goal.returns-in-Some
returns-in-Some t c =
    let less = c.args.more - 1 in
    let above : c.args.more ≡ less + 1 = omega (arith, c.if-more-eq0.false) in
    c.number_from.ensures ∙ leads_on (λ x. number_of_value x.0 x.1) (sources_of c.args.names.now) true c.args.more less (stated_view c.args.stated) (stated_view c.in-Some.next) above
    (none_is c.number_of_value-number.result _ c.number_of_value-number.ensures (sym c.is_some.ensures ∙ c.if-is_some.false)) c.in-Some.ensures

pub returns-in-None : goal.returns-in-None
returns-in-None t c =
    let less = c.args.more - 1 in
    let above : c.args.more ≡ less + 1 = omega (arith, c.if-more-eq0.false) in
    leads_nowhere (λ x. number_of_value x.0 x.1) (sources_of c.args.names.now) true c.args.more less (stated_view c.args.stated) above
    (none_is c.number_of_value-number.result _ c.number_of_value-number.ensures (sym c.is_some.ensures ∙ c.if-is_some.false)) c.in-None.ensures
