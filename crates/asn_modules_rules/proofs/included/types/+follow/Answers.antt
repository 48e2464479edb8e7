use Rattle.std.proofs.Common.{◌≡◌, ◌+◌, ◌-◌, ◌∙◌, arith, map}
use Rattle.asn_modules_rules.specs.included.Types.{type_view}
use Rattle.asn_modules_rules.proofs.included.Following.{stands_here, stands_last, stands_on}
use Rattle.asn_modules_rules.proofs.included.types.+follow.Goals as goal

pub returns-then-more-eq0 : goal.returns-then-more-eq0
returns-then-more-eq0 t c = stands_here (map type_view c.args.types.now) c.args.more (type_view c.args.from.now) c.if-more-eq0.true

pub returns-in-Some : goal.returns-in-Some
returns-in-Some t c =
    let less = c.args.more - 1 in
    let above : c.args.more ≡ less + 1 = omega (arith, c.if-more-eq0.false) in
    c.stands_for.ensures ∙ stands_on (map type_view c.args.types.now) c.args.more less (type_view c.args.from.now) (type_view c.in-Some.next.now) above c.in-Some.ensures

pub returns-in-None : goal.returns-in-None
returns-in-None t c =
    let less = c.args.more - 1 in
    let above : c.args.more ≡ less + 1 = omega (arith, c.if-more-eq0.false) in
    stands_last (map type_view c.args.types.now) c.args.more less (type_view c.args.from.now) above c.in-None.ensures
