use Rattle.std.proofs.Common.{rules, IfOk}
use Rattle.std.proofs.lemmas.Result.{IfOk-at_ok}
use Rattle.std.specs.HashSet.{IsFromIterResult}
use Rattle.std.specs.Ordering.{int_eq}
use Rattle.asn_modules_rules.proofs.numbers.free.set_of.Goals as goal

pub returns : goal.returns
returns c =
    let made : IfOk c.collect.result (IsFromIterResult int_eq c.args.numbers.now) = search rules in
    record { has = (IfOk-at_ok (IsFromIterResult int_eq c.args.numbers.now) c.in_ok-set.was made).0 }
