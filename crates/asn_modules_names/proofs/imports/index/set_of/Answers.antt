use Rattle.std.proofs.Common.{rules, IfOk}
use Rattle.std.proofs.lemmas.Result.{IfOk-at_ok}
use Rattle.std.specs.HashSet.{IsFromIterResult}
use Rattle.asn_modules_names.proofs.imports.index.set_of.Goals as goal

pub returns : goal.returns
returns g c =
    let made : IfOk c.collect.result (IsFromIterResult g.K.PartialEq.eq c.args.keys.now) = search rules in
    (IfOk-at_ok (IsFromIterResult g.K.PartialEq.eq c.args.keys.now) c.in_ok-set.was made).0
