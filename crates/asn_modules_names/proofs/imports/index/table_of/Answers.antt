use Rattle.std.proofs.Common.{rules, IfOk, ◌∙◌}
use Rattle.std.proofs.lemmas.Result.{IfOk-at_ok}
use Rattle.std.specs.HashMap.{IsFromIterResult}
use Rattle.asn_modules_names.proofs.imports.index.table_of.Goals as goal
use Rattle.asn_modules_names.proofs.lookup.Lasts.{put_first}

pub returns : goal.returns
returns g c =
    let made : IfOk c.collect.result (IsFromIterResult g.K.PartialEq.eq c.args.entries.now) = search rules in
    λ q. (IfOk-at_ok (IsFromIterResult g.K.PartialEq.eq c.args.entries.now) c.in_ok-table.was made).0 q ∙ put_first g.K.PartialEq.eq c.args.entries.now q
