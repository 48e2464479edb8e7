use Rattle.std.proofs.Common.{map}
use Rattle.std.proofs.lemmas.Result.{err_from_is_err_and}
use Rattle.asn_modules_names.specs.Assigned.{assigned_again, first_found, named_again}
use Rattle.asn_modules_names.specs.Mentions.{source_view}
use Rattle.asn_modules_names.proofs.Founds.{checks_second, tells_first}
use Rattle.asn_modules_names.proofs.check.check_names.Goals as goal

pub returns-in_err-check_modules : goal.returns-in_err-check_modules
returns-in_err-check_modules c =
    let ss = map source_view c.args.sources.now in
    let p = err_from_is_err_and c.from_residual.result c.from_residual.ensures.1 in
    rw (p.1, p.2) (tells_first (named_again ss) (first_found assigned_again ss) _ c.in_err-check_modules.ensures)

pub returns : goal.returns
returns c =
    let ss = map source_view c.args.sources.now in
    checks_second (named_again ss) (first_found assigned_again ss) c.check_assigned.result c.in_ok-check_modules.ensures c.check_assigned.ensures
