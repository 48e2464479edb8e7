use Rattle.std.proofs.lemmas.Result.{err_from_is_err_and}
use Rattle.asn_notation.specs.View.{module_view}
use Rattle.asn_module_reports.proofs.Completing.{module_complete}
use Rattle.asn_module_reports.proofs.report.printed_module.Goals as goal

pub returns-in_err-module-clause-complete : goal.returns-in_err-module-clause-complete
returns-in_err-module-clause-complete c = λ m.
    let p = err_from_is_err_and c.from_residual.result c.from_residual.ensures.1 in
    rw (p.1, p.2) (module_complete _ _ m c.in_err-module.ensures.refused)

pub returns-clause-printed : goal.returns-clause-printed
returns-clause-printed c = record { assignments = module_view c.in_ok-module.«module»; stands = c.in_ok-module.ensures.ok; is = c.in_ok-print_module.ensures.text }
