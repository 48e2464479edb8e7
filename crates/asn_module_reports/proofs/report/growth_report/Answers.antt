use Rattle.std.proofs.Common.{ap, ◌∙◌, arith}
use Rattle.std.proofs.lemmas.Result.{err_from_is_err_and}
use Rattle.asn_model.specs.ShapeView.{shape_view}
use Rattle.asn_module.specs.declared.fault.ModuleFault.TheVariants.{OutOfMemory}
use Rattle.asn_notation.specs.View.{module_view}
use Rattle.asn_module_reports.specs.Reports.{GrowthFails, growth_line}
use Rattle.asn_module_reports.proofs.Completing.{report_complete}
use Rattle.asn_module_reports.proofs.report.growth_report.Goals as goal

pub grows_check-requires : goal.grows_check-requires
grows_check-requires c = omega (arith, c.in_ok-older.ensures.few)

pub returns-in_err-module-clause-refused : goal.returns-in_err-module-clause-refused
returns-in_err-module-clause-refused c =
    let p = err_from_is_err_and c.from_residual.result c.from_residual.ensures.1 in
    rw (p.1, p.2) (GrowthFails.no_module _ c.in_err-module.ensures.refused)

pub returns-in_err-module-clause-complete : goal.returns-in_err-module-clause-complete
returns-in_err-module-clause-complete c = λ t.
    let p = err_from_is_err_and c.from_residual.result c.from_residual.ensures.1 in
    rw (p.1, p.2) (report_complete _ _ _ _ t (GrowthFails.no_module _ c.in_err-module.ensures.refused))

pub returns-in_err-older-clause-refused : goal.returns-in_err-older-clause-refused
returns-in_err-older-clause-refused c =
    let p = err_from_is_err_and c.from_residual-in_err-older.result c.from_residual-in_err-older.ensures.1 in
    rw (p.1, p.2) (GrowthFails.no_older _ (module_view c.in_ok-module.«module») c.in_ok-module.ensures.ok c.in_err-older.ensures.refused)

pub returns-in_err-older-clause-complete : goal.returns-in_err-older-clause-complete
returns-in_err-older-clause-complete c = λ t.
    let p = err_from_is_err_and c.from_residual-in_err-older.result c.from_residual-in_err-older.ensures.1 in
    rw (p.1, p.2) (report_complete _ _ _ _ t (GrowthFails.no_older _ (module_view c.in_ok-module.«module») c.in_ok-module.ensures.ok c.in_err-older.ensures.refused))

pub returns-in_err-newer-clause-refused : goal.returns-in_err-newer-clause-refused
returns-in_err-newer-clause-refused c =
    let p = err_from_is_err_and c.from_residual-in_err-newer.result c.from_residual-in_err-newer.ensures.1 in
    let old = c.in_ok-older.ensures in
    rw (p.1, p.2) (GrowthFails.no_newer _ (module_view c.in_ok-module.«module») (shape_view c.in_ok-older.older) c.in_ok-module.ensures.ok record { made = old.ok; few = old.few; readable = old.readable } c.in_err-newer.ensures.refused)

pub returns-in_err-newer-clause-complete : goal.returns-in_err-newer-clause-complete
returns-in_err-newer-clause-complete c = λ t.
    let p = err_from_is_err_and c.from_residual-in_err-newer.result c.from_residual-in_err-newer.ensures.1 in
    let old = c.in_ok-older.ensures in
    rw (p.1, p.2) (report_complete _ _ _ _ t (GrowthFails.no_newer _ (module_view c.in_ok-module.«module») (shape_view c.in_ok-older.older) c.in_ok-module.ensures.ok record { made = old.ok; few = old.few; readable = old.readable } c.in_err-newer.ensures.refused))

pub returns-in_err-answer_line-clause-refused : goal.returns-in_err-answer_line-clause-refused
returns-in_err-answer_line-clause-refused c =
    let p = err_from_is_err_and c.from_residual-in_err-answer_line.result c.from_residual-in_err-answer_line.ensures.1 in
    rw (p.1, p.2) (GrowthFails.no_module OutOfMemory tt)

pub returns-clause-report : goal.returns-clause-report
returns-clause-report c =
    let old = c.in_ok-older.ensures in
    let new = c.in_ok-newer.ensures in
    record {
      types = record {
        assignments = module_view c.in_ok-module.«module»;
        stands = c.in_ok-module.ensures.ok;
        older = shape_view c.in_ok-older.older;
        newer = shape_view c.in_ok-newer.newer;
        is_older = record { made = old.ok; few = old.few; readable = old.readable };
        is_newer = record { made = new.ok; few = new.few; readable = new.readable };
      };
      is = c.in_ok-answer_line.ensures ∙ ap growth_line c.grows_check.ensures.first;
    }
