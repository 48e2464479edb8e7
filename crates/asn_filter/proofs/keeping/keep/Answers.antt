use Rattle.std.proofs.Common.{sym, ◌∙◌}
use Rattle.std.proofs.lemmas.Result.{err_from_is_err_and}
use Rattle.asn_filter.proofs.Stating.{differing_stated, grown_kept, grown_memory}
use Rattle.asn_model.specs.ShapeView.{shape_view}
use Rattle.asn_filter.proofs.keeping.keep.Goals as goal

pub cut_lines-requires-clause-grown : goal.cut_lines-requires-clause-grown
cut_lines-requires-clause-grown c = c.grows_check.ensures.grows.0 c.in-Grows.is

pub returns-in_err-cut_lines-in-Grows-clause-not_grown : goal.returns-in_err-cut_lines-in-Grows-clause-not_grown
returns-in_err-cut_lines-in-Grows-clause-not_grown c =
    let p = err_from_is_err_and c.from_residual.result c.from_residual.ensures.1 in
    rw (p.1, p.2) (grown_memory (shape_view c.args.old.now) (shape_view c.args.new.now) (sym c.grows_check.ensures.first ∙ c.in-Grows.is))

pub returns-in_ok-cut_lines-in-Grows-clause-grown : goal.returns-in_ok-cut_lines-in-Grows-clause-grown
returns-in_ok-cut_lines-in-Grows-clause-grown c = c.grows_check.ensures.grows.0 c.in-Grows.is

pub returns-in_ok-cut_lines-in-Grows-clause-not_grown : goal.returns-in_ok-cut_lines-in-Grows-clause-not_grown
returns-in_ok-cut_lines-in-Grows-clause-not_grown c = grown_kept (shape_view c.args.old.now) (shape_view c.args.new.now) _ (sym c.grows_check.ensures.first ∙ c.in-Grows.is)

pub returns-in-Differs-clause-not_grown : goal.returns-in-Differs-clause-not_grown
returns-in-Differs-clause-not_grown c = differing_stated (shape_view c.args.old.now) (shape_view c.args.new.now) _ _ (sym c.grows_check.ensures.first ∙ c.in-Differs.is)
