use Rattle.std.proofs.Common.{inr}
use Rattle.std.proofs.lemmas.Result.{err_from_is_err_and}
use Rattle.asn_lines.proofs.Laws.{whole_front}
use Rattle.asn_lines.proofs.gathered.Gathered.write_out.Goals as goal

pub returns-in_err-write_all-2-clause-written : goal.returns-in_err-write_all-2-clause-written
returns-in_err-write_all-2-clause-written g c =
    let p = err_from_is_err_and c.from_residual-in_err-write_all-2.result c.from_residual-in_err-write_all-2.ensures.1 in
    rw p.1 (
      inr c.in_err-write_all-2.ensures.cause.failed,
      rw c.deref.ensures.value at (whole_front _ _ _ c.in_ok-write_all.ensures.written),
      rw c.deref-2.ensures.value at c.in_err-write_all-2.ensures.front,
    )
