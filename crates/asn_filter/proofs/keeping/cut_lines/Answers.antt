use Rattle.std.proofs.Common.{arith, rules}
use Rattle.asn_filter.proofs.Gathering.{begins, ends, goes_on}
use Rattle.asn_filter.proofs.keeping.cut_lines.Goals as goal

pub lines-init : goal.lines-init
lines-init c = (begins _ _ _ _ _ _ c.empty-kept.ensures.text c.empty-kept.ensures.refused, search rules)

pub overflow_add-number : goal.overflow_add-number
overflow_add-number c = omega (arith, c.lines.invariant.0.room, c.in-Some.ensures.shorter)

pub lines-preserved : goal.lines-preserved
lines-preserved c = (
  goes_on _ _ _ _ _ _ _ _ c.lines.invariant.0 _ _ c.in-Some.ensures.lines c.in-Some.ensures.shorter _ c.in_ok-outcome.ensures _ _ c.in_ok-add.ensures.text c.in_ok-add.ensures.refused,
  search rules,
)

pub returns : goal.returns
returns c = ends _ _ _ _ _ _ _ _ c.lines.invariant.0 c.in_default.ensures.lines
