use Rattle.std.proofs.Common.{◌+◌, ◌*◌, length}
use Rattle.asn_model.proofs.names.+differ_ignoring_case.Given as goal

-- Each step leaves the first list, or one of its names.
abbrev pub decreases-differ_ignoring_case : goal.decreases-differ_ignoring_case
decreases-differ_ignoring_case g l = length l.list.now + 2 * length l.more.now
