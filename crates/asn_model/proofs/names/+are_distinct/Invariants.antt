use Rattle.std.proofs.Common.{◌+◌, ◌*◌, length}
use Rattle.asn_model.proofs.names.+are_distinct.Given as goal

-- Each step leaves the first list, or one of its names.
abbrev pub decreases-are_distinct : goal.decreases-are_distinct
decreases-are_distinct g l = length l.list.now + 2 * length l.more.now
