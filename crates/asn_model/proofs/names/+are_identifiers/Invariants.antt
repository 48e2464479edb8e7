use Rattle.std.proofs.Common.{◌+◌, ◌*◌, length}
use Rattle.asn_model.proofs.names.+are_identifiers.Given as goal

-- Each step leaves the first list, or one of its names.
abbrev pub decreases-are_identifiers : goal.decreases-are_identifiers
decreases-are_identifiers g l = length l.list.now + 2 * length l.more.now
