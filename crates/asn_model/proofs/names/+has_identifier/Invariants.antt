use Rattle.std.proofs.Common.{◌+◌, ◌*◌, length}
use Rattle.asn_model.proofs.names.+has_identifier.Given as goal

-- Each step leaves the first list, or one of its names.
abbrev pub decreases-has_identifier : goal.decreases-has_identifier
decreases-has_identifier g l = length l.list.now + 2 * length l.more.now
