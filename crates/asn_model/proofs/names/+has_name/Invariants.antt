use Rattle.std.proofs.Common.{◌+◌, ◌*◌, length}
use Rattle.asn_model.proofs.names.+has_name.Given as goal

-- Each step leaves the first list, or one of its names.
abbrev pub decreases-has_name : goal.decreases-has_name
decreases-has_name g l = length l.list.now + 2 * length l.more.now
