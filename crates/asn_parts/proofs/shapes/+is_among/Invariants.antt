use Rattle.std.proofs.Common.{◌+◌, ◌*◌, length}
use Rattle.asn_parts.proofs.shapes.+is_among.Given as goal

-- Each step leaves the first list, or one of its names.
abbrev pub decreases-is_among : goal.decreases-is_among
decreases-is_among l = length l.list.now + 2 * length l.more.now
