use Rattle.std.proofs.Common.{◌+◌, ◌*◌, length}
use Rattle.asn_coding.proofs.tables.+identifier_of.Given as goal

-- Each step leaves the first table, or one of its alternatives.
abbrev pub decreases-identifier_of : goal.decreases-identifier_of
decreases-identifier_of l = length l.variants.now + 2 * length l.added.now
