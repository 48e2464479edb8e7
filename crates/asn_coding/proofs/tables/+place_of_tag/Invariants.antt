use Rattle.std.proofs.Common.{◌+◌, ◌*◌, length}
use Rattle.asn_coding.proofs.tables.+place_of_tag.Given as goal

-- Each step leaves the first table, or one of its alternatives.
abbrev pub decreases-place_of_tag : goal.decreases-place_of_tag
decreases-place_of_tag l = length l.variants.now + 2 * length l.added.now
