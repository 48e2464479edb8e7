use Rattle.std.proofs.Common.{◌+◌, ◌*◌, length}
use Rattle.asn_model.proofs.tags.+has_tag.Given as goal

-- Each step leaves the first list, or one of its alternatives.
abbrev pub decreases-has_tag : goal.decreases-has_tag
decreases-has_tag l = length l.list.now + 2 * length l.more.now
