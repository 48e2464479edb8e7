use Rattle.std.proofs.Common.{◌+◌, ◌*◌, length}
use Rattle.asn_model.proofs.tags.+are_tags_distinct.Given as goal

-- Each step leaves the first list, or one of its alternatives.
abbrev pub decreases-are_tags_distinct : goal.decreases-are_tags_distinct
decreases-are_tags_distinct l = length l.list.now + 2 * length l.more.now
