use Rattle.std.proofs.Common.{◌+◌, ◌*◌, length}
use Rattle.asn_model.proofs.names.+are_no_keywords.Given as goal

-- Each step leaves the first list, or one of its names.
abbrev pub decreases-are_no_keywords : goal.decreases-are_no_keywords
decreases-are_no_keywords g l = length l.list.now + 2 * length l.more.now
