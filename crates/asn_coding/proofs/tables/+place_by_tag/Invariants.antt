use Rattle.std.proofs.Common.{length}
use Rattle.asn_coding.proofs.tables.+place_by_tag.Given as goal

abbrev pub decreases-place_by_tag : goal.decreases-place_by_tag
decreases-place_by_tag l = length l.fields.now
