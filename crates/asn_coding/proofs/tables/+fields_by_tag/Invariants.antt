use Rattle.std.proofs.Common.{length}
use Rattle.asn_coding.proofs.tables.+fields_by_tag.Given as goal

abbrev pub decreases-fields_by_tag : goal.decreases-fields_by_tag
decreases-fields_by_tag l = length l.fields.now
