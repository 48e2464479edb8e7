use Rattle.std.proofs.Common.{length}
use Rattle.asn_dynamic_faults.proofs.errors.+has_field.Given as goal

abbrev pub decreases-has_field : goal.decreases-has_field
decreases-has_field l = length l.path.now
