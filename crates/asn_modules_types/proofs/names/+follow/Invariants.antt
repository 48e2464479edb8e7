use Rattle.std.proofs.Common.{◌+◌, ◌*◌}
use Rattle.asn_modules_types.proofs.names.+follow.Given as goal

abbrev pub decreases-named_type : goal.decreases-named_type
decreases-named_type l = 2 * l.more

abbrev pub decreases-unit_shape : goal.decreases-unit_shape
decreases-unit_shape l = 2 * l.more + 1
