use Rattle.std.proofs.Common.{◌∙◌}
use Rattle.asn_modules_reader.specs.Views.{base_view}
use Rattle.asn_modules_types.specs.Known.{scope_view}
use Rattle.asn_modules_types.specs.declared.limits.TheConstants.{NAME_LIMIT}
use Rattle.asn_modules_types.proofs.Seen.{unit_same}
use Rattle.asn_modules_types.proofs.shapes.unnumbered_shape.Goals as goal

pub returns-in-Some : goal.returns-in-Some
returns-in-Some c =
    let unit = rw c.in-Some.is at c.in_ok-shape.ensures in
    λ roots. unit.1 ∙ unit_same roots (scope_view NAME_LIMIT c.args.scope.now) (base_view c.args.base.now) c.requires.unit
