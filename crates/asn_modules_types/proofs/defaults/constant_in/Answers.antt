use Rattle.std.proofs.Common.{◌∙◌, ap, sym}
use Rattle.asn_modules_types.specs.Known.{scope_view}
use Rattle.asn_modules_types.specs.Numbers.{constant_in}
use Rattle.asn_modules_types.proofs.defaults.constant_in.Goals as goal

pub returns-in-Name : goal.returns-in-Name
returns-in-Name c = λ limit. c.number_at.ensures limit ∙ sym (ap (constant_in (scope_view limit c.args.scope.now)) c.in-Name.is)
